-- The texts about a day, written one after another.
use Rattle.std.proofs.Common.{◌≡◌, ℕ, zero, suc, ◌+◌, ◌<◌, ◌==◌, Bool, true, false, List, [], ◌∷◌, ◌++◌, drop, drop-cons, add-one, get_or, length, Option, Result, Ok, Err, inl, inr, refl, sym, ap, subst, ◌∙◌, arith, append-nil, append_assoc, if◌then◌else◌}
use Rattle.std.proofs.KnownBytes.{Appends-nil}
use Rattle.std.proofs.lemmas.Bool.Decides.{nat_tests}
use Rattle.itch_day.specs.declared.limit.Limit.{Limit}
use Rattle.itch_frame.specs.Reading.{Reading}
use Rattle.itch_frame.specs.declared.reader.BlockStage.TheVariants.{Going}
use Rattle.itch_frame.specs.declared.tally.Failures.{Failures}
use Rattle.itch_commands.specs.Infos.{Informs, event_text, events_text, type_text, types_text}
use Rattle.itch_commands.specs.Outputs.{WritesText}
use Rattle.itch_commands.specs.Readings.{FromBlocks, FromReader}
use Rattle.itch_commands.specs.declared.fault.ToolFault.{ToolFault}
use Rattle.itch_commands.specs.declared.form.ReportForm.{ReportForm}
use Rattle.itch_commands.specs.declared.info.events.Event.{Event}
use Rattle.itch_commands.proofs.JoinedTexts.{text_then, text_fails}

-- an element, and the elements after it
pub drop_at : {X : Type 0} (xs : List X) (i : ℕ) (d : X) → i < length xs → drop i xs ≡ get_or xs i d ∷ drop (i + 1) xs
drop_at xs i d within = drop-cons xs i d within ∙ ap (λ n. get_or xs i d ∷ drop n xs) (sym (add-one i))

if_some : (n : ℕ) (xs ys : List ℕ) → 0 < n → (if n == 0 then xs else ys) ≡ ys
if_some n xs ys some = grind (arith, nat_tests)

if_none : (n : ℕ) (xs ys : List ℕ) → n ≡ 0 → (if n == 0 then xs else ys) ≡ xs
if_none n xs ys none = rw none refl

types_none : (form : ReportForm) (f : ℕ → ℕ) (is_first : Bool) (kind : ℕ) → types_text form f is_first kind 0 ≡ []
unfolding types_text
types_none form f is_first kind = refl

types_step : (form : ReportForm) (f : ℕ → ℕ) (is_first : Bool) (kind left : ℕ) → types_text form f is_first kind (suc left)
    ≡ (if f kind == 0 then types_text form f is_first (kind + 1) left else type_text form is_first kind (f kind) ++ types_text form f false (kind + 1) left)
unfolding types_text
types_step form f is_first kind left = refl

-- equal counts of each type have the same text
pub types_same : (form : ReportForm) (f g : ℕ → ℕ) (is_first : Bool) (kind left : ℕ) → kind + left ≡ 256 → ((k : ℕ) → k < 256 → f k ≡ g k) → types_text form f is_first kind left ≡ types_text form g is_first kind left
types_same form f g is_first kind zero all same = types_none form f is_first kind ∙ sym (types_none form g is_first kind)
types_same form f g is_first kind (suc left) all same =
    let one : f kind ≡ g kind = same kind (omega (arith, all)) in
    let next : kind + 1 + left ≡ 256 = omega (arith, all) in
    types_step form f is_first kind left
    ∙ ap (λ n. if n == 0 then types_text form f is_first (kind + 1) left else type_text form is_first kind n ++ types_text form f false (kind + 1) left) one
    ∙ ap (λ xs. if g kind == 0 then xs else type_text form is_first kind (g kind) ++ types_text form f false (kind + 1) left) (types_same form f g is_first (kind + 1) left next same)
    ∙ ap (λ xs. if g kind == 0 then types_text form g is_first (kind + 1) left else type_text form is_first kind (g kind) ++ xs) (types_same form f g false (kind + 1) left next same)
    ∙ sym (types_step form g is_first kind left)

module _ {W : Type 0} (contents : W → Option (List ℕ)) (failures : W → Failures) (form : ReportForm) where
  module _ (counts : ℕ → ℕ) where
    -- the types before this one were written
    pub record TypesSoFar (is_first : Bool) (kind : ℕ) (old now : W) : Type 0 where
      pub done : List ℕ
      pub whole : (left : ℕ) → kind + left ≡ 256 → types_text form counts true 0 256 ≡ done ++ types_text form counts is_first kind left
      pub wrote : WritesText contents failures done old (Ok tt) now

    pub types_begun : (old : W) → TypesSoFar true 0 old old
    types_begun old = record {
      done = [];
      whole = λ left all. let is : 256 ≡ left = omega (arith, all) in ap (types_text form counts true 0) is;
      wrote = (Appends-nil (contents old), refl);
    }

    module _ (is_first : Bool) (kind : ℕ) (old mid : W) (so_far : TypesSoFar is_first kind old mid) (within : kind < 256) where
      -- a type that no message has
      pub types_skip : counts kind ≡ 0 → TypesSoFar is_first (kind + 1) old mid
      types_skip none = record {
        done = so_far.done;
        whole = λ left all. so_far.whole (suc left) (omega (arith, all)) ∙ ap (λ xs. so_far.done ++ xs) (types_step form counts is_first kind left ∙ if_none (counts kind) _ _ none);
        wrote = so_far.wrote;
      }

      here : (left : ℕ) → kind + 1 + left ≡ 256 → 0 < counts kind
          → types_text form counts true 0 256 ≡ so_far.done ++ (type_text form is_first kind (counts kind) ++ types_text form counts false (kind + 1) left)
      here left all some = so_far.whole (suc left) (omega (arith, all)) ∙ ap (λ xs. so_far.done ++ xs) (types_step form counts is_first kind left ∙ if_some (counts kind) _ _ some)

      pub types_more : (new : W) → 0 < counts kind → WritesText contents failures (type_text form is_first kind (counts kind)) mid (Ok tt) new → TypesSoFar false (kind + 1) old new
      types_more new some written = record {
        done = so_far.done ++ type_text form is_first kind (counts kind);
        whole = λ left all. here left all some ∙ sym (append_assoc so_far.done (type_text form is_first kind (counts kind)) (types_text form counts false (kind + 1) left));
        wrote = text_then contents failures so_far.done (type_text form is_first kind (counts kind)) old mid new (Ok tt) so_far.wrote written;
      }

      pub types_fail : (new : W) (fault : ToolFault) (left : ℕ) → kind + 1 + left ≡ 256 → 0 < counts kind
          → WritesText contents failures (type_text form is_first kind (counts kind)) mid (Err fault) new → WritesText contents failures (types_text form counts true 0 256) old (Err fault) new
      types_fail new fault left all some written =
          subst (λ text. WritesText contents failures text old (Err fault) new) (sym (here left all some))
          (text_then contents failures so_far.done (type_text form is_first kind (counts kind) ++ types_text form counts false (kind + 1) left) old mid new (Err fault) so_far.wrote
          (text_fails contents failures (type_text form is_first kind (counts kind)) (types_text form counts false (kind + 1) left) mid new fault written))

    pub types_end : (is_first : Bool) (kind : ℕ) (old new : W) → TypesSoFar is_first kind old new → kind ≡ 256 → WritesText contents failures (types_text form counts true 0 256) old (Ok tt) new
    types_end is_first kind old new so_far end =
        subst (λ text. WritesText contents failures text old (Ok tt) new) (sym (so_far.whole 0 (omega (arith, end)) ∙ ap (λ xs. so_far.done ++ xs) (types_none form counts is_first kind) ∙ append-nil so_far.done)) so_far.wrote

  module _ (events : List Event) where
    -- the events before these were written
    pub record EventsSoFar (is_first : Bool) (rest : List Event) (old now : W) : Type 0 where
      pub done : List ℕ
      pub whole : events_text form true events ≡ done ++ events_text form is_first rest
      pub wrote : WritesText contents failures done old (Ok tt) now

    pub events_begun : (old : W) → EventsSoFar true events old old
    events_begun old = record { done = []; whole = refl; wrote = (Appends-nil (contents old), refl) }

    module _ (is_first : Bool) (event : Event) (rest : List Event) (old mid : W) (so_far : EventsSoFar is_first (event ∷ rest) old mid) where
      pub events_more : (new : W) → WritesText contents failures (event_text form is_first event) mid (Ok tt) new → EventsSoFar false rest old new
      events_more new written = record {
        done = so_far.done ++ event_text form is_first event;
        whole = so_far.whole ∙ sym (append_assoc so_far.done (event_text form is_first event) (events_text form false rest));
        wrote = text_then contents failures so_far.done (event_text form is_first event) old mid new (Ok tt) so_far.wrote written;
      }

      pub events_fail : (new : W) (fault : ToolFault) → WritesText contents failures (event_text form is_first event) mid (Err fault) new
          → WritesText contents failures (events_text form true events) old (Err fault) new
      events_fail new fault written =
          subst (λ text. WritesText contents failures text old (Err fault) new) (sym so_far.whole)
          (text_then contents failures so_far.done (event_text form is_first event ++ events_text form false rest) old mid new (Err fault) so_far.wrote
          (text_fails contents failures (event_text form is_first event) (events_text form false rest) mid new fault written))

    pub events_end : (is_first : Bool) (rest : List Event) (old new : W) → EventsSoFar is_first rest old new → rest ≡ [] → WritesText contents failures (events_text form true events) old (Ok tt) new
    events_end is_first rest old new so_far none =
        subst (λ text. WritesText contents failures text old (Ok tt) new) (sym (so_far.whole ∙ ap (λ xs. so_far.done ++ events_text form is_first xs) none ∙ append-nil so_far.done)) so_far.wrote

-- the bytes read from a reader of blocks over a reader
pub from_reader : {R W : Type 0} (remaining : R → Option (List ℕ)) (failed_reads : R → Failures) (contents : W → Option (List ℕ)) (failed_writes : W → Failures) (form : ReportForm) (limit : Limit) (reader : R)
    (old new : Reading R) (out : W) (result : Result Bool ToolFault) (out' : W) → (old.reader ≡ reader) × (old.held ≡ []) × (old.stage ≡ Going)
    → Informs remaining failed_reads contents failed_writes form limit (FromBlocks old new) out result out' → Informs remaining failed_reads contents failed_writes form limit (FromReader reader) out result out'
from_reader remaining failed_reads contents failed_writes form limit reader old new out result out' (same, held, stage) (inl (fault, is, reads, kept)) =
    inl (fault, is, inr (old, new, same, held, stage, reads), kept)
from_reader remaining failed_reads contents failed_writes form limit reader old new out result out' (same, held, stage) (inr (payloads, why, wrote, reads, text, is)) =
    inr (payloads, why, wrote, inr (old, new, same, held, stage, reads), text, is)
