-- The lines of a market's snapshot, written one after another.
use Rattle.std.proofs.Common.{◌≡◌, ℕ, ◌+◌, ◌<◌, ◌^◌, List, [], ◌∷◌, ◌++◌, length, Option, Result, Ok, Err, OnOk, refl, sym, ap, subst, ◌∙◌, append_assoc, append-nil, length-append, arith}
use Rattle.std.proofs.KnownBytes.{Appends-nil}
use Rattle.std.specs.Io.KnownBytes.{Appends}
use Rattle.itch_codec.specs.declared.message.Message.{Message}
use Rattle.itch_codec.specs.declared.message.Message.TheVariants as is
use Rattle.itch_frame.specs.declared.tally.Failures.{Failures}
use Rattle.itch_market.specs.Content.{Content}
use Rattle.itch_snapshot.specs.Snapshot.{snap}
use Rattle.itch_commands.specs.Outputs.{WritesText}
use Rattle.itch_commands.specs.Choices.{Chosen, chosen_after, chosen_past, chosen_line, chosen_lines}
use Rattle.itch_commands.specs.Showing.{closed_lines}
use Rattle.itch_commands.specs.declared.fault.ToolFault.{ToolFault}
use Rattle.itch_commands.specs.declared.form.ShowForm.{ShowForm}
use Rattle.itch_commands.proofs.JoinedTexts.{text_then, text_fails}
use Rattle.itch_commands.proofs.ShownLines.{lines-append, no_lines, last_line, past_none, past_push}

-- a property of either result
pub on_ok : {X E : Type 0} (P : Type 0) (result : Result X E) → P → OnOk result P
on_ok P (Ok x) p = p
on_ok P (Err e) p = tt

module _ {W : Type 0} (contents : W → Option (List ℕ)) (failures : W → Failures) (form : ShowForm) (chosen : Chosen) (m : Content) (next : ℕ) (old : W) where
  -- the lines of these messages were written, the others remain, and the choice is `now`
  pub record Recorded (seen left : List Message) (number : ℕ) (now : Chosen) (new : W) : Type 0 where
    pub messages : snap m ≡ seen ++ left
    pub numbered : number ≡ 1 + length seen
    pub passed : now ≡ chosen_past chosen seen
    pub wrote : WritesText contents failures (chosen_lines form chosen 1 seen) old (Ok tt) new

  pub recorded_first : Recorded [] (snap m) 1 chosen old
  recorded_first = record {
    messages = refl;
    numbered = omega arith;
    passed = past_none chosen;
    wrote = (subst (Appends (contents old) (contents old)) (sym (no_lines form chosen 1)) (Appends-nil (contents old)), refl);
  }

  module _ (seen left : List Message) (number : ℕ) (now : Chosen) (mid new : W) (so_far : Recorded seen left number now mid) where
    -- there is room for the number of one more
    pub number_fits : length (snap m) < 10 ^ 19 → number < 10 ^ 19 + 1
    number_fits few = omega (arith, few, so_far.numbered, ap length so_far.messages, length-append seen left)

    -- the lines so far and the next one
    next_line : (x : Message) → chosen_lines form chosen 1 seen ++ chosen_line form now number x ≡ chosen_lines form chosen 1 (seen ++ x ∷ [])
    next_line x =
        ap (λ c. chosen_lines form chosen 1 seen ++ chosen_line form c number x) so_far.passed
        ∙ ap (λ n. chosen_lines form chosen 1 seen ++ chosen_line form (chosen_past chosen seen) n x) so_far.numbered
        ∙ sym (last_line form chosen 1 seen x)

    pub recorded_on : (x : Message) (others : List Message) (then : Chosen) → left ≡ x ∷ others → WritesText contents failures (chosen_line form now number x) mid (Ok tt) new
        → then ≡ chosen_after now x → Recorded (seen ++ x ∷ []) others (number + 1) then new
    recorded_on x others then here line passes = record {
      messages = so_far.messages ∙ ap (λ ms. seen ++ ms) here ∙ sym (append_assoc seen (x ∷ []) others);
      numbered = omega (arith, so_far.numbered, length-append seen (x ∷ []));
      passed = passes ∙ ap (λ c. chosen_after c x) so_far.passed ∙ past_push chosen seen x;
      wrote = subst (λ text. WritesText contents failures text old (Ok tt) new) (next_line x)
          (text_then contents failures (chosen_lines form chosen 1 seen) (chosen_line form now number x) old mid new (Ok tt) so_far.wrote line);
    }

    -- a write failed within the line of the next one
    pub recorded_fails : (x : Message) (others : List Message) (fault : ToolFault) → left ≡ x ∷ others
        → WritesText contents failures (chosen_line form now number x) mid (Err fault) new → WritesText contents failures (closed_lines form chosen (m, next)) old (Err fault) new
    recorded_fails x others fault here line =
        let rest : List Message = others ++ is.End next ∷ [] in
        let first : List ℕ = chosen_lines form chosen 1 seen in
        let then : List ℕ = chosen_lines form (chosen_past chosen (seen ++ x ∷ [])) (1 + length (seen ++ x ∷ [])) rest in
        let whole : closed_lines form chosen (m, next) ≡ first ++ (chosen_line form now number x ++ then) =
        ap (λ ms. chosen_lines form chosen 1 (ms ++ is.End next ∷ [])) (so_far.messages ∙ ap (λ ms. seen ++ ms) here)
        ∙ ap (chosen_lines form chosen 1) (append_assoc seen (x ∷ others) (is.End next ∷ []) ∙ sym (append_assoc seen (x ∷ []) rest))
        ∙ lines-append form chosen 1 (seen ++ x ∷ []) rest
        ∙ ap (λ t. t ++ then) (sym (next_line x))
        ∙ append_assoc first (chosen_line form now number x) then in
        subst (λ text. WritesText contents failures text old (Err fault) new) (sym whole)
        (text_then contents failures first (chosen_line form now number x ++ then) old mid new (Err fault) so_far.wrote
        (text_fails contents failures (chosen_line form now number x) then mid new fault line))

    -- all of them were written
    all_seen : left ≡ [] → snap m ≡ seen
    all_seen none = so_far.messages ∙ ap (λ ms. seen ++ ms) none ∙ append-nil seen

    -- the choice after End of Snapshot
    pub recorded_passes : (then : Chosen) → left ≡ [] → then ≡ chosen_after now (is.End next) → then ≡ chosen_past chosen (snap m ++ is.End next ∷ [])
    recorded_passes then none passes =
        passes ∙ ap (λ c. chosen_after c (is.End next)) so_far.passed ∙ past_push chosen seen (is.End next)
        ∙ ap (λ ms. chosen_past chosen (ms ++ is.End next ∷ [])) (sym (all_seen none))

    -- after the last one comes End of Snapshot
    pub recorded_ends : (result : Result (Unit {0}) ToolFault) → left ≡ [] → WritesText contents failures (chosen_line form now number (is.End next)) mid result new
        → WritesText contents failures (closed_lines form chosen (m, next)) old result new
    recorded_ends result none line =
        subst (λ text. WritesText contents failures text old result new)
        (next_line (is.End next) ∙ ap (λ ms. chosen_lines form chosen 1 (ms ++ is.End next ∷ [])) (sym (all_seen none)))
        (text_then contents failures (chosen_lines form chosen 1 seen) (chosen_line form now number (is.End next)) old mid new result so_far.wrote line)
