-- The place where a replay stops: after all payloads, at one that is not taken, or after the maximum number.
use Rattle.std.proofs.Common.{◌≡◌, ℕ, ◌+◌, ◌-◌, ◌^◌, ◌<◌, ◌≤◌, ◌==◌, nat_lt, min, Bool, true, false, cond, List, [], ◌∷◌, ◌++◌, map, length, Some, refl, ap, ◌∙◌, arith, length-append, eq-eqb}
use Rattle.std.proofs.lemmas.Bool.{ne_eqb}
use Rattle.std.proofs.lemmas.Bool.Decides.{nat_tests}
use Rattle.std.specs.List.{AllByRecursion}
use Rattle.itch_codec.specs.Messages.{message_of}
use Rattle.itch_frame.specs.Blocks.{block, blocks, IsFull, Ends, Open, Day}
use Rattle.itch_frame.proofs.Days.{day_on, day_later, day_some, front-Ends, front-Open, one-Ends}
use Rattle.itch_frame.specs.declared.fault.FrameFault.TheVariants.{Truncated}
use Rattle.itch_market.specs.declared.stop.Stop.{Stop}
use Rattle.itch_market.specs.declared.stop.Stop.TheVariants.{End, Frame, TooManyMessages}
use Rattle.itch_market.specs.Content.{Content}
use Rattle.itch_market.specs.Runs.{after}
use Rattle.itch_market.specs.Stops.{cause, cause_at, end_of, last_stop, stop_at, Stops}
use Rattle.itch_market.specs.Replays.{NoCause}
use Rattle.itch_market.proofs.Causes.{cause_after, cause_before}

pub chosen : {A : Type 0} (b : Bool) (x y : A) → b ≡ true → cond b x y ≡ x
chosen b x y yes_it_is = ap (λ t. cond t x y) yes_it_is

pub passed_over : {A : Type 0} (b : Bool) (x y : A) → b ≡ false → cond b x y ≡ y
passed_over b x y not_it = ap (λ t. cond t x y) not_it

-- the last place of a search
pub stop_after : (most : ℕ) (m : Content) (ps : List (List ℕ)) (rest : List ℕ) (k : ℕ) → k ≡ min most (length ps) → stop_at most m ps rest k ≡ Some (last_stop most ps rest)
stop_after most m ps rest k last = chosen (k == min most (length ps)) (Some (last_stop most ps rest)) (cause_at m ps k) (eq-eqb k (min most (length ps)) last)

-- an earlier place
pub stop_before : (most : ℕ) (m : Content) (ps : List (List ℕ)) (rest : List ℕ) (k : ℕ) → k < min most (length ps) → stop_at most m ps rest k ≡ cause_at m ps k
stop_before most m ps rest k early =
    passed_over (k == min most (length ps)) (Some (last_stop most ps rest)) (cause_at m ps k) (ne_eqb k (min most (length ps)) (λ same. omega arith))

-- all messages of a day are taken
pub none_ends : (m : Content) (bytes : List ℕ) (ps : List (List ℕ)) (rest : List ℕ) → Day bytes ps rest → length ps ≤ 10 ^ 19 - 1 → NoCause m ps → Stops m bytes (length ps) (end_of rest)
none_ends m bytes ps rest day few none = record {
  payloads = ps;
  rest = rest;
  day = day;
  first = record {
    here =
        stop_after (10 ^ 19 - 1) m ps rest (length ps) (omega arith)
        ∙ ap Some (passed_over (nat_lt (10 ^ 19 - 1) (length ps)) TooManyMessages (end_of rest) (grind (arith, nat_tests)));
    before = λ k early. stop_before (10 ^ 19 - 1) m ps rest k (omega arith) ∙ none k early;
  };
}

-- a payload after those that were taken, and a day after it
pub after_day : (bytes unread : List ℕ) (done : List (List ℕ)) (p : List ℕ) → bytes ≡ blocks done ++ (block p ++ unread) → AllByRecursion IsFull done → IsFull p
    → (more : List (List ℕ)) × (rest : List ℕ) × Day bytes (done ++ p ∷ more) rest
after_day bytes unread done p whole full_done full = found (day_some unread) where
  found : (ps : List (List ℕ)) × (rest : List ℕ) × Day unread ps rest → (more : List (List ℕ)) × (rest : List ℕ) × Day bytes (done ++ p ∷ more) rest
  found (more, rest, later) =
      let all : Day (blocks done ++ (block p ++ unread)) (done ++ p ∷ more) rest = day_later done (block p ++ unread) (p ∷ more) rest full_done (day_on p unread more rest full later) in
      (more, rest, record { whole = whole ∙ all.whole; each = all.each; last = all.last })

-- a payload is not taken
pub one_stops : (m : Content) (bytes unread : List ℕ) (done : List (List ℕ)) (p : List ℕ) (stop : Stop) → bytes ≡ blocks done ++ (block p ++ unread)
    → AllByRecursion IsFull done → IsFull p → length done < 10 ^ 19 - 1 → NoCause m done → cause (after m (map message_of done)) p ≡ Some stop → Stops m bytes (length done) stop
one_stops m bytes unread done p stop whole full_done full few none why = found (after_day bytes unread done p whole full_done full) where
  found : (more : List (List ℕ)) × (rest : List ℕ) × Day bytes (done ++ p ∷ more) rest → Stops m bytes (length done) stop
  found (more, rest, day) =
      let longer : length done < length (done ++ p ∷ more) = omega (arith, length-append done (p ∷ more)) in
      record {
        payloads = done ++ p ∷ more;
        rest = rest;
        day = day;
        first = record {
          here = stop_before (10 ^ 19 - 1) m (done ++ p ∷ more) rest (length done) (omega arith) ∙ cause_after m done p more ∙ why;
          before = λ k early. stop_before (10 ^ 19 - 1) m (done ++ p ∷ more) rest k (omega arith) ∙ cause_before m done (p ∷ more) k early ∙ none k early;
        };
      }

-- the maximum number was taken, and there is one more
pub full_stops : (m : Content) (bytes unread : List ℕ) (done : List (List ℕ)) (p : List ℕ) → bytes ≡ blocks done ++ (block p ++ unread)
    → AllByRecursion IsFull done → IsFull p → length done ≡ 10 ^ 19 - 1 → NoCause m done → Stops m bytes (length done) TooManyMessages
full_stops m bytes unread done p whole full_done full many none = found (after_day bytes unread done p whole full_done full) where
  found : (more : List (List ℕ)) × (rest : List ℕ) × Day bytes (done ++ p ∷ more) rest → Stops m bytes (length done) TooManyMessages
  found (more, rest, day) =
      let longer : length done < length (done ++ p ∷ more) = omega (arith, length-append done (p ∷ more)) in
      record {
        payloads = done ++ p ∷ more;
        rest = rest;
        day = day;
        first = record {
          here =
              stop_after (10 ^ 19 - 1) m (done ++ p ∷ more) rest (length done) (omega arith)
              ∙ ap Some (chosen (nat_lt (10 ^ 19 - 1) (length (done ++ p ∷ more))) TooManyMessages (end_of rest) (grind (arith, nat_tests)));
          before = λ k early. stop_before (10 ^ 19 - 1) m (done ++ p ∷ more) rest k (omega arith) ∙ cause_before m done (p ∷ more) k early ∙ none k early;
        };
      }

-- the two ways in which the rest of a day stops a replay
pub ends_stop : (rest : List ℕ) → Ends rest → end_of rest ≡ End
ends_stop [] ends = refl
ends_stop (x ∷ []) ends = absurd (one-Ends x ends)
ends_stop (x ∷ y ∷ rest) ends =
    let zeros : (x ≡ 0) × (y ≡ 0) = front-Ends x y rest ends in
    chosen ((x + y) == 0) End (Frame (Truncated (length (x ∷ y ∷ rest)))) (eq-eqb (x + y) 0 (omega arith))

pub open_stops : (rest : List ℕ) → Open rest → end_of rest ≡ Frame (Truncated (length rest))
open_stops [] part = absurd (let some : 0 < 0 = part.0 in omega arith)
open_stops (x ∷ []) part = refl
open_stops (x ∷ y ∷ rest) part =
    let some : 0 < x + y = front-Open x y rest part in
    passed_over ((x + y) == 0) End (Frame (Truncated (length (x ∷ y ∷ rest)))) (ne_eqb (x + y) 0 (λ none. omega arith))
