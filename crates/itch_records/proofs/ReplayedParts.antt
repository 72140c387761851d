-- The messages of a record that a follower has applied as a sink.
use Rattle.std.proofs.Common.{◌≡◌, ℕ, ◌+◌, List, [], ◌∷◌, Option, Result, Ok, Err, sym, ap, subst, ◌∙◌}
use Rattle.std.specs.Prelude.{IfOk}
use Rattle.itch_day.specs.DayCursors.{cursor_after, cursor_past}
use Rattle.itch_day.specs.Parts.{ReadsPart, StopsAt}
use Rattle.itch_day.specs.Sinks.{TakesAll}
use Rattle.itch_day.specs.declared.limit.Limit.{Limit}
use Rattle.itch_day.specs.declared.cursor.DayCursor.{DayCursor}
use Rattle.itch_day.specs.declared.stop.PartStop.{PartStop}
use Rattle.itch_day.specs.declared.stop.PartStop.TheVariants.{Full, Late, End, Frame, TooMany, Refused}
use Rattle.itch_frame.specs.Reading.{Reading}
use Rattle.itch_frame.specs.declared.fault.FrameFault.TheVariants.{Read, Truncated, Write, TooLong}
use Rattle.itch_frame.specs.declared.tally.Failures.{Failures}
use Rattle.itch_live.specs.Follows.{Following}
use Rattle.itch_records.specs.Replays.{IsRead, Replays, TakesRecorded}

module _ {T N : Type 0} (at : T → Following) (name : T → N) (cursor : T → DayCursor) where
  abbrev pub Taken : T → ℕ → List ℕ → T → Type 0
  Taken s number payload t = (name t ≡ name s) × TakesRecorded (at s) number payload (at t) × (cursor t ≡ cursor_past (cursor s) payload)

  taken_all : (s t : T) (count : ℕ) (ps : List (List ℕ)) → TakesAll Taken s count ps t
      → (name t ≡ name s) × TakesAll TakesRecorded (at s) count ps (at t) × (cursor t ≡ cursor_after (cursor s) ps)
  taken_all s t count [] same = (ap name same, ap at same, ap cursor same)
  taken_all s t count (p ∷ ps) (mid, took, rest) =
      let later = taken_all mid t (count + 1) ps rest in
      (later.0 ∙ took.0, (at mid, took.1, later.1), later.2 ∙ ap (λ m. cursor_after m ps) took.2)

  module _ {F R : Type 0} (remaining : R → Option (List ℕ)) (failures : R → Failures) (refuses : T → ℕ → List ℕ → F → T → Type 0) (limit : Limit) where
    -- nothing changes where the part was read
    unchanged : (count : ℕ) (r : Reading R) (s t : T) (why : PartStop F) → StopsAt remaining refuses limit count r s why t → IsRead why → t ≡ s
    unchanged count r s t Full stops is = stops.0
    unchanged count r s t Late stops is = stops.0
    unchanged count r s t End stops is = stops.0
    unchanged count r s t (Frame (Truncated held)) stops is = stops.0
    unchanged count r s t (Frame (Read error)) stops is = absurd is
    unchanged count r s t (Frame (Write sent error)) stops is = absurd is
    unchanged count r s t (Frame TooLong) stops is = absurd is
    unchanged count r s t TooMany stops is = absurd is
    unchanged count r s t (Refused why) stops is = absurd is

    pub replays : (old new : Reading R) (before count : ℕ) (s t : T) (why : PartStop F) → ReadsPart remaining failures Taken refuses limit old new before count s why t → before ≡ (cursor s).count → IsRead why
        → (name t ≡ name s) × Replays remaining old new (cursor s) (cursor t) (at s) (at t)
    replays old new before count s t why reads same is =
        let still : t ≡ reads.last = unchanged count new reads.last t why reads.stops is in
        let all = taken_all s reads.last before reads.payloads reads.taken.taken in (
          ap name still ∙ all.0,
          record {
            payloads = reads.payloads;
            bytes = reads.taken.bytes;
            full = reads.taken.full;
            taken = subst (λ n. TakesAll TakesRecorded (at s) n reads.payloads (at t)) same (subst (λ x. TakesAll TakesRecorded (at s) before reads.payloads x) (sym (ap at still)) all.1);
            tracked = ap cursor still ∙ all.2;
          },
        )

-- what holds of each value
pub if_ok : {X E : Type 0} {P Q : Type 0} (result : Result X E) → IfOk result (λ x. P) → (P → Q) → IfOk result (λ x. Q)
if_ok (Ok x) holds follows = follows holds
if_ok (Err e) holds follows = tt

module _ {T N F R : Type 0} (at : T → Following) (name : T → N) (cursor : T → DayCursor) (remaining : R → Option (List ℕ)) (failures : R → Failures) (limit : Limit) where
  -- a sink has kept its name where the part stops
  abbrev pub Named : T → ℕ → List ℕ → F → T → Type 0
  Named s number payload why t = name t ≡ name s

  stops_named : (count : ℕ) (r : Reading R) (s t : T) (why : PartStop F) → StopsAt remaining Named limit count r s why t → name t ≡ name s
  stops_named count r s t Full stops = ap name stops.0
  stops_named count r s t Late stops = ap name stops.0
  stops_named count r s t End stops = ap name stops.0
  stops_named count r s t (Frame (Truncated held)) stops = ap name stops.0
  stops_named count r s t (Frame (Read error)) stops = ap name stops.0
  stops_named count r s t (Frame (Write sent error)) stops = absurd stops
  stops_named count r s t (Frame TooLong) stops = absurd stops
  stops_named count r s t TooMany stops = ap name stops.0
  stops_named count r s t (Refused why) (before, (payload, next, full, few, early, named)) = named

  pub keeps_name : (old new : Reading R) (before count : ℕ) (s t : T) (why : PartStop F) → ReadsPart remaining failures (Taken at name cursor) Named limit old new before count s why t → name t ≡ name s
  keeps_name old new before count s t why reads =
      stops_named count new reads.last t why reads.stops ∙ (taken_all at name cursor s reads.last before reads.payloads reads.taken.taken).0
