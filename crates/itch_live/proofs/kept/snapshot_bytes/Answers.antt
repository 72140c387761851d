use Rattle.std.proofs.Common.{◌≡◌, ◌≤◌, ◌<◌, ℕ, ◌+◌, ◌-◌, ◌^◌, min, Bool, true, false, List, ◌∷◌, drop, length, get_or, Option, None, Some, if◌then◌else◌, sym, ap, ◌∙◌, arith, add-one, suc, take, take_all, length-drop}
use Rattle.std.specs.List.{sum_by}
use Rattle.std.proofs.lemmas.List.{drop_all}
use Rattle.std.proofs.lemmas.List.Sums.{sum_by-cons}
use Rattle.std.proofs.Math.Seq.{drop-cons}
use Rattle.itch_live.specs.SnapshotClients.{SnapshotClient}
use Rattle.itch_live.specs.Slots.{Slots}
use Rattle.itch_live.specs.Kept.{number_of, keeps_alone, number_alone, with_number, kept, kept_bytes, length_or, bytes_under, snapshot_bytes}
use Rattle.itch_live.proofs.kept.snapshot_bytes.Goals as goal

all_rest : (slots : Slots) (i : ℕ) → take (length slots - i) (drop i slots) ≡ drop i slots
all_rest slots i = take_all (length slots - i) (drop i slots) (omega (arith, length-drop i slots))

abbrev bytes_in : Slots → List ℕ → ℕ
bytes_in slots numbers = sum_by (λ number. length_or (kept_bytes slots number)) numbers

with_bytes : (slots : Slots) (o : Option ℕ) (b : Bool) (numbers : List ℕ)
    → bytes_in slots (if b then with_number o numbers else numbers) ≡ bytes_under slots (if b then o else None) + bytes_in slots numbers
with_bytes slots None true numbers = omega arith
with_bytes slots (Some n) true numbers = sum_by-cons (λ number. length_or (kept_bytes slots number)) n numbers
with_bytes slots o false numbers = omega arith

-- capping a part of the sum does not change the capped sum
capped : (a b rest most : ℕ) → min (min (a + b) most + rest) most ≡ min (a + (b + rest)) most
capped a b rest most = omega arith

summed : (slots : Slots) (place total now : ℕ) (slot : Option SnapshotClient) → place < length slots → slot ≡ get_or slots place slot
    → now ≡ min (total + bytes_under slots (number_alone (number_of slot) (drop (place + 1) slots))) (2 ^ 64 - 1)
    → min (total + bytes_in slots (kept (drop place slots))) (2 ^ 64 - 1) ≡ min (snapshot_bytes slots) (2 ^ 64 - 1)
    → min (now + bytes_in slots (kept (drop (place + 1) slots))) (2 ^ 64 - 1) ≡ min (snapshot_bytes slots) (2 ^ 64 - 1)
summed slots place total now slot inside is next sum =
    let rest = drop (place + 1) slots in
    let split : drop place slots ≡ slot ∷ rest =
    drop-cons slots place slot inside ∙ ap (λ x. x ∷ drop (suc place) slots) (sym is) ∙ ap (λ n. slot ∷ drop n slots) (sym (add-one place)) in
    let own = bytes_under slots (number_alone (number_of slot) rest) in
    let more : bytes_in slots (kept (drop place slots)) ≡ own + bytes_in slots (kept rest) =
    ap (λ s. bytes_in slots (kept s)) split ∙ with_bytes slots (number_of slot) (keeps_alone (number_of slot) rest) (kept rest) in
    ap (λ n. min (n + bytes_in slots (kept rest)) (2 ^ 64 - 1)) next ∙ capped total own (bytes_in slots (kept rest)) (2 ^ 64 - 1)
    ∙ ap (λ n. min (total + n) (2 ^ 64 - 1)) (sym more) ∙ sum

whole : (slots : Slots) (place total : ℕ) → length slots ≤ place → total ≤ 2 ^ 64 - 1
    → min (total + bytes_in slots (kept (drop place slots))) (2 ^ 64 - 1) ≡ min (snapshot_bytes slots) (2 ^ 64 - 1) → total ≡ min (snapshot_bytes slots) (2 ^ 64 - 1)
whole slots place total all fits sum =
    let none : bytes_in slots (kept (drop place slots)) ≡ 0 = ap (λ s. bytes_in slots (kept s)) (drop_all place slots all) in
    let alone : min (total + bytes_in slots (kept (drop place slots))) (2 ^ 64 - 1) ≡ total = omega (arith, none, fits) in
    sym alone ∙ sum

capped_low : (now n : ℕ) → now ≡ min n (2 ^ 64 - 1) → now ≤ 2 ^ 64 - 1
capped_low now n is = omega (arith, is)

pub loop-place-preserved : goal.loop-place-preserved
loop-place-preserved g c =
    let more : c.saturating_add-total.result ≡ min (c.loop-place.total + bytes_under c.args.slots.now (number_alone (number_of c.index-slots-place.result) (drop (c.loop-place.place + 1) c.args.slots.now))) (2 ^ 64 - 1) =
    c.saturating_add-total.ensures
    ∙ ap (λ n. min (c.loop-place.total + n) (2 ^ 64 - 1))
    (c.bytes_under.ensures
    ∙ ap (bytes_under c.args.slots.now) (c.number_alone-number.ensures ∙ ap (number_alone (number_of c.index-slots-place.result)) (all_rest c.args.slots.now (c.loop-place.place + 1)))) in (
      summed c.args.slots.now c.loop-place.place c.loop-place.total c.saturating_add-total.result c.index-slots-place.result c.loop-place-test.true c.index-slots-place.is more
          c.loop-place.invariant.0,
      capped_low c.saturating_add-total.result
          (c.loop-place.total + bytes_under c.args.slots.now (number_alone (number_of c.index-slots-place.result) (drop (c.loop-place.place + 1) c.args.slots.now))) more,
    )

pub returns : goal.returns
returns g c =
    whole c.args.slots.now c.loop-place.place c.loop-place.total (omega (arith, c.loop-place-test.false)) c.loop-place.invariant.1 c.loop-place.invariant.0
