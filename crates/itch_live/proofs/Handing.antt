-- The effect on a server of answering with the current market.
use Rattle.std.proofs.Common.{◌≡◌, ℕ, ◌++◌, false, List, [], length, map, take, Option, None, Some, Result, Ok, Err, option_map, OnOk, IsErr, refl, sym, ap, ◌∙◌, append-nil}
use Rattle.std.specs.List.{list_any}
use Rattle.std.proofs.Math.Seq.{take-length, drop-length}
use Rattle.itch_market.specs.Content.{Content}
use Rattle.itch_join.specs.Positions.{Position}
use Rattle.itch_live.specs.Slots as places
use Rattle.itch_live.specs.Slots.{Slots, waits, answered_slot}
use Rattle.itch_live.specs.LiveServers.{LiveServer, encoded_for, with_encoded, answered_with, answered}
use Rattle.itch_live.proofs.Places.{none_answered}

all_slots : (bytes : List ℕ) (next now : ℕ) (slots : Slots) → list_any waits slots ≡ false → slots ≡ places.answered bytes next now (length slots) slots
all_slots bytes next now slots none =
    let f = answered_slot bytes next now in
    sym (none_answered bytes next now slots none) ∙ sym (append-nil (map f slots))
    ∙ ap (λ xs. map f xs ++ []) (sym (take-length slots)) ∙ ap (λ xs. map f (take (length slots) slots) ++ xs) (sym (drop-length slots))

-- if no client waits, nothing changes
pub none_waits : (d : LiveServer) (limit now : ℕ) → list_any waits d.slots ≡ false → d ≡ answered d limit (length d.slots) now
none_waits d limit now none = by_joined d.following.joining.state.joined where
  by_joined : (o : Option Position) → d ≡ answered_with o d limit (length d.slots) now
  by_joined None = refl
  by_joined (Some j) = by_encoded (encoded_for limit d.slots j.market j.next) where
    by_encoded : (encoded : Option (List ℕ)) → d ≡ with_encoded encoded d j.next (length d.slots) now
    by_encoded None = refl
    by_encoded (Some bytes) = ap (λ s. record d { slots = s }) (all_slots bytes j.next now d.slots none)

-- nothing changes either if there is no market
pub no_market : (d : LiveServer) (limit count now : ℕ) → d.following.joining.state.joined ≡ None → d ≡ answered d limit count now
no_market d limit count now none = sym (ap (λ o. answered_with o d limit count now) none)

pub unnumbered : (o : Option Position) → option_map (λ j. j.next) o ≡ None → o ≡ None
unnumbered None h = refl
unnumbered (Some j) h = absurd (cc)

pub unmarketed : (o : Option Position) → option_map (λ j. j.market) o ≡ None → o ≡ None
unmarketed None h = refl
unmarketed (Some j) h = absurd (cc)

pub position_is : (o : Option Position) (next : ℕ) (market : Content) → option_map (λ j. j.next) o ≡ Some next → option_map (λ j. j.market) o ≡ Some market → o ≡ Some (record { next = next; market = market })
position_is None next market numbered there = absurd (cc)
position_is (Some j) next market numbered there =
    let same : j.next ≡ next = cc in let is : j.market ≡ market = cc in
    ap (λ n. Some (record { next = n; market = j.market })) same ∙ ap (λ m. Some (record { next = next; market = m })) is

-- the clients receive a snapshot, or none
pub handed_encoded : (d : LiveServer) (j : Position) (encoded : Option (List ℕ)) (limit count now : ℕ) (slots : Slots) → d.following.joining.state.joined ≡ Some j
    → encoded ≡ encoded_for limit d.slots j.market j.next → slots ≡ places.handed encoded j.next now count d.slots → record d { slots = slots } ≡ answered d limit count now
handed_encoded d j encoded limit count now slots there is same =
    ap (λ s. record d { slots = s }) (same ∙ ap (λ x. places.handed x j.next now count d.slots) is) ∙ sym (ap (λ o. answered_with o d limit count now) there)

-- a result that is an error satisfies any statement about `Ok`
pub only_err : {T E : Type 0} (r : Result T E) (P : Type 0) → IsErr r → OnOk r P
only_err (Ok value) P h = absurd (cc)
only_err (Err error) P h = tt
