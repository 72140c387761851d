-- A feed without refused messages, all of which were accepted.
use Rattle.std.proofs.Common.{◌≡◌, ℕ, ◌+◌, ◌-◌, ◌<◌, ◌≤◌, true, false, List, length, take, Option, Some, None, refl, sym, ◌∙◌, subst, arith, ◌⊎◌, inl, inr}
use Rattle.std.proofs.lemmas.List.{take_all}
use Rattle.std.proofs.lemmas.Option.{slice_get_within}
use Rattle.itch_market.specs.SameMarkets.{Same}
use Rattle.itch_join.specs.declared.state.Halt.{Halt}
use Rattle.itch_join.specs.Positions.{Position}
use Rattle.itch_join.specs.Rules.{Rules, run, bad, IsLawfulFeed}
use Rattle.itch_join.specs.States.{State}
use Rattle.itch_join.specs.Deliveries.{Event, accepted, settled}
use Rattle.itch_join.specs.Stands.{IsRight, IsHaltedAt, Stands, AreAllAccepted, IsAtEnd}

module _ (R : Rules) (cap : ℕ) (feed : List (List ℕ)) (past : List Event) (now : State) where
  never_halted : IsLawfulFeed R feed → (h : Halt) → IsHaltedAt R feed now h → ⊥
  never_halted fine h halted =
      let at = halted.at_bad in
      let within = slice_get_within feed (h.number - 1) at.payload at.there in
      omega (arith, at.is_bad, fine)

  not_halted : IsLawfulFeed R feed → ((h : Halt) → now.halt ≡ Some h → IsHaltedAt R feed now h) → now.halt ≡ None
  not_halted fine halted = by_halt now.halt refl where
    by_halt : (o : Option Halt) → now.halt ≡ o → now.halt ≡ None
    by_halt None is = is
    by_halt (Some h) is = absurd (never_halted fine h (halted h is))

  at_most : (j : Position) → IsLawfulFeed R feed → AreAllAccepted R feed past → IsRight R feed past j → accepted j.next past ≡ false → j.next ≤ length feed → ⊥
  at_most j fine all right missing low = let e = sym missing ∙ all right.first j.next right.is_start right.from_start low in cc

  pub at_end : (j : Position) → IsLawfulFeed R feed → Stands R cap feed past now → now.joined ≡ Some j → settled past ≡ true → AreAllAccepted R feed past → IsAtEnd R feed now j
  at_end j fine stands is set all =
      let running = not_halted fine stands.halted in
      let right = stands.right j is in
      let missing = (stands.least j is running set).missing in
      let over = at_most j fine all right missing in
      let next : j.next ≡ length feed + 1 = by_order (nat_order j.next (length feed)) over (right.to_bad) in
      let rest : take (j.next - 1) feed ≡ feed = take_all (j.next - 1) feed (omega (arith, next)) in
      record { running = running; next = next; market = subst (λ (ps : List (List ℕ)). Same j.market (run R ps)) rest right.market }
    where
      nat_order : (a b : ℕ) → (a ≤ b) ⊎ (b < a)
      nat_order a b = search arith

      by_order : (j.next ≤ length feed) ⊎ (length feed < j.next) → (j.next ≤ length feed → ⊥) → j.next ≤ bad R feed → j.next ≡ length feed + 1
      by_order (inl low) over top = absurd (over low)
      by_order (inr above) over top = omega (arith, fine)
