-- Each file stops a replay at one place, for one reason.
use Rattle.std.proofs.Common.{◌≡◌, ℕ, ◌-◌, ◌^◌, min, List, length, refl, subst}
use Rattle.itch_frame.specs.Blocks.{Day}
use Rattle.itch_frame.proofs.Days.{day_one, day_some}
use Rattle.itch_market.specs.declared.stop.Stop.{Stop}
use Rattle.itch_market.specs.Content.{Content}
use Rattle.itch_market.specs.FirstPlaces.{IsFirst}
use Rattle.itch_market.specs.Stops.{stop_at, last_stop, Stops}
use Rattle.itch_market.proofs.FirstPlaces.{first_place, first_value, first_is_there}
use Rattle.itch_market.proofs.ReplayStops.{stop_after}

-- two readings of the same file search the same places
same_search : (m : Content) (bytes : List ℕ) (k j : ℕ) (s t : Stop) (p : Stops m bytes k s) → (q : Stops m bytes j t) → IsFirst (stop_at (10 ^ 19 - 1) m p.payloads p.rest) j t
same_search m bytes k j s t p q =
    let same = day_one bytes q.payloads p.payloads q.rest p.rest q.day p.day in
    subst (λ rest. IsFirst (stop_at (10 ^ 19 - 1) m p.payloads rest) j t) same.1
    (subst (λ payloads. IsFirst (stop_at (10 ^ 19 - 1) m payloads q.rest) j t) same.0 q.first)

pub stops_place : (m : Content) → (bytes : List ℕ) → (k j : ℕ) → (s t : Stop) → Stops m bytes k s → Stops m bytes j t → k ≡ j
stops_place m bytes k j s t p q = first_place (stop_at (10 ^ 19 - 1) m p.payloads p.rest) k j s t p.first (same_search m bytes k j s t p q)

pub stops_reason : (m : Content) → (bytes : List ℕ) → (k j : ℕ) → (s t : Stop) → Stops m bytes k s → Stops m bytes j t → s ≡ t
stops_reason m bytes k j s t p q = first_value (stop_at (10 ^ 19 - 1) m p.payloads p.rest) k j s t p.first (same_search m bytes k j s t p q)

pub stops_somewhere : (m : Content) → (bytes : List ℕ) → (k : ℕ) × (s : Stop) × Stops m bytes k s
stops_somewhere m bytes = on_day (day_some bytes) where
  on_day : (ps : List (List ℕ)) × (rest : List ℕ) × Day bytes ps rest → (k : ℕ) × (s : Stop) × Stops m bytes k s
  on_day (ps, rest, day) =
      let found = first_is_there (stop_at (10 ^ 19 - 1) m ps rest) (min (10 ^ 19 - 1) (length ps)) (last_stop (10 ^ 19 - 1) ps rest)
      (stop_after (10 ^ 19 - 1) m ps rest (min (10 ^ 19 - 1) (length ps)) refl) in
      (found.0, found.1, record { payloads = ps; rest = rest; day = day; first = found.2 })

pub ruleset stop_laws = (stops_somewhere)
