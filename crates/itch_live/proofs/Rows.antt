-- No call adds a place to a server, or removes one.
use Rattle.std.proofs.Common.{◌≡◌, ℕ, ◌++◌, List, [], ◌∷◌, length, map, take, drop, Option, None, Some, Ok, Err, refl, ap, ◌∙◌, arith, length-append, length-drop}
use Rattle.std.proofs.lemmas.List.{length-set, length-map, length-take}
use Rattle.itch_frame.specs.declared.tally.Failures.{Failures}
use Rattle.itch_join.specs.Positions.{Position}
use Rattle.itch_live.specs.SnapshotClients as clients
use Rattle.itch_live.specs.SnapshotClients.{SnapshotClient}
use Rattle.itch_live.specs.Slots.{Slots, client_at, HearsBy, took_by, answered_slot, ticked_slot}
use Rattle.itch_live.specs.Follows.{Following}
use Rattle.itch_live.specs.LiveServers.{LiveServer, encoded_for, with_encoded, answered_with, Call, Feeds, Admits, Hears, Answers, Takes, Ticks, Leaves, Event, Step, History}

heard_row : (d s : Slots) (place : ℕ) (piece : List ℕ) (now count : ℕ) (slot : Option SnapshotClient) → HearsBy slot d place piece now count s → length s ≡ length d
heard_row d s place piece now count None (all, same) = ap length same
heard_row d s place piece now count (Some g) (h, hears, same) = ap length same ∙ length-set d place (Some h)

took_row : (d : Slots) (place count now : ℕ) (slot : Option SnapshotClient) → length (took_by slot d place count now) ≡ length d
took_row d place count now None = refl
took_row d place count now (Some g) = length-set d place (Some (clients.took g count now))

answered_row : (d : LiveServer) (limit count now : ℕ) (o : Option Position) → length (answered_with o d limit count now).slots ≡ length d.slots
answered_row d limit count now None = refl
answered_row d limit count now (Some j) = by_encoded (encoded_for limit d.slots j.market j.next) where
  by_encoded : (encoded : Option (List ℕ)) → length (with_encoded encoded d j.next count now).slots ≡ length d.slots
  by_encoded None = refl
  by_encoded (Some bytes) =
      omega (
        arith,
        length-append (map (answered_slot bytes j.next now) (take count d.slots)) (drop count d.slots),
        length-map (take count d.slots) (answered_slot bytes j.next now),
        length-take count d.slots,
        length-drop count d.slots,
      )

module _ {W : Type 0} (contents : W → Option (List ℕ)) (failures : W → Failures) where
  same_row : (d e : LiveServer) (call : Call W) → Step contents failures d call e → length e.slots ≡ length d.slots
  same_row d e (Feeds did) (f, does, is) = ap (λ x. length x.slots) is
  same_row d e (Admits config now (Ok (Some place))) (free, is) = ap (λ x. length x.slots) is ∙ length-set d.slots place (Some (clients.new_snapshot_client config now))
  same_row d e (Admits config now (Ok None)) (taken, is) = ap (λ x. length x.slots) is
  same_row d e (Admits config now (Err error)) is = ap (λ x. length x.slots) is
  same_row d e (Hears place piece now count) (s, hears, is) = ap (λ x. length x.slots) is ∙ heard_row d.slots s place piece now count (client_at d.slots place) hears
  same_row d e (Answers limit now count) is = ap (λ x. length x.slots) is ∙ answered_row d limit count now d.following.joining.state.joined
  same_row d e (Takes place count now) (fits, is) = ap (λ x. length x.slots) is ∙ took_row d.slots place count now (client_at d.slots place)
  same_row d e (Ticks now) is = ap (λ x. length x.slots) is ∙ length-map d.slots (ticked_slot now)
  same_row d e (Leaves place) is = ap (λ x. length x.slots) is ∙ length-set d.slots place None

  pub rows_stay : (begun : Following) (later : List (Event W)) (at : Event W) (before : List (Event W)) (d : LiveServer)
      → History contents failures begun (later ++ at ∷ before) d → length d.slots ≡ length at.before.slots
  rows_stay begun [] at before d (took, h) = same_row at.before d at.call took
  rows_stay begun (x ∷ later) at before d (took, h) = same_row x.before d x.call took ∙ rows_stay begun later at before x.before h
