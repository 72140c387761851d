use Rattle.std.proofs.Common.{◌≡◌, ℕ, true, List, None, Some, sym, ap, ◌∙◌, if◌then◌else◌}
use Rattle.std.specs.Option.{option_or}
use Rattle.itch_market.specs.Content.{Content}
use Rattle.itch_live.specs.SnapshotClients.{session_bytes}
use Rattle.itch_live.specs.Slots.{Slots}
use Rattle.itch_live.specs.Kept.{has_room, kept_bytes}
use Rattle.itch_live.specs.LiveServers.{encoded_for}
use Rattle.itch_live.proofs.server.encoded_for.Goals as goal

fresh_encoded : (limit : ℕ) (slots : Slots) (market : Content) (next : ℕ) (bytes : List ℕ) → kept_bytes slots next ≡ None → has_room limit slots market ≡ true
    → bytes ≡ session_bytes market next → Some bytes ≡ encoded_for limit slots market next
fresh_encoded limit slots market next bytes none room is =
    ap Some is ∙ sym (ap (λ k. option_or k (if has_room limit slots market then Some (session_bytes market next) else None)) none
    ∙ ap (λ b. if b then Some (session_bytes market next) else None) room)

pub returns : goal.returns
returns g c =
    fresh_encoded c.args.limit c.args.slots.now c.args.market.now c.args.next c.in_ok-new.field-0.value.items
    (ap (kept_bytes c.args.slots.now) (sym c.value.ensures.value) ∙ sym c.in_default.ensures) (sym c.has_room.ensures ∙ c.if-not-has_room.false)
    (ap (λ v. v.items) c.in_ok-new.ensures.ok ∙ c.in_ok-bytes.ensures.bytes)
