use Rattle.std.proofs.Common.{◌≡◌, ℕ, false, List, [], Option, refl, sym, ap, subst, inr, inl, ◌∙◌}
use Rattle.itch_frame.specs.Blocks.{IsBlockOf}
use Rattle.itch_frame.specs.Cuts.{IsTake}
use Rattle.itch_soup.specs.declared.packet.LoginRequest.{LoginRequest}
use Rattle.itch_soup.specs.declared.server.ServerAct.{ServerAct}
use Rattle.itch_soup.specs.Servers.{Server}
use Rattle.itch_live.specs.SnapshotClients.{Judges}
use Rattle.itch_live.specs.Players.{Player, is_deaf, after_act, Hears}
use Rattle.itch_live.proofs.player.Player.hear.Goals as goal

-- a complete packet arrives: its held bytes are dropped
hears_packet : (inside p q : Player) (piece held payload dropped : List ℕ) (now n : ℕ) (answer : ServerAct × Option LoginRequest) (s : Server)
    → inside ≡ p → is_deaf p ≡ false → IsTake inside.held piece n held → IsBlockOf payload held → Judges inside.session payload now answer s → dropped ≡ []
    → q ≡ after_act answer.0 now (record inside { held = dropped; session = s; moved = now }) → Hears p piece now n q
hears_packet inside p q piece held payload dropped now n answer s same listens took block_is judged none turned =
    subst (λ x. Hears x piece now n q) same
    (inr (
      ap is_deaf same ∙ listens,
      (
        held,
        took,
        inl (
          payload,
          answer,
          s,
          block_is,
          judged,
          turned ∙ ap (λ bytes. after_act answer.0 now (record inside { held = bytes; session = s; moved = now })) none,
        ),
      ),
    ))

pub returns-in_default : goal.returns-in_default
returns-in_default g c =
    rw (sym c.self.view_is) (inr (ap is_deaf c.self.view_is ∙ sym c.is_deaf.ensures ∙ c.if-is_deaf.false, (_, c.take-count.ensures, inr (c.in_default.ensures.none, refl))))

pub returns : goal.returns
returns g c =
    hears_packet _ _ _ _ _ _ _ _ _ c.hear_payload-act.result _ c.self.view_is (sym c.is_deaf.ensures ∙ c.if-is_deaf.false) c.take-count.ensures c.in-Some.ensures.some
    c.hear_payload-act.ensures c.clear.ensures c.turn.ensures
