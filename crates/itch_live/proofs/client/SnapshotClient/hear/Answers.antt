use Rattle.std.proofs.Common.{refl, sym, ap, inr, ◌∙◌}
use Rattle.itch_live.specs.SnapshotClients.{is_deaf}
use Rattle.itch_live.proofs.Hearing.{hears_packet}
use Rattle.itch_live.proofs.client.SnapshotClient.hear.Goals as goal

pub returns-in_default : goal.returns-in_default
returns-in_default g c =
    rw (sym c.self.view_is) (inr (ap is_deaf c.self.view_is ∙ sym c.is_deaf.ensures ∙ c.if-is_deaf.false, (_, c.take-count.ensures, inr (c.in_default.ensures.none, refl))))

pub returns : goal.returns
returns g c =
    hears_packet _ _ _ _ _ _ _ _ _ _ c.hear_payload-act.result _ c.self.view_is (sym c.is_deaf.ensures ∙ c.if-is_deaf.false) c.take-count.ensures c.in-Some.ensures.some
    c.hear_payload-act.ensures c.clear.ensures c.moved_by_words-moved.ensures c.turn.ensures
