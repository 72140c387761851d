use Rattle.std.proofs.Common.{◌≡◌, None, refl, inr, inl, sym, ap, ◌∙◌}
use Rattle.itch_soup.specs.declared.client.ClientAct.TheVariants as act
use Rattle.itch_live.specs.declared.sessions.Sessions.{Sessions}
use Rattle.itch_live.specs.Sessions.{expected, other_name, known_after}
use Rattle.itch_live.specs.Follows.{accepted_as, news_or}
use Rattle.itch_live.proofs.Shutting.{unnamed, none_known, by_name}
use Rattle.itch_live.proofs.follower.hear_packet.Goals as goal

pub returns-in-Err : goal.returns-in-Err
returns-in-Err g c = (
  act.Fault c.in-Err.fault,
  None,
  _,
  inr (c.in-Err.fault, c.in-Err.ensures.fault, refl, refl, refl),
  inr (unnamed _, refl, ((refl, refl, refl), sym (none_known _ _))),
)

pub returns-in-Ok : goal.returns-in-Ok
returns-in-Ok g c =
    let named_is : c.accepted_as-named.result ≡ accepted_as c.on_packet-act.result c.named_in.result = c.accepted_as-named.ensures in
    let known : Sessions = c.args.sessions.now in
    by_name g.W.CountedWrite.contents g.W.CountedWrite.failures known c.args.source _ c.on_packet-act.new.self _ _ _ c.on_packet-act.result c.named_in.result _ _ _ _ c.act_on-news.result _
    c.other_name-other.result (inl (c.in-Ok.packet, c.in-Ok.ensures.spelled, c.on_packet-act.ensures.answer, c.named_in.ensures, c.on_packet-act.ensures.after))
    (sym (c.other_name-other.ensures ∙ ap (λ w. other_name w c.accepted_as-named.result) c.expected-wanted.ensures ∙ ap (λ n. other_name (expected known c.args.source) n) named_is)) c.act_on-news.ensures
    (ap (λ n. (n, c.learn.new.self)) c.shut_if.ensures.news
    ∙ ap (λ k. (news_or c.other_name-other.result c.act_on-news.result, k)) (c.learn.ensures ∙ ap (λ n. known_after known c.args.source n) named_is)) c.shut_if.ensures.session
