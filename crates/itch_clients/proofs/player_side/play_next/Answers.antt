use Rattle.std.proofs.Common.{◌≡◌, ◌<◌, true, length, Ok, rules, sym, ap, subst, ◌∙◌, arith}
use Rattle.itch_live.specs.Players.{played}
use Rattle.itch_clients.specs.Playbacks.{MovesTo}
use Rattle.itch_clients.specs.Playings.{is_due_from, start_of}
use Rattle.itch_clients.proofs.player_side.play_next.Goals as goal

pub returns-clause-plays : goal.returns-clause-plays
returns-clause-plays g c = λ first stands.
    let is : c.move_to.result ≡ Ok true = grind arith in
    let moved = subst (λ r. MovesTo g.S.CountedRead.remaining g.S.CountedRead.failures first c.in-Some.number r c.move_to.new.self.number c.move_to.new.self.message.items c.move_to.new.self.blocks) is (c.move_to.ensures first stands) in
    let late : c.is_due_from.result ≡ true = search rules in
    let since = start_of c.args.start.now c.in-Some.number c.time.result c.args.now_ms in
    record {
      number = c.in-Some.number;
      message = c.move_to.new.self.message.items;
      since = since;
      is_wanted = sym c.wanted.ensures ∙ c.in-Some.is;
      of_file = moved.1;
      started = c.is_due_from.ensures.start;
      due = subst (λ t. is_due_from since c.args.pace c.in-Some.number t c.args.now_ms ≡ true) c.time.ensures (sym c.is_due_from.ensures.due ∙ late);
      fits = grind arith;
      passed = c.play.ensures ∙ ap (λ m. played c.args.player.now m c.args.now_ms) c.message-message.ensures;
    }
