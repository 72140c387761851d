use Rattle.std.proofs.Common.{Ok, Err, sym, subst, arith}
use Rattle.itch_codec.proofs.Bytes.{all_bytes}
use Rattle.itch_market.specs.Wanted.{has}
use Rattle.itch_market.specs.declared.refused.Refused.{Refused}
use Rattle.itch_join.specs.Rules.{rules_of}
use Rattle.itch_join.specs.Positions.{Position}
use Rattle.itch_join.specs.Takings.{IsRefusedFor, position_of}
use Rattle.itch_join.proofs.Takings.{heard, may_go_on}
use Rattle.itch_join.proofs.sink.JoinerSink.take.Goals as goal

pub refused_by-requires : goal.refused_by-requires
refused_by-requires g c =
    let old = c.args.self.now in
    let h = heard (has old.set) old.cap c.args.number old.state c.args.payload.now c.requires.ready.0 c.requires.first (omega (arith, c.requires.last)) c.requires.ready.1 (Err c.in-Err.fault) c.live_decoded.new.self.state c.in-Err.ensures.step in
    h.0

pub returns-in-Ok-clause-takes : goal.returns-in-Ok-clause-takes
returns-in-Ok-clause-takes g c =
    let old = c.args.self.now in
    let h = heard (has old.set) old.cap c.args.number old.state c.args.payload.now c.requires.ready.0 c.requires.first (omega (arith, c.requires.last)) c.requires.ready.1 (Ok c.in-Ok._taken) c.live_decoded.new.self.state c.in-Ok.ensures.step in
    record {
      bytes = all_bytes c.args.payload.now (λ k. omega (arith, c.type_inv.payload k));
      passes = h.0;
      set = c.in-Ok.ensures.set;
    }

pub returns-in-Ok-clause-ready : goal.returns-in-Ok-clause-ready
returns-in-Ok-clause-ready g c =
    let old = c.args.self.now in
    let h = heard (has old.set) old.cap c.args.number old.state c.args.payload.now c.requires.ready.0 c.requires.first (omega (arith, c.requires.last)) c.requires.ready.1 (Ok c.in-Ok._taken) c.live_decoded.new.self.state c.in-Ok.ensures.step in
    may_go_on (has old.set) c.args.number (position_of old.state) c.args.payload.now c.live_decoded.new.self h.0 h.1

pub returns-in-Err-clause-takes : goal.returns-in-Err-clause-takes
returns-in-Err-clause-takes g c =
    let old = c.args.self.now in
    let h = heard (has old.set) old.cap c.args.number old.state c.args.payload.now c.requires.ready.0 c.requires.first (omega (arith, c.requires.last)) c.requires.ready.1 (Err c.in-Err.fault) c.live_decoded.new.self.state c.in-Err.ensures.step in
    record {
      bytes = all_bytes c.args.payload.now (λ k. omega (arith, c.type_inv.payload k));
      next = h.1;
      refused = subst (λ (why : Refused). IsRefusedFor (rules_of (has old.set)) (Position.market (position_of old.state)) c.args.payload.now why) (sym c.refused_by.ensures) h.2;
      stays = h.3;
      set = c.in-Err.ensures.set;
    }
