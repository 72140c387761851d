use Rattle.std.proofs.Common.{◌≡◌, ◌<◌, ◌+◌, ◌-◌, ◌*◌, ◌/◌, ℕ, Ok, true, arith, refl, inr, sym, subst, ◌∙◌}
use Rattle.std.proofs.lemmas.Result.{err_from_is_err_and}
use Rattle.std.specs.Option.{option_copied}
use Rattle.itch_day.specs.declared.tracked.Tracked.{Tracked}
use Rattle.itch_market.specs.Content.{Content}
use Rattle.itch_commands.specs.Points.{up_to}
use Rattle.itch_depth.specs.Series.{IsAt, ReadsTime, latest}
use Rattle.itch_depth.proofs.MultiplesInTurn.{InMultiples, after_at, multiple_left, multiples_all, multiples_begun, multiples_end, multiples_off, multiples_on, multiples_refused}
use Rattle.itch_depth.proofs.TimedMessages.{still_fits}
use Rattle.itch_depth.proofs.every.list_every.Goals as goal
use Rattle.itch_depth.proofs.every.list_every.Goals.{else-loop-multiple-test, then-loop-multiple-test+in_ok-read_until+else-not-branch+else-not-continues+else-multiple-multiple-end}

pub loop-multiple-init : goal.loop-multiple-init
loop-multiple-init g c = record {
  every = record {
    turn = λ first began stands at. (
      began,
      subst (λ n. InMultiples g.R.CountedRead.remaining g.R.CountedRead.failures g.W.CountedWrite.contents g.W.CountedWrite.failures c.args.request (option_copied c.args.only) first c.args.step
          1 n c.args.out.now c.args.out.now c.args.pass.now.reader began) (all_of (latest / c.args.step))
          (multiples_begun g.R.CountedRead.remaining g.R.CountedRead.failures g.W.CountedWrite.contents g.W.CountedWrite.failures c.args.request (option_copied c.args.only) first c.args.step
          c.args.out.now c.args.pass.now.reader began stands),
      at,
    );
  };
  apart = c.requires.apart;
  fits = c.requires.fits;
} where
  all_of : (last : ℕ) → last ≡ last + 1 - 1
  all_of last = omega arith

pub list_begun-answer-requires-clause-fits : goal.list_begun-answer-requires-clause-fits
list_begun-answer-requires-clause-fits g c =
    still_fits c.loop-multiple.pass.markets.locates c.read_until.new.self.markets.locates c.args.request.selection (option_copied c.args.only) c.read_until.ensures.kept c.loop-multiple.invariant.fits

pub returns-in_err-read_until : goal.returns-in_err-read_until
returns-in_err-read_until g c =
    let p = err_from_is_err_and c.from_residual.result c.from_residual.ensures.1 in
    rw (p.1, p.2) (λ first began stands at.
    let remaining = g.R.CountedRead.remaining in
    let failed = g.R.CountedRead.failures in
    let contents = g.W.CountedWrite.contents in
    let failed_writes = g.W.CountedWrite.failures in
    let now = c.loop-multiple in
    let here = now.invariant.every.turn first began stands at in
    let last = latest / c.args.step in
    let turn = multiple_left remaining failed contents failed_writes c.args.request (option_copied c.args.only) first c.args.step now.multiple last
    c.args.out.now now.out now.pass.reader here.0 c.loop-multiple-test.true here.1 in
    let read = c.in_err-read_until.ensures.reads first turn.stands.0 turn.stands.1 here.0 turn.stands.2 here.2 (turn.stands.3 (now.multiple * c.args.step) (omega arith)) in
    multiples_refused remaining failed contents failed_writes c.args.request (option_copied c.args.only) first c.args.step now.multiple (last + 1 - (now.multiple + 1))
    c.args.out.now now.out now.pass.reader c.read_until.new.self.reader here.0 read.0 turn _ read.1)

pub returns-then-not-branch : goal.returns-then-not-branch
returns-then-not-branch g c = λ first began stands at.
    let remaining = g.R.CountedRead.remaining in
    let failed = g.R.CountedRead.failures in
    let contents = g.W.CountedWrite.contents in
    let failed_writes = g.W.CountedWrite.failures in
    let now = c.loop-multiple in
    let here = now.invariant.every.turn first began stands at in
    let new = c.read_until.new.self in
    let last = latest / c.args.step in
    let time = now.multiple * c.args.step in
    let turn = multiple_left remaining failed contents failed_writes c.args.request (option_copied c.args.only) first c.args.step now.multiple last
    c.args.out.now now.out now.pass.reader here.0 c.loop-multiple-test.true here.1 in
    let read = subst (λ b. ReadsTime remaining failed time first new.reader (Ok b) new.markets.market new.count) c.if-not-branch.true
    (c.in_ok-read_until.ensures.reads first turn.stands.0 turn.stands.1 here.0 turn.stands.2 here.2 (turn.stands.3 time (omega arith))) in
    multiples_end remaining failed contents failed_writes c.args.request (option_copied c.args.only) first c.args.step now.multiple (last + 1 - (now.multiple + 1))
    c.args.out.now now.out now.pass.reader new.reader here.0 read.0 turn read.1 c.finish.result
    (c.finish.ensures first (up_to time) _ read.0 read.1.0 read.2 (record { goes_on = tt; later = tt; within = tt; more = inr tt }))

pub returns-then-not-continues : goal.returns-then-not-continues
returns-then-not-continues g c = λ first began stands at.
    let remaining = g.R.CountedRead.remaining in
    let failed = g.R.CountedRead.failures in
    let contents = g.W.CountedWrite.contents in
    let failed_writes = g.W.CountedWrite.failures in
    let now = c.loop-multiple in
    let here = now.invariant.every.turn first began stands at in
    let new = c.read_until.new.self in
    let last = latest / c.args.step in
    let time = now.multiple * c.args.step in
    let turn = multiple_left remaining failed contents failed_writes c.args.request (option_copied c.args.only) first c.args.step now.multiple last
    c.args.out.now now.out now.pass.reader here.0 c.loop-multiple-test.true here.1 in
    let read = subst (λ b. ReadsTime remaining failed time first new.reader (Ok b) new.markets.market new.count) c.if-not-branch.false
    (c.in_ok-read_until.ensures.reads first turn.stands.0 turn.stands.1 here.0 turn.stands.2 here.2 (turn.stands.3 time (omega arith))) in
    let listed = after_at contents failed_writes c.args.request (option_copied c.args.only) time now.out c.list_begun-answer.new.out c.list_begun-answer.result read.0 new.markets.market new.count
    read.2 c.list_begun-answer.ensures in
    multiples_off remaining failed contents failed_writes c.args.request (option_copied c.args.only) first c.args.step now.multiple (last + 1 - (now.multiple + 1))
    c.args.out.now now.out now.pass.reader new.reader here.0 read.0 turn read.1 c.list_begun-answer.new.out c.list_begun-answer.result
    listed (sym c.if-not-continues.true ∙ c.continues.ensures)

pub loop-multiple-preserved : goal.loop-multiple-preserved
loop-multiple-preserved g c = record {
  every = record {
    turn = λ first began stands at.
        let remaining = g.R.CountedRead.remaining in
        let failed = g.R.CountedRead.failures in
        let contents = g.W.CountedWrite.contents in
        let failed_writes = g.W.CountedWrite.failures in
        let now = c.loop-multiple in
        let here = now.invariant.every.turn first began stands at in
        let new = c.read_until.new.self in
        let last = latest / c.args.step in
        let time = now.multiple * c.args.step in
        let turn = multiple_left remaining failed contents failed_writes c.args.request (option_copied c.args.only) first c.args.step now.multiple last
        c.args.out.now now.out now.pass.reader here.0 c.loop-multiple-test.true here.1 in
        let read = subst (λ b. ReadsTime remaining failed time first new.reader (Ok b) new.markets.market new.count) c.if-not-branch.false
        (c.in_ok-read_until.ensures.reads first turn.stands.0 turn.stands.1 here.0 turn.stands.2 here.2 (turn.stands.3 time (omega arith))) in
        let listed = after_at contents failed_writes c.args.request (option_copied c.args.only) time now.out c.list_begun-answer.new.out c.list_begun-answer.result read.0 new.markets.market new.count
        read.2 c.list_begun-answer.ensures in (
          read.0,
          multiples_on remaining failed contents failed_writes c.args.request (option_copied c.args.only) first c.args.step now.multiple (last + 1 - (now.multiple + 1))
              c.args.out.now now.out now.pass.reader new.reader here.0 read.0 turn read.1 c.list_begun-answer.new.out c.list_begun-answer.result
              listed (sym c.if-not-continues.false ∙ c.continues.ensures) (now.multiple + 1) (omega arith),
          read.2,
        );
  };
  apart = c.in_ok-read_until.ensures.apart;
  fits = still_fits c.loop-multiple.pass.markets.locates c.read_until.new.self.markets.locates c.args.request.selection (option_copied c.args.only) c.read_until.ensures.kept c.loop-multiple.invariant.fits;
}

-- The loop ends before a multiple that is past the last one, or after the last one. No multiple is left then.
pub returns : goal.returns
returns g c = λ first began stands at.
    let remaining = g.R.CountedRead.remaining in
    let failed = g.R.CountedRead.failures in
    let contents = g.W.CountedWrite.contents in
    let failed_writes = g.W.CountedWrite.failures in
    let now = c.loop-multiple in
    let last = latest / c.args.step in
    let here = now.invariant.every.turn first began stands at in
    let end = c.loop-multiple-test in
    let ended : (multiple : ℕ) × (tracked : Tracked Content) × InMultiples remaining failed contents failed_writes c.args.request (option_copied c.args.only) first c.args.step
    multiple 0 c.args.out.now end.out end.pass.reader tracked × IsAt tracked end.pass.markets.market end.pass.count = elim c.loop-multiple-test.branch [
      | else-loop-multiple-test w ↦ rw (w.pass-is, w.out-is) (
        now.multiple,
        here.0,
        subst (λ n. InMultiples remaining failed contents failed_writes c.args.request (option_copied c.args.only) first c.args.step
            now.multiple n c.args.out.now now.out now.pass.reader here.0) (none_from last now.multiple w.loop-multiple-test.false) here.1,
        here.2,
      )
      | then-loop-multiple-test+in_ok-read_until+else-not-branch+else-not-continues+else-multiple-multiple-end w ↦
          let left = last + 1 - (now.multiple + 1) in
          let none : left ≡ 0 = omega (arith, w) in
          let new = w.read_until.new.self in
          let time = now.multiple * c.args.step in
          let turn = multiple_left remaining failed contents failed_writes c.args.request (option_copied c.args.only) first c.args.step now.multiple last
          c.args.out.now now.out now.pass.reader here.0 w.loop-multiple-test.true here.1 in
          let read : ReadsTime remaining failed time first new.reader (Ok true) new.markets.market new.count =
          subst (λ b. ReadsTime remaining failed time first new.reader (Ok b) new.markets.market new.count) w.if-not-branch.false
          (w.in_ok-read_until.ensures.reads first turn.stands.0 turn.stands.1 here.0 turn.stands.2 here.2 (turn.stands.3 time (omega arith))) in
          let listed = after_at contents failed_writes c.args.request (option_copied c.args.only) time now.out w.list_begun-answer.new.out w.list_begun-answer.result read.0 new.markets.market new.count
          read.2 w.list_begun-answer.ensures in
          rw (w.pass-is, w.out-is) (
            now.multiple + 1,
            read.0,
            subst (λ n. InMultiples remaining failed contents failed_writes c.args.request (option_copied c.args.only) first c.args.step
                (now.multiple + 1) n c.args.out.now w.list_begun-answer.new.out new.reader read.0) none
                (multiples_on remaining failed contents failed_writes c.args.request (option_copied c.args.only) first c.args.step now.multiple left
                c.args.out.now now.out now.pass.reader new.reader here.0 read.0 turn read.1 w.list_begun-answer.new.out w.list_begun-answer.result
                listed (sym w.if-not-continues.false ∙ w.continues.ensures) (now.multiple + 1) (omega arith)),
            read.2,
          )
    ] in
    let begun = ended.2.stands in
    multiples_all remaining failed contents failed_writes c.args.request (option_copied c.args.only) first c.args.step ended.0 0
    c.args.out.now end.out end.pass.reader ended.1 refl ended.2 c.finish-2.result (c.finish-2.ensures first begun.0 begun.1 ended.1 begun.2 ended.3 begun.4) where
      none_from : (last multiple : ℕ) → last < multiple → last + 1 - multiple ≡ 0
      none_from last multiple past = omega (arith, past)

-- The pass keeps the locates apart in both cases.
pub finish-requires-2 : goal.finish-requires-2
finish-requires-2 g c =
    let end = c.loop-multiple-test in
    elim c.loop-multiple-test.branch [
      | else-loop-multiple-test w ↦ rw w.pass-is c.loop-multiple.invariant.apart
      | then-loop-multiple-test+in_ok-read_until+else-not-branch+else-not-continues+else-multiple-multiple-end w ↦ rw w.pass-is w.in_ok-read_until.ensures.apart
    ]
