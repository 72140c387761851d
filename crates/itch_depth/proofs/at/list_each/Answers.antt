use Rattle.std.proofs.Common.{get_or, ◌≡◌, ◌+◌, ◌∷◌, drop, sym, subst, ◌∙◌}
use Rattle.std.specs.Option.{option_copied}
use Rattle.std.proofs.lemmas.List.{drop_more}
use Rattle.itch_depth.specs.Series.{AtTime}
use Rattle.itch_depth.proofs.TimedMessages.{still_fits}
use Rattle.itch_depth.proofs.TimesInTurn.{InTurn, all_dropped, turn_begun, turn_ends, turn_next, turn_off, turn_on}
use Rattle.itch_depth.proofs.at.list_each.Goals as goal

pub loop-time-init : goal.loop-time-init
loop-time-init g c = record {
  each = record {
    turn = λ first began stands at ascend. (
      began,
      turn_begun g.R.CountedRead.remaining g.R.CountedRead.failures g.W.CountedWrite.contents g.W.CountedWrite.failures c.args.request (option_copied c.args.only) first c.args.times.now
          c.args.out.now c.args.pass.now.reader began stands ascend,
      at,
    );
  };
  apart = c.requires.apart;
  fits = c.requires.fits;
}

pub returns-then-not-continues : goal.returns-then-not-continues
returns-then-not-continues g c = λ first began stands at ascend.
    let times = c.args.times.now in
    let i = c.loop-time.time-index in
    let x = get_or times i 0 in
    let there : drop i times ≡ x ∷ drop (i + 1) times = drop_more times i 0 c.loop-time-test.true in
    let remaining = g.R.CountedRead.remaining in
    let failed_reads = g.R.CountedRead.failures in
    let contents = g.W.CountedWrite.contents in
    let failed = g.W.CountedWrite.failures in
    let now = c.loop-time.invariant.each.turn first began stands at ascend in
    let turn = subst (λ left. InTurn remaining failed_reads (AtTime remaining failed_reads contents failed c.args.request (option_copied c.args.only) first)
    first times left c.loop-time.answer c.args.out.now c.loop-time.out c.loop-time.pass.reader now.0) there now.1 in
    let next = turn_next remaining failed_reads contents failed c.args.request (option_copied c.args.only) first times x (drop (i + 1) times) c.loop-time.answer
    c.args.out.now c.loop-time.out c.loop-time.pass.reader now.0 turn in
    let listed = c.list_at-answer.ensures.lists first next.0 next.1 now.0 next.2 now.2 next.3 in
    turn_off remaining failed_reads contents failed c.args.request (option_copied c.args.only) first times x (drop (i + 1) times) c.list_at-answer.result c.loop-time.answer
    c.args.out.now c.loop-time.out c.list_at-answer.new.out c.loop-time.pass.reader c.list_at-answer.new.pass.reader now.0 listed.0 turn
    listed.1 (sym c.if-not-continues.true ∙ c.continues.ensures)

pub loop-time-preserved : goal.loop-time-preserved
loop-time-preserved g c = record {
  each = record {
    turn = λ first began stands at ascend.
        let times = c.args.times.now in
        let i = c.loop-time.time-index in
        let x = get_or times i 0 in
        let there : drop i times ≡ x ∷ drop (i + 1) times = drop_more times i 0 c.loop-time-test.true in
        let remaining = g.R.CountedRead.remaining in
        let failed_reads = g.R.CountedRead.failures in
        let contents = g.W.CountedWrite.contents in
        let failed = g.W.CountedWrite.failures in
        let now = c.loop-time.invariant.each.turn first began stands at ascend in
        let turn = subst (λ left. InTurn remaining failed_reads (AtTime remaining failed_reads contents failed c.args.request (option_copied c.args.only) first)
        first times left c.loop-time.answer c.args.out.now c.loop-time.out c.loop-time.pass.reader now.0) there now.1 in
        let next = turn_next remaining failed_reads contents failed c.args.request (option_copied c.args.only) first times x (drop (i + 1) times) c.loop-time.answer
        c.args.out.now c.loop-time.out c.loop-time.pass.reader now.0 turn in
        let listed = c.list_at-answer.ensures.lists first next.0 next.1 now.0 next.2 now.2 next.3 in (
          listed.0,
          turn_on remaining failed_reads contents failed c.args.request (option_copied c.args.only) first times x (drop (i + 1) times) c.list_at-answer.result c.loop-time.answer
              c.args.out.now c.loop-time.out c.list_at-answer.new.out c.loop-time.pass.reader c.list_at-answer.new.pass.reader now.0 listed.0 turn
              listed.1 (sym c.if-not-continues.false ∙ c.continues.ensures),
          listed.2,
        );
  };
  apart = c.list_at-answer.ensures.apart (sym (sym c.if-not-continues.false ∙ c.continues.ensures));
  fits = still_fits c.loop-time.pass.markets.locates c.list_at-answer.new.pass.markets.locates c.args.request.selection (option_copied c.args.only) c.list_at-answer.ensures.kept c.loop-time.invariant.fits;
}

pub returns : goal.returns
returns g c = λ first began stands at ascend.
    let now = c.loop-time.invariant.each.turn first began stands at ascend in
    turn_ends g.R.CountedRead.remaining g.R.CountedRead.failures g.W.CountedWrite.contents g.W.CountedWrite.failures c.args.request (option_copied c.args.only) first c.args.times.now
    (drop c.loop-time.time-index c.args.times.now) c.loop-time.answer c.args.out.now c.loop-time.out c.loop-time.pass.reader now.0
    (all_dropped c.args.times.now c.loop-time.time-index c.loop-time-test.false) now.1
