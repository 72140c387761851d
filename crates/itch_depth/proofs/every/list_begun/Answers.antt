use Rattle.std.proofs.Common.{◌∙◌}
use Rattle.std.specs.Option.{option_copied}
use Rattle.itch_depth.proofs.MultiplesInTurn.{some_after}
use Rattle.itch_depth.proofs.every.list_begun.Goals as goal

pub returns : goal.returns
returns g c =
    some_after g.W.CountedWrite.contents g.W.CountedWrite.failures c.args.request (option_copied c.args.only) c.args.pass.now.markets.market c.args.time c.args.out.now c.list.new.out
    c.list.result c.args.pass.now.count (λ none. c.if-count-eq0.false (c.count.ensures ∙ none)) c.list.ensures
