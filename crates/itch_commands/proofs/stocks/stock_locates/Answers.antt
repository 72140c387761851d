use Rattle.std.proofs.Common.{[], sym, subst, ◌∙◌}
use Rattle.itch_market.specs.Content.{Content}
use Rattle.itch_commands.specs.Stocks.{names_of}
use Rattle.itch_commands.proofs.StockNames.{StocksSoFar, stocks_begun, stock_passed, stock_added, stocks_found, stock_missing}
use Rattle.itch_commands.proofs.stocks.stock_locates.Goals as goal

pub loop-locate-init : goal.loop-locate-init
loop-locate-init g c =
    let listings = Content.securities c.args.market.now in
    subst (λ left. StocksSoFar listings (names_of c.args.names.now) [] left c.in_ok-stocks.stocks c.new-set.result) (sym c.locates-locate-items.ensures ∙ sym c.into_iter-locate-iterator.ensures.into_iter_gives)
    (stocks_begun listings (names_of c.args.names.now) c.in_ok-stocks.stocks c.new-set.result c.in_ok-stocks.ensures c.new-set.ensures)

pub loop-locate-preserved-in-Continue-branch-2 : goal.loop-locate-preserved-in-Continue-branch-2
loop-locate-preserved-in-Continue-branch-2 g c =
    let listings = Content.securities c.args.market.now in
    let names = names_of c.args.names.now in
    let loop = c.loop-locate in
    let so_far = subst (λ left. StocksSoFar listings names loop.yielded left loop.stocks loop.set) c.in-Some.ensures.steps loop.invariant in
    stock_added listings names loop.yielded c.next.new.self c.in-Some.locate loop.stocks loop.set so_far c.pass_locate.new.stocks c.insert.new.self c.pass_locate.ensures.passed
    (sym c.pass_locate.ensures.one ∙ c.if-pass_locate.true) c.in_ok-insert.ensures.ok

pub loop-locate-preserved : goal.loop-locate-preserved
loop-locate-preserved g c =
    let listings = Content.securities c.args.market.now in
    let names = names_of c.args.names.now in
    let loop = c.loop-locate in
    let so_far = subst (λ left. StocksSoFar listings names loop.yielded left loop.stocks loop.set) c.in-Some.ensures.steps loop.invariant in
    stock_passed listings names loop.yielded c.next.new.self c.in-Some.locate loop.stocks loop.set so_far c.pass_locate.new.stocks c.pass_locate.ensures.passed
    (sym c.pass_locate.ensures.one ∙ c.if-pass_locate.false)

pub returns-then-have_all_come : goal.returns-then-have_all_come
returns-then-have_all_come g c =
    let loop = c.loop-locate in
    stocks_found (Content.securities c.args.market.now) (names_of c.args.names.now) loop.yielded loop.locate-iterator loop.stocks loop.set loop.invariant c.in-None.ensures.steps.0
    (sym c.have_all_come.ensures ∙ c.if-have_all_come.true)

pub returns : goal.returns
returns g c =
    let loop = c.loop-locate in
    stock_missing (Content.securities c.args.market.now) (names_of c.args.names.now) loop.yielded loop.locate-iterator loop.stocks loop.set loop.invariant c.in-None.ensures.steps.0
    (sym c.have_all_come.ensures ∙ c.if-have_all_come.false)
