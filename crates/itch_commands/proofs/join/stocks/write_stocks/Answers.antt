use Rattle.std.proofs.Common.{◌^◌, ◌<◌, length, refl, ◌∙◌, arith}
use Rattle.std.proofs.lemmas.Result.{err_from_is_err_and}
use Rattle.itch_market.specs.Wanted.{has}
use Rattle.itch_snapshot.specs.Snapshot.{snap}
use Rattle.itch_join.specs.Takings.{position_of}
use Rattle.itch_commands.specs.Stocks.{names_of}
use Rattle.itch_commands.proofs.JoinedStocks.{market_there, number_there, stocks_not_found, stocks_cut}
use Rattle.itch_commands.proofs.Snapshots.{only_short}
use Rattle.itch_commands.proofs.join.stocks.write_stocks.Goals as goal

pub returns-in_err-set : goal.returns-in_err-set
returns-in_err-set g c =
    let p = err_from_is_err_and c.from_residual.result c.from_residual.ensures.1 in
    let market = c.unwrap-market.result.now in
    let same = market_there c.args.joiner.now.state c.market.result c.unwrap-market.result c.requires.joined c.market.ensures c.unwrap-market.ensures in
    let few : length (snap market) < 10 ^ 19 = omega (arith, c.snapshot_len.ensures) in
    rw (p.1, p.2) (stocks_not_found g.W.CountedWrite.contents g.W.CountedWrite.failures (names_of c.args.names.now) (position_of c.args.joiner.now.state) market same few c.args.out.now c.args.out.now _ _
    refl c.in_err-set.ensures refl)

pub write_closed_of-requires : goal.write_closed_of-requires
write_closed_of-requires g c = omega (arith, c.snapshot_len.ensures, only_short (has c.in_ok-set.set) c.unwrap-market.result.now)

pub returns : goal.returns
returns g c =
    let market = c.unwrap-market.result.now in
    let same = market_there c.args.joiner.now.state c.market.result c.unwrap-market.result c.requires.joined c.market.ensures c.unwrap-market.ensures in
    let few : length (snap market) < 10 ^ 19 = omega (arith, c.snapshot_len.ensures) in
    stocks_cut g.W.CountedWrite.contents g.W.CountedWrite.failures (names_of c.args.names.now) (position_of c.args.joiner.now.state) market same few c.args.out.now c.write_closed_of.new.out
    c.write_closed_of.result _ c.in_ok-set.set
    ((rw c.unwrap-next.ensures at c.new.ensures.number) ∙ number_there c.args.joiner.now.state c.next.result c.unwrap.result c.requires.joined c.next.ensures c.unwrap.ensures)
    c.in_ok-set.ensures c.write_closed_of.ensures
