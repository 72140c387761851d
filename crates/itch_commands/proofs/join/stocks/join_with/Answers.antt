use Rattle.std.proofs.Common.{◌≡◌, Ok, Err, refl, inl}
use Rattle.std.proofs.lemmas.Result.{err_from_is_err_and}
use Rattle.itch_market.specs.Wanted.{has}
use Rattle.itch_snapshot.specs.AsRead.{as_read}
use Rattle.itch_join.specs.Takings.{position_of}
use Rattle.itch_commands.specs.Joiners.{start_of}
use Rattle.itch_commands.specs.Joining.{ReadsStart, ReadsFeed}
use Rattle.itch_commands.proofs.Joinings.{feeds_along}
use Rattle.itch_commands.proofs.JoinedStocks.{stocks_fail, stocks_joined}
use Rattle.itch_commands.specs.Stocks.{names_of}
use Rattle.itch_commands.proofs.join.stocks.join_with.Goals as goal

pub returns-in_err-read_start : goal.returns-in_err-read_start
returns-in_err-read_start g c =
    let p = err_from_is_err_and c.from_residual.result c.from_residual.ensures.1 in
    rw (p.1, p.2) (inl (_, refl, inl (inl (inl (c.in_err-read_start.ensures.start, refl))), refl))

pub returns : goal.returns
returns g c =
    let starts = ReadsStart (as_read (has c.args.joiner.now.set)) g.R.CountedRead.remaining g.R.CountedRead.failures c.args.snapshot.now c.read_start.new.reader in
    let follows = ReadsFeed (as_read (has c.args.joiner.now.set)) g.S.CountedRead.remaining g.S.CountedRead.failures c.args.part c.args.feed.now c.read_feed.new.reader in
    let start = start_of (position_of c.read_start.new.joiner.state) in
    let read = c.in_ok-read_start.ensures.start in
    let fed = c.in_ok-read_feed.ensures in
    stocks_joined g.W.CountedWrite.contents g.W.CountedWrite.failures c.args.part.before starts (c.read_feed.new.reader ≡ c.args.feed.now) follows (names_of c.args.names.now) c.args.out.now c.write_stocks.new.out c.write_stocks.result
    start fed.0 c.read_feed.new.joiner.state read.0
    (feeds_along g.S.CountedRead.remaining g.S.CountedRead.failures _ _ c.args.part c.args.feed.now c.read_feed.new.reader start (Ok fed.0) c.read_start.ensures.set fed.1) fed.2 (rw c.settle_market.ensures at c.write_stocks.ensures)

pub returns-in_err-read_feed : goal.returns-in_err-read_feed
returns-in_err-read_feed g c =
    let p = err_from_is_err_and c.from_residual-in_err-read_feed.result c.from_residual-in_err-read_feed.ensures.1 in
    let starts = ReadsStart (as_read (has c.args.joiner.now.set)) g.R.CountedRead.remaining g.R.CountedRead.failures c.args.snapshot.now c.read_start.new.reader in
    let follows = ReadsFeed (as_read (has c.args.joiner.now.set)) g.S.CountedRead.remaining g.S.CountedRead.failures c.args.part c.args.feed.now c.read_feed.new.reader in
    let start = start_of (position_of c.read_start.new.joiner.state) in
    let read = c.in_ok-read_start.ensures.start in
    rw (p.1, p.2) (stocks_fail g.W.CountedWrite.contents g.W.CountedWrite.failures c.args.part.before starts (c.read_feed.new.reader ≡ c.args.feed.now) follows (names_of c.args.names.now) c.args.out.now c.args.out.now _
    _ start refl read.0
    (feeds_along g.S.CountedRead.remaining g.S.CountedRead.failures _ _ c.args.part c.args.feed.now c.read_feed.new.reader start (Err _) c.read_start.ensures.set c.in_err-read_feed.ensures) refl)
