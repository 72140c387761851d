use Rattle.std.proofs.Common.{◌≡◌, true, List, ℕ, subst}
use Rattle.itch_market.specs.Content.{Content}
use Rattle.itch_commands.specs.Joining.{Start, ReadsStart, ReadsFeed, HasRoom, joined_market, joined_next}
use Rattle.itch_commands.specs.Readings.{Then}
use Rattle.itch_commands.specs.Outputs.{Outputs, closed_bytes}
use Rattle.itch_commands.specs.Stocks.{ReadsStocks, names_of, only_stocks}
use Rattle.itch_commands.proofs.join.stocks.join_stocks.Goals as goal

pub returns : goal.returns
returns g c =
    let names = names_of c.args.names.now in
    subst
    (λ (read : List ℕ → List ℕ). Outputs g.W.CountedWrite.contents g.W.CountedWrite.failures
    (ReadsStocks (λ (both : Start × List (List ℕ)). Content.securities (joined_market c.args.part.before both.0 both.1)) names
    (HasRoom c.args.part.before
    (Then (ReadsStart read g.R.CountedRead.remaining g.R.CountedRead.failures c.args.snapshot.now c.join_with.new.snapshot) (c.join_with.new.feed ≡ c.args.feed.now)
    (ReadsFeed read g.S.CountedRead.remaining g.S.CountedRead.failures c.args.part c.args.feed.now c.join_with.new.feed))))
    (λ both. closed_bytes (only_stocks names (joined_market c.args.part.before both.0 both.1), joined_next c.args.part.before both.0 both.1)) (λ _. true) c.args.out.now c.join_with.result c.join_with.new.out)
    c.new_joiner-joiner.ensures.read c.join_with.ensures
