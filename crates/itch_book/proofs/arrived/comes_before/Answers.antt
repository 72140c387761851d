use Rattle.std.proofs.Common.{nat_lt, ap₂, ◌∙◌}
use Rattle.itch_book.proofs.RankLemmas.{rank_order}
use Rattle.itch_book.proofs.arrived.comes_before.Goals as goal

pub returns : goal.returns
returns c = ap₂ nat_lt c.rank.ensures.rank c.rank-2.ensures.rank ∙ rank_order c.args.one.now c.args.other.now c.rank.ensures.fits c.rank-2.ensures.fits
