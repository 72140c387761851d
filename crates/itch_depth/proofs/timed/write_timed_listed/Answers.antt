use Rattle.std.proofs.Common.{ap, subst, ◌∙◌}
use Rattle.itch_codec.specs.Text.{before_spaces}
use Rattle.itch_market.specs.Content.{Listing}
use Rattle.itch_commands.specs.Outputs.{WritesText}
use Rattle.itch_depth.proofs.PartsOfDays.{timed_lines_listed}
use Rattle.itch_depth.proofs.timed.write_timed_listed.Goals as goal

pub returns : goal.returns
returns g c =
    subst (λ text. WritesText g.W.CountedWrite.contents g.W.CountedWrite.failures text c.args.out.now c.write_timed_book.result c.write_timed_book.new.out)
    (timed_lines_listed c.args.form c.args.time c.args.depth c.args.market.now c.args.locate _ _ _ c.in-Some.ensures (c.text.ensures.trimmed ∙ ap (λ (s : Listing). before_spaces s.entry.stock) c.security-2.view_is) c.book.ensures.orders) c.write_timed_book.ensures
