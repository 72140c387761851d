use Rattle.std.proofs.Common.{Ok, Err, refl, inl, inr, subst, ◌∙◌}
use Rattle.std.proofs.lemmas.Result.{err_from_is_err_and}
use Rattle.itch_commands.specs.Outputs.{WritesText}
use Rattle.itch_commands.specs.Points.{begun}
use Rattle.itch_depth.proofs.TimedParts.{new_at, new_stands}
use Rattle.itch_depth.proofs.at.books_at.Goals as goal

pub returns-in_err-write_text : goal.returns-in_err-write_text
returns-in_err-write_text g c =
    let p = err_from_is_err_and c.from_residual.result c.from_residual.ensures.1 in
    rw (p.1, p.2) (λ ascend. inl (
      _,
      refl,
      subst (λ text. WritesText g.W.CountedWrite.contents g.W.CountedWrite.failures text c.args.out.now (Err c.in_err-write_text.field-0.0) c.write_text.new.out)
          (c.as_bytes.ensures.bytes ∙ c.timed_head.ensures) c.in_err-write_text.ensures,
    ))

pub returns-then-are_none : goal.returns-then-are_none
returns-then-are_none g c = λ ascend. inr (
  c.write_text.new.out,
  subst (λ text. WritesText g.W.CountedWrite.contents g.W.CountedWrite.failures text c.args.out.now (Ok tt) c.write_text.new.out)
      (c.as_bytes.ensures.bytes ∙ c.timed_head.ensures) c.in_ok-write_text.ensures,
  c.list_each.ensures c.args.reader begun (new_stands g.R.CountedRead.remaining g.R.CountedRead.failures c.args.reader c.new-pass.result.reader c.new-pass.ensures.reader) (new_at c.new-pass.result.markets.market c.new-pass.result.count c.new-pass.ensures.market c.new-pass.ensures.count) ascend,
)

pub returns : goal.returns
returns g c = λ ascend. inr (
  c.write_text.new.out,
  subst (λ text. WritesText g.W.CountedWrite.contents g.W.CountedWrite.failures text c.args.out.now (Ok tt) c.write_text.new.out)
      (c.as_bytes.ensures.bytes ∙ c.timed_head.ensures) c.in_ok-write_text.ensures,
  c.list_each-2.ensures c.args.reader begun (new_stands g.R.CountedRead.remaining g.R.CountedRead.failures c.args.reader c.new-pass-2.result.reader c.new-pass-2.ensures.reader) (new_at c.new-pass-2.result.markets.market c.new-pass-2.result.count c.new-pass-2.ensures.market c.new-pass-2.ensures.count) ascend,
)
