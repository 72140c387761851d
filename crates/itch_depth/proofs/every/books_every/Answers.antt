use Rattle.std.proofs.Common.{◌≡◌, ◌<◌, Ok, Err, arith, refl, inl, inr, subst, ◌∙◌}
use Rattle.std.proofs.lemmas.Result.{err_from_is_err_and}
use Rattle.std.specs.Option.{option_copied}
use Rattle.itch_commands.specs.Outputs.{WritesText}
use Rattle.itch_depth.specs.Series.{AtMultiples}
use Rattle.itch_commands.specs.Points.{begun}
use Rattle.itch_depth.proofs.TimedParts.{new_at, new_stands}
use Rattle.itch_depth.proofs.every.books_every.Goals as goal

pub returns-in_err-write_text : goal.returns-in_err-write_text
returns-in_err-write_text g c =
    let p = err_from_is_err_and c.from_residual.result c.from_residual.ensures.1 in
    rw (p.1, p.2) (λ some. inl (
      _,
      refl,
      subst (λ text. WritesText g.W.CountedWrite.contents g.W.CountedWrite.failures text c.args.out.now (Err c.in_err-write_text.field-0.0) c.write_text.new.out)
          (c.as_bytes.ensures.bytes ∙ c.timed_head.ensures) c.in_err-write_text.ensures,
    ))

pub returns-then-are_none : goal.returns-then-are_none
returns-then-are_none g c = λ some. inr (
  c.write_text.new.out,
  subst (λ text. WritesText g.W.CountedWrite.contents g.W.CountedWrite.failures text c.args.out.now (Ok tt) c.write_text.new.out)
      (c.as_bytes.ensures.bytes ∙ c.timed_head.ensures) c.in_ok-write_text.ensures,
  subst (λ step. AtMultiples g.R.CountedRead.remaining g.R.CountedRead.failures g.W.CountedWrite.contents g.W.CountedWrite.failures c.args.request (option_copied c.args.only) c.args.reader step
      c.write_text.new.out c.list_every.result c.list_every.new.out) (max_is some) (c.list_every.ensures c.args.reader begun (new_stands g.R.CountedRead.remaining g.R.CountedRead.failures c.args.reader c.new-pass.result.reader c.new-pass.ensures.reader) (new_at c.new-pass.result.markets.market c.new-pass.result.count c.new-pass.ensures.market c.new-pass.ensures.count)),
) where
  max_is : 0 < c.args.step → c.max-step.result ≡ c.args.step
  max_is some = omega (arith, some, c.max-step.ensures)

pub returns : goal.returns
returns g c = λ some. inr (
  c.write_text.new.out,
  subst (λ text. WritesText g.W.CountedWrite.contents g.W.CountedWrite.failures text c.args.out.now (Ok tt) c.write_text.new.out)
      (c.as_bytes.ensures.bytes ∙ c.timed_head.ensures) c.in_ok-write_text.ensures,
  subst (λ step. AtMultiples g.R.CountedRead.remaining g.R.CountedRead.failures g.W.CountedWrite.contents g.W.CountedWrite.failures c.args.request (option_copied c.args.only) c.args.reader step
      c.write_text.new.out c.list_every-2.result c.list_every-2.new.out) (max_is some) (c.list_every-2.ensures c.args.reader begun (new_stands g.R.CountedRead.remaining g.R.CountedRead.failures c.args.reader c.new-pass-2.result.reader c.new-pass-2.ensures.reader) (new_at c.new-pass-2.result.markets.market c.new-pass-2.result.count c.new-pass-2.ensures.market c.new-pass-2.ensures.count)),
) where
  max_is : 0 < c.args.step → c.max-step.result ≡ c.args.step
  max_is some = omega (arith, some, c.max-step.ensures)
