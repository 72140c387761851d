use Rattle.std.proofs.Common.{◌≡◌, ℕ, not, length, Option, sym, subst}
use Rattle.std.specs.List.{position_or_len}
use Rattle.itch_book.specs.declared.level_lines.Level.{Level}
use Rattle.itch_book.specs.Orders.{is_worse}
use Rattle.itch_book.proofs.RisingLemmas.{all_worse}
use Rattle.itch_book.proofs.level_lines.end_of.Goals as goal

pub returns-in-None-clause-end : goal.returns-in-None-clause-end
returns-in-None-clause-end c =
    subst (λ (last : Option ℕ). length c.args.levels.now ≡ position_or_len (λ (x : Level). not (is_worse c.args.side last x.price)) c.args.levels.now) (sym c.in-None.is) (all_worse c.args.side c.args.levels.now)

pub returns-in-Some-clause-end : goal.returns-in-Some-clause-end
returns-in-Some-clause-end c =
    subst (λ (last : Option ℕ). c.place_of.result ≡ position_or_len (λ (x : Level). not (is_worse c.args.side last x.price)) c.args.levels.now) (sym c.in-Some.is) c.place_of.ensures.place
