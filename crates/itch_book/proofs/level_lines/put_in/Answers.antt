use Rattle.std.proofs.Common.{◌≡◌, not, List, insert, is_ok, sym, ap, ◌∙◌, subst}
use Rattle.std.specs.List.{position_or_len}
use Rattle.std.proofs.lemmas.Bool.{cond_both}
use Rattle.itch_book.specs.declared.level_lines.Level.{Level}
use Rattle.itch_book.specs.Orders.{is_better}
use Rattle.itch_book.specs.SideLevels.{queue_in, IsRising}
use Rattle.itch_book.proofs.RisingLemmas.{put_rising, put_queues}
use Rattle.itch_book.proofs.level_lines.put_in.Goals as goal

pub returns-clause-rising : goal.returns-clause-rising
returns-clause-rising g c =
    let s = c.args.side in let x = c.args.level in let xs = c.args.levels.now.items in let i = c.place_of-place.result in
    let place = subst (λ (t : List Level). i ≡ position_or_len (λ (y : Level). not (is_better s x.price y.price)) t) c.deref.ensures.value c.place_of-place.ensures.place in
    subst (IsRising s) (sym c.insert.ensures.items)
    (cond_both (is_ok c.insert.result) (insert xs i x) xs (IsRising s) (λ e. put_rising s x xs i c.requires.rising c.requires.new_price place) (λ e. c.requires.rising))

pub returns-clause-ok : goal.returns-clause-ok
returns-clause-ok g c p =
    ap (λ (t : List Level). queue_in t p) c.in_ok-insert.ensures.items ∙ put_queues c.args.level c.args.levels.now.items c.place_of-place.result c.requires.new_price p
