use Rattle.std.proofs.Common.{◌≡◌, ◌<◌, not, false, cond, eqb, List, length, get_or, slice_get, None, Some, is_some, sym, ap, ◌∙◌, subst, arith}
use Rattle.std.specs.List.{position_or_len}
use Rattle.std.proofs.lemmas.Bool.Decides.{nat_tests}
use Rattle.itch_book.specs.declared.level_lines.Level.{Level}
use Rattle.itch_book.specs.Orders.{is_better}
use Rattle.itch_book.specs.SideLevels.{queue_in, IsRising}
use Rattle.itch_book.proofs.RisingLemmas.{cut_rising, cut_queues, none_cut, hit, miss, past, read_level, read_past, within}
use Rattle.itch_book.proofs.level_lines.cut_from.Goals as goal

pub returns-clause-rising : goal.returns-clause-rising
returns-clause-rising g c = subst (IsRising c.args.side) (sym c.remove.ensures.items) (cut_rising c.args.side c.args.levels.now.items c.place_of-place.result c.requires)

pub returns-clause-cut : goal.returns-clause-cut
returns-clause-cut g c p =
    let s = c.args.side in let xs = c.args.levels.now.items in let i = c.place_of-place.result in let x = c.in-Some.level.now in
    let same = c.deref-2.ensures.value in
    let read = subst (λ (t : List Level). x ≡ get_or t i x) same c.in-Some.ensures.lookup.1 in
    let lt : i < length xs = subst (λ (t : List Level). i < length t) same (within c.deref-2.result.now i c.in-Some.ensures.lookup.0) in
    let price = ap (λ (y : Level). y.price) (sym read) ∙ c.if-level-price.false in
    ap (λ (t : List Level). queue_in t p) c.remove.ensures.items ∙ cut_queues s xs i x c.requires lt p ∙ ap (λ n. cond (eqb n p) None (queue_in xs p)) price

pub returns-clause-had : goal.returns-clause-had
returns-clause-had g c =
    let s = c.args.side in let p = c.args.price in let xs = c.args.levels.now.items in let i = c.place_of-place.result in let x = c.in-Some.level.now in
    let place = subst (λ (t : List Level). i ≡ position_or_len (λ (y : Level). not (is_better s p y.price)) t) c.deref.ensures.value c.place_of-place.ensures.place in
    let here = subst (λ (t : List Level). slice_get t i ≡ Some x) c.deref-2.ensures.value (read_level c.deref-2.result.now i x c.in-Some.ensures.lookup.0 c.in-Some.ensures.lookup.1) in
    sym (ap is_some (hit s p xs c.requires i place x here c.if-level-price.false))

pub returns-in_default-clause-cut : goal.returns-in_default-clause-cut
returns-in_default-clause-cut g c =
    let s = c.args.side in let p = c.args.price in let xs = c.args.levels.now.items in let i = c.place_of-place.result in
    let place = subst (λ (t : List Level). i ≡ position_or_len (λ (y : Level). not (is_better s p y.price)) t) c.deref.ensures.value c.place_of-place.ensures.place in
    let none = past s p xs c.requires i place (subst (λ (t : List Level). slice_get t i ≡ None) c.deref-2.ensures.value (read_past c.deref-2.result.now i c.in_default.ensures.lookup.0)) in
    none_cut xs p none

pub returns-in_default-clause-had : goal.returns-in_default-clause-had
returns-in_default-clause-had g c =
    let s = c.args.side in let p = c.args.price in let xs = c.args.levels.now.items in let i = c.place_of-place.result in
    let place = subst (λ (t : List Level). i ≡ position_or_len (λ (y : Level). not (is_better s p y.price)) t) c.deref.ensures.value c.place_of-place.ensures.place in
    let none = past s p xs c.requires i place (subst (λ (t : List Level). slice_get t i ≡ None) c.deref-2.ensures.value (read_past c.deref-2.result.now i c.in_default.ensures.lookup.0)) in
    sym (ap is_some none)

pub returns-then-level-price-clause-cut : goal.returns-then-level-price-clause-cut
returns-then-level-price-clause-cut g c =
    let s = c.args.side in let p = c.args.price in let xs = c.args.levels.now.items in let i = c.place_of-place.result in let x = c.in-Some.level.now in
    let place = subst (λ (t : List Level). i ≡ position_or_len (λ (y : Level). not (is_better s p y.price)) t) c.deref.ensures.value c.place_of-place.ensures.place in
    let here = subst (λ (t : List Level). slice_get t i ≡ Some x) c.deref-2.ensures.value (read_level c.deref-2.result.now i x c.in-Some.ensures.lookup.0 c.in-Some.ensures.lookup.1) in
    let other : eqb p x.price ≡ false = let differ = c.if-level-price.true in grind (arith, nat_tests) in
    let none = miss s p xs c.requires i place x here other in
    none_cut xs p none

pub returns-then-level-price-clause-had : goal.returns-then-level-price-clause-had
returns-then-level-price-clause-had g c =
    let s = c.args.side in let p = c.args.price in let xs = c.args.levels.now.items in let i = c.place_of-place.result in let x = c.in-Some.level.now in
    let place = subst (λ (t : List Level). i ≡ position_or_len (λ (y : Level). not (is_better s p y.price)) t) c.deref.ensures.value c.place_of-place.ensures.place in
    let here = subst (λ (t : List Level). slice_get t i ≡ Some x) c.deref-2.ensures.value (read_level c.deref-2.result.now i x c.in-Some.ensures.lookup.0 c.in-Some.ensures.lookup.1) in
    let other : eqb p x.price ≡ false = let differ = c.if-level-price.true in grind (arith, nat_tests) in
    let none = miss s p xs c.requires i place x here other in
    sym (ap is_some none)
