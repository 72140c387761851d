use Rattle.std.proofs.Common.{◌≡◌, ℕ, ◌+◌, ◌/◌, ◌%◌, ◌<◌, List, Option, Some, None, IsSome, get_or, set, refl, sym, ap, ◌∙◌, subst, arith}
use Rattle.itch_book.specs.declared.table.pages.Page.{Page}
use Rattle.itch_book.specs.Pages.{place_at, link_at, one_if}
use Rattle.itch_book.proofs.PageLemmas.{rewritten_paged, put_some, known_counts}
use Rattle.itch_book.proofs.table.pages.Pages.set.Goals as goal

pub invariant_of-self : goal.invariant_of-self
invariant_of-self g c =
    let n = c.args.key / 128 in let o = c.args.key % 128 in let small : o < 128 = omega arith in
    let there : place_at c.self.inside.directory.items n ≡ Some c.unwrap-place.result = ap (λ (t : List (Option ℕ)). place_at t n) (sym c.deref.ensures.value) ∙ sym c.place_at.ensures ∙ c.unwrap-place.ensures in
    let page = c.index_mut-page.result.now in let link = c.to.result in let was = get_or page.links o None in
    let new : Page = record { live = page.live; number = page.number; links = set page.links o link } in
    let one = known_counts _ _ c.self.invariant c.args.key c.unwrap-place.result there page c.index_mut-page.ensures.value (subst (λ t. IsSome (link_at t c.args.key)) (sym c.self.view_is) c.requires.known) in
    let other : one_if link ≡ 1 = ap one_if c.to.ensures in
    let sum : page.live + one_if was ≡ page.live + one_if link = omega arith in
    rewritten_paged _ _ c.self.invariant n _ there page c.index_mut-page.ensures.value o link was page.live new small refl refl sum
    (put_some _ _ c.self.invariant n _ there page c.index_mut-page.ensures.value o link was page.live new small refl refl sum c.args.link c.to.ensures)
