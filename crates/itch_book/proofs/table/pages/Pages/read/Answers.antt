use Rattle.std.proofs.Common.{◌≡◌, ℕ, ◌/◌, ◌%◌, List, Option, Some, sym, ap, ◌∙◌, arith}
use Rattle.itch_book.specs.Pages.{place_at}
use Rattle.itch_book.proofs.PageLemmas.{own_offset}
use Rattle.itch_book.proofs.table.pages.Pages.read.Goals as goal

pub link_of-requires : goal.link_of-requires
link_of-requires g c =
    let n = c.args.key / 128 in
    let there : place_at c.self.inside.directory.items n ≡ Some c.in-Some.place = ap (λ (t : List (Option ℕ)). place_at t n) (sym c.deref.ensures.value) ∙ sym c.place_at.ensures ∙ c.in-Some.is in
    own_offset _ _ c.self.invariant n c.in-Some.place there c.index-page.result.now c.index-page.ensures (c.args.key % 128) (omega arith)
