use Rattle.std.proofs.Common.{◌≡◌, ℕ, ◌/◌, ◌%◌, ◌<◌, List, Option, Some, None, set, get_or, eqb, sym, ap, ◌∙◌, subst, arith}
use Rattle.std.specs.Map.{update}
use Rattle.itch_book.specs.Pages.{place_at, links_of, link_at, IsPaged}
use Rattle.itch_book.specs.declared.table.pages.Page.{Page}
use Rattle.itch_book.proofs.PageLemmas.{own_offset, own_live, rewritten_paged, closed_paged, emptied_link}
use Rattle.itch_book.proofs.table.pages.Pages.remove.Goals as goal

pub write-was-requires-clause-offset : goal.write-was-requires-clause-offset
write-was-requires-clause-offset g c =
    let n = c.args.key / 128 in
    let there : place_at c.self.inside.directory.items n ≡ Some c.in-Some.place = ap (λ (t : List (Option ℕ)). place_at t n) (sym c.deref.ensures.value) ∙ sym c.place_at.ensures ∙ c.in-Some.is in
    own_offset _ _ c.self.invariant n _ there c.index_mut-page.result.now c.index_mut-page.ensures.value (c.args.key % 128) (omega arith)

pub write-was-requires-clause-live : goal.write-was-requires-clause-live
write-was-requires-clause-live g c =
    let n = c.args.key / 128 in
    let there : place_at c.self.inside.directory.items n ≡ Some c.in-Some.place = ap (λ (t : List (Option ℕ)). place_at t n) (sym c.deref.ensures.value) ∙ sym c.place_at.ensures ∙ c.in-Some.is in
    own_live _ _ c.self.invariant n _ there c.index_mut-page.result.now c.index_mut-page.ensures.value

pub invariant_of-self : goal.invariant_of-self
invariant_of-self g c =
    let n = c.args.key / 128 in
    let there : place_at c.self.inside.directory.items n ≡ Some c.in-Some.place = ap (λ (t : List (Option ℕ)). place_at t n) (sym c.deref.ensures.value) ∙ sym c.place_at.ensures ∙ c.in-Some.is in
    let last : Page = record { live = c.write-was.new.page.live; number = c.self.inside.free; links = c.write-was.new.page.links } in
    subst (λ (x : Option ℕ). IsPaged (set c.self.inside.directory.items n x) (set c.self.inside.pages.items c.in-Some.place last)) (sym c.none-then-live-eq0.ensures)
    (closed_paged _ _ c.self.invariant n c.in-Some.place there last)

pub invariant_of-self-else-live-eq0 : goal.invariant_of-self-else-live-eq0
invariant_of-self-else-live-eq0 g c =
    let n = c.args.key / 128 in let o = c.args.key % 128 in let small : o < 128 = omega arith in
    let there : place_at c.self.inside.directory.items n ≡ Some c.in-Some.place = ap (λ (t : List (Option ℕ)). place_at t n) (sym c.deref.ensures.value) ∙ sym c.place_at.ensures ∙ c.in-Some.is in
    let page = c.index_mut-page.result.now in let was = c.write-was.result.0 in let live = c.write-was.result.1 in
    let some : 0 < live = omega (arith, c.if-live-eq0.false) in
    rewritten_paged _ _ c.self.invariant n _ there page c.index_mut-page.ensures.value o c.none.result was live c.write-was.new.page small c.write-was.ensures.was c.write-was.ensures.page c.write-was.ensures.live some

pub returns-then-live-eq0-clause-updates : goal.returns-then-live-eq0-clause-updates
returns-then-live-eq0-clause-updates g c q =
    let n = c.args.key / 128 in
    let there : place_at c.self.inside.directory.items n ≡ Some c.in-Some.place = ap (λ (t : List (Option ℕ)). place_at t n) (sym c.deref.ensures.value) ∙ sym c.place_at.ensures ∙ c.in-Some.is in
    let page = c.index_mut-page.result.now in let was = c.write-was.result.0 in let live = c.write-was.result.1 in
    let last : Page = record { live = c.write-was.new.page.live; number = c.self.inside.free; links = c.write-was.new.page.links } in
    ap (λ (x : Option ℕ). get_or (links_of (set c.self.inside.pages.items c.in-Some.place last) (place_at (set c.self.inside.directory.items n x) (q / 128))) (q % 128) None) c.none-then-live-eq0.ensures
    ∙ emptied_link _ _ c.self.invariant c.args.key c.in-Some.place there page c.index_mut-page.ensures.value c.none.result was live c.write-was.new.page c.write-was.ensures.was c.write-was.ensures.page c.write-was.ensures.live last c.none.ensures c.if-live-eq0.true q
    ∙ ap (λ t. update eqb (link_at t) c.args.key None q) c.self.view_is
