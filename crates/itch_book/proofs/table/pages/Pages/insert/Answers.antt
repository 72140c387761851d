use Rattle.std.proofs.Common.{◌≡◌, ℕ, ◌/◌, ◌%◌, ◌<◌, List, Option, Some, None, set, get_or, eqb, sym, ap, ◌∙◌, subst, arith}
use Rattle.std.specs.Map.{update}
use Rattle.itch_book.specs.Pages.{place_at, links_of, link_at, IsPaged}
use Rattle.itch_book.specs.declared.table.pages.Page.{Page}
use Rattle.itch_book.proofs.PageLemmas.{own_offset, own_live, rewritten_paged, put_some, moved_paged, opened_paged, opened_link, fresh_page, any_err}
use Rattle.itch_book.proofs.table.pages.Pages.insert.Goals as goal

pub write-requires-clause-offset : goal.write-requires-clause-offset
write-requires-clause-offset g c =
    let n = c.args.key / 128 in
    let there : place_at c.self.inside.directory.items n ≡ Some c.in-Some.place = ap (λ (t : List (Option ℕ)). place_at t n) (sym c.deref.ensures.value) ∙ sym c.place_at.ensures ∙ c.in-Some.is in
    own_offset _ _ c.self.invariant n _ there c.index_mut-page.result.now c.index_mut-page.ensures.value (c.args.key % 128) (omega arith)

pub write-requires-clause-live : goal.write-requires-clause-live
write-requires-clause-live g c =
    let n = c.args.key / 128 in
    let there : place_at c.self.inside.directory.items n ≡ Some c.in-Some.place = ap (λ (t : List (Option ℕ)). place_at t n) (sym c.deref.ensures.value) ∙ sym c.place_at.ensures ∙ c.in-Some.is in
    own_live _ _ c.self.invariant n _ there c.index_mut-page.result.now c.index_mut-page.ensures.value

pub invariant_of-self : goal.invariant_of-self
invariant_of-self g c =
    let n = c.args.key / 128 in let o = c.args.key % 128 in let small : o < 128 = omega arith in
    let there : place_at c.self.inside.directory.items n ≡ Some c.in-Some.place = ap (λ (t : List (Option ℕ)). place_at t n) (sym c.deref.ensures.value) ∙ sym c.place_at.ensures ∙ c.in-Some.is in
    let page = c.index_mut-page.result.now in let link = c.to.result in let was = c.write.result.0 in let live = c.write.result.1 in
    rewritten_paged _ _ c.self.invariant n _ there page c.index_mut-page.ensures.value o link was live c.write.new.page small c.write.ensures.was c.write.ensures.page c.write.ensures.live
    (put_some _ _ c.self.invariant n _ there page c.index_mut-page.ensures.value o link was live c.write.new.page small c.write.ensures.was c.write.ensures.page c.write.ensures.live c.args.link c.to.ensures)

pub invariant_of-self-in_err-reach : goal.invariant_of-self-in_err-reach
invariant_of-self-in_err-reach g c = moved_paged c.self.inside.directory.items c.reach.new.directory.items c.self.inside.pages.items c.self.invariant c.in_err-reach.ensures.places

pub invariant_of-self-in_err-place : goal.invariant_of-self-in_err-place
invariant_of-self-in_err-place g c =
    subst (λ (t : List Page). IsPaged c.reach.new.directory.items t) (sym c.in_err-place.ensures.err)
    (moved_paged c.self.inside.directory.items c.reach.new.directory.items c.self.inside.pages.items c.self.invariant c.in_ok-reach.ensures.places)

pub returns-in_err-place-clause-err : goal.returns-in_err-place-clause-err
returns-in_err-place-clause-err g c =
    any_err c.from_residual-in_err-place.result (λ q.
    ap (λ (t : List Page). get_or (links_of t (place_at c.reach.new.directory.items (q / 128))) (q % 128) None) c.in_err-place.ensures.err
    ∙ ap (λ (x : Option ℕ). get_or (links_of c.self.inside.pages.items x) (q % 128) None) (c.in_ok-reach.ensures.places (q / 128))
    ∙ ap (λ t. link_at t q) c.self.view_is)

pub invariant_of-self-2 : goal.invariant_of-self-2
invariant_of-self-2 g c =
    let n = c.args.key / 128 in let o = c.args.key % 128 in let small : o < 128 = omega arith in
    let none : place_at c.self.inside.directory.items n ≡ None = ap (λ (t : List (Option ℕ)). place_at t n) (sym c.deref.ensures.value) ∙ sym c.place_at.ensures ∙ c.in_default.is in
    subst (λ (x : Option ℕ). IsPaged (set c.reach.new.directory.items n x) c.open.new.pages.items) (sym c.to-2.ensures)
    (opened_paged c.self.inside.directory.items c.reach.new.directory.items c.self.inside.pages.items c.open.new.pages.items c.self.invariant c.in_ok-reach.ensures.places n c.in_ok-place.place c.page_of-page.result
    none c.in_ok-reach.ensures.ok c.in_ok-place.ensures.ok (fresh_page n o c.args.link c.page_of-page.result small c.page_of-page.ensures.number c.page_of-page.ensures.links c.page_of-page.ensures.live))

pub returns-clause-ok : goal.returns-clause-ok
returns-clause-ok g c q =
    let n = c.args.key / 128 in
    let none : place_at c.self.inside.directory.items n ≡ None = ap (λ (t : List (Option ℕ)). place_at t n) (sym c.deref.ensures.value) ∙ sym c.place_at.ensures ∙ c.in_default.is in
    ap (λ (x : Option ℕ). get_or (links_of c.open.new.pages.items (place_at (set c.reach.new.directory.items n x) (q / 128))) (q % 128) None) c.to-2.ensures
    ∙ opened_link c.self.inside.directory.items c.reach.new.directory.items c.self.inside.pages.items c.open.new.pages.items c.self.invariant c.in_ok-reach.ensures.places c.args.key c.in_ok-place.place c.args.link c.page_of-page.result
    none c.in_ok-reach.ensures.ok c.in_ok-place.ensures.ok c.page_of-page.ensures.links q
    ∙ ap (λ t. update eqb (link_at t) c.args.key (Some c.args.link) q) c.self.view_is
