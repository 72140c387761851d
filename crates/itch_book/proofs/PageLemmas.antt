-- Pages after writing a link, opening a page, or closing a page.
use Rattle.std.proofs.Common.{◌≡◌, ℕ, ◌+◌, ◌/◌, ◌%◌, ◌<◌, ◌≤◌, true, false, cond, eqb, List, [], length, set, get_or, replicate, ◌⊎◌, Option, Some, None, IsSome, is_some, refl, sym, ap, ◌∙◌, subst, arith, inl, inr, Result, Ok, Err, OnErr}
use Rattle.std.specs.List.{count_by}
use Rattle.std.proofs.lemmas.Bool.{false≢true, cases_lt}
use Rattle.std.proofs.lemmas.List.{get_or_past, get_or_default, get_or-replicate, length-set}
use Rattle.itch_book.specs.declared.table.pages.Page.{Page}
use Rattle.itch_book.specs.Pages.{no_page, page_at, place_at, links_of, one_if, IsPage, IsPaged, IsOpened}
use Rattle.itch_book.proofs.Lists.{by_test}
use Rattle.itch_book.proofs.LinkLemmas.{eqb_itself, eqb_is}
use Rattle.itch_book.proofs.PageReads.{set_read, at_key_written, count_set, none_counted}

-- a page after one link was written
abbrev pub written : Page → ℕ → Option ℕ → ℕ → ℕ → Page
written page o link live number = record { live = live; number = number; links = set page.links o link }

one_place : (p q : ℕ) → Some p ≡ Some q → p ≡ q
one_place p q h = cc

module _ (directory : List (Option ℕ)) (pages : List Page) (is : IsPaged directory pages) (n p : ℕ) (there : place_at directory n ≡ Some p) where
  pub inside : p < length pages
  inside = is.inside n p there

  -- the page of another number is at another place
  other_place : (m q : ℕ) → eqb n m ≡ false → place_at directory m ≡ Some q → eqb p q ≡ false
  other_place m q h e =
      by_test (eqb p q)
      (λ same. let one : m ≡ n = sym (is.page m q e).number ∙ ap (λ i. (page_at pages i).number) (sym (eqb_is p q same)) ∙ (is.page n p there).number in
      absurd (false≢true (sym h ∙ subst (λ i. eqb n i ≡ true) (sym one) (eqb_itself n))))
      (λ apart. apart)

  -- the pages of other numbers do not change when one page is written
  pub kept_page : (page : Page) (m q : ℕ) → eqb n m ≡ false → place_at directory m ≡ Some q → page_at (set pages p page) q ≡ page_at pages q
  kept_page page m q h e = set_read pages p q page no_page inside ∙ ap (λ b. cond b page (page_at pages q)) (other_place m q h e)

  pub new_page : (page : Page) → page_at (set pages p page) p ≡ page
  new_page page = set_read pages p p page no_page inside ∙ ap (λ b. cond b page (page_at pages p)) (eqb_itself p)

  pub kept_links : (page : Page) (m : ℕ) → eqb n m ≡ false → links_of (set pages p page) (place_at directory m) ≡ links_of pages (place_at directory m)
  kept_links page m h = by (place_at directory m) refl
    where
      by : (o : Option ℕ) → place_at directory m ≡ o → links_of (set pages p page) o ≡ links_of pages o
      by None e = refl
      by (Some q) e = ap (λ (t : Page). t.links) (kept_page page m q h e)

-- the pages after one link was written
module _ (directory : List (Option ℕ)) (pages : List Page) (is : IsPaged directory pages) (n p : ℕ) (there : place_at directory n ≡ Some p) (o : ℕ) (link was : Option ℕ) (live : ℕ) (small : o < 128)
    (was_is : was ≡ get_or (page_at pages p).links o None) (sum : live + one_if was ≡ (page_at pages p).live + one_if link) where
  pub counted : live ≡ count_by is_some (set (page_at pages p).links o link)
  counted =
      let old = is.page n p there in
      let size = old.size in
      let c = count_set (page_at pages p).links o link (omega arith) in
      let w : one_if was ≡ one_if (get_or (page_at pages p).links o None) = ap one_if was_is in
      let l = old.live in omega arith

  pub written_paged : 0 < live → IsPaged directory (set pages p (written (page_at pages p) o link live (page_at pages p).number))
  written_paged some =
      let page : Page = written (page_at pages p) o link live (page_at pages p).number in
      let old = is.page n p there in
      let long = length-set pages p page in
      let this : IsPage n page = record { size = length-set (page_at pages p).links o link ∙ old.size; live = counted; number = old.number; busy = some } in
      record {
        few = let few = is.few in omega arith;
        inside = λ m q h. let i = is.inside m q h in omega arith;
        page = λ m q h. by_test (eqb n m)
            (λ e. let same : p ≡ q = one_place p q (sym there ∙ subst (λ i. place_at directory i ≡ Some q) (sym (eqb_is n m e)) h) in
            subst (λ i. IsPage m (page_at (set pages p page) i)) same (subst (λ (t : Page). IsPage m t) (sym (new_page directory pages is n p there page)) (subst (λ i. IsPage i page) (eqb_is n m e) this)))
            (λ e. subst (λ (t : Page). IsPage m t) (sym (kept_page directory pages is n p there page m q e h)) (is.page m q h));
      }

-- the links of keys after a write
pub written_link : (directory : List (Option ℕ)) (pages : List Page) (is : IsPaged directory pages) (key p : ℕ) (there : place_at directory (key / 128) ≡ Some p) (link : Option ℕ) (page : Page)
    → page.links ≡ set (page_at pages p).links (key % 128) link
    → (k : ℕ) → get_or (links_of (set pages p page) (place_at directory (k / 128))) (k % 128) None ≡ cond (eqb key k) link (get_or (links_of pages (place_at directory (k / 128))) (k % 128) None)
written_link directory pages is key p there link page links k =
    let size = (is.page (key / 128) p there).size in
    let small : key % 128 < length (page_at pages p).links = omega arith in
    at_key_written (λ m. links_of pages (place_at directory m)) (λ m. links_of (set pages p page) (place_at directory m)) key link
    (λ j h. ap (λ (xs : List (Option ℕ)). get_or xs j None) (ap (links_of (set pages p page)) there ∙ ap (λ (t : Page). t.links) (new_page directory pages is (key / 128) p there page) ∙ links)
    ∙ set_read (page_at pages p).links (key % 128) j link None small
    ∙ ap (λ (xs : List (Option ℕ)). cond (eqb (key % 128) j) link (get_or xs j None)) (sym (ap (links_of pages) there)))
    (λ m h. kept_links directory pages is (key / 128) p there page m h)
    k

-- a number that has a page is within the directory
pub reached : (directory : List (Option ℕ)) (n p : ℕ) → place_at directory n ≡ Some p → n < length directory
reached directory n p h = by_cases (cases_lt n (length directory))
  where
    by_cases : (n < length directory) ⊎ (length directory ≤ n) → n < length directory
    by_cases (inl within) = within
    by_cases (inr past) = absurd (let no : None ≡ Some p = sym (get_or_past directory n None past) ∙ h in let no_one : ⊥ = cc in no_one)

-- a page without links is removed from the directory
module _ (directory : List (Option ℕ)) (pages : List Page) (is : IsPaged directory pages) (n p : ℕ) (there : place_at directory n ≡ Some p) (page : Page) where
  cut_place : (m : ℕ) → place_at (set directory n None) m ≡ cond (eqb n m) None (place_at directory m)
  cut_place m = set_read directory n m None None (reached directory n p there)

  kept_place : (m : ℕ) → eqb n m ≡ false → place_at (set directory n None) m ≡ place_at directory m
  kept_place m e = cut_place m ∙ ap (λ b. cond b None (place_at directory m)) e

  no_place : place_at (set directory n None) n ≡ None
  no_place = cut_place n ∙ ap (λ b. cond b None (place_at directory n)) (eqb_itself n)

  still_apart : (m q : ℕ) → place_at (set directory n None) m ≡ Some q → eqb n m ≡ false
  still_apart m q h = by_test (eqb n m)
      (λ e. absurd (let no : None ≡ Some q = sym (ap (λ b. cond b None (place_at directory m)) e) ∙ sym (cut_place m) ∙ h in let no_one : ⊥ = cc in no_one))
      (λ e. e)

  pub closed_paged : IsPaged (set directory n None) (set pages p page)
  closed_paged = record {
    few = let few = is.few in let long = length-set pages p page in omega arith;
    inside = λ m q h. let i = is.inside m q (sym (kept_place m (still_apart m q h)) ∙ h) in let long = length-set pages p page in omega arith;
    page = λ m q h. let e = still_apart m q h in let was = sym (kept_place m e) ∙ h in
        subst (λ (t : Page). IsPage m t) (sym (kept_page directory pages is n p there page m q e was)) (is.page m q was);
  }

  pub closed_links : (m : ℕ) → eqb n m ≡ false → links_of (set pages p page) (place_at (set directory n None) m) ≡ links_of pages (place_at directory m)
  closed_links m e = ap (links_of (set pages p page)) (kept_place m e) ∙ kept_links directory pages is n p there page m e

  pub closed_empty : links_of (set pages p page) (place_at (set directory n None) n) ≡ []
  closed_empty = ap (links_of (set pages p page)) no_place

pub closed_link : (directory : List (Option ℕ)) (pages : List Page) (is : IsPaged directory pages) (key p : ℕ) (there : place_at directory (key / 128) ≡ Some p) (page : Page)
    → count_by is_some (set (page_at pages p).links (key % 128) None) ≡ 0
    → (k : ℕ) → get_or (links_of (set pages p page) (place_at (set directory (key / 128) None) (k / 128))) (k % 128) None ≡ cond (eqb key k) None (get_or (links_of pages (place_at directory (k / 128))) (k % 128) None)
closed_link directory pages is key p there page none k =
    let size = (is.page (key / 128) p there).size in
    let small : key % 128 < length (page_at pages p).links = omega arith in
    at_key_written (λ m. links_of pages (place_at directory m)) (λ m. links_of (set pages p page) (place_at (set directory (key / 128) None) m)) key None
    (λ j h. ap (λ (xs : List (Option ℕ)). get_or xs j None) (closed_empty directory pages is (key / 128) p there page)
    ∙ sym (none_counted (set (page_at pages p).links (key % 128) None) j none)
    ∙ set_read (page_at pages p).links (key % 128) j None None small
    ∙ ap (λ (xs : List (Option ℕ)). cond (eqb (key % 128) j) None (get_or xs j None)) (sym (ap (links_of pages) there)))
    (λ m h. closed_links directory pages is (key / 128) p there page m h)
    k

-- a directory with the same entries
pub moved_paged : (directory further : List (Option ℕ)) (pages : List Page) → IsPaged directory pages → ((n : ℕ) → place_at further n ≡ place_at directory n) → IsPaged further pages
moved_paged directory further pages is same = record {
  few = is.few;
  inside = λ m q h. is.inside m q (sym (same m) ∙ h);
  page = λ m q h. is.page m q (sym (same m) ∙ h);
}

-- opening a page
module _ (directory further : List (Option ℕ)) (old new : List Page) (is : IsPaged directory old) (same : (n : ℕ) → place_at further n ≡ place_at directory n) (n p : ℕ) (page : Page)
    (none : place_at directory n ≡ None) (reach : n < length further) (opened : IsOpened old p page new) where
  put_place : (m : ℕ) → place_at (set further n (Some p)) m ≡ cond (eqb n m) (Some p) (place_at directory m)
  put_place m = set_read further n m (Some p) None reach ∙ ap (cond (eqb n m) (Some p)) (same m)

  left_place : (m : ℕ) → eqb n m ≡ false → place_at (set further n (Some p)) m ≡ place_at directory m
  left_place m e = put_place m ∙ ap (λ b. cond b (Some p) (place_at directory m)) e

  pub own_place : place_at (set further n (Some p)) n ≡ Some p
  own_place = put_place n ∙ ap (λ b. cond b (Some p) (place_at directory n)) (eqb_itself n)

  pub own_page : page_at new p ≡ page
  own_page = opened.pages p ∙ ap (λ b. cond b page (page_at old p)) (eqb_itself p)

  -- a page with links is another one
  used_place : (m q : ℕ) → place_at directory m ≡ Some q → page_at new q ≡ page_at old q
  used_place m q h = opened.pages q ∙ ap (λ b. cond b page (page_at old q))
      (by_test (eqb p q) (λ e. absurd (let busy = (is.page m q h).busy in let vacant : (page_at old q).live ≡ 0 = subst (λ i. (page_at old i).live ≡ 0) (eqb_is p q e) opened.vacant in omega arith)) (λ e. e))

  pub opened_paged : IsPage n page → IsPaged (set further n (Some p)) new
  opened_paged this = record {
    few = opened.few;
    inside = λ m q h. by_test (eqb n m)
        (λ e. let here : p ≡ q = one_place p q (sym (ap (λ b. cond b (Some p) (place_at directory m)) e) ∙ sym (put_place m) ∙ h) in subst (λ i. i < length new) here opened.inside)
        (λ e. let i = is.inside m q (sym (left_place m e) ∙ h) in let l = opened.longer in omega arith);
    page = λ m q h. by_test (eqb n m)
        (λ e. let here : p ≡ q = one_place p q (sym (ap (λ b. cond b (Some p) (place_at directory m)) e) ∙ sym (put_place m) ∙ h) in
        subst (λ i. IsPage m (page_at new i)) here (subst (λ (t : Page). IsPage m t) (sym own_page) (subst (λ i. IsPage i page) (eqb_is n m e) this)))
        (λ e. let was = sym (left_place m e) ∙ h in subst (λ (t : Page). IsPage m t) (sym (used_place m q was)) (is.page m q was));
  }

  pub opened_links : (m : ℕ) → eqb n m ≡ false → links_of new (place_at (set further n (Some p)) m) ≡ links_of old (place_at directory m)
  opened_links m e = ap (links_of new) (left_place m e) ∙ by (place_at directory m) refl
    where
      by : (o : Option ℕ) → place_at directory m ≡ o → links_of new o ≡ links_of old o
      by None h = refl
      by (Some q) h = ap (λ (t : Page). t.links) (used_place m q h)

-- a new page with its number
pub fresh_page : (n o link : ℕ) (page : Page) → o < 128 → page.number ≡ n → page.links ≡ set (replicate 128 None) o (Some link) → page.live ≡ 1 → IsPage n page
fresh_page n o link page small number links live = record {
  size = ap (λ (xs : List (Option ℕ)). length xs) links ∙ length-set (replicate 128 None) o (Some link);
  live =
      let c = count_set (replicate 128 None) o (Some link) small in
      let r : one_if (get_or (replicate 128 None) o None) ≡ 0 = ap one_if (get_or-replicate 128 o None None small) in
      let nothing : Option ℕ = None in let s : count_by is_some (replicate 128 nothing) ≡ 0 = refl in
      let t : count_by is_some page.links ≡ count_by is_some (set (replicate 128 None) o (Some link)) = ap (count_by is_some) links in omega arith;
  number = number;
  busy = omega arith;
}

pub opened_link : (directory further : List (Option ℕ)) (old new : List Page) (is : IsPaged directory old) (same : (n : ℕ) → place_at further n ≡ place_at directory n) (key p link : ℕ) (page : Page)
    → place_at directory (key / 128) ≡ None → key / 128 < length further → IsOpened old p page new → page.links ≡ set (replicate 128 None) (key % 128) (Some link)
    → (k : ℕ) → get_or (links_of new (place_at (set further (key / 128) (Some p)) (k / 128))) (k % 128) None ≡ cond (eqb key k) (Some link) (get_or (links_of old (place_at directory (k / 128))) (k % 128) None)
opened_link directory further old new is same key p link page none reach opened links k =
    let small : key % 128 < 128 = omega arith in
    at_key_written (λ m. links_of old (place_at directory m)) (λ m. links_of new (place_at (set further (key / 128) (Some p)) m)) key (Some link)
    (λ j h. ap (λ (xs : List (Option ℕ)). get_or xs j None)
    (ap (links_of new) (own_place directory further old new is same (key / 128) p page none reach opened) ∙ ap (λ (t : Page). t.links) (own_page directory further old new is same (key / 128) p page none reach opened) ∙ links)
    ∙ set_read (replicate 128 None) (key % 128) j (Some link) None small
    ∙ ap (cond (eqb (key % 128) j) (Some link)) (get_or-replicate 128 j None None h ∙ ap (λ (xs : List (Option ℕ)). get_or xs j None) (sym (ap (links_of old) none))))
    (λ m h. opened_links directory further old new is same (key / 128) p page none reach opened m h)
    k

-- reading a page, and then writing it
module _ (directory : List (Option ℕ)) (pages : List Page) (is : IsPaged directory pages) (n p : ℕ) (there : place_at directory n ≡ Some p) (page : Page) (read : page ≡ get_or pages p page) where
  own : page ≡ page_at pages p
  own = read ∙ get_or_default pages p page no_page (inside directory pages is n p there)

  own_is : IsPage n page
  own_is = subst (λ (t : Page). IsPage n t) (sym own) (is.page n p there)

  pub own_offset : (o : ℕ) → o < 128 → o < length page.links
  own_offset o h = let size = own_is.size in omega arith

  pub own_live : page.live ≡ count_by is_some page.links
  own_live = own_is.live

  module _ (o : ℕ) (link was : Option ℕ) (live : ℕ) (new : Page) (small : o < 128) (was_is : was ≡ get_or page.links o None) (new_is : new ≡ written page o link live page.number)
      (sum : live + one_if was ≡ page.live + one_if link) where
    links_is : new.links ≡ set (page_at pages p).links o link
    links_is = ap (λ (t : Page). t.links) new_is ∙ ap (λ (t : Page). set t.links o link) own

    first_links : was ≡ get_or (page_at pages p).links o None
    first_links = was_is ∙ ap (λ (t : Page). get_or t.links o None) own

    first_sum : live + one_if was ≡ (page_at pages p).live + one_if link
    first_sum = sum ∙ ap (λ (t : Page). t.live + one_if link) own

    pub rewritten_paged : 0 < live → IsPaged directory (set pages p new)
    rewritten_paged some =
        subst (λ (t : Page). IsPaged directory (set pages p t)) (sym (new_is ∙ ap (λ (t : Page). written t o link live t.number) own))
        (written_paged directory pages is n p there o link was live small first_links first_sum some)

    -- a page is not empty after a link was inserted
    pub put_some : (x : ℕ) → link ≡ Some x → 0 < live
    put_some x e = let busy = own_is.busy in let one = ap one_if e in let few = one_or_none was in omega arith
      where
        one_or_none : (w : Option ℕ) → one_if w ≤ 1
        one_or_none None = omega arith
        one_or_none (Some y) = omega arith

    pub none_left : live ≡ 0 → count_by is_some (set (page_at pages p).links o link) ≡ 0
    none_left e = sym (counted directory pages is n p there o link was live small first_links first_sum) ∙ e

-- the links of keys after a link was written, and after a page was closed
module _ (directory : List (Option ℕ)) (pages : List Page) (is : IsPaged directory pages) (key p : ℕ) (there : place_at directory (key / 128) ≡ Some p) (page : Page) (read : page ≡ get_or pages p page)
    (link was : Option ℕ) (live : ℕ) (new : Page) (was_is : was ≡ get_or page.links (key % 128) None) (new_is : new ≡ written page (key % 128) link live page.number) (sum : live + one_if was ≡ page.live + one_if link) where
  pub rewritten_link : (k : ℕ) → get_or (links_of (set pages p new) (place_at directory (k / 128))) (k % 128) None ≡ cond (eqb key k) link (get_or (links_of pages (place_at directory (k / 128))) (k % 128) None)
  rewritten_link k = let small : key % 128 < 128 = omega arith in
      written_link directory pages is key p there link new (links_is directory pages is (key / 128) p there page read (key % 128) link was live new small was_is new_is sum) k

  pub emptied_link : (last : Page) → link ≡ None → live ≡ 0
      → (k : ℕ) → get_or (links_of (set pages p last) (place_at (set directory (key / 128) None) (k / 128))) (k % 128) None ≡ cond (eqb key k) None (get_or (links_of pages (place_at directory (k / 128))) (k % 128) None)
  emptied_link last e gone k = let small : key % 128 < 128 = omega arith in
      closed_link directory pages is key p there last
      (ap (λ (x : Option ℕ). count_by is_some (set (page_at pages p).links (key % 128) x)) (sym e) ∙ none_left directory pages is (key / 128) p there page read (key % 128) link was live new small was_is new_is sum gone) k

one_known : (o : Option ℕ) → IsSome o → one_if o ≡ 1
one_known None h = absurd (let no_one : ⊥ = cc in no_one)
one_known (Some x) h = refl

-- a key that has a link has it in its page
pub known_counts : (directory : List (Option ℕ)) (pages : List Page) (is : IsPaged directory pages) (key p : ℕ) (there : place_at directory (key / 128) ≡ Some p) (page : Page) (read : page ≡ get_or pages p page)
    → IsSome (get_or (links_of pages (place_at directory (key / 128))) (key % 128) None) → one_if (get_or page.links (key % 128) None) ≡ 1
known_counts directory pages is key p there page read known =
    one_known (get_or page.links (key % 128) None)
    (subst (λ (o : Option ℕ). IsSome o)
    (ap (λ x. get_or (links_of pages x) (key % 128) None) there ∙ ap (λ (t : Page). get_or t.links (key % 128) None) (sym (own directory pages is (key / 128) p there page read))) known)

pub any_err : {T E : Type 0} {P : Type 0} (r : Result T E) → P → OnErr r P
any_err (Ok x) h = tt
any_err (Err e) h = h
