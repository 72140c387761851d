-- Stocks that are looked up by their names.
use Rattle.std.proofs.Common.{map, ◌≡◌, ℕ, suc, Bool, true, false, cond, not, length, bytes_eq, ◌==◌, ◌&&◌, ◌||◌, inl, List, [], ◌∷◌, ◌++◌, Option, None, Some, is_some, Ok, Err, refl, sym, ap, ap₂, subst, ◌∙◌, append_assoc, append-nil, arith}
use Rattle.std.specs.List.{filter, list_all, list_any}
use Rattle.std.specs.Ordering.{nat_cmp, eq_by_cmp}
use Rattle.std.specs.FinMap as finite
use Rattle.std.proofs.lemmas.Bool.Decides.{nat_tests}
use Rattle.std.proofs.lemmas.List.Elements.{filter_agree}
use Rattle.std.proofs.lemmas.Slice.Eq.{bytes_eq-Decides}
use Rattle.std.proofs.lemmas.List.Folds.{list_any-append}
use Rattle.itch_book.proofs.Lists.{by_test}
use Rattle.itch_codec.specs.Text.{before_spaces}
use Rattle.itch_market.specs.Content.{Listing, Securities}
use Rattle.itch_market.specs.Wanted.{Wanted, has}
use Rattle.itch_commands.specs.Lookup.{Names, has_come}
use Rattle.itch_commands.specs.Stocks.{names_of, with_first, is_named, has_stock, has_one_of, are_known, passed_at, FindsStocks}
use Rattle.itch_commands.specs.declared.fault.ToolFault.TheVariants as tool
use Rattle.itch_commands.proofs.LocateLists.{Lacks}

-- a text without a comma is one name
pub one_name : (text : List ℕ) → Lacks 44 text → names_of text ≡ text ∷ []
one_name [] lacks = refl
one_name (x ∷ xs) lacks =
    let off : (x == 44) ≡ false = let differs = lacks 0 (omega arith) in grind (arith, nat_tests) in
    ap (λ b. cond b ([] ∷ names_of xs) (with_first x (names_of xs))) off ∙ ap (with_first x) (one_name xs (λ i less. lacks (suc i) (omega arith)))

-- a text with a comma is the name before the first comma, and the names after it
pub first_name : (first more : List ℕ) → Lacks 44 first → names_of (first ++ 44 ∷ more) ≡ first ∷ names_of more
first_name [] more lacks = refl
first_name (x ∷ xs) more lacks =
    let off : (x == 44) ≡ false = let differs = lacks 0 (omega arith) in grind (arith, nat_tests) in
    ap (λ b. cond b ([] ∷ names_of (xs ++ 44 ∷ more)) (with_first x (names_of (xs ++ 44 ∷ more)))) off
    ∙ ap (with_first x) (first_name xs more (λ i less. lacks (suc i) (omega arith)))

-- a number among others
key_test : (q k : ℕ) → eq_by_cmp nat_cmp q k ≡ (q == k)
key_test q k = grind (arith, nat_tests)

at_its_place : (f : ℕ → Bool) (l k : ℕ) → ((l == k) && f k) ≡ ((l == k) && f l)
at_its_place f l k = by_test (l == k)
    (λ same. let e : l ≡ k = grind (arith, nat_tests) in ap (λ n. (l == k) && f n) (sym e))
    (λ off. ap (λ b. b && f k) off ∙ sym (ap (λ b. b && f l) off))

split_and : (a b c : Bool) → ((a && c) || (b && c)) ≡ ((a || b) && c)
split_and true true true = refl
split_and true true false = refl
split_and true false true = refl
split_and true false false = refl
split_and false b c = refl

any_at : (f : ℕ → Bool) (l : ℕ) (ks : List ℕ) → list_any (λ k. (l == k) && f k) ks ≡ (list_any (eq_by_cmp nat_cmp l) ks && f l)
any_at f l [] = refl
any_at f l (k ∷ ks) =
    ap₂ ◌||◌ (at_its_place f l k) (any_at f l ks) ∙ split_and (l == k) (list_any (eq_by_cmp nat_cmp l) ks) (f l)
    ∙ ap (λ b. (b || list_any (eq_by_cmp nat_cmp l) ks) && f l) (sym (key_test l k))

-- a property of no name
none_of : (names : List (List ℕ)) → list_any (λ name. false) names ≡ false
none_of [] = refl
none_of (name ∷ names) = none_of names

pub any_agree : {X : Type 0} (p q : X → Bool) → ((x : X) → p x ≡ q x) → (xs : List X) → list_any p xs ≡ list_any q xs
any_agree p q same [] = refl
any_agree p q same (x ∷ xs) = ap₂ ◌||◌ (same x) (any_agree p q same xs)

-- a name is compared with a stock in either order
pub turned : (a b : List ℕ) → bytes_eq a b ≡ bytes_eq b a
turned [] [] = refl
turned [] (y ∷ ys) = refl
turned (x ∷ xs) [] = refl
turned (x ∷ xs) (y ∷ ys) = let e : (x == y) ≡ (y == x) = grind (arith, nat_tests) in ap₂ ◌&&◌ e (turned xs ys)

-- the tests of a stock that a locate has
pub one_at : (names : List (List ℕ)) (stock : List ℕ) → list_any (λ name. bytes_eq name stock) names ≡ list_any (λ name. bytes_eq stock name) names
one_at names stock = any_agree (λ name. bytes_eq name stock) (λ name. bytes_eq stock name) (λ name. turned name stock) names

pub others_at : (names : List (List ℕ)) (stock : List ℕ) → filter (λ name. not (bytes_eq name stock)) names ≡ filter (λ name. not (bytes_eq stock name)) names
others_at names stock = filter_agree (λ name. not (bytes_eq name stock)) (λ name. not (bytes_eq stock name)) (λ name. ap not (turned name stock)) names

all_kept : (names : List (List ℕ)) → filter (λ name. true) names ≡ names
all_kept [] = refl
all_kept (name ∷ names) = ap (λ ns. name ∷ ns) (all_kept names)

-- the same for names that are references
pub one_of_names : {X : Type 0} (text : X → List ℕ) (names : List X) (stock : List ℕ) → list_any (λ n. bytes_eq stock (text n)) names ≡ list_any (λ name. bytes_eq name stock) (map text names)
one_of_names text [] stock = refl
one_of_names text (n ∷ names) stock = ap₂ ◌||◌ (turned stock (text n)) (one_of_names text names stock)

none_come_yet : (f : List ℕ → Option Bool) (listed : List ℕ → Bool) → ((name : List ℕ) → f name ≡ cond (listed name) (Some false) None) → (name : List ℕ) → has_come (f name) ≡ false
none_come_yet f listed is name = ap has_come (is name) ∙ either (listed name) where
  either : (b : Bool) → has_come (cond b (Some false) None) ≡ false
  either true = refl
  either false = refl

pub marked_first : (f : List ℕ → Option Bool) (listed : List ℕ → Bool) → ((name : List ℕ) → f name ≡ cond (listed name) (Some false) None) → (name : List ℕ) → is_some (f name) ≡ listed name
marked_first f listed is name = ap is_some (is name) ∙ either (listed name) where
  either : (b : Bool) → is_some (cond b (Some false) None) ≡ b
  either true = refl
  either false = refl

-- one more name is marked
pub marked_more : (b a a' : Bool) → a ≡ a' → cond a (Some false) (cond b (Some false) None) ≡ cond (b || a') (Some false) None
marked_more true true a' same = refl
marked_more true false a' same = refl
marked_more false true a' same = ap (λ x. cond x (Some false) None) same
marked_more false false a' same = ap (λ x. cond x (Some false) None) same

-- at first all names are missing
pub missing_first : (f : List ℕ → Option Bool) (listed : List ℕ → Bool) (names : List (List ℕ)) → ((name : List ℕ) → f name ≡ cond (listed name) (Some false) None)
    → filter (λ name. not (has_come (f name))) names ≡ names
missing_first f listed names is = filter_agree (λ name. not (has_come (f name))) (λ name. true) (λ name. ap not (none_come_yet f listed is name)) names ∙ all_kept names

-- a locate of the directory has a stock
pub one_of_some : (listings : Securities) (locate : ℕ) (names : List (List ℕ)) (s : Listing) → finite.get listings locate ≡ Some s
    → list_any (λ name. bytes_eq name (before_spaces s.entry.stock)) names ≡ has_one_of listings names locate
one_of_some listings locate names s is =
    one_at names (before_spaces s.entry.stock) ∙ sym (any_agree (λ name. has_stock listings name locate) (λ name. bytes_eq (before_spaces s.entry.stock) name) (λ name. ap (is_named name) is) names)

pub others_of_some : (listings : Securities) (locate : ℕ) (names : List (List ℕ)) (s : Listing) → finite.get listings locate ≡ Some s
    → filter (λ name. not (bytes_eq name (before_spaces s.entry.stock))) names ≡ filter (λ name. not (has_stock listings name locate)) names
others_of_some listings locate names s is =
    others_at names (before_spaces s.entry.stock)
    ∙ sym (filter_agree (λ name. not (has_stock listings name locate)) (λ name. not (bytes_eq (before_spaces s.entry.stock) name)) (λ name. ap (λ o. not (is_named name o)) is) names)

-- another locate has none
pub one_of_none : (listings : Securities) (locate : ℕ) (names : List (List ℕ)) → finite.get listings locate ≡ None → has_one_of listings names locate ≡ false
one_of_none listings locate names is =
    any_agree (λ name. has_stock listings name locate) (λ name. false) (λ name. ap (is_named name) is) names ∙ none_of names

pub others_of_none : (listings : Securities) (locate : ℕ) (names : List (List ℕ)) → finite.get listings locate ≡ None
    → filter (λ name. not (has_stock listings name locate)) names ≡ names
others_of_none listings locate names is =
    filter_agree (λ name. not (has_stock listings name locate)) (λ name. true) (λ name. ap (λ o. not (is_named name o)) is) names ∙ all_kept names

or_false : (b : Bool) → (b || false) ≡ b
or_false true = refl
or_false false = refl

and_false : (b : Bool) → (b && false) ≡ false
and_false true = refl
and_false false = refl

and_true : (b : Bool) → (b && true) ≡ b
and_true true = refl
and_true false = refl

-- the elements that neither a list nor one more has
lacks_both : (p : List ℕ → Bool) (q : List ℕ → Bool) (r : List ℕ → Bool) → ((name : List ℕ) → r name ≡ (p name || (q name || false))) → (names : List (List ℕ))
    → filter (λ name. not (q name)) (filter (λ name. not (p name)) names) ≡ filter (λ name. not (r name)) names
lacks_both p q r both [] = refl
lacks_both p q r both (name ∷ names) =
    by_test (p name)
    (λ has. let e : r name ≡ true = both name ∙ ap (λ b. b || (q name || false)) has in simp (has, e) (lacks_both p q r both names))
    (λ lacks. let e : r name ≡ q name = both name ∙ ap (λ b. b || (q name || false)) lacks ∙ or_false (q name) in
    by_test (q name)
    (λ has. let f : r name ≡ true = e ∙ has in simp (lacks, has, f) (lacks_both p q r both names))
    (λ none. let f : r name ≡ false = e ∙ none in simp (lacks, none, f) (ap (λ ns. name ∷ ns) (lacks_both p q r both names))))

-- names, and those of them that are missing
abbrev pub named : List (List ℕ) → List (List ℕ) → Names
named names missing = record { names = names; missing = missing }

pub names_are : (ns ns' ms ms' : List (List ℕ)) → ns ≡ ns' → ms ≡ ms' → named ns ms ≡ named ns' ms'
names_are ns ns' ms ms' p q = ap (λ n. named n ms) p ∙ ap (λ m. named ns' m) q

-- a stock that equals none of the names
pub missing_same : (p : List ℕ → Bool) (names : List (List ℕ)) (stock : List ℕ) → list_any (λ name. bytes_eq name stock) names ≡ false
    → filter (λ name. not (bytes_eq name stock)) (filter (λ name. not (p name)) names) ≡ filter (λ name. not (p name)) names
missing_same p [] stock other = refl
missing_same p (name ∷ names) stock other =
    let here : bytes_eq name stock ≡ false = first_off (bytes_eq name stock) (list_any (λ n. bytes_eq n stock) names) other in
    let rest : list_any (λ n. bytes_eq n stock) names ≡ false = second_off (bytes_eq name stock) (list_any (λ n. bytes_eq n stock) names) other in
    by_test (p name)
    (λ has. simp has (missing_same p names stock rest))
    (λ lacks. simp (lacks, here) (ap (λ ns. name ∷ ns) (missing_same p names stock rest)))
  where
    first_off : (a b : Bool) → (a || b) ≡ false → a ≡ false
    first_off true b e = e
    first_off false b e = refl

    second_off : (a b : Bool) → (a || b) ≡ false → b ≡ false
    second_off true b e = absurd (cc)
    second_off false b e = e

pub all_in : {X Y : Type 0} (p : Y → Bool) (f : X → Y) (xs : List X) → list_all p (map f xs) ≡ list_all (λ x. p (f x)) xs
all_in p f [] = refl
all_in p f (x ∷ xs) = ap (λ b. p (f x) && b) (all_in p f xs)

-- the marks of the names once a stock has come
pub marked_on : (f g : List ℕ → Option Bool) (listed : List ℕ → Bool) (stock : List ℕ) → ((name : List ℕ) → g name ≡ cond (bytes_eq stock name) (Some true) (f name))
    → ((name : List ℕ) → is_some (f name) ≡ listed name) → is_some (f stock) ≡ true → (name : List ℕ) → is_some (g name) ≡ listed name
marked_on f g listed stock is marks found name = by_test (bytes_eq stock name)
    (λ same. let e : stock ≡ name = (bytes_eq-Decides stock name).0 same in
    ap is_some (is name ∙ ap (λ b. cond b (Some true) (f name)) same) ∙ sym (subst (λ n. listed n ≡ true) e (sym (marks stock) ∙ found)))
    (λ other. ap is_some (is name ∙ ap (λ b. cond b (Some true) (f name)) other) ∙ marks name)

pub come_on : (f g : List ℕ → Option Bool) (stock : List ℕ) → ((name : List ℕ) → g name ≡ cond (bytes_eq stock name) (Some true) (f name))
    → (name : List ℕ) → has_come (g name) ≡ (has_come (f name) || (bytes_eq name stock || false))
come_on f g stock is name = ap has_come (is name) ∙ by_cases (bytes_eq stock name) (bytes_eq name stock) (f name) (turned stock name) where
  by_cases : (a b : Bool) (o : Option Bool) → a ≡ b → has_come (cond a (Some true) o) ≡ (has_come o || (b || false))
  by_cases true true o same = sym (either (has_come o))
    where
      either : (b : Bool) → (b || (true || false)) ≡ true
      either true = refl
      either false = refl
  by_cases true false o same = absurd (cc)
  by_cases false true o same = absurd (cc)
  by_cases false false o same = sym (or_false (has_come o))

pub missing_on_mark : (f g : List ℕ → Option Bool) (stock : List ℕ) (names : List (List ℕ)) → ((name : List ℕ) → g name ≡ cond (bytes_eq stock name) (Some true) (f name))
    → filter (λ name. not (has_come (g name))) names ≡ filter (λ name. not (bytes_eq name stock)) (filter (λ name. not (has_come (f name))) names)
missing_on_mark f g stock names is =
    sym (lacks_both (λ name. has_come (f name)) (λ name. bytes_eq name stock) (λ name. has_come (g name)) (come_on f g stock is) names)

-- The locates of the directory so far: the names that none of them has are missing, and those of them that have one are in the set.
pub record StocksSoFar (listings : Securities) (names : List (List ℕ)) (seen left : List ℕ) (stocks : Names) (set : Wanted) : Type 0 where
  pub locates : finite.keys listings ≡ seen ++ left
  pub same : stocks.names ≡ names
  pub missing : stocks.missing ≡ filter (λ name. not (list_any (has_stock listings name) seen)) names
  pub members : (l : ℕ) → has set l ≡ list_any (λ k. (l == k) && has_one_of listings names k) seen

pub stocks_begun : (listings : Securities) (names : List (List ℕ)) (stocks : Names) (set : Wanted) → stocks ≡ record { names = names; missing = names }
    → ((l : ℕ) → has set l ≡ false) → StocksSoFar listings names [] (finite.keys listings) stocks set
stocks_begun listings names stocks set is empty =
    record { locates = refl; same = ap Names.names is; missing = ap Names.missing is ∙ sym (all_kept names); members = empty }

module _ (listings : Securities) (names : List (List ℕ)) (seen left : List ℕ) (locate : ℕ) (old : Names) (set : Wanted)
    (so_far : StocksSoFar listings names seen (locate ∷ left) old set) where
  seen_on : finite.keys listings ≡ (seen ++ locate ∷ []) ++ left
  seen_on = so_far.locates ∙ sym (append_assoc seen (locate ∷ []) left)

  missing_on : (new : Names) → new ≡ passed_at listings locate old → new.missing ≡ filter (λ name. not (list_any (has_stock listings name) (seen ++ locate ∷ []))) names
  missing_on new is =
      ap Names.missing is ∙ ap (filter (λ name. not (has_stock listings name locate))) so_far.missing
      ∙ lacks_both (λ name. list_any (has_stock listings name) seen) (λ name. has_stock listings name locate) (λ name. list_any (has_stock listings name) (seen ++ locate ∷ []))
      (λ name. list_any-append (has_stock listings name) seen (locate ∷ [])) names

  any_on : (p : ℕ → Bool) → list_any p (seen ++ locate ∷ []) ≡ (list_any p seen || (p locate || false))
  any_on p = list_any-append p seen (locate ∷ [])

  -- another stock
  pub stock_passed : (new : Names) → new ≡ passed_at listings locate old → has_one_of listings old.names locate ≡ false → StocksSoFar listings names (seen ++ locate ∷ []) left new set
  stock_passed new is other = record {
    locates = seen_on;
    same = ap Names.names is ∙ so_far.same;
    missing = missing_on new is;
    members = λ l.
        let here = λ (k : ℕ). (l == k) && has_one_of listings names k in
        let none : here locate ≡ false = ap (λ b. (l == locate) && b) (ap (λ ns. has_one_of listings ns locate) (sym so_far.same) ∙ other) ∙ and_false (l == locate) in
        so_far.members l ∙ sym (any_on here ∙ ap (λ b. list_any here seen || (b || false)) none ∙ or_false (list_any here seen));
  }

  -- one of the stocks
  pub stock_added : (new : Names) (with : Wanted) → new ≡ passed_at listings locate old → has_one_of listings old.names locate ≡ true
      → ((other : ℕ) → has with other ≡ ((other == locate) || has set other)) → StocksSoFar listings names (seen ++ locate ∷ []) left new with
  stock_added new with is one added = record {
    locates = seen_on;
    same = ap Names.names is ∙ so_far.same;
    missing = missing_on new is;
    members = λ l.
        let here = λ (k : ℕ). (l == k) && has_one_of listings names k in
        let at : here locate ≡ (l == locate) = ap (λ b. (l == locate) && b) (ap (λ ns. has_one_of listings ns locate) (sym so_far.same) ∙ one) ∙ and_true (l == locate) in
        added l ∙ ap (λ b. (l == locate) || b) (so_far.members l) ∙ either_way (l == locate) (list_any here seen)
        ∙ ap (λ b. list_any here seen || (b || false)) (sym at) ∙ sym (any_on here);
  } where
    either_way : (a b : Bool) → (a || b) ≡ (b || (a || false))
    either_way true true = refl
    either_way true false = refl
    either_way false true = refl
    either_way false false = refl

pub none_left : (p : List ℕ → Bool) (names : List (List ℕ)) → (length (filter (λ name. not (p name)) names) == 0) ≡ list_all p names
none_left p [] = refl
none_left p (name ∷ names) =
    by_test (p name)
    (λ has. simp has (none_left p names))
    (λ lacks. simp lacks (grind (arith, nat_tests)))

-- a locate without an entry has none of the stocks
listed_one : (names : List (List ℕ)) (s : Option Listing) → (is_some s && list_any (λ name. is_named name s) names) ≡ list_any (λ name. is_named name s) names
listed_one names None = sym (none_of names)
listed_one names (Some s) = refl

module _ (listings : Securities) (names : List (List ℕ)) (seen left : List ℕ) (stocks : Names) (set : Wanted)
    (so_far : StocksSoFar listings names seen left stocks set) (none : left ≡ []) where
  all_seen : finite.keys listings ≡ seen
  all_seen = so_far.locates ∙ ap (λ ls. seen ++ ls) none ∙ append-nil seen

  known_is : (length stocks.missing == 0) ≡ are_known listings names
  known_is =
      ap (λ ns. length ns == 0) so_far.missing ∙ none_left (λ name. list_any (has_stock listings name) seen) names
      ∙ ap (λ ks. list_all (λ name. list_any (has_stock listings name) ks) names) (sym all_seen)

  pub stocks_found : (length stocks.missing == 0) ≡ true → FindsStocks listings names (Ok set)
  stocks_found is = (
    sym known_is ∙ is,
    λ l.
        let here = λ (k : ℕ). (l == k) && has_one_of listings names k in
        so_far.members l ∙ ap (list_any here) (sym all_seen)
        ∙ any_at (has_one_of listings names) l (finite.keys listings)
        ∙ ap (λ b. b && has_one_of listings names l) (sym (finite.contains_key-keys listings l))
        ∙ listed_one names (finite.get listings l),
  )

  pub stock_missing : (length stocks.missing == 0) ≡ false → FindsStocks listings names (Err tool.UnknownStock)
  stock_missing is = inl (refl, sym known_is ∙ is)
