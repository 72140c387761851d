-- The search for stocks after messages: the stock of each locate's last Stock Directory message, and the names that have not come.
use Rattle.std.proofs.Common.{◌≡◌, ◌≢◌, ℕ, ◌<◌, ◌==◌, Bool, true, false, not, cond, ◌&&◌, ◌||◌, List, [], ◌∷◌, length, Option, Some, None, option_map, set, bytes_eq, slice_index_or, refl, sym, ap, subst, ◌∙◌, arith}
use Rattle.std.specs.List.{list_all, list_any, filter}
use Rattle.std.proofs.lemmas.Bool.Decides.{nat_tests}
use Rattle.std.proofs.lemmas.List.{get_or-set_same, get_or-set_other, get_or-replicate, length-set, length-replicate}
use Rattle.itch_book.proofs.Lists.{by_test}
use Rattle.itch_codec.specs.declared.message.Message.{Message}
use Rattle.itch_commands.specs.Choices.{Chosen, chosen_after, chosen_past, are_found_in}
use Rattle.itch_commands.specs.Lookup.{Lookup, lookup, listed, lookup_with, lookup_after, is_one_of, is_found, are_found, found_at, is_named, has_name, is_of_one, stock_with, stock_past}

-- names with the missing and the found ones
abbrev seek : List (List ℕ) → List (List ℕ) → List Bool → Lookup
seek names missing found = record { names = names; missing = missing; found = found }

pub alike : (names : List (List ℕ)) (missing missing' : List (List ℕ)) (found : List Bool) (i locate : ℕ) (one one' : Bool) → missing ≡ missing' → i ≡ locate → one ≡ one'
    → seek names missing (set found i one) ≡ seek names missing' (set found locate one')
alike names missing missing' found i locate one one' lacks at is =
    ap (λ ms. seek names ms (set found i one)) lacks ∙ ap (λ l. seek names missing' (set found l one)) at ∙ ap (λ b. seek names missing' (set found locate b)) is

-- the state of the search after these messages
unfoldable pub lookup_past : Lookup → List Message → Lookup
lookup_past s [] = s
lookup_past s (x ∷ xs) = lookup_past (lookup_after x s) xs

stocks_past : (chosen : Chosen) (s : Lookup) (xs : List Message) → Chosen.stocks chosen ≡ Some s → Chosen.stocks (chosen_past chosen xs) ≡ Some (lookup_past s xs)
unfolding chosen_past lookup_past
stocks_past chosen s [] is = is
stocks_past chosen s (x ∷ xs) is = stocks_past (chosen_after chosen x) (lookup_after x s) xs (ap (option_map (lookup_after x)) is)

-- known facts about a locate with this stock
record At (names : List (List ℕ)) (locate : ℕ) (s : Lookup) (stock : Option (List ℕ)) : Type 0 where
  pub named : s.names ≡ names
  pub all : length s.found ≡ 65536
  pub found : is_found s locate ≡ is_of_one names stock

module _ (names : List (List ℕ)) (locate : ℕ) (less : locate < 65536) where
  at_listed : (s : Lookup) (stock : Option (List ℕ)) (entry : ℕ × List ℕ) (same : Bool) → (entry.0 == locate) ≡ same → At names locate s stock
      → is_found (lookup_with (Some entry) s) locate ≡ is_of_one names (cond same (Some entry.1) stock)
  at_listed s stock entry true here at =
      let is : locate ≡ entry.0 = grind (arith, nat_tests) in
      subst (λ l. slice_index_or (set s.found entry.0 (is_one_of s.names entry.1)) l false ≡ is_one_of names entry.1) (sym is)
      (get_or-set_same s.found entry.0 (is_one_of s.names entry.1) false (omega (arith, less, is, at.all)) ∙ ap (λ ns. is_one_of ns entry.1) at.named)
  at_listed s stock entry false here at =
      let other : locate ≢ entry.0 = grind (arith, nat_tests) in get_or-set_other s.found entry.0 locate (is_one_of s.names entry.1) false other ∙ at.found

  at_with : (s : Lookup) (stock : Option (List ℕ)) (entry : Option (ℕ × List ℕ)) → At names locate s stock → At names locate (lookup_with entry s) (stock_with locate entry stock)
  at_with s stock None at = at
  at_with s stock (Some entry) at = record {
    named = at.named;
    all = length-set s.found entry.0 (is_one_of s.names entry.1) ∙ at.all;
    found = at_listed s stock entry (entry.0 == locate) refl at;
  }

  at_past : (s : Lookup) (stock : Option (List ℕ)) (xs : List Message) → At names locate s stock → At names locate (lookup_past s xs) (stock_past locate xs stock)
  unfolding lookup_past stock_past
  at_past s stock [] at = at
  at_past s stock (x ∷ xs) at = at_past (lookup_after x s) (stock_with locate (listed x) stock) xs (at_with s stock (listed x) at)

  at_first : At names locate (lookup names) None
  at_first = record { named = refl; all = length-replicate 65536 false; found = get_or-replicate 65536 locate false false less }

-- a locate has one of the stocks exactly if its last Stock Directory message has one of the names
pub found_past : (chosen : Chosen) (names : List (List ℕ)) (xs : List Message) (locate : ℕ) → Chosen.stocks chosen ≡ Some (lookup names) → locate < 65536
    → found_at (Chosen.stocks (chosen_past chosen xs)) locate ≡ is_of_one names (stock_past locate xs None)
found_past chosen names xs locate is less =
    ap (λ stocks. found_at stocks locate) (stocks_past chosen (lookup names) xs is)
    ∙ At.found (at_past names locate less (lookup names) None xs (at_first names locate less))

-- all elements that q does not have, and all elements that q has or that are in p
all_others : (p q : List ℕ → Bool) (names : List (List ℕ)) → list_all p (filter (λ name. not (q name)) names) ≡ list_all (λ name. q name || p name) names
all_others p q [] = refl
all_others p q (name ∷ names) =
    by_test (q name)
    (λ has. simp has (all_others p q names))
    (λ lacks. simp lacks (ap (λ b. p name && b) (all_others p q names)))

missing_with : (p : List ℕ → Bool) (s : Lookup) (entry : Option (ℕ × List ℕ))
    → list_all p (Lookup.missing (lookup_with entry s)) ≡ list_all (λ name. is_named name entry || p name) s.missing
missing_with p s None = refl
missing_with p s (Some entry) = all_others p (λ name. bytes_eq name entry.1) s.missing

none_is_all : (names : List (List ℕ)) → (length names == 0) ≡ list_all (λ name. false) names
none_is_all [] = refl
none_is_all (name ∷ names) = grind (arith, nat_tests)

missing_past : (s : Lookup) (xs : List Message) → are_found (Some (lookup_past s xs)) ≡ list_all (λ name. list_any (has_name name) xs) s.missing
unfolding lookup_past
missing_past s [] = none_is_all s.missing
missing_past s (x ∷ xs) = missing_past (lookup_after x s) xs ∙ missing_with (λ name. list_any (has_name name) xs) s (listed x)

-- all have come exactly if each name is in a Stock Directory message
pub known_past : (chosen : Chosen) (names : List (List ℕ)) (xs : List Message) → Chosen.stocks chosen ≡ Some (lookup names)
    → are_found_in chosen xs ≡ list_all (λ name. list_any (has_name name) xs) names
known_past chosen names xs is = ap are_found (stocks_past chosen (lookup names) xs is) ∙ missing_past (lookup names) xs
