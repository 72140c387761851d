-- The client at a place after a change.
use Rattle.std.proofs.Common.{◌≡◌, ℕ, ◌-◌, ◌<◌, ◌≤◌, ◌++◌, nat_lt, Bool, true, false, cond, List, [], ◌∷◌, length, map, take, drop, min, ◌+◌, ◌||◌, if◌then◌else◌, length-append, length-drop, Option, None, Some, refl, sym, ap, ◌∙◌, subst, arith, get_or, replicate, set, ◌==◌, ◌⊎◌, inl, inr}
use Rattle.std.specs.List.{list_any}
use Rattle.std.proofs.lemmas.Bool.{ltb-true, ltb-false, eqb-true, eqb-false}
use Rattle.std.proofs.lemmas.List.{get_or_past, get_or-append_right, get_or_append_left, get_or-take, get_or-drop, length-take, length-map, get_or-map, get_or-replicate, length-replicate, get_or-set_same, get_or-set_other, length-set}
use Rattle.itch_live.specs.SnapshotClients.{SnapshotClient, is_waiting, answered}
use Rattle.itch_live.specs.Slots.{Slots, client_at, waits, answered_slot}

abbrev pub IsNobody : Option SnapshotClient → Type 0
IsNobody None = Unit {0}
IsNobody (Some g) = ⊥

pub no_client : {g : SnapshotClient} → None ≡ Some g → ⊥
no_client {g} h = subst IsNobody h tt

-- a place with a client exists
pub within : (slots : Slots) (place : ℕ) (g : SnapshotClient) → client_at slots place ≡ Some g → place < length slots
within slots place g there = by_test (nat_lt place (length slots)) refl where
  by_test : (b : Bool) → nat_lt place (length slots) ≡ b → place < length slots
  by_test true h = ltb-true place (length slots) h
  by_test false h = absurd (no_client (sym (get_or_past slots place None (ltb-false place (length slots) h)) ∙ there))

-- each place has the result of f
pub at_mapped : (f : Option SnapshotClient → Option SnapshotClient) (slots : Slots) (place : ℕ) → f None ≡ None → client_at (map f slots) place ≡ f (client_at slots place)
at_mapped f slots place none = by_test (nat_lt place (length slots)) refl where
  by_test : (b : Bool) → nat_lt place (length slots) ≡ b → client_at (map f slots) place ≡ f (client_at slots place)
  by_test true h = get_or-map f slots place None None (ltb-true place (length slots) h)
  by_test false h =
      let past = ltb-false place (length slots) h in
      get_or_past (map f slots) place None (subst (λ n. n ≤ place) (sym (length-map slots f)) past) ∙ sym none ∙ ap f (sym (get_or_past slots place None past))

-- the same for the first places
pub at_first : (f : Option SnapshotClient → Option SnapshotClient) (slots : Slots) (count place : ℕ) → f None ≡ None
    → client_at (map f (take count slots) ++ drop count slots) place ≡ cond (nat_lt place count) (f (client_at slots place)) (client_at slots place)
at_first f slots count place none = by_tests (nat_lt place count) (nat_lt place (length slots)) refl refl where
  front : length (map f (take count slots)) ≡ min count (length slots)
  front = length-map (take count slots) f ∙ length-take count slots

  same_length : length (map f (take count slots) ++ drop count slots) ≡ length slots
  same_length = omega (arith, length-append (map f (take count slots)) (drop count slots), front, length-drop count slots)

  by_tests : (first there : Bool) → nat_lt place count ≡ first → nat_lt place (length slots) ≡ there
      → client_at (map f (take count slots) ++ drop count slots) place ≡ cond first (f (client_at slots place)) (client_at slots place)
  by_tests true true h t =
      let below = ltb-true place count h in let inside = ltb-true place (length slots) t in
      get_or_append_left (map f (take count slots)) (drop count slots) None place (omega (arith, front))
      ∙ at_mapped f (take count slots) place none ∙ ap f (get_or-take count slots place None below)
  by_tests false true h t =
      let above = ltb-false place count h in let inside = ltb-true place (length slots) t in
      let fits : length (map f (take count slots)) ≡ count = omega (arith, front) in
      let at : count + (place - count) ≡ place = omega arith in
      get_or-append_right (map f (take count slots)) (drop count slots) count place None fits above
      ∙ get_or-drop count slots (place - count) None ∙ ap (λ n. get_or slots n None) at
  by_tests first false h t =
      let past = ltb-false place (length slots) t in
      get_or_past _ place None (subst (λ n. n ≤ place) (sym same_length) past) ∙ either first (get_or_past slots place None past) where
        either : (first : Bool) → client_at slots place ≡ None → None ≡ cond first (f (client_at slots place)) (client_at slots place)
        either true is = sym none ∙ ap f (sym is)
        either false is = sym is

-- if no client waits, nothing changes
pub none_answered : (bytes : List ℕ) (next now : ℕ) (slots : Slots) → list_any waits slots ≡ false → map (answered_slot bytes next now) slots ≡ slots
none_answered bytes next now [] none = refl
none_answered bytes next now (None ∷ slots) none = ap (λ s. None ∷ s) (none_answered bytes next now slots none)
none_answered bytes next now (Some g ∷ slots) none =
    ap (λ x. Some x ∷ map (answered_slot bytes next now) slots) (one (is_waiting g) g (answered g bytes next now) (list_any waits slots) none)
    ∙ ap (λ s. Some g ∷ s) (none_answered bytes next now slots (rest (is_waiting g) (list_any waits slots) none)) where
      one : (b : Bool) (g h : SnapshotClient) (more : Bool) → (b || more) ≡ false → (if b then h else g) ≡ g
      one true g h more none = absurd (cc)
      one false g h more none = refl

      rest : (b more : Bool) → (b || more) ≡ false → more ≡ false
      rest true more none = absurd (cc)
      rest false more none = none

-- free places have no client
pub none_seated : (count place : ℕ) → client_at (replicate count None) place ≡ None
none_seated count place = by_test (nat_lt place count) refl where
  by_test : (b : Bool) → nat_lt place count ≡ b → client_at (replicate count None) place ≡ None
  by_test true h = get_or-replicate count place None None (ltb-true place count h)
  by_test false h =
      let past = ltb-false place count h in
      get_or_past (replicate count None) place None (subst (λ n. n ≤ place) (sym (length-replicate count None)) past)

-- at another place, or at this one
pub set_cases : (slots : Slots) (place k : ℕ) (slot : Option SnapshotClient) (g : SnapshotClient) → client_at (set slots place slot) k ≡ Some g → (slot ≡ Some g) ⊎ (client_at slots k ≡ Some g)
set_cases slots place k slot g there = by_tests (place == k) (nat_lt place (length slots)) refl refl where
  by_tests : (here inside : Bool) → (place == k) ≡ here → nat_lt place (length slots) ≡ inside → (slot ≡ Some g) ⊎ (client_at slots k ≡ Some g)
  by_tests false inside elsewhere i = inr (sym (get_or-set_other slots place k slot None (λ same. eqb-false place k elsewhere (sym same))) ∙ there)
  by_tests true true here i =
      inl (sym (get_or-set_same slots place slot None (ltb-true place (length slots) i)) ∙ ap (λ n. client_at (set slots place slot) n) (eqb-true place k here) ∙ there)
  by_tests true false here i =
      let past : length slots ≤ k = subst (λ n. length slots ≤ n) (eqb-true place k here) (ltb-false place (length slots) i) in
      let beyond : length (set slots place slot) ≤ k = omega (arith, past, length-set slots place slot) in
      absurd (no_client (sym (get_or_past (set slots place slot) k None beyond) ∙ there))
