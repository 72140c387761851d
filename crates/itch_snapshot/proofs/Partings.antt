-- Comparing lists element by element.
use Rattle.std.proofs.Common.{◌≡◌, ◌≢◌, ◌↔◌, IfSome, IfNone, IsNone, ℕ, ◌+◌, ◌-◌, ◌<◌, zero, suc, List, [], ◌∷◌, ◌++◌, length, Option, Some, None, slice_get, refl, sym, ap, ◌∙◌, arith, append_assoc, length-append}
use Rattle.itch_codec.specs.declared.message.Message.{Message}
use Rattle.itch_market.specs.Content.{Content}
use Rattle.itch_market.specs.GoodMarkets.{IsGood}
use Rattle.itch_market.specs.SameMarkets.{Same}
use Rattle.itch_snapshot.specs.Snapshot.{snap}
use Rattle.itch_snapshot.specs.Parting.{IsParting}
use Rattle.itch_snapshot.proofs.OneSnapshot.{snap_same, same_snap}

-- both lists begin with these elements, the rests are these, and the position is the next one
pub record AgreeSoFar {A : Type 0} (xs ys seen left right : List A) (place : ℕ) : Type 0 where
  pub one : xs ≡ seen ++ left
  pub other : ys ≡ seen ++ right
  pub next : place ≡ length seen + 1

module _ {A : Type 0} where
  -- and they agree in one more element
  pub one_more : (xs ys seen left left' right right' : List A) (place : ℕ) (x y : A) → AgreeSoFar xs ys seen left right place → left ≡ x ∷ left' → right ≡ y ∷ right' → x ≡ y
      → AgreeSoFar xs ys (seen ++ x ∷ []) left' right' (place + 1)
  one_more xs ys seen left left' right right' place x y agree one other same = record {
    one = agree.one ∙ ap (λ more. seen ++ more) one ∙ sym (append_assoc seen (x ∷ []) left');
    other = agree.other ∙ ap (λ more. seen ++ more) (other ∙ ap (λ e. e ∷ right') (sym same)) ∙ sym (append_assoc seen (x ∷ []) right');
    next = omega (arith, agree.next, length-append seen (x ∷ []));
  }

  one_further : (x : A) (xs ys : List A) (n : ℕ) → IsParting xs ys n → IsParting (x ∷ xs) (x ∷ ys) (suc n)
  one_further x xs ys n rest = record { before = before; there = rest.there } where
    before : (i : ℕ) → i < suc n → slice_get (x ∷ xs) i ≡ slice_get (x ∷ ys) i
    before zero early = refl
    before (suc i) early = rest.before i (omega arith)

  parting_after : (seen xs ys : List A) → slice_get xs 0 ≢ slice_get ys 0 → IsParting (seen ++ xs) (seen ++ ys) (length seen)
  parting_after [] xs ys differ = record { before = λ i early. absurd (omega arith); there = differ }
  parting_after (x ∷ seen) xs ys differ = one_further x (seen ++ xs) (seen ++ ys) (length seen) (parting_after seen xs ys differ)

  -- the lists differ after the elements that agree
  they_part : (xs ys seen left right : List A) (place : ℕ) → AgreeSoFar xs ys seen left right place → slice_get left 0 ≢ slice_get right 0
      → (0 < place) × IsParting xs ys (place - 1)
  they_part xs ys seen left right place agree differ =
      let at : place - 1 ≡ length seen = omega (arith, agree.next) in
      (omega (arith, agree.next), rw (at, agree.one, agree.other) (parting_after seen left right differ))

  -- one list is at its end and the other is not, or two elements differ
  pub shorter_one : (ys seen left right right' : List A) (xs : List A) (place : ℕ) (y : A) → AgreeSoFar xs ys seen left right place → left ≡ [] → right ≡ y ∷ right'
      → (0 < place) × IsParting xs ys (place - 1)
  shorter_one ys seen left right right' xs place y agree none some =
      they_part xs ys seen left right place agree (λ same. let no_one : None ≡ Some y = rw (none, some) at same in cc)

  pub shorter_other : (xs seen left left' right : List A) (ys : List A) (place : ℕ) (x : A) → AgreeSoFar xs ys seen left right place → left ≡ x ∷ left' → right ≡ []
      → (0 < place) × IsParting xs ys (place - 1)
  shorter_other xs seen left left' right ys place x agree some none =
      they_part xs ys seen left right place agree (λ same. let no_one : Some x ≡ None = rw (some, none) at same in cc)

  pub other_element : (xs ys seen left left' right right' : List A) (place : ℕ) (x y : A) → AgreeSoFar xs ys seen left right place → left ≡ x ∷ left' → right ≡ y ∷ right' → x ≢ y
      → (0 < place) × IsParting xs ys (place - 1)
  other_element xs ys seen left left' right right' place x y agree one other differ =
      they_part xs ys seen left right place agree (λ same. let alike : Some x ≡ Some y = rw (one, other) at same in let same_one : x ≡ y = cc in differ same_one)

-- the snapshot lists of two markets do not differ if and only if the markets are the same
pub parts_nowhere : (m n : Content) (xs ys : List Message) → IsGood m → IsGood n → xs ≡ snap m → ys ≡ snap n
    → (place : Option ℕ) → IfSome place (λ k. (0 < k) × IsParting xs ys (k - 1)) → IfNone place (xs ≡ ys) → IsNone place ↔ Same m n
parts_nowhere m n xs ys good fine one other None parting equal = (λ none. same_snap m n good fine (sym one ∙ equal ∙ other), λ same. refl)
parts_nowhere m n xs ys good fine one other (Some k) parting equal =
    (λ none. absurd (let no_one : ⊥ = cc in no_one), λ same. absurd (parting.1.there (ap (λ zs. slice_get zs (k - 1)) (one ∙ snap_same m n same ∙ sym other))))
