-- Near and far links as one map, after a change of either.
use Rattle.std.proofs.Common.{◌≡◌, ℕ, true, cond, eqb, List, Option, Some, None, refl, sym, ap, ap₂, ◌∙◌, subst}
use Rattle.std.specs.Map.{lookup, update}
use Rattle.itch_book.specs.Pages.{Paged, link_at}
use Rattle.itch_book.specs.Table.{or_else, IsParted}
use Rattle.itch_book.proofs.Lists.{by_test}
use Rattle.itch_book.proofs.LinkLemmas.{eqb_is}

no_near : (a b : Option ℕ) → or_else a b ≡ None → a ≡ None
no_near None b h = refl
no_near (Some x) b h = h

no_far : (a b : Option ℕ) → or_else a b ≡ None → b ≡ None
no_far None b h = h
no_far (Some x) b h = absurd (let no_one : ⊥ = cc in no_one)

no_link : (link : ℕ) → None ≡ Some link → ⊥
no_link link h = let no_one : ⊥ = cc in no_one

-- a new key in a page
module _ (near next : Paged) (far : List (ℕ × ℕ)) (key link : ℕ) (new : or_else (link_at near key) (lookup (eqb key) far) ≡ None) (puts : (q : ℕ) → link_at next q ≡ update eqb (link_at near) key (Some link) q) where
  pub near_puts : (q : ℕ) → or_else (link_at next q) (lookup (eqb q) far) ≡ cond (eqb key q) (Some link) (or_else (link_at near q) (lookup (eqb q) far))
  near_puts q = ap (λ o. or_else o (lookup (eqb q) far)) (puts q) ∙ by_test (eqb key q) (λ e. simp e refl) (λ e. simp e refl)

  pub near_parted : IsParted near far → IsParted next far
  near_parted parted k l h = by_test (eqb key k)
      (λ e. subst (λ n. lookup (eqb n) far ≡ None) (eqb_is key k e) (no_far (link_at near key) (lookup (eqb key) far) new))
      (λ e. parted k l (sym (ap (λ b. cond b (Some link) (link_at near k)) e) ∙ sym (puts k) ∙ h))

-- a new key in the hash map
module _ (near : Paged) (far next : List (ℕ × ℕ)) (key link : ℕ) (new : or_else (link_at near key) (lookup (eqb key) far) ≡ None) (puts : (q : ℕ) → lookup (eqb q) next ≡ cond (eqb key q) (Some link) (lookup (eqb q) far)) where
  nothing_near : (q : ℕ) → eqb key q ≡ true → link_at near q ≡ None
  nothing_near q e = subst (λ n. link_at near n ≡ None) (eqb_is key q e) (no_near (link_at near key) (lookup (eqb key) far) new)

  pub far_puts : (q : ℕ) → or_else (link_at near q) (lookup (eqb q) next) ≡ cond (eqb key q) (Some link) (or_else (link_at near q) (lookup (eqb q) far))
  far_puts q = ap (or_else (link_at near q)) (puts q) ∙ by_test (eqb key q)
      (λ e. ap₂ or_else (nothing_near q e) (ap (λ b. cond b (Some link) (lookup (eqb q) far)) e) ∙ sym (ap (λ b. cond b (Some link) (or_else (link_at near q) (lookup (eqb q) far))) e))
      (λ e. simp e refl)

  pub far_parted : IsParted near far → IsParted near next
  far_parted parted k l h = puts k ∙ by_test (eqb key k)
      (λ e. absurd (no_link l (sym (nothing_near k e) ∙ h)))
      (λ e. simp e (parted k l h))

-- a key removed from a page
module _ (near next : Paged) (far : List (ℕ × ℕ)) (key link : ℕ) (parted : IsParted near far) (there : link_at near key ≡ Some link) (gone : (q : ℕ) → link_at next q ≡ update eqb (link_at near) key None q) where
  pub near_gone : (q : ℕ) → or_else (link_at next q) (lookup (eqb q) far) ≡ cond (eqb key q) None (or_else (link_at near q) (lookup (eqb q) far))
  near_gone q = ap (λ o. or_else o (lookup (eqb q) far)) (gone q) ∙ by_test (eqb key q)
      (λ e. simp e (subst (λ n. lookup (eqb n) far ≡ None) (eqb_is key q e) (parted key link there)))
      (λ e. simp e refl)

  pub left_parted : IsParted next far
  left_parted k l h = by_test (eqb key k)
      (λ e. absurd (no_link l (sym (gone k ∙ ap (λ b. cond b None (link_at near k)) e) ∙ h)))
      (λ e. parted k l (sym (gone k ∙ ap (λ b. cond b None (link_at near k)) e) ∙ h))

-- a key removed from the hash map
module _ (near next : Paged) (far left : List (ℕ × ℕ)) (key : ℕ) (gone : (q : ℕ) → link_at next q ≡ update eqb (link_at near) key None q) (cut : (q : ℕ) → lookup (eqb q) left ≡ cond (eqb key q) None (lookup (eqb q) far)) where
  pub far_gone : (q : ℕ) → or_else (link_at next q) (lookup (eqb q) left) ≡ cond (eqb key q) None (or_else (link_at near q) (lookup (eqb q) far))
  far_gone q = ap₂ or_else (gone q) (cut q) ∙ by_test (eqb key q) (λ e. simp e refl) (λ e. simp e refl)

  pub cut_parted : IsParted near far → IsParted next left
  cut_parted parted k l h = cut k ∙ by_test (eqb key k)
      (λ e. simp e refl)
      (λ e. simp e (parted k l (sym (gone k ∙ ap (λ b. cond b None (link_at near k)) e) ∙ h)))
