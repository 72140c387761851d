-- Finding or opening the queue at a price.
use Rattle.std.proofs.Common.{◌≡◌, ℕ, cond, List, [], Option, Some, None, refl, sym, ap, ◌∙◌, subst}
use Rattle.std.specs.Prelude.{Result, Ok, Err, OnErr, IfOk}
use Rattle.itch_codec.specs.declared.orders.Side.{Side}
use Rattle.itch_book.specs.Links.{at_key}
use Rattle.itch_book.specs.Queued.{Queued, Seen, Opens, seen}
use Rattle.itch_book.specs.Indexed.{Place, AreApart, indexed, queue_of_side, is_there, IsIndexed, IsBusy, IsBusyBut}
use Rattle.itch_book.proofs.OpenLemmas.{open_view, open_index, open_busy, seen_same, same_orders}

-- a property of each success
pub on_ok : {E : Type 0} {P : ℕ → Type 0} (r : Result ℕ E) → ((q : ℕ) → r ≡ Ok q → P q) → IfOk r P
on_ok (Ok q) holds = holds q refl
on_ok (Err e) holds = tt

module _ {E : Type 0} (bids asks bids' asks' : List (Place × ℕ)) (v v' : Queued) (s0 : Side) (l0 p0 : ℕ) (r : Result ℕ E)
    (known : (q : ℕ) → queue_of_side s0 bids asks l0 p0 ≡ Some q → (r ≡ Ok q) × (bids' ≡ bids) × (asks' ≡ asks) × (v' ≡ v))
    (opens : queue_of_side s0 bids asks l0 p0 ≡ None → IfOk r (λ q. Opens q v v'))
    (placed : queue_of_side s0 bids asks l0 p0 ≡ None → IfOk r (λ q. (s : Side) → (l p : ℕ) → queue_of_side s bids' asks' l p ≡ cond (is_there s0 l0 p0 s l p) (Some q) (queue_of_side s bids asks l p)))
    (bids_apart : AreApart bids')
    (asks_apart : AreApart asks')
    (kept : OnErr r ((bids' ≡ bids) × (asks' ≡ asks) × (v' ≡ v))) where
  -- nothing changed, or a queue was opened
  by_level : {P : Type 0} → ((bids' ≡ bids) × (asks' ≡ asks) × (v' ≡ v) → P)
      → ((q : ℕ) → r ≡ Ok q → queue_of_side s0 bids asks l0 p0 ≡ None → Opens q v v'
      → ((s : Side) → (l p : ℕ) → queue_of_side s bids' asks' l p ≡ cond (is_there s0 l0 p0 s l p) (Some q) (queue_of_side s bids asks l p)) → P) → P
  by_level {P} same new = by_queue (queue_of_side s0 bids asks l0 p0) refl
    where
      by_result : (r' : Result ℕ E) → r ≡ r' → queue_of_side s0 bids asks l0 p0 ≡ None → IfOk r' (λ q. Opens q v v')
          → IfOk r' (λ q. (s : Side) → (l p : ℕ) → queue_of_side s bids' asks' l p ≡ cond (is_there s0 l0 p0 s l p) (Some q) (queue_of_side s bids asks l p))
          → OnErr r' ((bids' ≡ bids) × (asks' ≡ asks) × (v' ≡ v)) → P
      by_result (Ok q) is absent o p k = new q is absent o p
      by_result (Err e) is absent o p k = same k

      by_queue : (o : Option ℕ) → queue_of_side s0 bids asks l0 p0 ≡ o → P
      by_queue (Some q) e = let k = known q e in same (k.1, k.2, k.3)
      by_queue None e = by_result r refl e (opens e) (placed e) kept

  moved : (P : List (Place × ℕ) → List (Place × ℕ) → Queued → Type 0) → (bids' ≡ bids) × (asks' ≡ asks) × (v' ≡ v) → P bids asks v → P bids' asks' v'
  moved P same h =
      subst (λ (x : List (Place × ℕ)). P x asks' v') (sym same.0)
      (subst (λ (x : List (Place × ℕ)). P bids x v') (sym same.1) (subst (λ (x : Queued). P bids asks x) (sym same.2) h))

  -- the index after one more queue was opened
  seen_opened : (q : ℕ) → Opens q v v' → seen v' ≡ record { keys = at_key q (Some []) (seen v).keys; orders = (seen v).orders }
  seen_opened q o = seen_same _ (seen v') o.keys (same_orders v v' o.orders)

  pub level_index : (references : ℕ → Option ℕ) → IsIndexed references bids asks (seen v) → IsIndexed references bids' asks' (seen v')
  level_index references is =
      by_level
      (λ same. moved (λ b a u. IsIndexed references b a (seen u)) same is)
      (λ q _ absent o p. subst (IsIndexed references bids' asks') (sym (seen_opened q o))
      (open_index references bids asks bids' asks' (seen v) is s0 l0 p0 q bids_apart asks_apart o.vacant absent p))

  pub level_view : (references : ℕ → Option ℕ) → IsIndexed references bids asks (seen v) → indexed (seen v') bids' asks' ≡ indexed (seen v) bids asks
  level_view references is =
      by_level
      (λ same. moved (λ b a u. indexed (seen u) b a ≡ indexed (seen v) bids asks) same refl)
      (λ q _ absent o p. ap (λ (u : Seen). indexed u bids' asks') (seen_opened q o)
      ∙ open_view references bids asks bids' asks' (seen v) is s0 l0 p0 q bids_apart asks_apart o.vacant absent p)

  pub level_busy : (q : ℕ) → r ≡ Ok q → (references : ℕ → Option ℕ) → IsIndexed references bids asks (seen v) → IsBusy (seen v) bids asks → IsBusyBut (seen v') bids' asks' q
  level_busy q was references is busy =
      by_level
      (λ same. moved (λ b a u. IsBusyBut (seen u) b a q) same (λ s l p q0 h n. busy s l p q0 h))
      (λ q1 now absent o p.
      let one : q1 ≡ q = cc in
      subst (IsBusyBut (seen v') bids' asks') one
      (subst (λ (u : Seen). IsBusyBut u bids' asks' q1) (sym (seen_opened q1 o))
      (open_busy references bids asks bids' asks' (seen v) is s0 l0 p0 q1 bids_apart asks_apart o.vacant absent p busy)))
