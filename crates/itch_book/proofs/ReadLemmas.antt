-- Reading queues, and changing the shares of an order.
use Rattle.std.proofs.Common.{◌≡◌, ℕ, ◌+◌, ◌-◌, ◌^◌, ◌<◌, true, false, eqb, List, [], ◌∷◌, ◌++◌, length, Option, Some, None, IsSomeAnd, option_map, refl, sym, ap, ◌∙◌, subst, arith}
use Rattle.std.specs.List.{IsDistinct, list_any, sum_by}
use Rattle.std.proofs.lemmas.List.Sums.{sum_by-cons}
use Rattle.std.proofs.lemmas.Bool.{false≢true}
use Rattle.slab.specs.Slab.{Slab, get}
use Rattle.itch_book.specs.declared.order.Order.{Order}
use Rattle.itch_book.specs.declared.queues.Node.{Node}
use Rattle.itch_book.specs.declared.queues.Head.{Head}
use Rattle.itch_book.specs.Links.{Nodes, first_or, IsLinked, order_of, shares_of, total, IsQueue, walked, IsSound, at_key}
use Rattle.itch_book.specs.Queued.{keys_at, order_at, queued, shown, found, totals_of, left_with}
use Rattle.itch_book.proofs.Lists.{by_test}
use Rattle.itch_book.proofs.LinkLemmas.{In, eqb_itself, eqb_is, eqb_turned, in_queue, linked_right, distinct_head, not_in_head}
use Rattle.itch_book.proofs.UnlinkLemmas.{parts_at, apart, distinct_right}
use Rattle.itch_book.proofs.QueueSteps.{none_some, same_some, inj, total_frame, total-append, IsStep, sound_step, total_small}
use Rattle.itch_book.proofs.SoundSteps.{at_apart, at_same, home_in, has_one}
use Rattle.itch_book.proofs.ViewLemmas.{pointwise, map_at_key, keys_seen, order_seen, keys_stepped}

-- the head and the keys of a queue, as contracts describe them
pub queue_seen : (nodes : Slab Node) (heads : Slab Head) (q : ℕ) (ks : List ℕ) (head : Head) → IsSound (get nodes) (get heads) → keys_at (queued nodes heads) q ≡ Some ks → get heads q ≡ Some head → IsQueue (get nodes) q head ks
queue_seen nodes heads q ks head sound seen there =
    let e : walked (get nodes) head ≡ ks = inj (sym (keys_seen nodes heads q ∙ ap (option_map (walked (get nodes))) there) ∙ seen) in
    subst (IsQueue (get nodes) q head) e (sound.queues q head there)

pub member_seen : (nodes : Slab Node) (heads : Slab Head) (k : ℕ) (x : Node) → IsSound (get nodes) (get heads) → get nodes k ≡ Some x → IsSomeAnd (keys_at (queued nodes heads) x.queue) (λ ks. list_any (eqb k) ks ≡ true)
member_seen nodes heads k x sound here =
    let home = sound.homes k x here in
    let e = keys_seen nodes heads x.queue ∙ ap (option_map (walked (get nodes))) home.there in
    subst (λ o. IsSomeAnd o (λ ks. list_any (eqb k) ks ≡ true)) (sym e) home.member

-- and it is in no other queue
pub member_only : (nodes : Slab Node) (heads : Slab Head) (k : ℕ) (x : Node) (q : ℕ) (ks : List ℕ) → IsSound (get nodes) (get heads) → get nodes k ≡ Some x → keys_at (queued nodes heads) q ≡ Some ks → list_any (eqb k) ks ≡ true → x.queue ≡ q
member_only nodes heads k x q ks sound here seen i = by_head (get heads q) refl
  where
    by_head : (o : Option Head) → get heads q ≡ o → x.queue ≡ q
    by_head None it = none_some (keys_seen nodes heads q ∙ ap (option_map (walked (get nodes))) it) seen
    by_head (Some head) it =
        let queue = queue_seen nodes heads q ks head sound seen it in
        let node = in_queue (get nodes) q None ks None k queue.linked i in
        ap (λ (z : Node). z.queue) (same_some here node.1) ∙ node.2

-- the node after a node
pub next_seen : (nodes : Slab Node) (heads : Slab Head) (k : ℕ) (x : Node) (q : ℕ) (before after : List ℕ) → IsSound (get nodes) (get heads) → get nodes k ≡ Some x → keys_at (queued nodes heads) q ≡ Some (before ++ k ∷ after) → x.after ≡ first_or after None
next_seen nodes heads k x q before after sound here seen = by_head (get heads q) refl
  where
    by_head : (o : Option Head) → get heads q ≡ o → x.after ≡ first_or after None
    by_head None it = none_some (keys_seen nodes heads q ∙ ap (option_map (walked (get nodes))) it) seen
    by_head (Some head) it =
        let queue = queue_seen nodes heads q (before ++ k ∷ after) head sound seen it in
        let right = linked_right (get nodes) q None before (k ∷ after) None queue.linked in
        let node : right.0.node ≡ x = same_some right.0.here here in
        ap (λ (z : Node). z.after) (sym node) ∙ right.0.after_is

total_seen : (nodes : Slab Node) (heads : Slab Head) (q : ℕ) (b : Option ℕ) (ks : List ℕ) → IsLinked (get nodes) q b ks None → (total (get nodes) ks ≡ sum_by (λ x. x.shares) (found (order_at (queued nodes heads)) ks)) × (length ks ≡ length (found (order_at (queued nodes heads)) ks))
total_seen nodes heads q b [] h = (refl, refl)
total_seen nodes heads q b (k ∷ ks) h =
    let rest = total_seen nodes heads q (Some k) ks h.1 in
    let here : order_at (queued nodes heads) k ≡ Some (h.0.node.order) = order_seen nodes heads k ∙ ap order_of h.0.here in
    let own : shares_of (get nodes k) ≡ h.0.node.order.shares = ap shares_of h.0.here in
    let list : found (order_at (queued nodes heads)) (k ∷ ks) ≡ h.0.node.order ∷ found (order_at (queued nodes heads)) ks = ap (λ o. shown o (found (order_at (queued nodes heads)) ks)) here in
    let sum : sum_by (λ (x : Order). x.shares) (found (order_at (queued nodes heads)) (k ∷ ks)) ≡ h.0.node.order.shares + sum_by (λ x. x.shares) (found (order_at (queued nodes heads)) ks) = ap (sum_by (λ (x : Order). x.shares)) list ∙ sum_by-cons (λ (x : Order). x.shares) h.0.node.order (found (order_at (queued nodes heads)) ks) in
    let len = ap length list in
    (omega (arith, rest.0, own, sum), omega (arith, rest.1, len))

pub totals_seen : (nodes : Slab Node) (heads : Slab Head) (q : ℕ) (ks : List ℕ) (head : Head) → IsSound (get nodes) (get heads) → keys_at (queued nodes heads) q ≡ Some ks → get heads q ≡ Some head
    → ◌≡◌ {A = ℕ × ℕ} (head.shares, head.orders) (totals_of (found (order_at (queued nodes heads)) ks))
totals_seen nodes heads q ks head sound seen there =
    let queue = queue_seen nodes heads q ks head sound seen there in
    let both = total_seen nodes heads q None ks queue.linked in
    let a = queue.shares ∙ both.0 in
    let b = queue.orders ∙ both.1 in
    λ i. (a i, b i)

-- a node with another order, in its place
changed_linked : (f : Nodes) (q : ℕ) (b : Option ℕ) (ks : List ℕ) (a : Option ℕ) (k : ℕ) (x y : Node) → f k ≡ Some x → y.queue ≡ x.queue → y.before ≡ x.before → y.after ≡ x.after → IsLinked f q b ks a → IsLinked (at_key k (Some y) f) q b ks a
changed_linked f q b [] a k x y here queue before after h = tt
changed_linked f q b (j ∷ js) a k x y here queue before after h = (
  by_test (eqb k j)
      (λ e. let is : h.0.node ≡ x = same_some h.0.here (ap f (sym (eqb_is k j e)) ∙ here) in
      record {
        node = y;
        here = at_same k (Some y) f j e;
        queue_is = queue ∙ ap (λ (z : Node). z.queue) (sym is) ∙ h.0.queue_is;
        before_is = before ∙ ap (λ (z : Node). z.before) (sym is) ∙ h.0.before_is;
        after_is = after ∙ ap (λ (z : Node). z.after) (sym is) ∙ h.0.after_is;
      })
      (λ e. record { node = h.0.node; here = at_apart k (Some y) f j e ∙ h.0.here; queue_is = h.0.queue_is; before_is = h.0.before_is; after_is = h.0.after_is }),
  changed_linked f q (Some j) js a k x y here queue before after h.1,
)

-- the totals of its queue
changed_total : (f : Nodes) (ks : List ℕ) (k : ℕ) (x y : Node) → f k ≡ Some x → IsDistinct eqb ks → In k ks → total (at_key k (Some y) f) ks + x.order.shares ≡ total f ks + y.order.shares
changed_total f ks k x y here d i =
    let parts = parts_at k ks i in
    subst (λ t. total (at_key k (Some y) f) t + x.order.shares ≡ total f t + y.order.shares) (sym parts.2)
    (split parts.0 parts.1 (subst (IsDistinct eqb) parts.2 d))
  where
    same : (j : ℕ) → eqb k j ≡ false → shares_of (at_key k (Some y) f j) ≡ shares_of (f j)
    same j e = ap shares_of (at_apart k (Some y) f j e)

    split : (xs ys : List ℕ) → IsDistinct eqb (xs ++ k ∷ ys) → total (at_key k (Some y) f) (xs ++ k ∷ ys) + x.order.shares ≡ total f (xs ++ k ∷ ys) + y.order.shares
    split xs ys d' =
        let a = total-append f xs (k ∷ ys) in let b = total-append (at_key k (Some y) f) xs (k ∷ ys) in
        let left = total_frame f (at_key k (Some y) f) xs (λ j l. same j (eqb_turned j k (not_in_head j k ys (apart j xs (k ∷ ys) d' l)))) in
        let right = total_frame f (at_key k (Some y) f) ys (λ j r. same j (distinct_head k ys (distinct_right xs (k ∷ ys) d') j r)) in
        let old = ap shares_of here in
        let new : shares_of (at_key k (Some y) f k) ≡ y.order.shares = ap shares_of (at_same k (Some y) f k (eqb_itself k)) in
        omega (arith, a, b, left, right, old, new)

module _ (f : Nodes) (heads : ℕ → Option Head) (sound : IsSound f heads) where
  pub sound_changed : (k : ℕ) (x y : Node) (head head' : Head) (heads' : ℕ → Option Head) → f k ≡ Some x → y.queue ≡ x.queue → y.before ≡ x.before → y.after ≡ x.after → y.order.shares < 2 ^ 32 → heads x.queue ≡ Some head
      → head' ≡ record head { shares = head.shares - x.order.shares + y.order.shares } → ((p : ℕ) → heads' p ≡ at_key x.queue (Some head') heads p)
      → IsStep f (at_key k (Some y) f) heads heads' x.queue head' (walked f head)
  sound_changed k x y head head' heads' here queue before after small there is changed =
      sound_step f (at_key k (Some y) f) heads heads' x.queue head' ks sound new changed others theirs mine
    where
      ks : List ℕ
      ks = walked f head

      old : IsQueue f x.queue head ks
      old = sound.queues x.queue head there

      own : In k ks × (x.order.shares < 2 ^ 32)
      own = home_in f heads k x x.queue head sound here refl there

      new : IsQueue (at_key k (Some y) f) x.queue head' ks
      new = subst (λ h. IsQueue (at_key k (Some y) f) x.queue h ks) (sym is) (record {
        linked = changed_linked f x.queue None ks None k x y here queue before after old.linked;
        distinct = old.distinct;
        first = old.first;
        last = old.last;
        orders = old.orders;
        shares = let t = changed_total f ks k x y here old.distinct own.0 in let s = old.shares in let enough = (has_one f heads sound k x head here there).1 in omega (arith, t, s, enough);
      })

      not_own : (j : ℕ) (z : Node) → f j ≡ Some z → eqb x.queue z.queue ≡ false → eqb k j ≡ false
      not_own j z it e =
          by_test (eqb k j)
          (λ s. let one : x ≡ z = same_some here (ap f (eqb_is k j s) ∙ it) in
          absurd (false≢true (sym e ∙ subst (λ (w : Node). eqb x.queue w.queue ≡ true) one (eqb_itself x.queue))))
          (λ n. n)

      others : (j : ℕ) (z : Node) → f j ≡ Some z → eqb x.queue z.queue ≡ false → at_key k (Some y) f j ≡ f j
      others j z it e = at_apart k (Some y) f j (not_own j z it e)

      theirs : (j : ℕ) (z : Node) → at_key k (Some y) f j ≡ Some z → eqb x.queue z.queue ≡ false → f j ≡ Some z
      theirs j z it e =
          by_test (eqb k j)
          (λ s. let one : y ≡ z = same_some (at_same k (Some y) f j s) it in
          let own_queue : x.queue ≡ z.queue = sym queue ∙ ap (λ (w : Node). w.queue) one in
          absurd (false≢true (sym e ∙ subst (λ t. eqb x.queue t ≡ true) own_queue (eqb_itself x.queue))))
          (λ n. sym (at_apart k (Some y) f j n) ∙ it)

      mine : (j : ℕ) (z : Node) → at_key k (Some y) f j ≡ Some z → z.queue ≡ x.queue → In j ks × (z.order.shares < 2 ^ 32)
      mine j z it e =
          by_test (eqb k j)
          (λ s. (subst (λ t. In t ks) (eqb_is k j s) own.0, subst (λ (w : Node). w.order.shares < 2 ^ 32) (same_some (at_same k (Some y) f j s) it) small))
          (λ n. home_in f heads j z x.queue head sound (sym (at_apart k (Some y) f j n) ∙ it) e there)

-- the total shares of a head leave room for the shares of one more order
pub shares_fit : (f : Nodes) (heads : ℕ → Option Head) (q : ℕ) (head : Head) (more : ℕ) → IsSound f heads → heads q ≡ Some head → head.orders < 2 ^ 64 → more < 2 ^ 32 → head.shares + more < 2 ^ 128
shares_fit f heads q head more sound there few small =
    let queue = sound.queues q head there in
    let bound = total_small f (walked f head) (λ j y it. (sound.homes j y it).small) in
    omega (arith, queue.orders, queue.shares, few, bound, small)

-- the shares of an order changed in the slabs
pub record IsChanged (nodes nodes' : Slab Node) (heads heads' : Slab Head) (k n : ℕ) : Type 0 where
  pub sound : IsSound (get nodes') (get heads')
  pub orders : (j : ℕ) → order_at (queued nodes' heads') j ≡ at_key k (option_map (left_with n) (order_at (queued nodes heads) k)) (order_at (queued nodes heads)) j
  pub keys : (q : ℕ) → keys_at (queued nodes' heads') q ≡ keys_at (queued nodes heads) q

pub change_done : (nodes nodes' : Slab Node) (heads heads' : Slab Head) (k n : ℕ) (x y : Node) (head head' : Head) → IsSound (get nodes) (get heads) → get nodes k ≡ Some x → get heads x.queue ≡ Some head
    → y ≡ record x { order = left_with n x.order } → n < 2 ^ 32 → ((j : ℕ) → get nodes' j ≡ at_key k (Some y) (get nodes) j)
    → head' ≡ record head { shares = head.shares - x.order.shares + n } → ((p : ℕ) → get heads' p ≡ at_key x.queue (Some head') (get heads) p) → IsChanged nodes nodes' heads heads' k n
change_done nodes nodes' heads heads' k n x y head head' sound here there other small one is changed = record {
  sound = step.sound;
  orders = λ j. order_seen nodes' heads' j ∙ ap order_of (one j) ∙ map_at_key order_of k (Some y) (get nodes) j
      ∙ ap (λ (o : ℕ → Option Order). at_key k (Some y.order) o j) (pointwise (λ i. order_of (get nodes i)) (order_at (queued nodes heads)) (λ i. sym (order_seen nodes heads i)))
      ∙ ap (λ t. at_key k t (order_at (queued nodes heads)) j) (ap (λ (z : Node). Some z.order) other ∙ sym (ap (option_map (left_with n)) (order_seen nodes heads k ∙ ap order_of here)));
  keys = λ p. keys_stepped nodes nodes' heads heads' x.queue head' (walked (get nodes) head) step changed p ∙ same_keys p;
}
  where
    step : IsStep (get nodes) (get nodes') (get heads) (get heads') x.queue head' (walked (get nodes) head)
    step = subst (λ (g : Nodes). IsStep (get nodes) g (get heads) (get heads') x.queue head' (walked (get nodes) head)) (sym (pointwise (get nodes') (at_key k (Some y) (get nodes)) one))
        (sound_changed (get nodes) (get heads) sound k x y head head' (get heads') here (ap (λ (z : Node). z.queue) other) (ap (λ (z : Node). z.before) other) (ap (λ (z : Node). z.after) other)
        (subst (λ (z : Node). z.order.shares < 2 ^ 32) (sym other) small) there
        (is ∙ ap (λ m. record head { shares = head.shares - x.order.shares + m }) (sym (ap (λ (z : Node). z.order.shares) other))) changed)

    same_keys : (p : ℕ) → at_key x.queue (Some (walked (get nodes) head)) (keys_at (queued nodes heads)) p ≡ keys_at (queued nodes heads) p
    same_keys p =
        by_test (eqb x.queue p)
        (λ e. let at : keys_at (queued nodes heads) p ≡ Some (walked (get nodes) head) = keys_seen nodes heads p ∙ ap (λ t. option_map (walked (get nodes)) (get heads t)) (sym (eqb_is x.queue p e)) ∙ ap (option_map (walked (get nodes))) there in
        simp (e, at) refl)
        (λ e. simp e refl)
