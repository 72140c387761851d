-- Valid queues remain valid.
use Rattle.std.proofs.Common.{◌≡◌, ℕ, ◌+◌, ◌*◌, ◌^◌, ◌<◌, ◌≤◌, false, eqb, List, [], ◌∷◌, ◌++◌, length, Option, Some, None, option_map, refl, sym, ap, ◌∙◌, subst, arith, length-append}
use Rattle.std.specs.List.{list_any}
use Rattle.std.specs.Cmp.{nat_eq_equiv}
use Rattle.std.proofs.lemmas.Map.Keys.{IsDistinct-push}
use Rattle.itch_book.specs.declared.queues.Node.{Node}
use Rattle.itch_book.specs.declared.queues.Head.{Head}
use Rattle.itch_book.specs.Links.{Nodes, walk, first_or, last_or, IsLinked, shares_of, total, IsQueue, walked, IsHome, IsSound, cond_none, with_after, with_before, at_key, unlinked_head, pushed_head}
use Rattle.itch_book.proofs.Lists.{by_test}
use Rattle.itch_book.proofs.LinkLemmas.{unlinked, pushed, In, NotIn, eqb_itself, eqb_is, eqb_turned, in_head, in_tail, not_in_head, in_queue, other_linked, linked_right, last_or-append, walk_is, last_key, last_or_is, in_last, distinct_head}
use Rattle.itch_book.proofs.UnlinkLemmas.{in_parts, apart, distinct_right, distinct_without, apart_keys, unlinked_linked, pushed_linked}

-- the keys of a queue are those along its links
pub walked_is : (f : Nodes) (q : ℕ) (head : Head) (ks : List ℕ) → IsQueue f q head ks → walked f head ≡ ks
walked_is f q head ks h =
    ap (λ n. walk f n head.first) h.orders ∙ ap (walk f (length ks)) h.first ∙ walk_is f q None ks h.linked

-- so they can be read by a walk
pub queue_walked : (f : Nodes) (q : ℕ) (head : Head) (ks : List ℕ) → IsQueue f q head ks → IsQueue f q head (walked f head)
queue_walked f q head ks h = subst (IsQueue f q head) (sym (walked_is f q head ks h)) h

-- the shares of a list
pub total_frame : (f g : Nodes) (ks : List ℕ) → ((j : ℕ) → In j ks → shares_of (g j) ≡ shares_of (f j)) → total g ks ≡ total f ks
total_frame f g [] same = refl
total_frame f g (k ∷ ks) same =
    let a = same k (in_head k ks) in let b = total_frame f g ks (λ j i. same j (in_tail j k ks i)) in omega (arith, a, b)

pub total-append : (f : Nodes) (xs ys : List ℕ) → total f (xs ++ ys) ≡ total f xs + total f ys
total-append f [] ys = omega arith
total-append f (x ∷ xs) ys = let r = total-append f xs ys in omega (arith, r)

-- links do not change shares, queues or orders
pub after_keeps : {X : Type 0} (v : Option Node → X) → ((x : Node) (t : Option ℕ) → v (Some (record x { after = t })) ≡ v (Some x)) → (p t : Option ℕ) (f : Nodes) (j : ℕ) → v (with_after p t f j) ≡ v (f j)
after_keeps v same None t f j = refl
after_keeps v same (Some p) t f j = by_test (eqb p j) (λ e. simp e (by_node (f j))) (λ e. simp e refl)
  where
    by_node : (n : Option Node) → v (option_map (λ (x : Node). record x { after = t }) n) ≡ v n
    by_node None = refl
    by_node (Some x) = same x t

pub before_keeps : {X : Type 0} (v : Option Node → X) → ((x : Node) (t : Option ℕ) → v (Some (record x { before = t })) ≡ v (Some x)) → (p t : Option ℕ) (f : Nodes) (j : ℕ) → v (with_before p t f j) ≡ v (f j)
before_keeps v same None t f j = refl
before_keeps v same (Some p) t f j = by_test (eqb p j) (λ e. simp e (by_node (f j))) (λ e. simp e refl)
  where
    by_node : (n : Option Node) → v (option_map (λ (x : Node). record x { before = t }) n) ≡ v n
    by_node None = refl
    by_node (Some x) = same x t

-- removing a node affects other properties only by the absence of that node
pub unlinked_keeps : {X : Type 0} (v : Option Node → X) → ((x : Node) (t : Option ℕ) → v (Some (record x { after = t })) ≡ v (Some x)) → ((x : Node) (t : Option ℕ) → v (Some (record x { before = t })) ≡ v (Some x))
    → (k : ℕ) (x : Node) (f : Nodes) (j : ℕ) → v (unlinked k x f j) ≡ v (at_key k None f j)
unlinked_keeps v same_after same_before k x f j =
    before_keeps v same_before x.after x.before (with_after x.before x.after (at_key k None f)) j ∙ after_keeps v same_after x.before x.after (at_key k None f) j

pub pushed_keeps : {X : Type 0} (v : Option Node → X) → ((x : Node) (t : Option ℕ) → v (Some (record x { after = t })) ≡ v (Some x))
    → (k : ℕ) (x : Node) (f : Nodes) (j : ℕ) → v (pushed k x f j) ≡ v (at_key k (Some x) f j)
pushed_keeps v same_after k x f j = after_keeps v same_after x.before (Some k) (at_key k (Some x) f) j

-- the queue of a node
abbrev pub queue_of : Option Node → Option ℕ
queue_of None = None
queue_of (Some x) = Some x.queue

pub none_some : {X P : Type 0} {o : Option X} {x : X} → o ≡ None → o ≡ Some x → P
none_some {X} {P} {o} {x} h k = let e : Some x ≡ None = sym k ∙ h in absurd (let no_one : ⊥ = cc in no_one)

pub inj : {X : Type 0} {a b : X} → Some a ≡ Some b → a ≡ b
inj h = cc

pub same_some : {X : Type 0} {o : Option X} {x y : X} → o ≡ Some x → o ≡ Some y → x ≡ y
same_some {X} {o} {x} {y} h k = let e : Some x ≡ Some y = sym h ∙ k in cc

pub last_in : (b : ℕ) (ks : List ℕ) → last_or None ks ≡ Some b → In b ks
last_in b [] h = absurd (let no_one : ⊥ = cc in no_one)
last_in b (k ∷ ks) h = let e : last_key k ks ≡ b = same_some (last_or_is None k ks) h in subst (λ t. In t (k ∷ ks)) e (in_last k ks)

pub first_in : (b : ℕ) (ks : List ℕ) → first_or ks None ≡ Some b → In b ks
first_in b [] h = absurd (let no_one : ⊥ = cc in no_one)
first_in b (k ∷ ks) h = let e : k ≡ b = inj h in subst (λ t. In t (k ∷ ks)) e (in_head k ks)

-- a queue after a node was removed
pub unlink_queue : (f : Nodes) (q : ℕ) (head : Head) (xs : List ℕ) (k : ℕ) (ys : List ℕ) (x : Node) → f k ≡ Some x → IsQueue f q head (xs ++ k ∷ ys)
    → IsQueue (unlinked k x f) q (unlinked_head x head) (xs ++ ys)
unlink_queue f q head xs k ys x here h = record {
  linked = unlinked_linked f q xs k ys x h.distinct h.linked here;
  distinct = distinct_without xs k ys h.distinct;
  first = first_is xs before first_here;
  last = last_is ys after last_here;
  orders = omega (arith, h.orders, length-append xs (k ∷ ys), length-append xs ys);
  shares =
      let rest = total_frame f (unlinked k x f) (xs ++ ys) (λ j i. shares_kept j (apart_from j i)) in
      let split = total-append f xs (k ∷ ys) in
      let joined = total-append f xs ys in
      let here' = ap shares_of here in
      omega (arith, h.shares, rest, split, joined, here');
}
  where
    right : IsLinked f q (last_or None xs) (k ∷ ys) None
    right = linked_right f q None xs (k ∷ ys) None h.linked

    node : right.0.node ≡ x
    node = same_some right.0.here here

    before : x.before ≡ last_or None xs
    before = ap (λ (z : Node). z.before) (sym node) ∙ right.0.before_is

    after : x.after ≡ first_or ys None
    after = ap (λ (z : Node). z.after) (sym node) ∙ right.0.after_is

    first_here : head.first ≡ first_or (xs ++ k ∷ ys) None
    first_here = h.first

    last_here : head.last ≡ last_or None (xs ++ k ∷ ys)
    last_here = h.last

    first_is : (zs : List ℕ) → x.before ≡ last_or None zs → head.first ≡ first_or (zs ++ k ∷ ys) None → cond_none x.before x.after head.first ≡ first_or (zs ++ ys) None
    first_is [] b e = rw b after
    first_is (z ∷ zs) b e = rw (b ∙ last_or_is None z zs) e

    last_is : (zs : List ℕ) → x.after ≡ first_or zs None → head.last ≡ last_or None (xs ++ k ∷ zs) → cond_none x.after x.before head.last ≡ last_or None (xs ++ zs)
    last_is [] a e = rw a (before ∙ sym (last_or-append None xs []))
    last_is (z ∷ zs) a e = rw a (e ∙ last_or-append None xs (k ∷ z ∷ zs) ∙ sym (last_or-append None xs (z ∷ zs)))

    apart_from : (j : ℕ) → In j (xs ++ ys) → eqb k j ≡ false
    apart_from j i = in_parts j xs ys i
        (λ l. eqb_turned j k (not_in_head j k ys (apart j xs (k ∷ ys) h.distinct l)))
        (λ r. distinct_head k ys (distinct_right xs (k ∷ ys) h.distinct) j r)

    shares_kept : (j : ℕ) → eqb k j ≡ false → shares_of (unlinked k x f j) ≡ shares_of (f j)
    shares_kept j e = unlinked_keeps shares_of (λ y t. refl) (λ y t. refl) k x f j ∙ simp e refl

-- no key of a queue is vacant
pub vacant_out : (f : Nodes) (q : ℕ) (ks : List ℕ) (k : ℕ) → IsLinked f q None ks None → f k ≡ None → NotIn k ks
vacant_out f q ks k h vacant = by_test (list_any (eqb k) ks) (λ i. let there = in_queue f q None ks None k h i in none_some vacant there.1) (λ n. n)

-- a queue after a node was appended
pub push_queue : (f : Nodes) (q : ℕ) (head : Head) (ks : List ℕ) (k : ℕ) (x : Node) → f k ≡ None → x.queue ≡ q → x.before ≡ head.last → x.after ≡ None → IsQueue f q head ks
    → IsQueue (pushed k x f) q (pushed_head k x head) (ks ++ k ∷ [])
push_queue f q head ks k x vacant queue before after h = record {
  linked = pushed_linked f q ks k x h.distinct h.linked vacant queue (before ∙ h.last) after out;
  distinct = IsDistinct-push nat_eq_equiv ks k h.distinct out;
  first = first_is ks (before ∙ h.last) h.first;
  last = sym (last_or-append None ks (k ∷ []));
  orders = omega (arith, h.orders, length-append ks (k ∷ []));
  shares =
      let rest = total_frame f (pushed k x f) ks (λ j i. shares_kept j (apart_keys k j ks out i)) in
      let split = total-append (pushed k x f) ks (k ∷ []) in
      let e = eqb_itself k in
      let here : shares_of (pushed k x f k) ≡ x.order.shares = pushed_keeps shares_of (λ y t. refl) k x f k ∙ simp e refl in
      omega (arith, h.shares, rest, split, here);
}
  where
    out : NotIn k ks
    out = vacant_out f q ks k h.linked vacant

    first_is : (zs : List ℕ) → x.before ≡ last_or None zs → head.first ≡ first_or zs None → cond_none x.before (Some k) head.first ≡ first_or (zs ++ k ∷ []) None
    first_is [] b e = rw b refl
    first_is (z ∷ zs) b e = rw (b ∙ last_or_is None z zs) e

    shares_kept : (j : ℕ) → eqb k j ≡ false → shares_of (pushed k x f j) ≡ shares_of (f j)
    shares_kept j e = pushed_keeps shares_of (λ y t. refl) k x f j ∙ simp e refl

-- a queue whose nodes did not change
pub frame_queue : (f g : Nodes) (q : ℕ) (head : Head) (ks : List ℕ) → ((j : ℕ) (y : Node) → f j ≡ Some y → y.queue ≡ q → g j ≡ f j) → IsQueue f q head ks → IsQueue g q head ks
frame_queue f g q head ks same h = record {
  linked = other_linked f g q None ks None same h.linked;
  distinct = h.distinct;
  first = h.first;
  last = h.last;
  orders = h.orders;
  shares = h.shares ∙ sym (total_frame f g ks (λ j i. let there = in_queue f q None ks None j h.linked i in ap shares_of (same j there.0 there.1 there.2)));
}

-- the queues after a change of one of them
pub record IsStep (f g : Nodes) (heads heads' : ℕ → Option Head) (q : ℕ) (head : Head) (ks : List ℕ) : Type 0 where
  pub sound : IsSound g heads'
  pub own : walked g head ≡ ks
  pub kept : (p : ℕ) (head0 : Head) → eqb q p ≡ false → heads p ≡ Some head0 → walked g head0 ≡ walked f head0

-- a change of one queue that does not affect the nodes of the others
pub sound_step : (f g : Nodes) (heads heads' : ℕ → Option Head) (q : ℕ) (head : Head) (ks : List ℕ) → IsSound f heads → IsQueue g q head ks → ((p : ℕ) → heads' p ≡ at_key q (Some head) heads p)
    → ((j : ℕ) (y : Node) → f j ≡ Some y → eqb q y.queue ≡ false → g j ≡ f j)
    → ((j : ℕ) (y : Node) → g j ≡ Some y → eqb q y.queue ≡ false → f j ≡ Some y)
    → ((j : ℕ) (y : Node) → g j ≡ Some y → y.queue ≡ q → In j ks × (y.order.shares < 2 ^ 32))
    → IsStep f g heads heads' q head ks
sound_step f g heads heads' q head ks sound queue changed others theirs mine = record {
  sound = record { queues = queues; homes = homes };
  own = walked_is g q head ks queue;
  kept = λ p head0 e there. walked_is g p head0 (walked f head0) (kept p head0 e there);
}
  where
    at_other : (p : ℕ) → eqb q p ≡ false → at_key q (Some head) heads p ≡ heads p
    at_other p e = simp e refl

    kept : (p : ℕ) (head0 : Head) → eqb q p ≡ false → heads p ≡ Some head0 → IsQueue g p head0 (walked f head0)
    kept p head0 e there =
        frame_queue f g p head0 (walked f head0) (λ j y here is. others j y here (subst (λ t. eqb q t ≡ false) (sym is) e)) (sound.queues p head0 there)

    queues : (p : ℕ) (head0 : Head) → heads' p ≡ Some head0 → IsQueue g p head0 (walked g head0)
    queues p head0 there =
        by_test (eqb q p)
        (λ e. let is : q ≡ p = eqb_is q p e in
        let here : heads' p ≡ Some head = changed p ∙ simp e refl in
        subst (λ h. IsQueue g p h (walked g h)) (same_some here there) (subst (λ t. IsQueue g t head (walked g head)) is (queue_walked g q head ks queue)))
        (λ e. let before : heads p ≡ Some head0 = sym (changed p ∙ at_other p e) ∙ there in
        queue_walked g p head0 (walked f head0) (kept p head0 e before))

    homes : (j : ℕ) (y : Node) → g j ≡ Some y → IsHome g heads' j y
    homes j y here =
        by_test (eqb q y.queue)
        (λ e. let is : q ≡ y.queue = eqb_is q y.queue e in
        let own = mine j y here (sym is) in
        record {
          head = head;
          there = changed y.queue ∙ simp e refl;
          member = subst (In j) (sym (walked_is g q head ks queue)) own.0;
          small = own.1;
        })
        (λ e. let home = sound.homes j y (theirs j y here e) in
        let same = walked_is g y.queue home.head (walked f home.head) (kept y.queue home.head e home.there) in
        record {
          head = home.head;
          there = changed y.queue ∙ at_other y.queue e ∙ home.there;
          member = subst (In j) (sym same) home.member;
          small = home.small;
        })

-- a bound on the shares of a queue
pub total_small : (f : Nodes) (ks : List ℕ) → ((j : ℕ) (y : Node) → f j ≡ Some y → y.order.shares < 2 ^ 32) → total f ks ≤ length ks * 4294967296
total_small f [] small = omega arith
total_small f (k ∷ ks) small = let r = total_small f ks small in let h = by_node (f k) (λ y e. small k y e) in omega (arith, r, h)
  where
    by_node : (o : Option Node) → ((y : Node) → o ≡ Some y → y.order.shares < 2 ^ 32) → shares_of o ≤ 4294967296
    by_node None h = omega arith
    by_node (Some y) h = let b = h y refl in omega (arith, b)
