-- The queues are valid after each change.
use Rattle.std.proofs.Common.{◌≡◌, ℕ, ◌^◌, ◌<◌, ◌≤◌, true, false, eqb, List, [], ◌∷◌, ◌++◌, length, Option, Some, None, refl, sym, ap, ◌∙◌, subst, arith, length-append}
use Rattle.std.specs.List.{IsDistinct, list_any}
use Rattle.std.proofs.lemmas.Bool.{false≢true}
use Rattle.itch_book.specs.declared.order.Order.{Order}
use Rattle.itch_book.specs.declared.queues.Node.{Node}
use Rattle.itch_book.specs.declared.queues.Head.{Head}
use Rattle.itch_book.specs.Links.{Nodes, last_or, IsLinked, shares_of, total, IsQueue, walked, IsSound, with_after, with_before, at_key, unlinked_head, pushed_head}
use Rattle.itch_book.specs.Queued.{without_key}
use Rattle.itch_book.proofs.Lists.{by_test}
use Rattle.itch_book.proofs.LinkLemmas.{unlinked, pushed, In, NotIn, eqb_itself, eqb_is, in_head, in_tail, in_cases, not_in_head, not_in_tail, clash, in_queue, linked_right}
use Rattle.itch_book.proofs.UnlinkLemmas.{in_left, in_right, in_parts, parts_at, apart, distinct_right, not_head}
use Rattle.itch_book.proofs.QueueSteps.{total-append, unlinked_keeps, pushed_keeps, none_some, same_some, inj, last_in, first_in, unlink_queue, push_queue, IsStep, sound_step}

-- a list without a key that is not in it
pub without_none : (k : ℕ) (ks : List ℕ) → NotIn k ks → without_key k ks ≡ ks
without_none k [] n = refl
without_none k (j ∷ js) n = let e = not_in_head k j js n in simp e (ap (λ t. j ∷ t) (without_none k js (not_in_tail k j js n)))

without-append : (k : ℕ) (xs ys : List ℕ) → without_key k (xs ++ ys) ≡ without_key k xs ++ without_key k ys
without-append k [] ys = refl
without-append k (x ∷ xs) ys = by_test (eqb k x) (λ e. simp e (without-append k xs ys)) (λ e. simp e (ap (λ t. x ∷ t) (without-append k xs ys)))

pub without_parts : (k : ℕ) (xs ys : List ℕ) → IsDistinct eqb (xs ++ k ∷ ys) → without_key k (xs ++ k ∷ ys) ≡ xs ++ ys
without_parts k xs ys d =
    let left : NotIn k xs = by_test (list_any (eqb k) xs) (λ i. clash k (k ∷ ys) (in_head k ys) (apart k xs (k ∷ ys) d i)) (λ n. n) in
    let right : NotIn k ys = not_head k ys (distinct_right xs (k ∷ ys) d) in
    let e = eqb_itself k in
    let mid : without_key k (k ∷ ys) ≡ ys = simp e (without_none k ys right) in
    without-append k xs (k ∷ ys) ∙ ap (λ t. t ++ without_key k (k ∷ ys)) (without_none k xs left) ∙ ap (λ t. xs ++ t) mid

-- the properties of a node that do not depend on its links
abbrev pub kept_of : Option Node → Option (ℕ × Order)
kept_of None = None
kept_of (Some x) = Some (x.queue, x.order)

node_of : (o : Option Node) (q : ℕ) (x : Order) → kept_of o ≡ Some (q, x) → (y : Node) × (o ≡ Some y) × (y.queue ≡ q) × (y.order ≡ x)
node_of None q x h = absurd (let no_one : ⊥ = cc in no_one)
node_of (Some y) q x h =
    let e : (y.queue, y.order) ≡ (q, x) = inj h in
    (y, refl, ap (λ (p : ℕ × Order). p.0) e, ap (λ (p : ℕ × Order). p.1) e)

-- a node of another queue is not a node of this one
spare : (f : Nodes) (q : ℕ) (ks : List ℕ) (p j : ℕ) (y : Node) → IsLinked f q None ks None → In p ks → f j ≡ Some y → eqb q y.queue ≡ false → eqb p j ≡ false
spare f q ks p j y h i here e =
    by_test (eqb p j)
    (λ same. let there = in_queue f q None ks None p h i in
    let is : p ≡ j = eqb_is p j same in
    let one : there.0 ≡ y = same_some there.1 (ap f is ∙ here) in
    let own : q ≡ y.queue = sym there.2 ∙ ap (λ (z : Node). z.queue) one in
    absurd (false≢true (sym e ∙ subst (λ t. eqb q t ≡ true) own (eqb_itself q))))
    (λ n. n)

skip_after : (f : Nodes) (p t : Option ℕ) (j : ℕ) → ((k : ℕ) → p ≡ Some k → eqb k j ≡ false) → with_after p t f j ≡ f j
skip_after f None t j h = refl
skip_after f (Some k) t j h = let e = h k refl in simp e refl

skip_before : (f : Nodes) (p t : Option ℕ) (j : ℕ) → ((k : ℕ) → p ≡ Some k → eqb k j ≡ false) → with_before p t f j ≡ f j
skip_before f None t j h = refl
skip_before f (Some k) t j h = let e = h k refl in simp e refl

-- the key of a node differs from those of other queues' nodes
not_key : (f : Nodes) (k : ℕ) (x : Node) (j : ℕ) (y : Node) → f k ≡ Some x → f j ≡ Some y → eqb x.queue y.queue ≡ false → eqb k j ≡ false
not_key f k x j y there here e =
    by_test (eqb k j)
    (λ same. let one : x ≡ y = same_some there (ap f (eqb_is k j same) ∙ here) in
    absurd (false≢true (sym e ∙ subst (λ (z : Node). eqb x.queue z.queue ≡ true) one (eqb_itself x.queue))))
    (λ n. n)

pub at_apart : {X : Type 0} (k : ℕ) (slot : Option X) (f : ℕ → Option X) (j : ℕ) → eqb k j ≡ false → at_key k slot f j ≡ f j
at_apart k slot f j e = simp e refl

pub at_same : {X : Type 0} (k : ℕ) (slot : Option X) (f : ℕ → Option X) (j : ℕ) → eqb k j ≡ true → at_key k slot f j ≡ slot
at_same k slot f j e = simp e refl

-- a node is in its queue
pub home_in : (f : Nodes) (heads : ℕ → Option Head) (k : ℕ) (x : Node) (q : ℕ) (head : Head) → IsSound f heads → f k ≡ Some x → x.queue ≡ q → heads q ≡ Some head → In k (walked f head) × (x.order.shares < 2 ^ 32)
home_in f heads k x q head sound here is there =
    let home = sound.homes k x here in
    let same : home.head ≡ head = same_some home.there (ap heads is ∙ there) in
    (subst (λ h. In k (walked f h)) same home.member, home.small)

module _ (f : Nodes) (heads : ℕ → Option Head) (sound : IsSound f heads) where
  -- a node was removed
  pub sound_unlinked : (k : ℕ) (x : Node) (head : Head) (heads' : ℕ → Option Head) → f k ≡ Some x → heads x.queue ≡ Some head
      → ((p : ℕ) → heads' p ≡ at_key x.queue (Some (unlinked_head x head)) heads p)
      → IsStep f (unlinked k x f) heads heads' x.queue (unlinked_head x head) (without_key k (walked f head))
  sound_unlinked k x head heads' here there changed =
      subst (IsStep f (unlinked k x f) heads heads' x.queue (unlinked_head x head)) (sym (ap (without_key k) split ∙ without_parts k xs ys whole.distinct))
      (sound_step f (unlinked k x f) heads heads' x.queue (unlinked_head x head) (xs ++ ys) sound queue changed others theirs mine)
    where
      before_queue : IsQueue f x.queue head (walked f head)
      before_queue = sound.queues x.queue head there

      parts : (xs ys : List ℕ) × (walked f head ≡ xs ++ k ∷ ys)
      parts = parts_at k (walked f head) ((home_in f heads k x x.queue head sound here refl there).0)

      xs : List ℕ
      xs = parts.0

      ys : List ℕ
      ys = parts.1

      split : walked f head ≡ xs ++ k ∷ ys
      split = parts.2

      whole : IsQueue f x.queue head (xs ++ k ∷ ys)
      whole = subst (IsQueue f x.queue head) split before_queue

      queue : IsQueue (unlinked k x f) x.queue (unlinked_head x head) (xs ++ ys)
      queue = unlink_queue f x.queue head xs k ys x here whole

      right : IsLinked f x.queue (last_or None xs) (k ∷ ys) None
      right = linked_right f x.queue None xs (k ∷ ys) None whole.linked

      node : right.0.node ≡ x
      node = same_some right.0.here here

      following : (p : ℕ) → x.before ≡ Some p → In p (xs ++ k ∷ ys)
      following p e = in_left p xs (k ∷ ys) (last_in p xs (sym right.0.before_is ∙ ap (λ (z : Node). z.before) node ∙ e))

      ahead : (p : ℕ) → x.after ≡ Some p → In p (xs ++ k ∷ ys)
      ahead p e = in_right p xs (k ∷ ys) (in_tail p k ys (first_in p ys (sym right.0.after_is ∙ ap (λ (z : Node). z.after) node ∙ e)))

      others : (j : ℕ) (y : Node) → f j ≡ Some y → eqb x.queue y.queue ≡ false → unlinked k x f j ≡ f j
      others j y it e =
          skip_before (with_after x.before x.after (at_key k None f)) x.after x.before j (λ p a. spare f x.queue (xs ++ k ∷ ys) p j y whole.linked (ahead p a) it e)
          ∙ skip_after (at_key k None f) x.before x.after j (λ p b. spare f x.queue (xs ++ k ∷ ys) p j y whole.linked (following p b) it e)
          ∙ at_apart k None f j (not_key f k x j y here it e)

      was : (j : ℕ) (y : Node) → unlinked k x f j ≡ Some y → (y0 : Node) × (f j ≡ Some y0) × (y0.queue ≡ y.queue) × (y0.order ≡ y.order) × (eqb k j ≡ false)
      was j y it =
          let kept : kept_of (unlinked k x f j) ≡ kept_of (at_key k None f j) = unlinked_keeps kept_of (λ z t. refl) (λ z t. refl) k x f j in
          let then_ : kept_of (at_key k None f j) ≡ Some (y.queue, y.order) = sym kept ∙ ap kept_of it in
          by_test (eqb k j)
          (λ e. none_some (ap kept_of (at_same k None f j e)) then_)
          (λ e. let found = node_of (f j) y.queue y.order (ap kept_of (sym (at_apart k None f j e)) ∙ then_) in (found.0, found.1, found.2, found.3, e))

      theirs : (j : ℕ) (y : Node) → unlinked k x f j ≡ Some y → eqb x.queue y.queue ≡ false → f j ≡ Some y
      theirs j y it e =
          let w = was j y it in
          sym (others j w.0 w.1 (subst (λ t. eqb x.queue t ≡ false) (sym w.2) e)) ∙ it

      mine : (j : ℕ) (y : Node) → unlinked k x f j ≡ Some y → y.queue ≡ x.queue → In j (xs ++ ys) × (y.order.shares < 2 ^ 32)
      mine j y it is =
          let w = was j y it in
          let home = home_in f heads j w.0 x.queue head sound w.1 (w.2 ∙ is) there in
          let member : In j (xs ++ k ∷ ys) = subst (In j) split home.0 in (
            in_parts j xs (k ∷ ys) member (λ l. in_left j xs ys l)
                (λ r. in_cases j k ys r (λ e. absurd (false≢true (sym w.4 ∙ subst (λ t. eqb k t ≡ true) (sym e) (eqb_itself k)))) (λ t. in_right j xs ys t)),
            subst (λ (o : Order). o.shares < 2 ^ 32) w.3 home.1,
          )

  -- a node was appended
  pub sound_pushed : (k : ℕ) (x : Node) (head : Head) (heads' : ℕ → Option Head) → f k ≡ None → heads x.queue ≡ Some head → x.before ≡ head.last → x.after ≡ None → x.order.shares < 2 ^ 32
      → ((p : ℕ) → heads' p ≡ at_key x.queue (Some (pushed_head k x head)) heads p)
      → IsStep f (pushed k x f) heads heads' x.queue (pushed_head k x head) (walked f head ++ k ∷ [])
  sound_pushed k x head heads' vacant there before after small changed =
      sound_step f (pushed k x f) heads heads' x.queue (pushed_head k x head) (ks ++ k ∷ []) sound queue changed others theirs mine
    where
      ks : List ℕ
      ks = walked f head

      old : IsQueue f x.queue head ks
      old = sound.queues x.queue head there

      queue : IsQueue (pushed k x f) x.queue (pushed_head k x head) (ks ++ k ∷ [])
      queue = push_queue f x.queue head ks k x vacant refl before after old

      fresh : (j : ℕ) (y : Node) → f j ≡ Some y → eqb k j ≡ false
      fresh j y it = by_test (eqb k j) (λ e. none_some vacant (ap f (eqb_is k j e) ∙ it)) (λ n. n)

      others : (j : ℕ) (y : Node) → f j ≡ Some y → eqb x.queue y.queue ≡ false → pushed k x f j ≡ f j
      others j y it e =
          skip_after (at_key k (Some x) f) x.before (Some k) j (λ p b. spare f x.queue ks p j y old.linked (last_in p ks (sym old.last ∙ sym before ∙ b)) it e)
          ∙ at_apart k (Some x) f j (fresh j y it)

      kept : (j : ℕ) (y : Node) → pushed k x f j ≡ Some y → kept_of (at_key k (Some x) f j) ≡ Some (y.queue, y.order)
      kept j y it = sym (pushed_keeps kept_of (λ z t. refl) k x f j) ∙ ap kept_of it

      theirs : (j : ℕ) (y : Node) → pushed k x f j ≡ Some y → eqb x.queue y.queue ≡ false → f j ≡ Some y
      theirs j y it e =
          by_test (eqb k j)
          (λ s. let own : (x.queue, x.order) ≡ (y.queue, y.order) = inj (sym (ap kept_of (at_same k (Some x) f j s)) ∙ kept j y it) in
          let is : x.queue ≡ y.queue = ap (λ (p : ℕ × Order). p.0) own in
          absurd (false≢true (sym e ∙ subst (λ t. eqb x.queue t ≡ true) is (eqb_itself x.queue))))
          (λ n. let found = node_of (f j) y.queue y.order (ap kept_of (sym (at_apart k (Some x) f j n)) ∙ kept j y it) in
          sym (others j found.0 found.1 (subst (λ t. eqb x.queue t ≡ false) (sym found.2) e)) ∙ it)

      mine : (j : ℕ) (y : Node) → pushed k x f j ≡ Some y → y.queue ≡ x.queue → In j (ks ++ k ∷ []) × (y.order.shares < 2 ^ 32)
      mine j y it is =
          by_test (eqb k j)
          (λ s. let own : (x.queue, x.order) ≡ (y.queue, y.order) = inj (sym (ap kept_of (at_same k (Some x) f j s)) ∙ kept j y it) in
          let order : x.order ≡ y.order = ap (λ (p : ℕ × Order). p.1) own in
          (in_right j ks (k ∷ []) (subst (λ t. In t (k ∷ [])) (eqb_is k j s) (in_head k [])), subst (λ (o : Order). o.shares < 2 ^ 32) order small))
          (λ n. let found = node_of (f j) y.queue y.order (ap kept_of (sym (at_apart k (Some x) f j n)) ∙ kept j y it) in
          let home = home_in f heads j found.0 x.queue head sound found.1 (found.2 ∙ is) there in
          (in_left j ks (k ∷ []) home.0, subst (λ (o : Order). o.shares < 2 ^ 32) found.3 home.1))

  -- a key of one queue is in no other
  pub other_without : (k : ℕ) (x : Node) (p : ℕ) (head0 : Head) → f k ≡ Some x → heads p ≡ Some head0 → eqb x.queue p ≡ false → without_key k (walked f head0) ≡ walked f head0
  other_without k x p head0 here there e =
      without_none k (walked f head0) (by_test (list_any (eqb k) (walked f head0))
      (λ i. let own = in_queue f p None (walked f head0) None k ((sound.queues p head0 there).linked) i in
      let one : own.0 ≡ x = same_some own.1 here in
      let is : x.queue ≡ p = sym (ap (λ (z : Node). z.queue) one) ∙ own.2 in
      absurd (false≢true (sym e ∙ subst (λ t. eqb x.queue t ≡ true) is (eqb_itself x.queue))))
      (λ n. n))

  -- the totals of a queue include those of each of its nodes
  pub has_one : (k : ℕ) (x : Node) (head : Head) → f k ≡ Some x → heads x.queue ≡ Some head → (1 ≤ head.orders) × (x.order.shares ≤ head.shares)
  has_one k x head here there =
      let queue = sound.queues x.queue head there in
      let parts = parts_at k (walked f head) ((home_in f heads k x x.queue head sound here refl there).0) in
      let n = queue.orders ∙ ap length parts.2 ∙ length-append parts.0 (k ∷ parts.1) in
      let t = queue.shares ∙ ap (total f) parts.2 ∙ total-append f parts.0 (k ∷ parts.1) in
      let s = ap shares_of here in
      (omega (arith, n), omega (arith, t, s))
