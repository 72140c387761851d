-- The effect of a change of one node on a list of linked nodes.
use Rattle.std.proofs.Common.{◌≡◌, ℕ, true, false, eqb, List, [], ◌∷◌, ◌++◌, length, Option, Some, None, refl, sym, ap, ◌∙◌, subst, arith}
use Rattle.std.specs.List.{AllByRecursion, IsDistinct, list_any}
use Rattle.std.proofs.lemmas.Bool.{false≢true}
use Rattle.std.proofs.lemmas.Bool.Decides.{nat_tests}
use Rattle.itch_book.specs.declared.queues.Node.{Node}
use Rattle.itch_book.specs.Links.{Nodes, next_of, walk, first_or, last_or, IsLink, IsLinked, with_after, with_before, at_key}
use Rattle.itch_book.proofs.Lists.{by_test}

-- the nodes after one was removed from its queue
abbrev pub unlinked : ℕ → Node → Nodes → Nodes
unlinked key x f = with_before x.after x.before (with_after x.before x.after (at_key key None f))

-- the nodes after one was appended to a queue
abbrev pub pushed : ℕ → Node → Nodes → Nodes
pushed key x f = with_after x.before (Some key) (at_key key (Some x) f)

-- a key is in a list
abbrev pub In : ℕ → List ℕ → Type 0
In j ks = list_any (eqb j) ks ≡ true

abbrev pub NotIn : ℕ → List ℕ → Type 0
NotIn j ks = list_any (eqb j) ks ≡ false

pub eqb_itself : (k : ℕ) → eqb k k ≡ true
eqb_itself k = grind (arith, nat_tests)

pub eqb_is : (j k : ℕ) → eqb j k ≡ true → j ≡ k
eqb_is j k h = grind (arith, nat_tests)

pub eqb_turned : (j k : ℕ) → eqb j k ≡ false → eqb k j ≡ false
eqb_turned j k h = grind (arith, nat_tests)

pub in_head : (k : ℕ) (ks : List ℕ) → In k (k ∷ ks)
in_head k ks = let e = eqb_itself k in simp e refl

pub in_tail : (j k : ℕ) (ks : List ℕ) → In j ks → In j (k ∷ ks)
in_tail j k ks h = by_test (eqb j k) (λ e. simp e refl) (λ e. simp (e, h) refl)

pub in_cases : {P : Type 0} (j k : ℕ) (ks : List ℕ) → In j (k ∷ ks) → (j ≡ k → P) → (In j ks → P) → P
in_cases j k ks h same rest = by_test (eqb j k) (λ e. same (eqb_is j k e)) (λ e. let i : list_any (eqb j) ks ≡ true = simp e at h in rest i)

pub not_in_head : (j k : ℕ) (ks : List ℕ) → NotIn j (k ∷ ks) → eqb j k ≡ false
not_in_head j k ks h = by_test (eqb j k) (λ e. let no : true ≡ false = simp e at h in absurd (false≢true (sym no))) (λ e. e)

pub not_in_tail : (j k : ℕ) (ks : List ℕ) → NotIn j (k ∷ ks) → NotIn j ks
not_in_tail j k ks h = let e = not_in_head j k ks h in simp e at h

pub clash : {P : Type 0} (j : ℕ) (ks : List ℕ) → In j ks → NotIn j ks → P
clash j ks h k = absurd (false≢true (sym k ∙ h))

-- a list whose nodes did not change is still linked
pub frame : (f g : Nodes) (q : ℕ) (b : Option ℕ) (ks : List ℕ) (a : Option ℕ) → ((j : ℕ) → In j ks → g j ≡ f j) → IsLinked f q b ks a → IsLinked g q b ks a
frame f g q b [] a same h = tt
frame f g q b (k ∷ ks) a same h = (
  record { node = h.0.node; here = same k (in_head k ks) ∙ h.0.here; queue_is = h.0.queue_is; before_is = h.0.before_is; after_is = h.0.after_is },
  frame f g q (Some k) ks a (λ j i. same j (in_tail j k ks i)) h.1,
)

-- all nodes of a linked list are in its queue
pub in_queue : (f : Nodes) (q : ℕ) (b : Option ℕ) (ks : List ℕ) (a : Option ℕ) (j : ℕ) → IsLinked f q b ks a → In j ks → (x : Node) × (f j ≡ Some x) × (x.queue ≡ q)
in_queue f q b [] a j h i = absurd (false≢true i)
in_queue f q b (k ∷ ks) a j h i =
    in_cases j k ks i (λ e. (h.0.node, ap f e ∙ h.0.here, h.0.queue_is)) (λ r. in_queue f q (Some k) ks a j h.1 r)

-- if the nodes of other queues did not change, neither did the links of those queues
pub other_linked : (f g : Nodes) (q : ℕ) (b : Option ℕ) (ks : List ℕ) (a : Option ℕ) → ((j : ℕ) (x : Node) → f j ≡ Some x → x.queue ≡ q → g j ≡ f j) → IsLinked f q b ks a → IsLinked g q b ks a
other_linked f g q b ks a same h = frame f g q b ks a (λ j i. let there = in_queue f q b ks a j h i in same j there.0 there.1 there.2) h

pub first_or-append : (xs ys : List ℕ) (a : Option ℕ) → first_or (xs ++ ys) a ≡ first_or xs (first_or ys a)
first_or-append [] ys a = refl
first_or-append (x ∷ xs) ys a = refl

pub last_or-append : (b : Option ℕ) (xs ys : List ℕ) → last_or b (xs ++ ys) ≡ last_or (last_or b xs) ys
last_or-append b [] ys = refl
last_or-append b (x ∷ xs) ys = last_or-append (Some x) xs ys

-- a linked list in two parts
pub linked_left : (f : Nodes) (q : ℕ) (b : Option ℕ) (xs ys : List ℕ) (a : Option ℕ) → IsLinked f q b (xs ++ ys) a → IsLinked f q b xs (first_or ys a)
linked_left f q b [] ys a h = tt
linked_left f q b (x ∷ xs) ys a h = (subst (IsLink f q b x) (first_or-append xs ys a) h.0, linked_left f q (Some x) xs ys a h.1)

pub linked_right : (f : Nodes) (q : ℕ) (b : Option ℕ) (xs ys : List ℕ) (a : Option ℕ) → IsLinked f q b (xs ++ ys) a → IsLinked f q (last_or b xs) ys a
linked_right f q b [] ys a h = h
linked_right f q b (x ∷ xs) ys a h = linked_right f q (Some x) xs ys a h.1

pub linked_joined : (f : Nodes) (q : ℕ) (b : Option ℕ) (xs ys : List ℕ) (a : Option ℕ) → IsLinked f q b xs (first_or ys a) → IsLinked f q (last_or b xs) ys a → IsLinked f q b (xs ++ ys) a
linked_joined f q b [] ys a h k = k
linked_joined f q b (x ∷ xs) ys a h k = (subst (IsLink f q b x) (sym (first_or-append xs ys a)) h.0, linked_joined f q (Some x) xs ys a h.1 k)

-- a walk along the links visits the whole list
pub walk_is : (f : Nodes) (q : ℕ) (b : Option ℕ) (ks : List ℕ) → IsLinked f q b ks None → walk f (length ks) (first_or ks None) ≡ ks
walk_is f q b [] h = refl
walk_is f q b (k ∷ ks) h =
    let next : next_of (f k) ≡ first_or ks None = ap next_of h.0.here ∙ h.0.after_is in
    ap (λ t. k ∷ t) (ap (walk f (length ks)) next ∙ walk_is f q (Some k) ks h.1)

-- the last key of a non-empty list
abbrev pub last_key : ℕ → List ℕ → ℕ
last_key k [] = k
last_key k (j ∷ js) = last_key j js

pub last_or_is : (b : Option ℕ) (k : ℕ) (ks : List ℕ) → last_or b (k ∷ ks) ≡ Some (last_key k ks)
last_or_is b k [] = refl
last_or_is b k (j ∷ js) = last_or_is (Some k) j js

pub in_last : (k : ℕ) (ks : List ℕ) → In (last_key k ks) (k ∷ ks)
in_last k [] = in_head k []
in_last k (j ∷ js) = in_tail (last_key j js) k (j ∷ js) (in_last j js)

-- no other key of a distinct list equals its first
pub apart_head : (k j : ℕ) (ks : List ℕ) → AllByRecursion (λ y. eqb k y ≡ false) ks → In j ks → eqb k j ≡ false
apart_head k j [] d i = absurd (false≢true i)
apart_head k j (x ∷ xs) d i = in_cases j x xs i (λ e. subst (λ y. eqb k y ≡ false) (sym e) d.0) (λ r. apart_head k j xs d.1 r)

pub distinct_head : (k : ℕ) (ks : List ℕ) → IsDistinct eqb (k ∷ ks) → (j : ℕ) → In j ks → eqb k j ≡ false
unfolding IsDistinct
distinct_head k ks d j i = apart_head k j ks d.0 i

pub distinct_tail : (k : ℕ) (ks : List ℕ) → IsDistinct eqb (k ∷ ks) → IsDistinct eqb ks
unfolding IsDistinct
distinct_tail k ks d = d.1

-- another node after the last one
pub relinked_last : (f : Nodes) (q : ℕ) (b : Option ℕ) (k : ℕ) (ks : List ℕ) (a a' : Option ℕ) → IsDistinct eqb (k ∷ ks) → IsLinked f q b (k ∷ ks) a → IsLinked (with_after (Some (last_key k ks)) a' f) q b (k ∷ ks) a'
relinked_last f q b k [] a a' d h = (
  let e = eqb_itself k in
      let there : with_after (Some k) a' f k ≡ Some (record (h.0.node) { after = a' }) = simp (e, h.0.here) refl in
      record { node = record (h.0.node) { after = a' }; here = there; queue_is = h.0.queue_is; before_is = h.0.before_is; after_is = refl },
  tt,
)
relinked_last f q b k (j ∷ js) a a' d h = (
  let e = eqb_turned k (last_key j js) (distinct_head k (j ∷ js) d (last_key j js) (in_last j js)) in
      let there : with_after (Some (last_key j js)) a' f k ≡ Some h.0.node = simp (e, h.0.here) refl in
      record { node = h.0.node; here = there; queue_is = h.0.queue_is; before_is = h.0.before_is; after_is = h.0.after_is },
  relinked_last f q (Some k) j js a a' (distinct_tail k (j ∷ js) d) h.1,
)

-- another node before the first one
pub relinked_first : (f : Nodes) (q : ℕ) (b b' : Option ℕ) (k : ℕ) (ks : List ℕ) (a : Option ℕ) → IsDistinct eqb (k ∷ ks) → IsLinked f q b (k ∷ ks) a → IsLinked (with_before (Some k) b' f) q b' (k ∷ ks) a
relinked_first f q b b' k ks a d h = (
  let e = eqb_itself k in
      let there : with_before (Some k) b' f k ≡ Some (record (h.0.node) { before = b' }) = simp (e, h.0.here) refl in
      record { node = record (h.0.node) { before = b' }; here = there; queue_is = h.0.queue_is; before_is = refl; after_is = h.0.after_is },
  frame f (with_before (Some k) b' f) q (Some k) ks a (λ j i. let e = distinct_head k ks d j i in simp e refl) h.1,
)
