-- Removing a node from its queue, and appending one.
use Rattle.std.proofs.Common.{◌≡◌, ℕ, true, false, eqb, List, [], ◌∷◌, ◌++◌, Option, Some, None, refl, sym, ap, ◌∙◌, subst, append-nil}
use Rattle.std.specs.List.{AllByRecursion, IsDistinct, list_any}
use Rattle.std.proofs.lemmas.Bool.{false≢true}
use Rattle.itch_book.specs.declared.queues.Node.{Node}
use Rattle.itch_book.specs.Links.{Nodes, first_or, last_or, IsLink, IsLinked, with_after, with_before, at_key}
use Rattle.itch_book.proofs.Lists.{by_test, All-left_rec}
use Rattle.itch_book.proofs.LinkLemmas.{unlinked, pushed, In, NotIn, eqb_itself, eqb_is, in_head, in_tail, in_cases, clash, frame, linked_left, linked_right, linked_joined, last_key, last_or_is, in_last, distinct_head, distinct_tail, relinked_last, relinked_first}

pub in_left : (j : ℕ) (xs ys : List ℕ) → In j xs → In j (xs ++ ys)
in_left j [] ys i = absurd (false≢true i)
in_left j (x ∷ xs) ys i = in_cases j x xs i (λ e. subst (λ k. In k (x ∷ (xs ++ ys))) (sym e) (in_head x (xs ++ ys))) (λ r. in_tail j x (xs ++ ys) (in_left j xs ys r))

pub in_right : (j : ℕ) (xs ys : List ℕ) → In j ys → In j (xs ++ ys)
in_right j [] ys i = i
in_right j (x ∷ xs) ys i = in_tail j x (xs ++ ys) (in_right j xs ys i)

pub in_parts : {P : Type 0} (j : ℕ) (xs ys : List ℕ) → In j (xs ++ ys) → (In j xs → P) → (In j ys → P) → P
in_parts j [] ys i left right = right i
in_parts j (x ∷ xs) ys i left right =
    in_cases j x (xs ++ ys) i (λ e. left (subst (λ k. In k (x ∷ xs)) (sym e) (in_head x xs)))
    (λ r. in_parts j xs ys r (λ l. left (in_tail j x xs l)) right)

-- a key in a list is between two parts of it
pub parts_at : (j : ℕ) (ks : List ℕ) → In j ks → (xs ys : List ℕ) × (ks ≡ xs ++ j ∷ ys)
parts_at j [] i = absurd (false≢true i)
parts_at j (k ∷ ks) i =
    in_cases j k ks i (λ e. ([], ks, ap (λ t. t ∷ ks) (sym e)))
    (λ r. let rest = parts_at j ks r in (k ∷ rest.0, rest.1, ap (λ t. k ∷ t) rest.2))

-- a key of the first part of a distinct list is not in the second
pub apart : (j : ℕ) (xs ys : List ℕ) → IsDistinct eqb (xs ++ ys) → In j xs → NotIn j ys
apart j [] ys d i = absurd (false≢true i)
apart j (x ∷ xs) ys d i =
    in_cases j x xs i
    (λ e. by_test (list_any (eqb j) ys)
    (λ r. let same = distinct_head x (xs ++ ys) d j (in_right j xs ys r) in absurd (false≢true (sym same ∙ subst (λ k. eqb x k ≡ true) (sym e) (eqb_itself x))))
    (λ n. n))
    (λ r. apart j xs ys (distinct_tail x (xs ++ ys) d) r)

pub distinct_right : (xs ys : List ℕ) → IsDistinct eqb (xs ++ ys) → IsDistinct eqb ys
distinct_right [] ys d = d
distinct_right (x ∷ xs) ys d = distinct_right xs ys (distinct_tail x (xs ++ ys) d)

pub distinct_left : (xs ys : List ℕ) → IsDistinct eqb (xs ++ ys) → IsDistinct eqb xs
unfolding IsDistinct
distinct_left [] ys d = tt
distinct_left (x ∷ xs) ys d = (All-left_rec (λ y. eqb x y ≡ false) xs ys d.0, distinct_left xs ys d.1)

pub distinct_without : (xs : List ℕ) (k : ℕ) (ys : List ℕ) → IsDistinct eqb (xs ++ k ∷ ys) → IsDistinct eqb (xs ++ ys)
unfolding IsDistinct
distinct_without [] k ys d = d.1
distinct_without (x ∷ xs) k ys d = (without (λ y. eqb x y ≡ false) xs d.0, distinct_without xs k ys d.1)
  where
    without : (P : ℕ → Type 0) (zs : List ℕ) → AllByRecursion P (zs ++ k ∷ ys) → AllByRecursion P (zs ++ ys)
    without P [] h = h.1
    without P (z ∷ zs) h = (h.0, without P zs h.1)

pub not_head : (k : ℕ) (ks : List ℕ) → IsDistinct eqb (k ∷ ks) → NotIn k ks
not_head k ks d = by_test (list_any (eqb k) ks) (λ r. absurd (false≢true (sym (distinct_head k ks d k r) ∙ eqb_itself k))) (λ n. n)

-- keys other than the changed one
pub apart_keys : (k j : ℕ) (ks : List ℕ) → NotIn k ks → In j ks → eqb k j ≡ false
apart_keys k j ks n i = by_test (eqb k j) (λ e. clash k ks (subst (λ t. In t ks) (sym (eqb_is k j e)) i) n) (λ e. e)

frame_at : (f : Nodes) (q : ℕ) (b : Option ℕ) (ks : List ℕ) (a : Option ℕ) (k : ℕ) (slot : Option Node) → NotIn k ks → IsLinked f q b ks a → IsLinked (at_key k slot f) q b ks a
frame_at f q b ks a k slot n h = frame f (at_key k slot f) q b ks a (λ j i. let e = apart_keys k j ks n i in simp e refl) h

frame_after : (f : Nodes) (q : ℕ) (b : Option ℕ) (ks : List ℕ) (a : Option ℕ) (k : ℕ) (t : Option ℕ) → NotIn k ks → IsLinked f q b ks a → IsLinked (with_after (Some k) t f) q b ks a
frame_after f q b ks a k t n h = frame f (with_after (Some k) t f) q b ks a (λ j i. let e = apart_keys k j ks n i in simp e refl) h

frame_before : (f : Nodes) (q : ℕ) (b : Option ℕ) (ks : List ℕ) (a : Option ℕ) (k : ℕ) (t : Option ℕ) → NotIn k ks → IsLinked f q b ks a → IsLinked (with_before (Some k) t f) q b ks a
frame_before f q b ks a k t n h = frame f (with_before (Some k) t f) q b ks a (λ j i. let e = apart_keys k j ks n i in simp e refl) h

-- two linked parts that follow each other when the last node of the one and the first node of the other are linked
bridge_after : (f : Nodes) (q : ℕ) (xs ys : List ℕ) (a : Option ℕ) (t : Option ℕ) → IsDistinct eqb (xs ++ ys)
    → IsLinked f q None xs a → IsLinked (with_after (last_or None xs) t f) q None xs t
bridge_after f q [] ys a t d h = tt
bridge_after f q (x ∷ xs) ys a t d h =
    subst (λ l. IsLinked (with_after l t f) q None (x ∷ xs) t) (sym (last_or_is None x xs))
    (relinked_last f q None x xs a t (distinct_left (x ∷ xs) ys d) h)

keep_after : (f : Nodes) (q : ℕ) (xs ys : List ℕ) (b a : Option ℕ) (t : Option ℕ) → IsDistinct eqb (xs ++ ys)
    → IsLinked f q b ys a → IsLinked (with_after (last_or None xs) t f) q b ys a
keep_after f q [] ys b a t d h = h
keep_after f q (x ∷ xs) ys b a t d h =
    subst (λ l. IsLinked (with_after l t f) q b ys a) (sym (last_or_is None x xs))
    (frame_after f q b ys a (last_key x xs) t (apart (last_key x xs) (x ∷ xs) ys d (in_last x xs)) h)

bridge_before : (f : Nodes) (q : ℕ) (xs ys : List ℕ) (b : Option ℕ) (t : Option ℕ) → IsDistinct eqb (xs ++ ys)
    → IsLinked f q b ys None → IsLinked (with_before (first_or ys None) t f) q t ys None
bridge_before f q xs [] b t d h = tt
bridge_before f q xs (y ∷ ys) b t d h = relinked_first f q b t y ys None (distinct_right xs (y ∷ ys) d) h

keep_before : (f : Nodes) (q : ℕ) (xs ys : List ℕ) (b a : Option ℕ) (t : Option ℕ) → IsDistinct eqb (xs ++ ys)
    → IsLinked f q b xs a → IsLinked (with_before (first_or ys None) t f) q b xs a
keep_before f q xs [] b a t d h = h
keep_before f q xs (y ∷ ys) b a t d h =
    frame_before f q b xs a y t (by_test (list_any (eqb y) xs) (λ i. clash y (y ∷ ys) (in_head y ys) (apart y xs (y ∷ ys) d i)) (λ n. n)) h

-- the links of a queue without one of its nodes
pub unlinked_linked : (f : Nodes) (q : ℕ) (xs : List ℕ) (k : ℕ) (ys : List ℕ) (x : Node) → IsDistinct eqb (xs ++ k ∷ ys) → IsLinked f q None (xs ++ k ∷ ys) None → f k ≡ Some x
    → IsLinked (unlinked k x f) q None (xs ++ ys) None
unlinked_linked f q xs k ys x d h here =
    let f1 : Nodes = at_key k None f in
    let right = linked_right f q None xs (k ∷ ys) None h in
    let node : right.0.node ≡ x = some_same (sym right.0.here ∙ here) in
    let before : last_or None xs ≡ x.before = sym right.0.before_is ∙ ap (λ (z : Node). z.before) node in
    let after : first_or ys None ≡ x.after = sym right.0.after_is ∙ ap (λ (z : Node). z.after) node in
    let out_left : NotIn k xs = by_test (list_any (eqb k) xs) (λ i. clash k (k ∷ ys) (in_head k ys) (apart k xs (k ∷ ys) d i)) (λ n. n) in
    let out_right : NotIn k ys = not_head k ys (distinct_right xs (k ∷ ys) d) in
    let d' = distinct_without xs k ys d in
    let xs1 = frame_at f q None xs (Some k) k None out_left (linked_left f q None xs (k ∷ ys) None h) in
    let ys1 = frame_at f q (Some k) ys None k None out_right right.1 in
    let f2 : Nodes = with_after (last_or None xs) (first_or ys None) f1 in
    let xs2 : IsLinked f2 q None xs (first_or ys None) = bridge_after f1 q xs ys (Some k) (first_or ys None) d' xs1 in
    let ys2 : IsLinked f2 q (Some k) ys None = keep_after f1 q xs ys (Some k) None (first_or ys None) d' ys1 in
    let f3 : Nodes = with_before (first_or ys None) (last_or None xs) f2 in
    let xs3 : IsLinked f3 q None xs (first_or ys None) = keep_before f2 q xs ys None (first_or ys None) (last_or None xs) d' xs2 in
    let ys3 : IsLinked f3 q (last_or None xs) ys None = bridge_before f2 q xs ys (Some k) (last_or None xs) d' ys2 in
    subst (λ b. IsLinked (with_before x.after b (with_after b x.after f1)) q None (xs ++ ys) None) before
    (subst (λ a. IsLinked (with_before a (last_or None xs) (with_after (last_or None xs) a f1)) q None (xs ++ ys) None) after
    (linked_joined f3 q None xs ys None xs3 ys3))
  where
    some_same : {y z : Node} → Some y ≡ Some z → y ≡ z
    some_same h = cc

-- and with one more node at the end
pub pushed_linked : (f : Nodes) (q : ℕ) (ks : List ℕ) (k : ℕ) (x : Node) → IsDistinct eqb ks → IsLinked f q None ks None → f k ≡ None
    → x.queue ≡ q → x.before ≡ last_or None ks → x.after ≡ None → NotIn k ks → IsLinked (pushed k x f) q None (ks ++ k ∷ []) None
pushed_linked f q ks k x d h vacant queue before after out =
    let f1 : Nodes = at_key k (Some x) f in
    let d' : IsDistinct eqb (ks ++ []) = subst (IsDistinct eqb) (sym (append-nil ks)) d in
    let ks1 = frame_at f q None ks None k (Some x) out h in
    let ks2 : IsLinked (with_after (last_or None ks) (Some k) f1) q None ks (Some k) = bridge_after f1 q ks [] None (Some k) d' ks1 in
    let e = eqb_itself k in
    let there : f1 k ≡ Some x = simp e refl in
    let new : IsLink f1 q (last_or None ks) k None = record { node = x; here = there; queue_is = queue; before_is = before; after_is = after } in
    let new2 = kept_last ks out (new, tt) in
    subst (λ b. IsLinked (with_after b (Some k) f1) q None (ks ++ k ∷ []) None) (sym before)
    (linked_joined (with_after (last_or None ks) (Some k) f1) q None ks (k ∷ []) None ks2 new2)
  where
    kept_last : (zs : List ℕ) → NotIn k zs → IsLinked (at_key k (Some x) f) q (last_or None ks) (k ∷ []) None → IsLinked (with_after (last_or None zs) (Some k) (at_key k (Some x) f)) q (last_or None ks) (k ∷ []) None
    kept_last [] n h = h
    kept_last (z ∷ zs) n h =
        subst (λ l. IsLinked (with_after l (Some k) (at_key k (Some x) f)) q (last_or None ks) (k ∷ []) None) (sym (last_or_is None z zs))
        (frame_after (at_key k (Some x) f) q (last_or None ks) (k ∷ []) None (last_key z zs) (Some k)
        (by_test (list_any (eqb (last_key z zs)) (k ∷ []))
        (λ i. in_cases (last_key z zs) k [] i (λ e. clash k (z ∷ zs) (subst (λ t. In t (z ∷ zs)) e (in_last z zs)) n) (λ r. absurd (false≢true r)))
        (λ m. m)) h)
