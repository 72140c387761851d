-- The slabs of queues, as contracts describe them.
use Rattle.std.proofs.Common.{◌≡◌, ℕ, zero, suc, ◌+◌, ◌^◌, ◌<◌, ◌≤◌, true, false, eqb, List, [], ◌∷◌, ◌++◌, map, length, get_or, Option, Some, None, IsSome, option_map, refl, sym, ap, ◌∙◌, subst, arith, length-append}
use Rattle.std.specs.List.{IsDistinct, list_any}
use Rattle.std.proofs.lemmas.Bool.{false≢true}
use Rattle.std.proofs.lemmas.Map.Steps.{length-le_from_distinct_below}
use Rattle.slab.specs.Slab.{Slab, get, Updates}
use Rattle.itch_book.specs.declared.order.Order.{Order}
use Rattle.itch_book.specs.declared.queues.Node.{Node}
use Rattle.itch_book.specs.declared.queues.Head.{Head}
use Rattle.itch_book.specs.Links.{Nodes, order_of, IsQueue, walked, IsSound, with_after, with_before, at_key, unlinked_head, pushed_head}
use Rattle.itch_book.specs.Queued.{keys_at, order_at, without_key, queued}
use Rattle.std.specs.Cmp.{nat_eq_equiv}
use Rattle.std.proofs.lemmas.Map.Keys.{IsDistinct-push}
use Rattle.slab.proofs.SlabLemmas.{ContainsKey-within}
use Rattle.itch_book.proofs.UnlinkLemmas.{in_parts, apart_keys}
use Rattle.itch_book.proofs.Lists.{by_test}
use Rattle.itch_book.proofs.LinkLemmas.{unlinked, pushed, In, NotIn, eqb_itself, eqb_is, in_cases, in_queue}
use Rattle.itch_book.proofs.QueueSteps.{none_some, same_some, vacant_out, IsStep, sound_step, total_small, unlinked_keeps, pushed_keeps}
use Rattle.itch_book.proofs.SoundSteps.{at_apart, sound_unlinked, sound_pushed, other_without}

pub pointwise : {A B : Type 0} (f g : A → B) → ((x : A) → f x ≡ g x) → f ≡ g
pointwise f g h = λ i x. h x i

-- the slot at a place, after a function was applied
pub at_mapped : {X Y : Type 0} (G : Option X → Option Y) → G None ≡ None → (slots : List (Option X)) (k : ℕ) → get_or (map G slots) k None ≡ G (get_or slots k None)
at_mapped G none [] k = sym none
at_mapped G none (s ∷ rest) zero = refl
at_mapped G none (s ∷ rest) (suc k) = at_mapped G none rest k

pub map_at_key : {X Y : Type 0} (G : Option X → Option Y) (key : ℕ) (slot : Option X) (f : ℕ → Option X) (k : ℕ) → G (at_key key slot f k) ≡ at_key key (G slot) (λ j. G (f j)) k
map_at_key G key slot f k = by_test (eqb key k) (λ e. simp e refl) (λ e. simp e refl)

pub from_updates : {T : Type 0} (old new : Slab T) (key : ℕ) (slot : Option T) → Updates old new key slot → (k : ℕ) → get new k ≡ at_key key slot (get old) k
from_updates old new key slot u k =
    by_test (eqb key k)
    (λ e. let is : key ≡ k = eqb_is key k e in ap (get new) (sym is) ∙ u.changed ∙ sym (same (Some k) e))
    (λ e. u.others k (λ is. false≢true (sym e ∙ subst (λ t. eqb t k ≡ true) is (eqb_itself k))) ∙ sym (other e))
  where
    same : (t : Option ℕ) → eqb key k ≡ true → at_key key slot (get old) k ≡ slot
    same t e = simp e refl

    other : eqb key k ≡ false → at_key key slot (get old) k ≡ get old k
    other e = simp e refl

-- opening an empty queue
pub sound_opened : (f : Nodes) (heads heads' : ℕ → Option Head) (q : ℕ) (head : Head) → IsSound f heads → heads q ≡ None → IsQueue f q head [] → ((p : ℕ) → heads' p ≡ at_key q (Some head) heads p)
    → IsStep f f heads heads' q head []
sound_opened f heads heads' q head sound vacant queue changed =
    sound_step f f heads heads' q head [] sound queue changed (λ j y it e. refl) (λ j y it e. it)
    (λ j y it is. let home = sound.homes j y it in none_some vacant (ap heads (sym is) ∙ home.there))

pub empty_queue : (f : Nodes) (q : ℕ) (head : Head) → head.first ≡ None → head.last ≡ None → head.orders ≡ 0 → head.shares ≡ 0 → IsQueue f q head []
unfolding IsDistinct
empty_queue f q head first last orders shares = record { linked = tt; distinct = tt; first = first; last = last; orders = orders; shares = shares }

-- closing an empty queue
pub sound_closed : (f : Nodes) (heads heads' : ℕ → Option Head) (q : ℕ) (head : Head) → IsSound f heads → heads q ≡ Some head → walked f head ≡ [] → ((p : ℕ) → heads' p ≡ at_key q None heads p) → IsSound f heads'
sound_closed f heads heads' q head sound there empty changed = record {
  queues = λ p head0 it. by_test (eqb q p)
      (λ e. none_some (changed p ∙ same p e) it)
      (λ e. sound.queues p head0 (sym (changed p ∙ other p e) ∙ it));
  homes = λ j y it. let home = sound.homes j y it in
      by_test (eqb q y.queue)
      (λ e. let one : home.head ≡ head = same_some home.there (ap heads (sym (eqb_is q y.queue e)) ∙ there) in
      absurd (false≢true (subst (λ ks. list_any (eqb j) ks ≡ true) (ap (walked f) one ∙ empty) home.member)))
      (λ e. record { head = home.head; there = changed y.queue ∙ other y.queue e ∙ home.there; member = home.member; small = home.small });
}
  where
    same : (p : ℕ) → eqb q p ≡ true → at_key q None heads p ≡ None
    same p e = simp e refl

    other : (p : ℕ) → eqb q p ≡ false → at_key q None heads p ≡ heads p
    other p e = simp e refl

-- the keys that contracts describe
pub keys_seen : (nodes : Slab Node) (heads : Slab Head) (q : ℕ) → keys_at (queued nodes heads) q ≡ option_map (walked (get nodes)) (get heads q)
keys_seen nodes heads q = at_mapped (option_map (walked (get nodes))) refl heads.slots q

pub order_seen : (nodes : Slab Node) (heads : Slab Head) (k : ℕ) → order_at (queued nodes heads) k ≡ order_of (get nodes k)
order_seen nodes heads k = at_mapped order_of refl nodes.slots k

-- after a change of one queue
pub keys_stepped : (nodes nodes' : Slab Node) (heads heads' : Slab Head) (q : ℕ) (head : Head) (ks : List ℕ) → IsStep (get nodes) (get nodes') (get heads) (get heads') q head ks
    → ((p : ℕ) → get heads' p ≡ at_key q (Some head) (get heads) p) → (p : ℕ) → keys_at (queued nodes' heads') p ≡ at_key q (Some ks) (keys_at (queued nodes heads)) p
keys_stepped nodes nodes' heads heads' q head ks step changed p =
    keys_seen nodes' heads' p ∙ ap (option_map (walked (get nodes'))) (changed p) ∙
    by_test (eqb q p)
    (λ e. let own = step.own in simp e (ap Some own))
    (λ e. let same = by_head (get heads p) (λ head0 it. step.kept p head0 e it) in let seen = keys_seen nodes heads p in simp e (same ∙ sym seen))
  where
    by_head : (o : Option Head) → ((head0 : Head) → o ≡ Some head0 → walked (get nodes') head0 ≡ walked (get nodes) head0) → option_map (walked (get nodes')) o ≡ option_map (walked (get nodes)) o
    by_head None h = refl
    by_head (Some head0) h = ap Some (h head0 refl)

-- the nodes after the three writes that remove one
unlinked_is : (f f1 f2 f3 : Nodes) (k : ℕ) (x : Node) → ((j : ℕ) → f1 j ≡ at_key k None f j) → ((j : ℕ) → f2 j ≡ with_after x.before x.after f1 j) → ((j : ℕ) → f3 j ≡ with_before x.after x.before f2 j) → f3 ≡ unlinked k x f
unlinked_is f f1 f2 f3 k x one two three =
    pointwise f3 (with_before x.after x.before f2) three
    ∙ ap (with_before x.after x.before) (pointwise f2 (with_after x.before x.after f1) two
    ∙ ap (with_after x.before x.after) (pointwise f1 (at_key k None f) one))

-- a node was removed in the slabs
pub record IsUnlinked (nodes nodes' : Slab Node) (heads heads' : Slab Head) (k : ℕ) : Type 0 where
  pub sound : IsSound (get nodes') (get heads')
  pub orders : (j : ℕ) → order_at (queued nodes' heads') j ≡ at_key k None (order_at (queued nodes heads)) j
  pub keys : (q : ℕ) → keys_at (queued nodes' heads') q ≡ option_map (without_key k) (keys_at (queued nodes heads) q)

pub unlink_done : (nodes nodes1 nodes2 nodes3 : Slab Node) (heads heads' : Slab Head) (k : ℕ) (x : Node) (head head' : Head) → IsSound (get nodes) (get heads) → get nodes k ≡ Some x → get heads x.queue ≡ Some head
    → Updates nodes nodes1 k None → ((j : ℕ) → get nodes2 j ≡ with_after x.before x.after (get nodes1) j) → ((j : ℕ) → get nodes3 j ≡ with_before x.after x.before (get nodes2) j)
    → head' ≡ unlinked_head x head → ((q : ℕ) → get heads' q ≡ at_key x.queue (Some head') (get heads) q) → IsUnlinked nodes nodes3 heads heads' k
unlink_done nodes nodes1 nodes2 nodes3 heads heads' k x head head' sound here there updates two three is changed = record {
  sound = step.sound;
  orders = λ j. order_seen nodes3 heads' j ∙ ap (λ (f : Nodes). order_of (f j)) same ∙ unlinked_keeps order_of (λ z t. refl) (λ z t. refl) k x (get nodes) j
      ∙ map_at_key order_of k None (get nodes) j ∙ ap (λ (o : ℕ → Option Order). at_key k None o j) (pointwise (λ i. order_of (get nodes i)) (order_at (queued nodes heads)) (λ i. sym (order_seen nodes heads i)));
  keys = λ q. keys_stepped nodes nodes3 heads heads' x.queue (unlinked_head x head) (without_key k (walked (get nodes) head)) step changed' q ∙ without q;
}
  where
    same : get nodes3 ≡ unlinked k x (get nodes)
    same = unlinked_is (get nodes) (get nodes1) (get nodes2) (get nodes3) k x (from_updates nodes nodes1 k None updates) two three

    changed' : (q : ℕ) → get heads' q ≡ at_key x.queue (Some (unlinked_head x head)) (get heads) q
    changed' q = changed q ∙ ap (λ h. at_key x.queue (Some h) (get heads) q) is

    step : IsStep (get nodes) (get nodes3) (get heads) (get heads') x.queue (unlinked_head x head) (without_key k (walked (get nodes) head))
    step = subst (λ (g : Nodes). IsStep (get nodes) g (get heads) (get heads') x.queue (unlinked_head x head) (without_key k (walked (get nodes) head))) (sym same)
        (sound_unlinked (get nodes) (get heads) sound k x head (get heads') here there changed')

    by_head : (q : ℕ) (o : Option Head) → get heads q ≡ o → eqb x.queue q ≡ false → option_map (walked (get nodes)) o ≡ option_map (without_key k) (option_map (walked (get nodes)) o)
    by_head q None it e = refl
    by_head q (Some head0) it e = ap Some (sym (other_without (get nodes) (get heads) sound k x q head0 here it e))

    without : (q : ℕ) → at_key x.queue (Some (without_key k (walked (get nodes) head))) (keys_at (queued nodes heads)) q ≡ option_map (without_key k) (keys_at (queued nodes heads) q)
    without q =
        by_test (eqb x.queue q)
        (λ e. let at : keys_at (queued nodes heads) q ≡ Some (walked (get nodes) head) = keys_seen nodes heads q ∙ ap (λ t. option_map (walked (get nodes)) (get heads t)) (sym (eqb_is x.queue q e)) ∙ ap (option_map (walked (get nodes))) there in
        simp (e, at) refl)
        (λ e. let seen = keys_seen nodes heads q in
        let rest = by_head q (get heads q) refl e in
        simp e (seen ∙ rest ∙ ap (option_map (without_key k)) (sym seen)))

-- a node was appended in the slabs
pub record IsPushed (nodes nodes' : Slab Node) (heads heads' : Slab Head) (q k : ℕ) (x : Order) : Type 0 where
  pub sound : IsSound (get nodes') (get heads')
  pub orders : (j : ℕ) → order_at (queued nodes' heads') j ≡ at_key k (Some x) (order_at (queued nodes heads)) j
  pub keys : (p : ℕ) → keys_at (queued nodes' heads') p ≡ at_key q (option_map (λ ks. ks ++ k ∷ []) (keys_at (queued nodes heads) q)) (keys_at (queued nodes heads)) p

pub push_done : (nodes nodes1 nodes2 : Slab Node) (heads heads' : Slab Head) (k : ℕ) (x : Node) (head head' : Head) → IsSound (get nodes) (get heads) → get nodes k ≡ None → get heads x.queue ≡ Some head
    → x.before ≡ head.last → x.after ≡ None → x.order.shares < 2 ^ 32 → Updates nodes nodes1 k (Some x) → ((j : ℕ) → get nodes2 j ≡ with_after x.before (Some k) (get nodes1) j)
    → head' ≡ pushed_head k x head → ((p : ℕ) → get heads' p ≡ at_key x.queue (Some head') (get heads) p) → IsPushed nodes nodes2 heads heads' x.queue k x.order
push_done nodes nodes1 nodes2 heads heads' k x head head' sound vacant there before after small updates two is changed = record {
  sound = step.sound;
  orders = λ j. order_seen nodes2 heads' j ∙ ap (λ (f : Nodes). order_of (f j)) same ∙ pushed_keeps order_of (λ z t. refl) k x (get nodes) j
      ∙ map_at_key order_of k (Some x) (get nodes) j ∙ ap (λ (o : ℕ → Option Order). at_key k (Some x.order) o j) (pointwise (λ i. order_of (get nodes i)) (order_at (queued nodes heads)) (λ i. sym (order_seen nodes heads i)));
  keys = λ p. keys_stepped nodes nodes2 heads heads' x.queue (pushed_head k x head) (walked (get nodes) head ++ k ∷ []) step changed' p
      ∙ ap (λ t. at_key x.queue t (keys_at (queued nodes heads)) p) (sym (ap (option_map (λ ks. ks ++ k ∷ [])) (keys_seen nodes heads x.queue ∙ ap (option_map (walked (get nodes))) there)));
}
  where
    same : get nodes2 ≡ pushed k x (get nodes)
    same = pointwise (get nodes2) (with_after x.before (Some k) (get nodes1)) two
        ∙ ap (with_after x.before (Some k)) (pointwise (get nodes1) (at_key k (Some x) (get nodes)) (from_updates nodes nodes1 k (Some x) updates))

    changed' : (q : ℕ) → get heads' q ≡ at_key x.queue (Some (pushed_head k x head)) (get heads) q
    changed' q = changed q ∙ ap (λ h. at_key x.queue (Some h) (get heads) q) is

    step : IsStep (get nodes) (get nodes2) (get heads) (get heads') x.queue (pushed_head k x head) (walked (get nodes) head ++ k ∷ [])
    step = subst (λ (g : Nodes). IsStep (get nodes) g (get heads) (get heads') x.queue (pushed_head k x head) (walked (get nodes) head ++ k ∷ [])) (sym same)
        (sound_pushed (get nodes) (get heads) sound k x head (get heads') vacant there before after small changed')

-- a queue has at most as many nodes as there are slots, which bounds its shares
pub queue_fits : (nodes nodes1 : Slab Node) (heads : Slab Head) (k : ℕ) (x : Node) (head : Head) (most : ℕ) → IsSound (get nodes) (get heads) → get nodes k ≡ None → get heads x.queue ≡ Some head
    → Updates nodes nodes1 k (Some x) → length nodes1.slots ≤ most → most < 2 ^ 64 → x.order.shares < 2 ^ 32 → (head.orders + 1 < 2 ^ 64) × (head.shares + x.order.shares < 2 ^ 128)
queue_fits nodes nodes1 heads k x head most sound vacant there updates few most_fits small =
    let bound = total_small (get nodes) ks (λ j y it. (sound.homes j y it).small) in
    (omega (arith, queue.orders, len), omega (arith, queue.orders, queue.shares, len, bound))
  where
    ks : List ℕ
    ks = walked (get nodes) head

    queue : IsQueue (get nodes) x.queue head ks
    queue = sound.queues x.queue head there

    out : NotIn k ks
    out = vacant_out (get nodes) x.queue ks k queue.linked vacant

    within : (s : Slab Node) (j : ℕ) (y : Node) → get s j ≡ Some y → j < length s.slots
    within s j y it = let present : IsSome (get s j) = subst IsSome (sym it) refl in ContainsKey-within s j present

    below : (j : ℕ) → In j (ks ++ k ∷ []) → j < length nodes1.slots
    below j i = in_parts j ks (k ∷ []) i
        (λ l. let own = in_queue (get nodes) x.queue None ks None j queue.linked l in
        within nodes1 j own.0 (from_updates nodes nodes1 k (Some x) updates j ∙ at_apart k (Some x) (get nodes) j (apart_keys k j ks out l) ∙ own.1))
        (λ r. in_cases j k [] r (λ e. subst (λ t. t < length nodes1.slots) (sym e) (within nodes1 k x updates.changed)) (λ t. absurd (false≢true t)))

    len : length ks + 1 ≤ most
    len = let n = length-le_from_distinct_below (ks ++ k ∷ []) (length nodes1.slots) (IsDistinct-push nat_eq_equiv ks k queue.distinct out) below in
        omega (arith, n, few, length-append ks (k ∷ []))

-- a queue that contracts describe has a head
pub has_head : (nodes : Slab Node) (heads : Slab Head) (q : ℕ) → IsSome (keys_at (queued nodes heads) q) → IsSome (get heads q)
has_head nodes heads q h = by_head (get heads q) (subst IsSome (keys_seen nodes heads q) h)
  where
    by_head : (o : Option Head) → IsSome (option_map (walked (get nodes)) o) → IsSome o
    by_head None h = absurd (false≢true h)
    by_head (Some head) h = refl

-- the same in the form of the calls
pub push_known : (nodes nodes1 nodes2 : Slab Node) (heads heads' : Slab Head) (q k : ℕ) (o : Order) (x : Node) (head1 head head' : Head) → IsSound (get nodes) (get heads) → get nodes k ≡ None
    → get heads q ≡ Some head1 → get heads q ≡ Some head → x.order ≡ o → x.queue ≡ q → x.before ≡ head1.last → x.after ≡ None → o.shares < 2 ^ 32 → Updates nodes nodes1 k (Some x)
    → ((j : ℕ) → get nodes2 j ≡ with_after head1.last (Some k) (get nodes1) j) → ((y : Node) → y.before ≡ head1.last → y.order.shares ≡ o.shares → head' ≡ pushed_head k y head)
    → ((p : ℕ) → get heads' p ≡ at_key q (Some head') (get heads) p) → IsPushed nodes nodes2 heads heads' q k o
push_known nodes nodes1 nodes2 heads heads' q k o x head1 head head' sound vacant there1 there order queue before after small updates two is changed =
    subst (λ (z : Order). IsPushed nodes nodes2 heads heads' q k z) order
    (subst (λ p. IsPushed nodes nodes2 heads heads' p k x.order) queue
    (push_done nodes nodes1 nodes2 heads heads' k x head head' sound vacant (ap (get heads) queue ∙ there)
    (before ∙ ap (λ (h : Head). h.last) (same_some there1 there)) after (subst (λ (z : Order). z.shares < 2 ^ 32) (sym order) small) updates
    (λ j. two j ∙ ap (λ b. with_after b (Some k) (get nodes1) j) (sym before))
    (is x before (ap (λ (z : Order). z.shares) order))
    (λ p. changed p ∙ ap (λ t. at_key t (Some head') (get heads) p) (sym queue))))
