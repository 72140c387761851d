-- The market of the followed locates, beside a market that takes messages.
use Rattle.std.proofs.Common.{◌≡◌, ℕ, Bool, true, false, cond, not, ◌||◌, ◌==◌, List, [], ◌∷◌, ◌++◌, filter, Option, None, Some, is_some, is_ok, is_err, Result, Ok, Err, OnOk, refl, sym, ap, ap₂, subst, ◌∙◌, eqb, arith, append-nil, append_assoc}
use denote.Ref.{Bor}
use Rattle.std.specs.FinMap as finite
use Rattle.std.specs.List.{AllByRecursion, list_any}
use Rattle.std.specs.Ordering.{eq_by_cmp, nat_cmp}
use Rattle.std.specs.Option.{option_copied}
use Rattle.std.proofs.lemmas.Bool.Decides.{nat_tests}
use Rattle.std.proofs.lemmas.List.Elements.{filter-append}
use Rattle.itch_codec.specs.Messages.{message_of}
use Rattle.itch_codec.specs.Widths.{IsMessage}
use Rattle.itch_codec.specs.declared.message.Message.{Message}
use Rattle.itch_book.specs.declared.order.Order.{Order}
use Rattle.itch_book.proofs.BookLemmas.{lay-filter}
use Rattle.itch_book.proofs.Lists.{All-append_rec}
use Rattle.itch_day.specs.Sinks.{Decodes}
use Rattle.itch_market.specs.Content.{Content, Listing, Securities, empty, laid}
use Rattle.itch_market.specs.Effects.{effect}
use Rattle.itch_market.specs.GoodMarkets.{IsGood, IsListed}
use Rattle.itch_market.specs.Partial.{kept, only, skips}
use Rattle.itch_market.specs.Reasons.{reason}
use Rattle.itch_market.specs.Runs.{AreMessages, Follows, FollowsFrom, after, run}
use Rattle.itch_market.specs.Takings.{TakesMessage}
use Rattle.itch_market.specs.Wanted.{Wanted, has}
use Rattle.itch_market.proofs.Causes.{no_reason}
use Rattle.itch_market.proofs.Maps.{key_tests, same_map}
use Rattle.itch_market.proofs.Partials.{get_cut, kept_leaves}
use Rattle.itch_market.proofs.Runs.{after-append, follows-append}
use Rattle.itch_snapshot.specs.Cursor.{cut_to}
use Rattle.itch_snapshot.specs.Snapshot.{snap}
use Rattle.itch_snapshot.proofs.OneSnapshot.{run-snap, snap_follows}
use Rattle.itch_snapshot.proofs.SpelledMessages.{snap_messages}
use Rattle.itch_commands.specs.PointMarkets.{IsCutDown}

-- ---- one message

-- The market is the one after the messages of its snapshot. So the message is the last one of a list, and the law of lists that are
-- restricted to some locates applies.
module _ (wanted : ℕ → Bool) (m : Content) (good : IsGood m) (in_order : laid m ≡ m) (x : Message) (fits : IsMessage x) (none : reason m x ≡ None) where
  whole : run (snap m) ≡ m
  whole = run-snap m good ∙ in_order

  all_fit : AreMessages (snap m ++ x ∷ [])
  all_fit = All-append_rec IsMessage (snap m) (x ∷ []) (snap_messages m good) (fits, tt)

  all_follow : Follows (snap m ++ x ∷ [])
  all_follow = follows-append empty (snap m) (x ∷ []) (snap_follows m good) (subst (λ n. FollowsFrom n (x ∷ [])) (sym whole) (none, tt))

  all_leave : run (snap m ++ x ∷ []) ≡ effect m x
  all_leave = after-append empty (snap m) (x ∷ []) ∙ ap (λ n. after n (x ∷ [])) whole

  kept_there : run (kept wanted (snap m)) ≡ only wanted m
  kept_there = kept_leaves wanted (snap m) (snap_messages m good) (snap_follows m good) ∙ ap (only wanted) whole

  kept_after : after (only wanted m) (kept wanted (x ∷ [])) ≡ only wanted (effect m x)
  kept_after =
      sym (ap run (filter-append (λ y. not (skips wanted y)) (snap m) (x ∷ []))
      ∙ after-append empty (kept wanted (snap m)) (kept wanted (x ∷ []))
      ∙ ap (λ n. after n (kept wanted (x ∷ []))) kept_there)
      ∙ kept_leaves wanted (snap m ++ x ∷ []) all_fit all_follow ∙ ap (only wanted) all_leave

  laid_only : (n : Content) → laid (only wanted n) ≡ only wanted (laid n)
  laid_only n = ap (λ (os : List Order). let k : Content = record (only wanted n) { orders = os } in k) (lay-filter (λ y. wanted y.locate) n.orders)

  -- a message that is skipped leaves the market of the wanted locates
  skipped_so : skips wanted x ≡ true → only wanted m ≡ only wanted (laid (effect m x))
  skipped_so out =
      sym (ap (only wanted) in_order) ∙ sym (laid_only m)
      ∙ ap laid (sym (ap (λ b. after (only wanted m) (cond (not b) (x ∷ []) [])) out) ∙ kept_after)
      ∙ laid_only (effect m x)

  -- another one has its effect there
  kept_so : skips wanted x ≡ false → laid (effect (only wanted m) x) ≡ only wanted (laid (effect m x))
  kept_so in_set = ap laid (sym (ap (λ b. after (only wanted m) (cond (not b) (x ∷ []) [])) in_set) ∙ kept_after) ∙ laid_only (effect m x)

-- the same for the followed locates
module _ (m part : Content) (good : IsGood m) (in_order : laid m ≡ m) (x : Message) (fits : IsMessage x) (none : reason m x ≡ None) (followed : Wanted) (is : part ≡ only (has followed) m) where
  pub skipped_part : skips (has followed) x ≡ true → part ≡ only (has followed) (laid (effect m x))
  skipped_part out = is ∙ skipped_so (has followed) m good in_order x fits none out

  pub applied_part : skips (has followed) x ≡ false → (n : Content) → n ≡ laid (effect part x) → n ≡ only (has followed) (laid (effect m x))
  applied_part in_set n took = took ∙ ap (λ o. laid (effect o x)) is ∙ kept_so (has followed) m good in_order x fits none in_set

-- ---- markets restricted to some locates

module _ (m : Content) (good : IsGood m) (v w : ℕ → Bool) where
  -- sets that agree on the locates of the directory give the same market
  pub only_alike : ((l : ℕ) → is_some (finite.get m.securities l) ≡ true → v l ≡ w l) → only v m ≡ only w m
  only_alike alike = ap₂ (λ (s : Securities) (os : List Order). let n : Content = record m { securities = s; orders = os } in n) same_directory (same_orders m.orders good.listed) where
    by_entry : (l : ℕ) (o : Option Listing) → finite.get m.securities l ≡ o → cond (v l) o None ≡ cond (w l) o None
    by_entry l None is = both (v l) (w l) where
      both : (a b : Bool) → ◌≡◌ {A = Option Listing} (cond a None None) (cond b None None)
      both true true = refl
      both true false = refl
      both false true = refl
      both false false = refl
    by_entry l (Some x) is = ap (λ b. cond b (Some x) None) (alike l (ap is_some is))

    same_directory : finite.retain_keys m.securities v ≡ finite.retain_keys m.securities w
    same_directory = same_map _ _ (λ l. get_cut v m.securities l ∙ by_entry l (finite.get m.securities l) refl ∙ sym (get_cut w m.securities l))

    same_orders : (os : List Order) → AllByRecursion (IsListed m.securities) os → filter (λ y. v y.locate) os ≡ filter (λ y. w y.locate) os
    same_orders [] listed = refl
    same_orders (y ∷ ys) (here, rest) =
        ap₂ (λ b zs. cond b (y ∷ zs) zs) (alike y.locate here) (same_orders ys rest)

  -- a locate that the directory lacks may be added to a set
  pub inserted_alike : (k : ℕ) → finite.get m.securities k ≡ None → ((l : ℕ) → v l ≡ ((l == k) || w l)) → only v m ≡ only w m
  inserted_alike k lacks inserts = only_alike alike where
    key_is : (l : ℕ) → (l == k) ≡ true → l ≡ k
    key_is l same = grind (arith, nat_tests)

    alike : (l : ℕ) → is_some (finite.get m.securities l) ≡ true → v l ≡ w l
    alike l there = inserts l ∙ ap (λ b. b || w l) (elsewhere (l == k) refl) where
      elsewhere : (b : Bool) → (l == k) ≡ b → (l == k) ≡ false
      elsewhere true here = absurd (cc (sym there ∙ ap (λ q. is_some (finite.get m.securities q)) (key_is l here) ∙ ap is_some lacks))
      elsewhere false apart = apart

  -- a market of more locates gives the same one
  pub only_within : ((l : ℕ) → is_some (finite.get m.securities l) ≡ true → v l ≡ true → w l ≡ true) → only v (only w m) ≡ only v m
  only_within within = ap₂ (λ (s : Securities) (os : List Order). let n : Content = record m { securities = s; orders = os } in n) same_directory (same_orders m.orders good.listed) where
    by_entry : (l : ℕ) (o : Option Listing) → finite.get m.securities l ≡ o → cond (v l) (cond (w l) o None) None ≡ cond (v l) o None
    by_entry l None is = both (v l) (w l) where
      both : (a b : Bool) → ◌≡◌ {A = Option Listing} (cond a (cond b None None) None) (cond a None None)
      both true true = refl
      both true false = refl
      both false b = refl
    by_entry l (Some x) is = by_want (v l) refl where
      by_want : (b : Bool) → v l ≡ b → cond b (cond (w l) (Some x) None) None ≡ cond b (Some x) None
      by_want true want = ap (λ b. cond b (Some x) None) (within l (ap is_some is) want)
      by_want false out = refl

    same_directory : finite.retain_keys (finite.retain_keys m.securities w) v ≡ finite.retain_keys m.securities v
    same_directory = same_map _ _ (λ l.
        get_cut v (finite.retain_keys m.securities w) l ∙ ap (λ o. cond (v l) o None) (get_cut w m.securities l)
        ∙ by_entry l (finite.get m.securities l) refl ∙ sym (get_cut v m.securities l))

    same_orders : (os : List Order) → AllByRecursion (IsListed m.securities) os → filter (λ y. v y.locate) (filter (λ y. w y.locate) os) ≡ filter (λ y. v y.locate) os
    same_orders [] listed = refl
    same_orders (y ∷ ys) (here, rest) = by_place (same_orders ys rest) (w y.locate) refl where
      unwanted : (b : Bool) → v y.locate ≡ b → w y.locate ≡ false → v y.locate ≡ false
      unwanted true want out = absurd (cc (sym (within y.locate here want) ∙ out))
      unwanted false is out = is

      by_place : filter (λ z. v z.locate) (filter (λ z. w z.locate) ys) ≡ filter (λ z. v z.locate) ys → (b : Bool) → w y.locate ≡ b
          → filter (λ z. v z.locate) (cond b (y ∷ filter (λ z. w z.locate) ys) (filter (λ z. w z.locate) ys)) ≡ cond (v y.locate) (y ∷ filter (λ z. v z.locate) ys) (filter (λ z. v z.locate) ys)
      by_place same true want = ap (λ zs. cond (v y.locate) (y ∷ zs) zs) same
      by_place same false out = same ∙ sym (ap (λ b. cond b (y ∷ filter (λ z. v z.locate) ys) (filter (λ z. v z.locate) ys)) (unwanted (v y.locate) refl out))

-- ---- the followed locates

-- the market that is kept
pub followed_part : (followed : Option Wanted) (set : Wanted) (m part : Content) → followed ≡ Some set → IsCutDown followed m part → part ≡ only (has set) m
followed_part followed set m part is cut = subst (λ o. IsCutDown o m part) is cut

-- the locates of a directory that were looked at so far are followed, if they are in the set
pub record FollowedSoFar (listings : Securities) (set followed : Wanted) (seen left : List ℕ) : Type 0 where
  pub locates : finite.keys listings ≡ seen ++ left
  pub covered : AllByRecursion (λ l. has set l ≡ true → has followed l ≡ true) seen

pub followed_on : (listings : Securities) (set followed : Wanted) (seen left : List ℕ) (locate : ℕ) → FollowedSoFar listings set followed seen (locate ∷ left)
    → (has set locate ≡ true → has followed locate ≡ true) → FollowedSoFar listings set followed (seen ++ locate ∷ []) left
followed_on listings set followed seen left locate so_far next = record {
  locates = so_far.locates ∙ sym (append_assoc seen (locate ∷ []) left);
  covered = All-append_rec (λ l. has set l ≡ true → has followed l ≡ true) seen (locate ∷ []) so_far.covered (next, tt);
}

at_each : (P : ℕ → Type 0) (ks : List ℕ) (l : ℕ) → AllByRecursion P ks → list_any (eq_by_cmp nat_cmp l) ks ≡ true → P l
at_each P [] l all there = absurd (cc there)
at_each P (k ∷ ks) l (here, rest) there = by_key (at_each P ks l rest) (eq_by_cmp nat_cmp l k) refl where
  is_key : eq_by_cmp nat_cmp l k ≡ true → k ≡ l
  is_key same = let at : eqb l k ≡ true = sym (key_tests l k) ∙ same in grind (arith, nat_tests)

  by_key : (list_any (eq_by_cmp nat_cmp l) ks ≡ true → P l) → (b : Bool) → eq_by_cmp nat_cmp l k ≡ b → P l
  by_key later true same = subst P (is_key same) here
  by_key later false other = later (sym (ap (λ b. b || list_any (eq_by_cmp nat_cmp l) ks) other) ∙ there)

-- the market of the set is that of the followed locates, restricted to it
pub cut_followed : (m part : Content) (followed : Option Wanted) (one : Wanted) (set : Option (Bor Wanted)) (two : Bor Wanted) (seen left : List ℕ) → IsGood m → followed ≡ Some one → set ≡ Some two
    → FollowedSoFar m.securities two.now one seen left → left ≡ [] → IsCutDown followed m part → cut_to set part ≡ cut_to set m
cut_followed m part followed one set two seen left good is are so_far none cut =
    ap (λ o. cut_to o part) are ∙ ap (only (has two.now)) (followed_part followed one m part is cut)
    ∙ only_within m good (has two.now) (has one) within ∙ sym (ap (λ o. cut_to o m) are) where
      all_seen : finite.keys m.securities ≡ seen
      all_seen = so_far.locates ∙ ap (λ ls. seen ++ ls) none ∙ append-nil seen

      within : (l : ℕ) → is_some (finite.get m.securities l) ≡ true → has two.now l ≡ true → has one l ≡ true
      within l there =
          at_each (λ k. has two.now k ≡ true → has one k ≡ true) seen l so_far.covered
          (subst (λ ks. list_any (eq_by_cmp nat_cmp l) ks ≡ true) all_seen (sym (finite.contains_key-keys m.securities l) ∙ there))

-- before any message
pub empty_part : (followed : Option Wanted) (m part : Content) → m ≡ empty → part ≡ empty → IsCutDown followed m part
empty_part None m part none nothing = tt
empty_part (Some set) m part none nothing = nothing ∙ kept_leaves (has set) [] tt tt ∙ ap (only (has set)) (sym none)

-- ---- results

pub when_ok : {X E P : Type 0} (r : Result X E) → is_err r ≡ false → OnOk r P → P
when_ok (Ok x) fine h = h
when_ok (Err e) fine h = absurd (cc fine)

pub when_is_ok : {X E P : Type 0} (r : Result X E) → is_ok r ≡ true → OnOk r P → P
when_is_ok (Ok x) fine h = h
when_is_ok (Err e) fine h = absurd (cc fine)

pub no_entry : {X : Type 0} (o : Option (Bor X)) → is_some o ≡ false → option_copied o ≡ None
no_entry None none = refl
no_entry (Some x) none = absurd (cc none)
