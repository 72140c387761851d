-- The snapshot list of a market restricted to some locates.
use Rattle.std.proofs.Common.{◌≡◌, ℕ, Bool, true, false, cond, not, List, [], ◌∷◌, ◌++◌, map, filter, flat_map, Option, Some, None, refl, sym, ap, ap₂, ◌∙◌, subst}
use Rattle.std.specs.List.{AllByRecursion}
use Rattle.std.specs.Map.{keys_of}
use Rattle.std.specs.Cmp.{nat_cmp_total}
use Rattle.std.specs.FinMap as finite
use Rattle.std.specs.FinMap.{nat_cmp-IsAntisymmetric}
use Rattle.std.proofs.lemmas.List.Elements.{filter-append}
use Rattle.itch_codec.specs.declared.message.Message.{Message}
use Rattle.itch_codec.specs.declared.orders.Side.{Side}
use Rattle.itch_codec.specs.declared.orders.Side.TheVariants.{Buy, Sell}
use Rattle.itch_book.specs.declared.order.Order.{Order}
use Rattle.itch_book.specs.Orders as book
use Rattle.itch_book.specs.StableLists.{in_order}
use Rattle.itch_book.proofs.Lists.{by_test, filter_within, filter_all, filter_none, All-filter_rec, All-weaker_rec, All-append_rec, All-map_rec, passes_filter}
use Rattle.itch_book.proofs.StableLemmas.{All-in_order}
use Rattle.itch_book.proofs.OrderLemmas.{both_queues, locate_is, in_is}
use Rattle.itch_market.specs.declared.security.Action.{Action}
use Rattle.itch_market.specs.Content.{Content, Listing}
use Rattle.itch_market.specs.Wanted.{Wanted, has}
use denote.Ref.{Bor}
use Rattle.itch_market.specs.Partial.{locate_of, is_out, skips, kept, only}
use Rattle.itch_market.proofs.Trees.{same_entries_of}
use Rattle.itch_snapshot.specs.Snapshot.{snap, event_part, action_part, sho_part, halt_part, position_part, states_part, add_of, attributed, order_part, locate_messages, locate_part}
use Rattle.itch_snapshot.specs.Cursor.{cut_to, in_set, part_at, left}
use Rattle.itch_snapshot.proofs.Locates.{each_entry}
use Rattle.itch_snapshot.proofs.Cursors.{all_in, left_snap, parts_of}

module _ (wanted : ℕ → Bool) where
  -- an entry at a wanted locate
  abbrev pub at_entry : ℕ × Listing → Bool
  at_entry e = wanted e.0

  -- the queues of a wanted locate are those of all orders
  pub queue_kept : (os : List Order) (l : ℕ) (side : Side) → wanted l ≡ true → book.queue (filter (λ x. wanted x.locate) os) l side ≡ book.queue os l side
  queue_kept os l side want =
      ap (in_order (λ x y. book.is_better side x.price y.price))
      (filter_within (book.is_of l side) (λ (x : Order). wanted x.locate) (λ x here. ap wanted (locate_is l side x here) ∙ want) os)

  parts_kept : (os : List Order) (es : List (ℕ × Listing)) → flat_map (locate_part (filter (λ x. wanted x.locate) os)) (filter at_entry es) ≡ flat_map (locate_part os) (filter at_entry es)
  parts_kept os [] = refl
  parts_kept os (e ∷ es) =
      by_test (wanted e.0)
      (λ want.
      ap (λ b. flat_map (locate_part (filter (λ x. wanted x.locate) os)) (cond b (e ∷ filter at_entry es) (filter at_entry es))) want
      ∙ ap₂ ◌++◌ (ap (locate_messages e) (ap₂ ◌++◌ (queue_kept os e.0 Buy want) (queue_kept os e.0 Sell want))) (parts_kept os es)
      ∙ sym (ap (λ b. flat_map (locate_part os) (cond b (e ∷ filter at_entry es) (filter at_entry es))) want))
      (λ out.
      ap (λ b. flat_map (locate_part (filter (λ x. wanted x.locate) os)) (cond b (e ∷ filter at_entry es) (filter at_entry es))) out
      ∙ parts_kept os es
      ∙ sym (ap (λ b. flat_map (locate_part os) (cond b (e ∷ filter at_entry es) (filter at_entry es))) out))

  -- the snapshot list of the restricted market, from the entries of the complete one
  snap_cut : (m : Content) → snap (only wanted m) ≡ event_part m.event ++ flat_map (locate_part m.orders) (filter at_entry (finite.entries m.securities))
  snap_cut m =
      ap (λ es. event_part m.event ++ flat_map (locate_part (filter (λ x. wanted x.locate) m.orders)) es) (same_entries_of nat_cmp_total nat_cmp-IsAntisymmetric wanted m.securities)
      ∙ ap (λ ms. event_part m.event ++ ms) (parts_kept m.orders (finite.entries m.securities))

  keys_kept : (es : List (ℕ × Listing)) → filter wanted (keys_of es) ≡ keys_of (filter at_entry es)
  keys_kept [] = refl
  keys_kept (e ∷ es) =
      by_test (wanted e.0)
      (λ want.
      ap (λ b. cond b (e.0 ∷ filter wanted (keys_of es)) (filter wanted (keys_of es))) want ∙ ap (λ ks. e.0 ∷ ks) (keys_kept es)
      ∙ sym (ap (λ b. keys_of (cond b (e ∷ filter at_entry es) (filter at_entry es))) want))
      (λ out.
      ap (λ b. cond b (e.0 ∷ filter wanted (keys_of es)) (filter wanted (keys_of es))) out ∙ keys_kept es
      ∙ sym (ap (λ b. keys_of (cond b (e ∷ filter at_entry es) (filter at_entry es))) out))

  -- at first the complete list remains in a walk over the wanted locates
  pub left_only : (m : Content) → left m m.event None None (filter wanted (finite.keys m.securities)) ≡ snap (only wanted m)
  left_only m =
      let es = finite.entries m.securities in
      ap (λ ks. event_part m.event ++ flat_map (part_at m) ks) (keys_kept es)
      ∙ ap (λ ms. event_part m.event ++ ms) (parts_of m (filter at_entry es) (All-filter_rec (λ e. finite.get m.securities e.0 ≡ Some e.1) at_entry es (each_entry m.securities)))
      ∙ sym (snap_cut m)

  -- ---- the messages of the complete market's list that are not skipped

  abbrev IsAt : ℕ → Message → Type 0
  IsAt l x = locate_of x ≡ Some l

  halts_at : (l : ℕ) (stock : List ℕ) (es : List (ℕ × ℕ)) → AllByRecursion (IsAt l) (map (halt_part l stock) es)
  halts_at l stock [] = tt
  halts_at l stock (e ∷ es) = (refl, halts_at l stock es)

  positions_at : (l : ℕ) (stock : List ℕ) (es : List (List ℕ × List ℕ)) → AllByRecursion (IsAt l) (map (position_part l stock) es)
  positions_at l stock [] = tt
  positions_at l stock (e ∷ es) = (refl, positions_at l stock es)

  action_at : (l : ℕ) (stock : List ℕ) (action : Option Action) → AllByRecursion (IsAt l) (action_part l stock action)
  action_at l stock None = tt
  action_at l stock (Some a) = (refl, tt)

  sho_at : (l : ℕ) (stock : List ℕ) (sho : Option ℕ) → AllByRecursion (IsAt l) (sho_part l stock sho)
  sho_at l stock None = tt
  sho_at l stock (Some sho) = (refl, tt)

  order_at : (l : ℕ) (stock : List ℕ) (x : Order) → x.locate ≡ l → IsAt l (order_part stock x)
  order_at l stock x here = by_mpid x.mpid where
    by_mpid : (mpid : Option (List ℕ)) → IsAt l (attributed (add_of stock x) mpid)
    by_mpid None = ap Some here
    by_mpid (Some mpid) = ap Some here

  sides_at : (os : List Order) (l : ℕ) → AllByRecursion (λ (x : Order). x.locate ≡ l) (book.sides os l)
  sides_at os l =
      subst (AllByRecursion (λ (x : Order). x.locate ≡ l)) (sym (both_queues os l))
      (All-in_order book.stands_before (λ (x : Order). x.locate ≡ l) (filter (book.is_in l) os)
      (All-weaker_rec (λ x. book.is_in l x ≡ true) (λ (x : Order). x.locate ≡ l) (λ x here. in_is l x here) (filter (book.is_in l) os) (passes_filter (book.is_in l) os)))

  locate_at : (os : List Order) (e : ℕ × Listing) → AllByRecursion (IsAt e.0) (locate_part os e)
  locate_at os e =
      let stock = e.1.entry.stock in
      let halts = map (halt_part e.0 stock) (finite.entries e.1.halts) in
      let positions = map (position_part e.0 stock) (finite.entries e.1.positions) in (
        refl,
        All-append_rec (IsAt e.0) (states_part e.0 e.1) (map (order_part stock) (book.sides os e.0))
            (All-append_rec (IsAt e.0) (action_part e.0 stock e.1.action) (sho_part e.0 stock e.1.sho ++ (halts ++ positions)) (action_at e.0 stock e.1.action)
            (All-append_rec (IsAt e.0) (sho_part e.0 stock e.1.sho) (halts ++ positions) (sho_at e.0 stock e.1.sho)
            (All-append_rec (IsAt e.0) halts positions (halts_at e.0 stock (finite.entries e.1.halts)) (positions_at e.0 stock (finite.entries e.1.positions)))))
            (All-map_rec (IsAt e.0) (order_part stock) (book.sides os e.0) (All-weaker_rec (λ (x : Order). x.locate ≡ e.0) (λ x. IsAt e.0 (order_part stock x)) (λ x here. order_at e.0 stock x here) (book.sides os e.0) (sides_at os e.0))),
      )

  -- a message that is not skipped
  abbrev stays : Message → Bool
  stays x = not (skips wanted x)

  kept_not : (b : Bool) → not (not b) ≡ b
  kept_not true = refl
  kept_not false = refl

  stays_at : (l : ℕ) (b : Bool) → wanted l ≡ b → (x : Message) → IsAt l x → stays x ≡ b
  stays_at l b same x here = ap (λ o. not (is_out wanted o)) here ∙ kept_not (wanted l) ∙ same

  locates_stay : (os : List Order) (es : List (ℕ × Listing)) → filter stays (flat_map (locate_part os) es) ≡ flat_map (locate_part os) (filter at_entry es)
  locates_stay os [] = refl
  locates_stay os (e ∷ es) =
      filter-append stays (locate_part os e) (flat_map (locate_part os) es)
      ∙ by_test (wanted e.0)
      (λ want.
      ap₂ ◌++◌ (filter_all stays (locate_part os e) (All-weaker_rec (IsAt e.0) (λ x. stays x ≡ true) (stays_at e.0 true want) (locate_part os e) (locate_at os e))) (locates_stay os es)
      ∙ sym (ap (λ b. flat_map (locate_part os) (cond b (e ∷ filter at_entry es) (filter at_entry es))) want))
      (λ out.
      ap₂ ◌++◌ (filter_none stays (locate_part os e) (All-weaker_rec (IsAt e.0) (λ x. stays x ≡ false) (stays_at e.0 false out) (locate_part os e) (locate_at os e))) (locates_stay os es)
      ∙ sym (ap (λ b. flat_map (locate_part os) (cond b (e ∷ filter at_entry es) (filter at_entry es))) out))

  event_stays : (event : Option ℕ) → filter stays (event_part event) ≡ event_part event
  event_stays None = refl
  event_stays (Some code) = refl

  -- the snapshot list of the restricted market is the list of the complete one without the messages that are skipped
  pub snap_only : (m : Content) → snap (only wanted m) ≡ kept wanted (snap m)
  snap_only m =
      snap_cut m
      ∙ sym (filter-append stays (event_part m.event) (flat_map (locate_part m.orders) (finite.entries m.securities))
      ∙ ap₂ ◌++◌ (event_stays m.event) (locates_stay m.orders (finite.entries m.securities)))

-- at first the complete snapshot list of the market of the wanted locates remains
pub left_in : (set : Option (Bor Wanted)) (m : Content) → left m m.event None None (filter (in_set set) (finite.keys m.securities)) ≡ snap (cut_to set m)
left_in None m = ap (left m m.event None None) (all_in (finite.keys m.securities)) ∙ left_snap m
left_in (Some set) m = left_only (has set.now) m
