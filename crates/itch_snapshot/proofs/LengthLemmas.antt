-- The length of a snapshot list: the messages of the securities, and one for each order.
use Rattle.std.proofs.Common.{◌≡◌, ℕ, ◌+◌, ◌*◌, ◌<◌, ◌≤◌, ◌^◌, List, [], ◌∷◌, ◌++◌, map, length, flat_map, Option, Some, None, refl, sym, ap, ◌∙◌, subst, arith, length-append, append_assoc, append-nil}
use Rattle.std.specs.List.{sum_by, AllByRecursion}
use Rattle.std.specs.Map.{keys_of}
use Rattle.std.specs.FinMap as finite
use Rattle.std.proofs.lemmas.List.{length-map}
use Rattle.std.proofs.lemmas.List.Sums.{sum_by-append, sum_by-cons}
use Rattle.std.proofs.lemmas.Map.Entries.{length-keys_of}
use Rattle.itch_book.specs.declared.order.Order.{Order}
use Rattle.itch_book.specs.Orders as book
use Rattle.itch_book.proofs.StableLemmas.{length-in_order}
use Rattle.itch_market.specs.declared.security.Action.{Action}
use Rattle.itch_market.specs.Content.{Content, Listing}
use Rattle.itch_market.specs.GoodMarkets.{IsGood}
use Rattle.itch_market.specs.Widths.{IsMaybe, IsSecurity}
use Rattle.itch_snapshot.specs.Snapshot.{snap, event_part, action_part, sho_part, halt_part, position_part, states_part, order_part, locate_messages, locate_part}
use Rattle.itch_snapshot.specs.Lengths.{count_of, security_len}
use Rattle.itch_snapshot.proofs.Locates.{joined, joined_all, rise, each_entry}
use Rattle.itch_snapshot.proofs.Keys.{rise_short}

length-event : (event : Option ℕ) → length (event_part event) ≡ count_of event
length-event None = refl
length-event (Some code) = refl

length-action : (locate : ℕ) (stock : List ℕ) (action : Option Action) → length (action_part locate stock action) ≡ count_of action
length-action locate stock None = refl
length-action locate stock (Some a) = refl

length-sho : (locate : ℕ) (stock : List ℕ) (sho : Option ℕ) → length (sho_part locate stock sho) ≡ count_of sho
length-sho locate stock None = refl
length-sho locate stock (Some sho) = refl

length-locate : (e : ℕ × Listing) (os : List Order) → length (locate_messages e os) ≡ security_len e.1 + length os
length-locate e os =
    let stock = e.1.entry.stock in
    let acts = action_part e.0 stock e.1.action in
    let restricts = sho_part e.0 stock e.1.sho in
    let halts = map (halt_part e.0 stock) (finite.entries e.1.halts) in
    let positions = map (position_part e.0 stock) (finite.entries e.1.positions) in
    omega (
      arith,
      length-append (states_part e.0 e.1) (map (order_part stock) os),
      length-append acts (restricts ++ (halts ++ positions)),
      length-append restricts (halts ++ positions),
      length-append halts positions,
      length-action e.0 stock e.1.action,
      length-sho e.0 stock e.1.sho,
      length-map (finite.entries e.1.halts) (halt_part e.0 stock),
      length-map (finite.entries e.1.positions) (position_part e.0 stock),
      finite.len-entries e.1.halts,
      finite.len-entries e.1.positions,
      length-map os (order_part stock),
    )

length-locates : (orders : List Order) (es : List (ℕ × Listing)) → length (flat_map (locate_part orders) es) ≡ sum_by (λ e. security_len e.1) es + length (joined orders es)
length-locates orders [] = refl
length-locates orders (e ∷ es) =
    omega (
      arith,
      length-append (locate_part orders e) (flat_map (locate_part orders) es),
      length-locate e (book.sides orders e.0),
      length-locates orders es,
      length-append (book.sides orders e.0) (joined orders es),
      sum_by-cons (λ (f : ℕ × Listing). security_len f.1) e es,
    )

-- the number of messages of the security at a locate, without its orders
abbrev pub found_len : Option Listing → ℕ
found_len None = 0
found_len (Some s) = security_len s

abbrev pub len_at : Content → ℕ → ℕ
len_at m locate = found_len (finite.get m.securities locate)

sum_at : (m : Content) (es : List (ℕ × Listing)) → AllByRecursion (λ e. finite.get m.securities e.0 ≡ Some e.1) es
    → sum_by (len_at m) (keys_of es) ≡ sum_by (λ e. security_len e.1) es
sum_at m [] here = refl
sum_at m (e ∷ es) here = omega (arith, ap found_len here.0, sum_at m es here.1, sum_by-cons (len_at m) e.0 (keys_of es), sum_by-cons (λ (f : ℕ × Listing). security_len f.1) e es)

-- the length of the snapshot list, summed over the locates
pub length-snap : (m : Content) → IsGood m → length (snap m) ≡ count_of m.event + length m.orders + sum_by (len_at m) (finite.keys m.securities)
length-snap m good =
    let es = finite.entries m.securities in
    let all = ap length (joined_all m.orders m.securities good.listed) ∙ length-in_order book.stands_before m.orders in
    omega (arith, length-append (event_part m.event) (flat_map (locate_part m.orders) es), length-event m.event, length-locates m.orders es, all, sum_at m es (each_entry m.securities))

key_within : (m : Content) → IsGood m → (es : List (ℕ × Listing)) → AllByRecursion (λ e. finite.get m.securities e.0 ≡ Some e.1) es → AllByRecursion (λ e. (0 ≤ e.0) × (e.0 < 65536)) es
key_within m good [] here = tt
key_within m good (e ∷ es) here =
    let fits = subst (IsMaybe (λ s. (e.0 < 65536) × IsSecurity s)) here.0 (good.securities e.0) in
    ((omega arith, fits.0), key_within m good es here.1)

-- a directory has at most as many locates as exist
pub few_locates : (m : Content) → IsGood m → length (finite.keys m.securities) ≤ 65536
few_locates m good =
    let es = finite.entries m.securities in
    omega (arith, length-keys_of es, rise_short es 0 65536 (rise m.securities) (key_within m good es (each_entry m.securities)) (omega arith))

count_small : {A : Type 0} (o : Option A) → count_of o ≤ 1
count_small None = omega arith
count_small (Some x) = omega arith

-- the locates seen so far are counted
pub record CountsSoFar (m : Content) (seen left : List ℕ) (len : ℕ) : Type 0 where
  pub locates : finite.keys m.securities ≡ seen ++ left
  pub counted : len ≡ count_of m.event + length m.orders + sum_by (len_at m) seen
  pub good : IsGood m
  pub few_orders : length m.orders < 2 ^ 64
  pub small : sum_by (len_at m) seen ≤ 2 ^ 65 * length seen

pub one_counted : (m : Content) (seen left : List ℕ) (len locate : ℕ) (found : Option Listing) → CountsSoFar m seen (locate ∷ left) len → finite.get m.securities locate ≡ found → found_len found < 2 ^ 65
    → CountsSoFar m (seen ++ locate ∷ []) left (len + found_len found)
one_counted m seen left len locate found so_far there short = record {
  locates = so_far.locates ∙ sym (append_assoc seen (locate ∷ []) left);
  counted = omega (arith, so_far.counted, sum_by-append (len_at m) seen (locate ∷ []), sum_by-cons (len_at m) locate [], ap found_len there);
  good = so_far.good;
  few_orders = so_far.few_orders;
  small = omega (arith, so_far.small, sum_by-append (len_at m) seen (locate ∷ []), sum_by-cons (len_at m) locate [], ap found_len there, short, length-append seen (locate ∷ []));
}

pub none_counted : (m : Content) (seen left : List ℕ) (len locate : ℕ) → CountsSoFar m seen (locate ∷ left) len → finite.get m.securities locate ≡ None
    → CountsSoFar m (seen ++ locate ∷ []) left len
none_counted m seen left len locate so_far there =
    let same : len + 0 ≡ len = omega arith in
    subst (CountsSoFar m (seen ++ locate ∷ []) left) same (one_counted m seen left len locate None so_far there (omega arith))

-- so the count remains small
pub counts_small : (m : Content) (seen left : List ℕ) (len : ℕ) → CountsSoFar m seen left len → len < 2 ^ 82
counts_small m seen left len so_far =
    omega (arith, so_far.counted, so_far.few_orders, count_small m.event, so_far.small, few_locates m so_far.good, ap length so_far.locates, length-append seen left)

-- and it is the length of the snapshot after all locates
pub counts_all : (m : Content) (seen left : List ℕ) (len : ℕ) → CountsSoFar m seen left len → left ≡ [] → len ≡ length (snap m)
counts_all m seen left len so_far none =
    so_far.counted
    ∙ ap (λ ls. count_of m.event + length m.orders + sum_by (len_at m) ls) (sym (so_far.locates ∙ ap (λ rest. seen ++ rest) none ∙ append-nil seen))
    ∙ sym (length-snap m so_far.good)
