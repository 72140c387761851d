-- The remaining messages of a snapshot: all of them at first, and one fewer after each step.
use Rattle.std.proofs.Common.{◌≡◌, ℕ, Bool, List, [], ◌∷◌, ◌++◌, map, filter, find, flat_map, append_assoc, Option, Some, None, IsSome, IfSome, option_map, refl, sym, ap, ap₂, ◌∙◌, subst}
use Rattle.std.specs.List.{AllByRecursion}
use Rattle.std.specs.Map.{keys_of}
use Rattle.std.specs.FinMap as finite
use Rattle.itch_codec.specs.declared.message.Message.TheVariants as is
use Rattle.itch_codec.specs.declared.message.Message.{Message}
use Rattle.itch_book.specs.declared.order.Order.{Order}
use Rattle.itch_book.specs.declared.order.Placed.{Placed}
use Rattle.itch_book.specs.Orders as book
use Rattle.itch_book.proofs.Lists.{All-filter_rec}
use Rattle.itch_book.proofs.Walks.{first_left, next_left, first_live, after_live}
use Rattle.itch_market.specs.Content.{Content, Listing}
use Rattle.itch_snapshot.specs.declared.named_order.NamedOrder.{NamedOrder}
use Rattle.itch_snapshot.specs.Snapshot.{snap, header_at, event_part, states_part, order_part, locate_part}
use Rattle.itch_snapshot.specs.Cursor.{in_set, listed, named, order_parts, part_at, found_part, left, IsCursor}
use Rattle.itch_snapshot.proofs.Locates.{each_entry}
use Rattle.itch_snapshot.proofs.Keys.{each_listed}

pub parts_of : (m : Content) (es : List (ℕ × Listing)) → AllByRecursion (λ e. finite.get m.securities e.0 ≡ Some e.1) es
    → flat_map (part_at m) (keys_of es) ≡ flat_map (locate_part m.orders) es
parts_of m [] here = refl
parts_of m (e ∷ es) here = ap₂ ◌++◌ (ap (found_part m.orders e.0) here.0) (parts_of m es here.1)

-- at first the complete snapshot list remains
pub left_snap : (m : Content) → left m m.event None None (finite.keys m.securities) ≡ snap m
left_snap m = ap (λ parts. event_part m.event ++ parts) (parts_of m (finite.entries m.securities) (each_entry m.securities))

-- a cursor over some of the locates
pub cursor_among : (m : Content) (wanted : ℕ → Bool) → IsCursor m None (filter wanted (finite.keys m.securities))
cursor_among m wanted = record { live = tt; listed = All-filter_rec (λ l. IsSome (finite.get m.securities l)) wanted (finite.keys m.securities) (each_listed m.securities) }

-- without a set, all locates are wanted
pub all_in : (locates : List ℕ) → filter (in_set None) locates ≡ locates
all_in [] = refl
all_in (l ∷ ls) = ap (λ ks. l ∷ ks) (all_in ls)

-- the order without its place
abbrev pub its_order : Option Placed → Option Order
its_order placed = option_map (λ p. p.order.now) placed

-- the messages of a named order and of those after it
parts_named : (orders : List Order) (stock : List ℕ) (placed : Option Placed) (x : Option Order) → its_order placed ≡ x → order_parts orders (named stock placed) ≡ map (order_part stock) (book.from_order orders x)
parts_named orders stock None x e = ap (λ o. map (order_part stock) (book.from_order orders o)) e
parts_named orders stock (Some p) x e = ap (λ o. map (order_part stock) (book.from_order orders o)) e

live_named : (orders : List Order) (stock : List ℕ) (placed : Option Placed) (x : Option Order) → its_order placed ≡ x → IfSome x (λ y. book.get orders y.reference ≡ Some y)
    → IfSome (named stock placed) (λ y. book.get orders y.order.reference ≡ Some y.order)
live_named orders stock None x e live = tt
live_named orders stock (Some p) x e live = subst (λ o. IfSome o (λ y. book.get orders y.reference ≡ Some y)) (sym e) live

-- a market's orders, as stored in its book
module _ (m : Content) (orders : List Order) (kept : book.IsBook orders) (same : orders ≡ m.orders) where
  listed_book : book.IsBook m.orders
  listed_book = subst book.IsBook same kept

  -- the next order is live
  abbrev pub IsNext : Option NamedOrder → Type 0
  IsNext next = IfSome next (λ y. book.get m.orders y.order.reference ≡ Some y.order)

  after_it : (placed : Option Placed) (x : NamedOrder) → its_order placed ≡ book.after orders x.order.reference → its_order placed ≡ book.after m.orders x.order.reference
  after_it placed x following = following ∙ ap (λ os. book.after os x.order.reference) same

  first_there : (placed : Option Placed) (locate : ℕ) → its_order placed ≡ find (book.is_in locate) orders → its_order placed ≡ find (book.is_in locate) m.orders
  first_there placed locate first = first ∙ ap (λ os. find (book.is_in locate) os) same

  -- an order is returned, and the next one after it remains
  pub order_given : (event : Option ℕ) (states spent : Option (List Message)) (order next : Option NamedOrder) (locates : List ℕ) (x : NamedOrder) (placed : Option Placed)
      → IsCursor m order locates → event ≡ None → listed states ≡ [] → listed spent ≡ [] → order ≡ Some x → next ≡ named x.stock placed → its_order placed ≡ book.after orders x.order.reference
      → left m event states order locates ≡ order_part x.stock x.order ∷ left m None spent next locates
  order_given event states spent order next locates x placed cursor no_event no_states none_left this given following =
      let live : book.get m.orders x.order.reference ≡ Some x.order = subst IsNext this cursor.live in
      rw (no_event, no_states, none_left, this, given)
      (ap (λ os. map (order_part x.stock) os ++ flat_map (part_at m) locates) (next_left m.orders x.order listed_book.distinct live)
      ∙ ap (λ parts. order_part x.stock x.order ∷ (parts ++ flat_map (part_at m) locates)) (sym (parts_named m.orders x.stock placed (book.after m.orders x.order.reference) (after_it placed x following))))

  pub order_leaves : (order next : Option NamedOrder) (locates : List ℕ) (x : NamedOrder) (placed : Option Placed)
      → IsCursor m order locates → order ≡ Some x → next ≡ named x.stock placed → its_order placed ≡ book.after orders x.order.reference → IsCursor m next locates
  order_leaves order next locates x placed cursor this given following =
      let live : book.get m.orders x.order.reference ≡ Some x.order = subst IsNext this cursor.live in
      record {
        live = subst IsNext (sym given) (live_named m.orders x.stock placed (book.after m.orders x.order.reference) (after_it placed x following) (after_live m.orders x.order listed_book.distinct live));
        listed = cursor.listed;
      }

  -- the directory entry of a locate is returned, and the other messages about the locate remain
  pub locate_given : (event : Option ℕ) (states next_states : Option (List Message)) (order next : Option NamedOrder)
      (locates others : List ℕ) (locate : ℕ) (s : Listing) (placed : Option Placed)
      → event ≡ None → listed states ≡ [] → order ≡ None → locates ≡ locate ∷ others → finite.get m.securities locate ≡ Some s
      → listed next_states ≡ states_part locate s → next ≡ named s.entry.stock placed → its_order placed ≡ find (book.is_in locate) orders
      → left m event states order locates ≡ is.StockDirectory (record { header = header_at locate; entry = s.entry }) ∷ left m None next_states next others
  locate_given event states next_states order next locates others locate s placed no_event no_states no_order here there says given first =
      let entry = s.entry in
      let rest = flat_map (part_at m) others in
      let there_first : order_parts m.orders next ≡ map (order_part entry.stock) (book.sides m.orders locate) =
      ap (order_parts m.orders) given ∙ parts_named m.orders entry.stock placed (find (book.is_in locate) m.orders) (first_there placed locate first)
      ∙ ap (map (order_part entry.stock)) (sym (first_left m.orders locate listed_book)) in
      rw (no_event, no_states, no_order, here, says, there_first)
      (ap (λ found. found_part m.orders locate found ++ rest) there
      ∙ ap (λ tail. is.StockDirectory (record { header = header_at locate; entry = entry }) ∷ tail)
      (append_assoc (states_part locate s) (map (order_part entry.stock) (book.sides m.orders locate)) rest))

  pub locate_leaves : (order next : Option NamedOrder) (locates others : List ℕ) (locate : ℕ) (stock : List ℕ) (placed : Option Placed)
      → IsCursor m order locates → locates ≡ locate ∷ others → next ≡ named stock placed → its_order placed ≡ find (book.is_in locate) orders → IsCursor m next others
  locate_leaves order next locates others locate stock placed cursor here given first =
      let listed : AllByRecursion (λ l. IsSome (finite.get m.securities l)) (locate ∷ others) = subst (AllByRecursion (λ l. IsSome (finite.get m.securities l))) here cursor.listed in
      record {
        live = subst IsNext (sym given) (live_named m.orders stock placed (find (book.is_in locate) m.orders) (first_there placed locate first) (first_live m.orders locate listed_book.distinct));
        listed = listed.1;
      }
