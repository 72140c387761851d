-- Slots by locate: the entries of their directory, its keys, and its changes.
use Rattle.std.proofs.Common.{◌≡◌, ◌≢◌, ℕ, zero, suc, ◌+◌, ◌<◌, ◌≤◌, true, false, cond, eqb, List, [], ◌∷◌, ◌++◌, length, drop, replicate, Option, Some, None, is_some, refl, sym, ap, ◌∙◌, arith, add-one, nat_cmp, Less, get_or, set, ◌==◌, w64}
use Rattle.std.specs.FinMap as map
use Rattle.std.specs.Map.{keys_of}
use Rattle.std.specs.List.{AllByRecursion}
use Rattle.std.specs.List.Sorted.{IsStrictlySortedBy}
use Rattle.std.specs.Prelude.{map as map_list}
use Rattle.std.specs.Option.{IsNone}
use Rattle.std.specs.Str.{bytes_eq}
use Rattle.std.specs.Int.{from_be_bytes}
use Rattle.std.proofs.lemmas.Nat.{be_bytes_8}
use Rattle.std.proofs.lemmas.Slice.Eq.{bytes_eq-Decides}
use Rattle.std.proofs.Math.Seq.{drop-cons}
use Rattle.std.proofs.lemmas.List.{drop_all, map-set, map-append, length-map, get_or-map, set-get_or}
use Rattle.itch_codec.specs.Text.{IsPrintable}
use Rattle.std.proofs.lemmas.Bool.Decides.{nat_tests, same_from_decides, Decides-eqb, Decides-like}
use Rattle.itch_market.specs.Content.{Listing, Securities}
use Rattle.itch_market.specs.Slots.{entries_from, directory, locates_from, slot, stock_in, has_stock}
use Rattle.std.specs.Cmp.{nat_cmp_total}
use Rattle.std.specs.FinMap.{nat_cmp-IsAntisymmetric}
use Rattle.itch_market.proofs.Trees.{insert_present}
use Rattle.itch_market.proofs.Maps.{get-insert, get_there, get_elsewhere, same_map, entries_of_rising}

apart : (q locate : ℕ) → q < locate → q ≢ locate
apart q locate low same = absurd (omega arith)

-- there is no entry below the first locate
get_below : (slots : List (Option Listing)) (locate q : ℕ) → q < locate → map.get (map.from_entries {R = nat_cmp} (entries_from locate slots)) q ≡ None
get_below [] locate q low = map.get-empty nat_cmp q
get_below (None ∷ slots) locate q low = get_below slots (suc locate) q (omega arith)
get_below (Some s ∷ slots) locate q low =
    get_elsewhere _ locate s q (apart q locate low) ∙ get_below slots (suc locate) q (omega arith)

above : (q locate : ℕ) → suc locate + q ≢ locate
above q locate same = absurd (omega arith)

get_from : (slots : List (Option Listing)) (locate q : ℕ) → map.get (map.from_entries {R = nat_cmp} (entries_from locate slots)) (locate + q) ≡ slot slots q
get_from [] locate q = map.get-empty nat_cmp (locate + q)
get_from (None ∷ slots) locate zero = get_below slots (suc locate) (locate + zero) (omega arith)
get_from (None ∷ slots) locate (suc q) =
    let on : locate + suc q ≡ suc locate + q = omega arith in
    rw on (get_from slots (suc locate) q)
get_from (Some s ∷ slots) locate zero =
    let here : locate + zero ≡ locate = omega arith in
    rw here (get_there _ locate s)
get_from (Some s ∷ slots) locate (suc q) =
    let on : locate + suc q ≡ suc locate + q = omega arith in
    rw on (get_elsewhere _ locate s (suc locate + q) (above q locate) ∙ get_from slots (suc locate) q)

-- the directory of slots has at each locate the entry of the slot
pub get_of_slots : (slots : List (Option Listing)) (locate : ℕ) → map.get (directory slots) locate ≡ slot slots locate
get_of_slots slots locate =
    let here : 0 + locate ≡ locate = omega arith in
    rw here at (get_from slots 0 locate)

-- slots with the same entries have the same directory
pub same_slots : (slots others : List (Option Listing)) → ((q : ℕ) → slot slots q ≡ slot others q) → directory slots ≡ directory others
same_slots slots others same = same_map _ _ (λ q. get_of_slots slots q ∙ same q ∙ sym (get_of_slots others q))

-- a slot read by its index
pub slot_read : (slots : List (Option Listing)) (i : ℕ) (s d : Option Listing) → i < length slots → s ≡ get_or slots i d → s ≡ slot slots i
slot_read [] i s d low is = absurd (omega arith)
slot_read (x ∷ slots) zero s d low is = is
slot_read (x ∷ slots) (suc i) s d low is = slot_read slots i s d (omega arith) is

pub slot_past : (slots : List (Option Listing)) (i : ℕ) → length slots ≤ i → slot slots i ≡ None
slot_past [] i past = refl
slot_past (x ∷ slots) zero past = absurd (omega arith)
slot_past (x ∷ slots) (suc i) past = slot_past slots i (omega arith)

not_zero : (q : ℕ) → eqb (suc q) zero ≡ false
not_zero q = grind (arith, nat_tests)

zero_not : (i : ℕ) → eqb zero (suc i) ≡ false
zero_not i = grind (arith, nat_tests)

one_less : (q i : ℕ) → eqb (suc q) (suc i) ≡ eqb q i
one_less q i = grind (arith, nat_tests)

slot_set : (slots : List (Option Listing)) (i : ℕ) (s : Listing) (q : ℕ) → i < length slots → slot (set slots i (Some s)) q ≡ cond (eqb q i) (Some s) (slot slots q)
slot_set [] i s q low = absurd (omega arith)
slot_set (x ∷ slots) zero s zero low = refl
slot_set (x ∷ slots) zero s (suc q) low = rw (not_zero q) refl
slot_set (x ∷ slots) (suc i) s zero low = rw (zero_not i) refl
slot_set (x ∷ slots) (suc i) s (suc q) low = rw (one_less q i) (slot_set slots i s q (omega arith))

-- filling a slot inserts a security
pub directory_set : (slots : List (Option Listing)) (i : ℕ) (s : Listing) → i < length slots → directory (set slots i (Some s)) ≡ map.insert (directory slots) i s
directory_set slots i s low =
    same_map _ _ (λ q. get_of_slots (set slots i (Some s)) q ∙ slot_set slots i s q low
    ∙ ap (cond (eqb q i) (Some s)) (sym (get_of_slots slots q)) ∙ sym (get-insert (directory slots) i s q))

slot_empty : (n q : ℕ) → slot (replicate n None) q ≡ None
slot_empty zero q = refl
slot_empty (suc n) zero = refl
slot_empty (suc n) (suc q) = slot_empty n q

slot_more : (slots : List (Option Listing)) (n q : ℕ) → slot (slots ++ replicate n None) q ≡ slot slots q
slot_more [] n q = slot_empty n q
slot_more (x ∷ slots) n zero = refl
slot_more (x ∷ slots) n (suc q) = slot_more slots n q

-- empty slots at the end do not matter
pub directory_more : (slots : List (Option Listing)) (n : ℕ) → directory (slots ++ replicate n None) ≡ directory slots
directory_more slots n = same_slots _ _ (slot_more slots n)

is_less : (a b : ℕ) → a < b → nat_cmp a b ≡ Less
is_less a b low = grind (arith, nat_tests)

rise_above : (slots : List (Option Listing)) (low locate : ℕ) → low < locate → AllByRecursion (λ q. nat_cmp low q ≡ Less) (keys_of (entries_from locate slots))
rise_above [] low locate under = tt
rise_above (None ∷ slots) low locate under = rise_above slots low (suc locate) (omega arith)
rise_above (Some s ∷ slots) low locate under = (is_less low locate under, rise_above slots low (suc locate) (omega arith))

rise : (slots : List (Option Listing)) (locate : ℕ) → IsStrictlySortedBy nat_cmp (keys_of (entries_from locate slots))
unfolding IsStrictlySortedBy
rise [] locate = tt
rise (None ∷ slots) locate = rise slots (suc locate)
rise (Some s ∷ slots) locate = (rise_above slots locate (suc locate) (omega arith), rise slots (suc locate))

-- the keys of the directory are the locates of the slots
pub keys_of_slots : (slots : List (Option Listing)) → locates_from 0 slots ≡ map.keys (directory slots)
keys_of_slots slots = ap keys_of (sym (entries_of_rising (entries_from 0 slots) (rise slots 0)))

-- one slot further
locates_step : (slots : List (Option Listing)) (i : ℕ) (s : Option Listing) → i < length slots → s ≡ get_or slots i s
    → locates_from i slots ≡ keys_of (entries_from i (s ∷ drop (suc i) slots))
locates_step slots i s low is =
    ap (λ xs. keys_of (entries_from i xs)) (drop-cons slots i s low) ∙ ap (λ x. keys_of (entries_from i (x ∷ drop (suc i) slots))) (sym is)

-- a locate with a security is the first from it on
pub locates_here : (slots : List (Option Listing)) (i : ℕ) (s : Option Listing) → i < length slots → s ≡ get_or slots i s → true ≡ is_some s
    → locates_from i slots ≡ i ∷ locates_from (suc i) slots
locates_here slots i None low is there = absurd (cc)
locates_here slots i (Some s) low is there = locates_step slots i (Some s) low is

-- a locate without one is skipped
pub locates_on : (slots : List (Option Listing)) (i : ℕ) (s : Option Listing) → i < length slots → s ≡ get_or slots i s → false ≡ is_some s
    → locates_from i slots ≡ locates_from (i + 1) slots
locates_on slots i None low is none = rw add-one (locates_step slots i None low is)
locates_on slots i (Some s) low is none = absurd (cc)

-- there is none after the last slot
pub locates_past : (slots : List (Option Listing)) (i : ℕ) → length slots ≤ i → locates_from i slots ≡ []
locates_past slots i past = ap (λ xs. keys_of (entries_from i xs)) (drop_all i slots past)

slot_within : (slots : List (Option Listing)) (i : ℕ) (s : Listing) → slot slots i ≡ Some s → i < length slots
slot_within [] i s there = absurd (cc)
slot_within (x ∷ slots) zero s there = omega arith
slot_within (x ∷ slots) (suc i) s there = let below = slot_within slots i s there in omega arith

-- a security of the directory has a slot
pub within : (slots : List (Option Listing)) (i : ℕ) (s : Listing) → Some s ≡ map.get (directory slots) i → i < length slots
within slots i s there = slot_within slots i s (sym (get_of_slots slots i) ∙ sym there)

-- beyond the slots the directory has no entries
pub get_past : (slots : List (Option Listing)) (i : ℕ) → length slots < i + 1 → map.get (directory slots) i ≡ None
get_past slots i past = get_of_slots slots i ∙ slot_past slots i (omega arith)

-- storing a security where it already is changes nothing
pub kept_here : (securities : Securities) (locate : ℕ) (s t : Listing) → Some s ≡ map.get securities locate → t ≡ s → map.insert securities locate t ≡ securities
kept_here securities locate s t there same =
    ap (map.insert securities locate) same ∙ insert_present nat_cmp_total nat_cmp-IsAntisymmetric securities locate s (sym there)

-- a slot and its stock are written together
pub stocks_set : (stocks : List (List ℕ)) (slots : List (Option Listing)) (i : ℕ) (s : Option Listing) → stocks ≡ map_list stock_in slots
    → set stocks i (stock_in s) ≡ map_list stock_in (set slots i s)
stocks_set stocks slots i s same = ap (λ xs. set xs i (stock_in s)) same ∙ sym (map-set stock_in slots i s)

-- an empty slot and its zeros are added together
pub stocks_more : (stocks : List (List ℕ)) (slots : List (Option Listing)) → stocks ≡ map_list stock_in slots
    → stocks ++ stock_in None ∷ [] ≡ map_list stock_in (slots ++ None ∷ [])
stocks_more stocks slots same = ap (λ xs. xs ++ stock_in None ∷ []) same ∙ sym (map-append stock_in slots (None ∷ []))

-- a stock is the stock of its slot
pub stock_read : (stocks : List (List ℕ)) (slots : List (Option Listing)) (i : ℕ) (known : List ℕ) → stocks ≡ map_list stock_in slots → i < length stocks
    → known ≡ get_or stocks i known → known ≡ stock_in (slot slots i)
stock_read stocks slots i known same low is =
    let within : i < length slots = rw (same, length-map) at low in
    is ∙ ap (λ xs. get_or xs i known) same ∙ get_or-map stock_in slots i None known within
    ∙ ap stock_in (slot_read slots i (get_or slots i None) None within refl)

-- eight zeros are not a stock
zeros_differ : (stock : List ℕ) → IsPrintable stock → length stock ≡ 8 → bytes_eq (replicate 8 0) stock ≡ false
zeros_differ [] printable width = absurd (omega arith)
zeros_differ (byte ∷ stock) printable width = let other : eqb 0 byte ≡ false = grind (arith, nat_tests) in rw other refl

-- eight bytes are equal if their numbers are equal
pub same_number : (xs ys : List ℕ) → length xs ≡ 8 → length ys ≡ 8 → ((i : ℕ) → get_or xs i 0 < 256) → ((i : ℕ) → get_or ys i 0 < 256)
    → (from_be_bytes w64 xs == from_be_bytes w64 ys) ≡ bytes_eq xs ys
same_number xs ys long_xs long_ys fits_xs fits_ys =
    same_from_decides (from_be_bytes w64 xs == from_be_bytes w64 ys) (bytes_eq xs ys)
    (Decides-like (from_be_bytes w64 xs == from_be_bytes w64 ys) (λ same. sym (be_bytes_8 xs (from_be_bytes w64 ys) long_xs fits_xs (sym same)) ∙ be_bytes_8 ys (from_be_bytes w64 ys) long_ys fits_ys refl)
    (ap (from_be_bytes w64)) (Decides-eqb (from_be_bytes w64 xs) (from_be_bytes w64 ys)))
    (bytes_eq-Decides xs ys)

-- comparing the stock stored with a slot is comparing the stock of its security
pub stock_compared : (s : Option Listing) (stock : List ℕ) → IsPrintable stock → length stock ≡ 8 → bytes_eq (stock_in s) stock ≡ has_stock s stock
stock_compared None stock printable width = zeros_differ stock printable width
stock_compared (Some s) stock printable width = refl

-- emptying an empty slot changes nothing
pub none_kept : (slots : List (Option Listing)) (i : ℕ) (was now taken : Option Listing) → i < length slots → taken ≡ was → was ≡ get_or slots i was → now ≡ None
    → IsNone taken → directory (set slots i now) ≡ directory slots
none_kept slots i was now (Some s) low taken read emptied none = absurd (let none_none : ⊥ = cc in none_none)
none_kept slots i was now None low taken read emptied none =
    let same : now ≡ get_or slots i was = cc in
    ap directory (ap (set slots i) same ∙ set-get_or slots i was)
