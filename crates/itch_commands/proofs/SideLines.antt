-- The lines of a side, written one after another.
use Rattle.std.proofs.Common.{◌≡◌, ℕ, zero, suc, ◌+◌, ◌-◌, List, [], ◌∷◌, ◌++◌, length, take, Option, Some, None, option_map, Ok, Err, refl, sym, ap, ◌∙◌, subst, append-nil, length-append, arith}
use Rattle.std.specs.Prelude.{⊤}
use Rattle.std.specs.List.{filter, sum_by, flat_map}
use Rattle.std.proofs.KnownBytes.{Appends-nil}
use Rattle.std.proofs.lemmas.List.{flat_map_more}
use Rattle.std.proofs.lemmas.Grind.{flat_map-append}
use Rattle.itch_codec.specs.declared.orders.Side.{Side}
use Rattle.itch_book.specs.declared.order.Order.{Order}
use Rattle.itch_book.specs.Orders.{next_price, level_total, queue, is_worse, IsBook}
use Rattle.itch_book.specs.Prices.{prices}
use Rattle.itch_frame.specs.declared.tally.Failures.{Failures}
use Rattle.itch_commands.specs.declared.fault.ToolFault.{ToolFault}
use Rattle.itch_commands.specs.Books.{first_of, next_wanted, price_line, side_lines}
use Rattle.itch_commands.specs.Outputs.{WritesText}
use Rattle.itch_commands.proofs.JoinedTexts.{text_then, text_fails}
use Rattle.itch_book.proofs.QueuePrices.{DonePrices, none_done, next_parts, one_done, none_left, level_is}

-- the line of the totals in a book is that of the price
total_line : (line : Side → ℕ → ℕ → ℕ → List ℕ) (orders : List Order) (l : ℕ) (s : Side) (price : ℕ) (total : ℕ × ℕ) → total ≡ level_total orders l s price
    → line s price total.0 total.1 ≡ price_line line s (queue orders l s) price
total_line line orders l s price total is =
    ap (λ (t : ℕ × ℕ). line s price t.0 t.1) is ∙ ap (λ xs. line s price (sum_by (λ x. x.shares) xs) (length xs)) (level_is orders l s price)

-- that many prices are still requested after these
abbrev pub LeavesRoom : Option ℕ → List ℕ → Option ℕ → Type 0
LeavesRoom None done None = ⊤
LeavesRoom None done (Some more) = ⊥
LeavesRoom (Some depth) done None = ⊥
LeavesRoom (Some depth) done (Some more) = depth ≡ more + length done

room_first : (depth : Option ℕ) → LeavesRoom depth [] depth
room_first None = tt
room_first (Some depth) = omega arith

room_on : (depth left next : Option ℕ) (done : List ℕ) (price : ℕ) → next_wanted left next ≡ Some price → LeavesRoom depth done left
    → LeavesRoom depth (done ++ price ∷ []) (option_map (λ more. more - 1) left)
room_on None None next done price wanted room = tt
room_on None (Some more) next done price wanted room = absurd room
room_on (Some depth) None next done price wanted room = absurd room
room_on (Some depth) (Some zero) next done price wanted room = absurd (cc wanted)
room_on (Some depth) (Some (suc more)) next done price wanted room = omega (arith, room, length-append done (price ∷ []))

take_past : (xs ys : List ℕ) (n : ℕ) → take (n + length xs) (xs ++ ys) ≡ xs ++ take n ys
take_past [] ys n = let none : n + length {A = ℕ} [] ≡ n = omega arith in ap (λ k. take k ys) none
take_past (x ∷ xs) ys n =
    let one : n + length (x ∷ xs) ≡ suc (n + length xs) = omega arith in
    ap (λ k. take k (x ∷ (xs ++ ys))) one ∙ ap (λ zs. x ∷ zs) (take_past xs ys n)

first_past : (depth left : Option ℕ) (done rest : List ℕ) → LeavesRoom depth done left → first_of depth (done ++ rest) ≡ done ++ first_of left rest
first_past None None done rest room = refl
first_past None (Some more) done rest room = absurd room
first_past (Some depth) None done rest room = absurd room
first_past (Some depth) (Some more) done rest room = ap (λ n. take n (done ++ rest)) room ∙ take_past done rest more

first_on : (left next : Option ℕ) (price : ℕ) (rest : List ℕ) → next_wanted left next ≡ Some price
    → first_of left (price ∷ rest) ≡ price ∷ first_of (option_map (λ more. more - 1) left) rest
first_on None next price rest wanted = refl
first_on (Some zero) next price rest wanted = absurd (cc wanted)
first_on (Some (suc more)) next price rest wanted = let one : more ≡ suc more - 1 = omega arith in ap (λ k. price ∷ take k rest) one

-- a requested price is the next one
pub is_next : (left next : Option ℕ) (price : ℕ) → next_wanted left next ≡ Some price → next ≡ Some price
is_next None next price wanted = wanted
is_next (Some zero) next price wanted = absurd (cc wanted)
is_next (Some (suc more)) next price wanted = wanted

nothing_left : (left next : Option ℕ) (rest : List ℕ) → next_wanted left next ≡ None → (next ≡ None → rest ≡ []) → first_of left rest ≡ []
nothing_left None next rest none last = last none
nothing_left (Some zero) next rest none last = refl
nothing_left (Some (suc more)) next rest none last = ap (take (suc more)) (last none)

-- if no more is requested, or there is none, the prices that are done are all the requested ones
first_ends : (depth left next : Option ℕ) (done rest : List ℕ) → next_wanted left next ≡ None → LeavesRoom depth done left → (next ≡ None → rest ≡ [])
    → first_of depth (done ++ rest) ≡ done
first_ends depth left next done rest none room last =
    first_past depth left done rest room ∙ ap (λ ps. done ++ ps) (nothing_left left next rest none last) ∙ append-nil done

module _ {W : Type 0} (contents : W → Option (List ℕ)) (failures : W → Failures) (line : Side → ℕ → ℕ → ℕ → List ℕ) (orders : List Order) (l : ℕ) (depth : Option ℕ) (s : Side) where
  -- the lines of the prices up to the last one were written, and that many more are requested
  pub record SideSoFar (last left : Option ℕ) (old new : W) : Type 0 where
    pub done : List ℕ
    pub so_far : DonePrices orders l s last done
    pub room : LeavesRoom depth done left
    pub wrote : WritesText contents failures (flat_map (price_line line s (queue orders l s)) done) old (Ok tt) new

  pub side_begun : (old : W) → SideSoFar None depth old old
  side_begun old = record { done = []; so_far = none_done orders l s; room = room_first depth; wrote = (Appends-nil (contents old), refl) }

  module _ (last left : Option ℕ) (price : ℕ) (total : ℕ × ℕ) (old mid new : W) (book : IsBook orders) (begun : SideSoFar last left old mid)
      (wanted : next_wanted left (next_price orders l s last) ≡ Some price) (totals : total ≡ level_total orders l s price) where
    next : next_price orders l s last ≡ Some price
    next = is_next left (next_price orders l s last) price wanted

    pub side_more : (fewer : Option ℕ) → fewer ≡ option_map (λ more. more - 1) left → WritesText contents failures (line s price total.0 total.1) mid (Ok tt) new
        → SideSoFar (Some price) fewer old new
    side_more fewer is written = record {
      done = begun.done ++ price ∷ [];
      so_far = one_done orders l s last begun.done price book begun.so_far next;
      room = subst (LeavesRoom depth (begun.done ++ price ∷ [])) (sym is) (room_on depth left (next_price orders l s last) begun.done price wanted begun.room);
      wrote = subst (λ text. WritesText contents failures text old (Ok tt) new)
          (ap (λ text. flat_map (price_line line s (queue orders l s)) begun.done ++ text) (total_line line orders l s price total totals)
          ∙ flat_map_more (price_line line s (queue orders l s)) [] begun.done price)
          (text_then contents failures (flat_map (price_line line s (queue orders l s)) begun.done) (line s price total.0 total.1) old mid new (Ok tt) begun.wrote written);
    }

    pub side_fails : (fault : ToolFault) → WritesText contents failures (line s price total.0 total.1) mid (Err fault) new
        → WritesText contents failures (side_lines line depth s (queue orders l s)) old (Err fault) new
    side_fails fault written =
        let f = price_line line s (queue orders l s) in
        let parts = next_parts orders l s last begun.done price book begun.so_far next in
        let rest : List ℕ = first_of (option_map (λ more. more - 1) left) parts.rest in
        let shown : first_of depth (prices (queue orders l s)) ≡ begun.done ++ price ∷ rest =
        ap (first_of depth) (begun.so_far.whole ∙ ap (λ ps. begun.done ++ ps) parts.here) ∙ first_past depth left begun.done (price ∷ parts.rest) begun.room
        ∙ ap (λ ps. begun.done ++ ps) (first_on left (next_price orders l s last) price parts.rest wanted) in
        let whole : side_lines line depth s (queue orders l s) ≡ flat_map f begun.done ++ (line s price total.0 total.1 ++ flat_map f rest) =
        ap (flat_map f) shown ∙ flat_map-append f begun.done (price ∷ rest)
        ∙ ap (λ text. flat_map f begun.done ++ (text ++ flat_map f rest)) (sym (total_line line orders l s price total totals)) in
        subst (λ text. WritesText contents failures text old (Err fault) new) (sym whole)
        (text_then contents failures (flat_map f begun.done) (line s price total.0 total.1 ++ flat_map f rest) old mid new (Err fault) begun.wrote
        (text_fails contents failures (line s price total.0 total.1) (flat_map f rest) mid new fault written))

  pub side_ends : (last left : Option ℕ) (old new : W) → IsBook orders → SideSoFar last left old new → next_wanted left (next_price orders l s last) ≡ None
      → WritesText contents failures (side_lines line depth s (queue orders l s)) old (Ok tt) new
  side_ends last left old new book begun none =
      let shown : first_of depth (prices (queue orders l s)) ≡ begun.done =
      ap (first_of depth) begun.so_far.whole
      ∙ first_ends depth left (next_price orders l s last) begun.done (filter (is_worse s last) (prices (queue orders l s))) none begun.room (none_left orders l s last book) in
      subst (λ ps. WritesText contents failures (flat_map (price_line line s (queue orders l s)) ps) old (Ok tt) new) (sym shown) begun.wrote
