-- The output for a snapshot and the feed that was joined to it, restricted to the locates of some stocks.
use Rattle.std.proofs.Common.{◌≡◌, ℕ, ◌^◌, ◌<◌, ◌≤◌, Bool, true, List, ◌++◌, length, Option, Some, option_map, Result, Ok, Err, refl, sym, ap, ◌∙◌, subst, inl, inr}
use Rattle.std.specs.Option.{option_copied}
use denote.Ref.{Bor}
use Rattle.itch_frame.specs.declared.tally.Failures.{Failures}
use Rattle.itch_market.specs.Content.{Content}
use Rattle.itch_market.specs.Partial.{only}
use Rattle.itch_market.specs.Wanted.{Wanted, has}
use Rattle.itch_snapshot.specs.Bytes.{canon, closing}
use Rattle.itch_snapshot.specs.Snapshot.{snap}
use Rattle.itch_snapshot.proofs.OneSnapshot.{snap-laid}
use Rattle.itch_join.specs.Positions.{Position}
use Rattle.itch_join.specs.States.{State}
use Rattle.itch_commands.specs.declared.fault.ToolFault.{ToolFault}
use Rattle.itch_commands.specs.declared.fault.ToolFault.TheVariants as tool
use Rattle.itch_join.specs.Takings.{IsJoined, position_of}
use Rattle.itch_commands.specs.Joiners.{IsAfter, WritesStocks}
use Rattle.itch_commands.specs.Joining.{Start, joined_market, joined_next, HasRoom}
use Rattle.itch_commands.specs.Readings.{Then}
use Rattle.itch_commands.specs.Outputs.{WritesOutput, Outputs, closed_bytes}
use Rattle.itch_commands.specs.Stocks.{ReadsStocks, FindsStocks, IsStockFault, are_known, has_one_of, only_stocks}
use Rattle.itch_commands.proofs.Snapshots.{only_bytes}

some_same : {A : Type 0} (x y : A) → Some x ≡ Some y → x ≡ y
some_same x y same = cc

-- the market and the number of a joiner that has joined
pub market_there : (s : State) (found : Option (Bor Content)) (market : Bor Content) → IsJoined s → option_copied found ≡ option_map (λ (j : Position). j.market) s.joined
    → found ≡ Some market → market.now ≡ Position.market (position_of s)
market_there s found market at_one is there =
    some_same market.now (Position.market (position_of s)) (sym (ap option_copied there) ∙ is ∙ ap (option_map (λ (j : Position). j.market)) at_one.joined)

pub number_there : (s : State) (found : Option ℕ) (next : ℕ) → IsJoined s → found ≡ option_map (λ (j : Position). j.next) s.joined → found ≡ Some next
    → next ≡ Position.next (position_of s)
number_there s found next at_one is there =
    some_same next (Position.next (position_of s)) (sym there ∙ is ∙ ap (option_map (λ (j : Position). j.next)) at_one.joined)

module _ {W : Type 0} (contents : W → Option (List ℕ)) (failures : W → Failures) (names : List (List ℕ)) (j : Position) (market : Content) (same : market ≡ Position.market j)
    (few : length (snap market) < 10 ^ 19) (old new : W) (result : Result Bool ToolFault) where
  few_there : length (snap (Position.market j)) < 10 ^ 19
  few_there = subst (λ (m : Content). length (snap m) < 10 ^ 19) same few

  -- the names are not found
  pub stocks_not_found : (fault : ToolFault) → result ≡ Err fault → IsStockFault (Content.securities market) names fault → new ≡ old
      → WritesStocks contents failures names j old result new
  stocks_not_found fault is unknown untouched =
      inr (few_there, inl (fault, is, subst (λ (m : Content). IsStockFault (Content.securities m) names fault) same unknown, untouched))

  -- or the locates that have them are written
  pub stocks_cut : (next : ℕ) (set : Wanted) → next ≡ Position.next j → FindsStocks (Content.securities market) names (Ok set)
      → WritesOutput contents failures (canon (only (has set) market) ++ closing next) true old result new → WritesStocks contents failures names j old result new
  stocks_cut next set number (known, members) wrote =
      let named : has set ≡ has_one_of (Content.securities market) names = λ i l. members l i in
      let bytes : canon (only (has set) market) ++ closing next ≡ closed_bytes (only_stocks names (Position.market j), Position.next j) =
      ap (λ (wanted : ℕ → Bool). canon (only wanted market) ++ closing next) named
      ∙ ap (λ (m : Content). canon (only_stocks names m) ++ closing next) same
      ∙ ap (λ (n : ℕ). canon (only_stocks names (Position.market j)) ++ closing n) number in
      inr (
        few_there,
        inr (
          subst (λ (m : Content). are_known (Content.securities m) names ≡ true) same known,
          subst (λ b. WritesOutput contents failures b true old result new) bytes wrote,
        ),
      )

module _ {W : Type 0} (contents : W → Option (List ℕ)) (failures : W → Failures) (before : ℕ) (starts : Result Start ToolFault → Type 0) (untouched : Type 0)
    (follows : Start → Result (List (List ℕ)) ToolFault → Type 0) (names : List (List ℕ)) (old new : W) (result : Result Bool ToolFault) where
  abbrev Joins : Type 0
  Joins =
      Outputs contents failures (ReadsStocks (λ (both : Start × List (List ℕ)). Content.securities (joined_market before both.0 both.1)) names (HasRoom before (Then starts untouched follows)))
      (λ both. closed_bytes (only_stocks names (joined_market before both.0 both.1), joined_next before both.0 both.1)) (λ _. true) old result new

  -- the feed is refused
  pub stocks_fail : (fault : ToolFault) (start : Start) → result ≡ Err fault → starts (Ok start) → follows start (Err fault) → new ≡ old → Joins
  stocks_fail fault start is read refused same = inl (fault, is, inl (inl (inr (start, read, refused))), same)

  -- or both are read
  pub stocks_joined : (start : Start) (payloads : List (List ℕ)) (s : State) → starts (Ok start) → follows start (Ok payloads) → IsAfter before start payloads s
      → WritesStocks contents failures names (position_of s) old result new → Joins
  stocks_joined start payloads s read fed after writes = by_room writes where
    m : Content
    m = joined_market before start payloads

    left : Content
    left = Position.market (position_of s)

    same_snap : snap left ≡ snap m
    same_snap = ap snap after.market ∙ snap-laid m after.good

    same_listings : Content.securities left ≡ Content.securities m
    same_listings = ap Content.securities after.market

    same_bytes : closed_bytes (only_stocks names left, Position.next (position_of s)) ≡ closed_bytes (only_stocks names m, joined_next before start payloads)
    same_bytes =
        ap (λ listings. canon (only (has_one_of listings names) left) ++ closing (Position.next (position_of s))) same_listings
        ∙ ap (λ bytes. bytes ++ closing (Position.next (position_of s))) (only_bytes (has_one_of (Content.securities m) names) m left same_snap)
        ∙ ap (λ n. canon (only_stocks names m) ++ closing n) after.next

    by_room : WritesStocks contents failures names (position_of s) old result new → Joins
    by_room (inl (is, many, same)) = inl (tool.TooMany, is, inl (inr (refl, ((start, payloads), (read, fed), subst (λ xs. 10 ^ 19 ≤ length xs) same_snap many))), same)
    by_room (inr (few, inl (fault, is, unknown, same))) =
        inl (
          fault,
          is,
          inr ((start, payloads), ((read, fed), subst (λ xs. length xs < 10 ^ 19) same_snap few), subst (λ listings. IsStockFault listings names fault) same_listings unknown),
          same,
        )
    by_room (inr (few, inr (known, wrote))) =
        inr (
          (start, payloads),
          (((read, fed), subst (λ xs. length xs < 10 ^ 19) same_snap few), subst (λ listings. are_known listings names ≡ true) same_listings known),
          subst (λ bytes. WritesOutput contents failures bytes true old result new) same_bytes wrote,
        )
