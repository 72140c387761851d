-- A joiner without waiting messages: while it reads a snapshot, and after it has joined.
use Rattle.std.specs.Prelude.{◌≡◌, ℕ, ◌<◌, ◌≤◌, ◌^◌, ◌⊎◌, true, Bool, List, length, Option, Some, None, Result, Ok, Err}
use Rattle.itch_codec.specs.Widths.{IsSequence}
use Rattle.itch_frame.specs.declared.tally.Failures.{Failures}
use Rattle.itch_market.specs.Content.{Content, laid}
use Rattle.itch_market.specs.GoodMarkets.{IsGood}
use Rattle.itch_market.specs.declared.stop.Stop.{Stop}
use Rattle.itch_snapshot.specs.Snapshot.{snap}
use Rattle.itch_join.specs.Positions.{Position}
use Rattle.itch_join.specs.States.{State}
use Rattle.itch_join.specs.Takings.{IsJoined, position_of}
use Rattle.itch_commands.specs.declared.fault.ToolFault.{ToolFault}
use Rattle.itch_commands.specs.declared.fault.ToolFault.TheVariants as tool
use Rattle.itch_commands.specs.declared.fault.Source.TheVariants.{Only}
use Rattle.itch_commands.specs.Joining.{Start, joined_market, joined_next}
use Rattle.itch_commands.specs.Outputs.{WritesOutput, closed_bytes}
use Rattle.itch_commands.specs.Readings.{stopped}
use Rattle.itch_commands.specs.Stocks.{IsStockFault, are_known, only_stocks}

-- the market and the number at a position
abbrev pub start_of : Position → Start
start_of j = (j.market, j.next)

-- a snapshot's market and number
pub record IsStart (start : Start) : Type 0 where
  pub good : IsGood start.0
  pub in_order : laid start.0 ≡ start.0
  pub number : IsSequence start.1

-- a joiner starts from the snapshot that was read
abbrev pub StartsJoiner : (Result Start ToolFault → Type 0) → Result (Unit {0}) ToolFault → State → Type 0
StartsJoiner reads (Ok done) now = reads (Ok (start_of (position_of now))) × IsJoined now × IsStart (start_of (position_of now))
StartsJoiner reads (Err fault) now = reads (Err fault)

-- the joiner has taken these payloads of a feed that begins after this many messages of its day
pub record IsAfter (before : ℕ) (start : Start) (payloads : List (List ℕ)) (s : State) : Type 0 where
  pub joined : IsJoined s
  pub good : IsGood (joined_market before start payloads)
  pub market : Position.market (position_of s) ≡ laid (joined_market before start payloads)
  pub next : Position.next (position_of s) ≡ joined_next before start payloads

-- the result of a command that counts no messages
abbrev pub uncounted : Result ℕ ToolFault → Result (Unit {0}) ToolFault
uncounted (Ok count) = Ok tt
uncounted (Err fault) = Err fault

-- the result of reading a feed with this stop, or without one, after that many messages of the day
abbrev pub ended_feed : Option Stop → Option ℕ → ℕ → Result (Unit {0}) ToolFault
ended_feed None wanted count = Ok tt
ended_feed (Some why) wanted count = uncounted (stopped why wanted Only count)

-- a joiner has the market of the feed that was read
abbrev pub FeedsJoiner : ℕ → (Start → Result (List (List ℕ)) ToolFault → Type 0) → Position → Result (Unit {0}) ToolFault → State → Type 0
FeedsJoiner before reads old (Ok done) now =
    (payloads : List (List ℕ)) × reads (start_of old) (Ok payloads) × IsAfter before (start_of old) payloads now
FeedsJoiner before reads old (Err fault) now = reads (start_of old) (Err fault)

module _ {W : Type 0} (contents : W → Option (List ℕ)) (failures : W → Failures) where
  -- the snapshot of a market is written if it has room for its End of Snapshot
  abbrev pub WritesRoom : Position → W → Result Bool ToolFault → W → Type 0
  WritesRoom j old result new =
      ((result ≡ Err tool.TooMany) × (10 ^ 19 ≤ length (snap j.market)) × (new ≡ old))
      ⊎ ((length (snap j.market) < 10 ^ 19) × WritesOutput contents failures (closed_bytes (j.market, j.next)) true old result new)

  -- the same restricted to the locates that have one of these stocks, if the directory has each of them
  abbrev pub WritesStocks : List (List ℕ) → Position → W → Result Bool ToolFault → W → Type 0
  WritesStocks names j old result new =
      ((result ≡ Err tool.TooMany) × (10 ^ 19 ≤ length (snap j.market)) × (new ≡ old))
      ⊎ ((length (snap j.market) < 10 ^ 19)
      × (((fault : ToolFault) × (result ≡ Err fault) × IsStockFault (Content.securities j.market) names fault × (new ≡ old))
      ⊎ ((are_known (Content.securities j.market) names ≡ true) × WritesOutput contents failures (closed_bytes (only_stocks names j.market, j.next)) true old result new)))
