-- The books at several times of a day file: for each time the output and the result of `book` for the part of the file before it.
use Rattle.std.specs.Prelude.{◌≡◌, ℕ, zero, suc, ◌*◌, ◌/◌, ◌≤◌, ◌⊎◌, ⊤, Bool, true, false, List, [], ◌∷◌, Option, None, Some, Result, Ok, Err, MatchResult}
use Rattle.std.specs.Bool.{MatchBool}
use Rattle.itch_frame.specs.Reading.{Reading}
use Rattle.itch_frame.specs.declared.tally.Failures.{Failures}
use Rattle.itch_day.specs.Limits.{counted}
use Rattle.itch_day.specs.declared.limit.Limit.{Limit}
use Rattle.itch_day.specs.declared.tracked.Tracked.{Tracked}
use Rattle.itch_day.specs.declared.stop.PartStop.{PartStop}
use Rattle.itch_day.specs.declared.stop.PartStop.TheVariants as part
use Rattle.itch_market.specs.Content.{Content}
use Rattle.itch_market.specs.Wanted.{Wanted}
use Rattle.itch_market.specs.Takings.{reason_of}
use Rattle.itch_market.specs.declared.refused.Refused.{Refused}
use Rattle.itch_market.specs.declared.stop.Stop.{Stop}
use Rattle.itch_market.specs.declared.stop.Stop.TheVariants.{End}
use Rattle.itch_commands.specs.Books.{AreListed, IsUnlisted, ReadsListed, wanted_by}
use Rattle.itch_commands.specs.Files.{ReadsFile}
use Rattle.itch_commands.specs.Outputs.{Outputs, WritesText}
use Rattle.itch_commands.specs.Points.{ReadsOn, ReadsUntil, Stands, up_to}
use Rattle.itch_commands.specs.Readings.{ReadsDay}
use Rattle.itch_commands.specs.Stocks.{IsStockFault, ReadsStocks, are_known, has_one_of, names_of}
use Rattle.itch_commands.specs.declared.fault.Source.TheVariants.{Only}
use Rattle.itch_commands.specs.declared.fault.ToolFault.{ToolFault}
use Rattle.itch_commands.specs.declared.fault.ToolFault.TheVariants as tool
use Rattle.itch_commands.specs.declared.form.BookForm.{BookForm}
use Rattle.itch_commands.specs.declared.kind.FileKind.TheVariants.{Day}
use Rattle.itch_commands.specs.declared.selection.Selection.{Selection}
use Rattle.itch_commands.specs.declared.selection.Selection.TheVariants.{Stocks}
use Rattle.itch_depth.specs.Timed.{timed_books}
use Rattle.itch_depth.specs.declared.request.BookRequest.{BookRequest}

-- the selected locates: those with one of the stocks, or those of the set if there is one
abbrev pub selected : Selection → Option Wanted → Content → ℕ → Bool
selected (Stocks names) set m = has_one_of (Content.securities m) (names_of names.now)
selected selection set m = wanted_by set

-- the directory of a market has each of these stocks; or it lacks one, or memory runs out before that is known
abbrev pub SelectsStocks : List (List ℕ) → Content → Result Content ToolFault → Type 0
SelectsStocks names m (Ok n) = (n ≡ m) × (are_known (Content.securities m) names ≡ true)
SelectsStocks names m (Err fault) = IsStockFault (Content.securities m) names fault

-- the directory of a market has each locate of a set, if there is one; or it lacks one
abbrev pub SelectsSet : Option Wanted → Content → Result Content ToolFault → Type 0
SelectsSet set m (Ok n) = (n ≡ m) × AreListed set (Content.securities m)
SelectsSet set m (Err fault) = (fault ≡ tool.UnknownLocate) × IsUnlisted set (Content.securities m)

-- the directory of a market has each selected locate and stock, or it lacks one
abbrev pub Selects : Selection → Option Wanted → Content → Result Content ToolFault → Type 0
Selects (Stocks names) set m = SelectsStocks (names_of names.now) m
Selects selection set m = SelectsSet set m

-- the same where nothing is written
abbrev pub ChecksStocks : List (List ℕ) → Content → Result (Unit {0}) ToolFault → Type 0
ChecksStocks names m result = MatchResult result (λ _. are_known (Content.securities m) names ≡ true) (λ fault. IsStockFault (Content.securities m) names fault)

abbrev pub Checks : Selection → Option Wanted → Content → Result (Unit {0}) ToolFault → Type 0
Checks (Stocks names) set m result = ChecksStocks (names_of names.now) m result
Checks selection set m result =
    MatchResult result (λ _. AreListed set (Content.securities m)) (λ fault. (fault ≡ tool.UnknownLocate) × IsUnlisted set (Content.securities m))

-- a file is read, and its directory has each selected locate and stock; or the file is refused, or its directory lacks one
abbrev pub ReadsSelected : Selection → Option Wanted → (Result (Content × ℕ) ToolFault → Type 0) → Result (Content × ℕ) ToolFault → Type 0
ReadsSelected (Stocks names) set reads = ReadsStocks (λ (done : Content × ℕ). Content.securities done.0) (names_of names.now) reads
ReadsSelected selection set reads = ReadsListed set reads

-- Later times follow after a result: the books were written, or the directory still lacks a selected locate or stock.
abbrev pub continues : Result Bool ToolFault → Bool
continues (Ok answer) = true
continues (Err tool.UnknownLocate) = true
continues (Err tool.UnknownStock) = true
continues (Err fault) = false

-- the greatest timestamp, which has 48 bits
abbrev pub latest : ℕ
latest = 281474976710655

-- times in order
abbrev pub Ascend : List ℕ → Type 0
Ascend [] = ⊤
Ascend (time ∷ []) = ⊤
Ascend (time ∷ next ∷ times) = (time ≤ next) × Ascend (next ∷ times)

module _ {W : Type 0} where
  -- The outputs at these times, one after another, up to the first result after which no later time follows. The result is the last one.
  abbrev pub AtEach : (ℕ → W → Result Bool ToolFault → W → Type 0) → List ℕ → W → Result Bool ToolFault → W → Type 0
  AtEach point [] old result new = (result ≡ Ok true) × (new ≡ old)
  AtEach point (time ∷ []) old result new = point time old result new
  AtEach point (time ∷ next ∷ times) old result new =
      (mid : W) × (answer : Result Bool ToolFault) × point time old answer mid
      × MatchBool (continues answer) (AtEach point (next ∷ times) mid result new) ((result ≡ answer) × (new ≡ mid))

module _ {W : Type 0} (contents : W → Option (List ℕ)) (failed_writes : W → Failures) where
  -- an output below a heading; if the heading cannot be written, nothing is read
  abbrev pub TitlesBefore : List ℕ → (W → Result Bool ToolFault → W → Type 0) → W → Result Bool ToolFault → W → Type 0
  TitlesBefore heading below old result new =
      ((fault : ToolFault) × (result ≡ Err fault) × WritesText contents failed_writes heading old (Err fault) new)
      ⊎ ((mid : W) × WritesText contents failed_writes heading old (Ok tt) mid × below mid result new)

  -- the selected books of a market at a time
  abbrev pub ListsSelected : Selection → Option Wanted → Option ℕ → BookForm → Content → ℕ → W → Result Bool ToolFault → W → Type 0
  ListsSelected selection set depth form market time =
      Outputs contents failed_writes (Selects selection set market) (λ m. timed_books form time depth (selected selection set m) m) (λ _. true)

  abbrev pub ListsMarket : BookRequest → Option Wanted → Content → ℕ → W → Result Bool ToolFault → W → Type 0
  ListsMarket request set = ListsSelected request.selection set request.depth request.form

  -- the same after some messages, and nothing after none
  abbrev pub ListsAfter : ℕ → BookRequest → Option Wanted → Content → ℕ → W → Result Bool ToolFault → W → Type 0
  ListsAfter zero request set market time old result new = (result ≡ Ok true) × (new ≡ old)
  ListsAfter (suc count) request set market time old result new = ListsMarket request set market time old result new

-- the market of a point, after this number of messages
pub record IsAt (tracked : Tracked Content) (m : Content) (count : ℕ) : Type 0 where
  pub market : tracked.sink ≡ m
  pub counted : tracked.cursor.count ≡ count

-- this holds if the reading stops at a time, or at the end of the file
abbrev pub UnlessStopped : Option Stop → Type 0 → Type 0
UnlessStopped None p = p
UnlessStopped (Some End) p = p
UnlessStopped (Some stop) p = ⊤

module _ {R : Type 0} (remaining : R → Option (List ℕ)) (failed_reads : R → Failures) where
  -- the reading of a part stopped for this reason, with this market after that number of messages
  abbrev pub StopsSo : Limit → Reading R → Reading R → Option Stop → Content → ℕ → Type 0
  StopsSo limit first now why m count =
      (stop : PartStop Refused) × (reason_of stop ≡ why)
      × ((tracked : Tracked Content) × Stands remaining failed_reads limit first now tracked stop × IsAt tracked m count)

  -- the outcome of reading on up to a time, or to the end of the file
  abbrev pub ReadsTime : ℕ → Reading R → Reading R → Result Bool ToolFault → Content → ℕ → Type 0
  ReadsTime time first now result m count = (tracked : Tracked Content) × ReadsUntil remaining failed_reads time first now result tracked × IsAt tracked m count

  abbrev pub ReadsRest : Reading R → Reading R → Result ℕ ToolFault → Content → ℕ → Type 0
  ReadsRest first now result m count = (tracked : Tracked Content) × ReadsOn remaining failed_reads (counted None) first now result tracked × IsAt tracked m count

  -- at the end of the file its directory must have each selected locate and stock
  abbrev pub AtEnd : BookRequest → Option Wanted → Reading R → Result Bool ToolFault → Type 0
  AtEnd request set first result =
      (now : Reading R) × (((fault : ToolFault) × (result ≡ Err fault)
      × ReadsSelected request.selection set (ReadsFile remaining failed_reads Only (Day (counted None)) first now) (Err fault))
      ⊎ ((done : Content × ℕ) × (result ≡ Ok true) × ReadsSelected request.selection set (ReadsFile remaining failed_reads Only (Day (counted None)) first now) (Ok done)))

module _ {R W : Type 0} (remaining : R → Option (List ℕ)) (failed_reads : R → Failures) (contents : W → Option (List ℕ)) (failed_writes : W → Failures) where
  -- `book` of the selected locates after a part of a day file, with these lines of the locates and the market
  abbrev pub ListsPart : ((ℕ → Bool) → Content → List ℕ) → Selection → Option Wanted → Limit → Reading R → Reading R → W → Result Bool ToolFault → W → Type 0
  ListsPart lines selection set limit old new =
      Outputs contents failed_writes (ReadsSelected selection set (ReadsFile remaining failed_reads Only (Day limit) old new))
      (λ (done : Content × ℕ). lines (selected selection set done.0) done.0) (λ _. true)

  -- `book` of the part of a file before a time, with the time at the beginning of each line
  abbrev pub AtTime : BookRequest → Option Wanted → Reading R → ℕ → W → Result Bool ToolFault → W → Type 0
  AtTime request set first time old result new =
      (now : Reading R) × ListsPart (timed_books request.form time request.depth) request.selection set (up_to time) first now old result new

  -- the same, and how the reading stands afterwards if later times follow
  abbrev pub ListsOn : BookRequest → Option Wanted → Reading R → ℕ → Reading R → Tracked Content → W → Result Bool ToolFault → W → Type 0
  ListsOn request set first time now tracked old result new =
      AtTime request set first time old result new
      × MatchBool (continues result)
      ((stop : PartStop Refused) × ((stop ≡ part.Late) ⊎ (stop ≡ part.End)) × Stands remaining failed_reads (up_to time) first now tracked stop) ⊤

  -- the same, with the market and the number of messages afterwards
  abbrev pub ListsThere : BookRequest → Option Wanted → Reading R → ℕ → Reading R → Content → ℕ → W → Result Bool ToolFault → W → Type 0
  ListsThere request set first time now m count old result new =
      (tracked : Tracked Content) × ListsOn request set first time now tracked old result new × IsAt tracked m count

  -- `book` at a time before which the part has this many messages; nothing if it has none
  abbrev pub AtTimeAfter : ℕ → BookRequest → Option Wanted → Reading R → ℕ → W → Result Bool ToolFault → W → Type 0
  AtTimeAfter zero request set first time old result new = (result ≡ Ok true) × (new ≡ old)
  AtTimeAfter (suc count) request set first time old result new = AtTime request set first time old result new

  -- The books at this many multiples of a duration, from one multiple on: the file is refused before it; or it ends before it; or a message
  -- at that time or later follows, and then the next multiple does.
  abbrev pub AtNext : BookRequest → Option Wanted → Reading R → ℕ → ℕ → ℕ → W → Result Bool ToolFault → W → Type 0
  AtNext request set first step multiple zero old result new = AtEnd remaining failed_reads request set first result × (new ≡ old)
  AtNext request set first step multiple (suc more) old result new =
      ((fault : ToolFault) × (now : Reading R) × (result ≡ Err fault) × ReadsDay remaining failed_reads Only (up_to (multiple * step)) first now (Err fault) × (new ≡ old))
      ⊎ (((now : Reading R) × (tracked : Tracked Content) × Stands remaining failed_reads (up_to (multiple * step)) first now tracked part.End × AtEnd remaining failed_reads request set first result × (new ≡ old))
      ⊎ ((now : Reading R) × (tracked : Tracked Content) × Stands remaining failed_reads (up_to (multiple * step)) first now tracked part.Late
      × ((mid : W) × (answer : Result Bool ToolFault) × AtTimeAfter tracked.cursor.count request set first (multiple * step) old answer mid
      × MatchBool (continues answer) (AtNext request set first step (suc multiple) more mid result new) ((result ≡ answer) × (new ≡ mid)))))

  -- The books at the multiples of a duration: from the first after the first message to the last that is not after the last message. No
  -- message is after the greatest timestamp.
  abbrev pub AtMultiples : BookRequest → Option Wanted → Reading R → ℕ → W → Result Bool ToolFault → W → Type 0
  AtMultiples request set first step = AtNext request set first step 1 (latest / step)
