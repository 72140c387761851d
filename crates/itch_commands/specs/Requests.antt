-- The requests of the program over files, and the effect of each command.
use Rattle.std.specs.Prelude.{◌≡◌, ◌⊎◌, ℕ, Bool, true, false, List, Option, Some, None, IsSome, option_map, Result, Ok, Err}
use Rattle.itch_frame.specs.Reading.{Reading}
use Rattle.itch_frame.specs.declared.tally.Failures.{Failures}
use Rattle.itch_market.specs.Wanted.{Wanted}
use Rattle.itch_snapshot.specs.AsRead.{read_by}
use Rattle.itch_commands.specs.declared.fault.ToolFault.{ToolFault}
use Rattle.itch_commands.specs.declared.fault.ToolFault.TheVariants.{OutOfMemory}
use Rattle.itch_commands.specs.declared.feed_part.FeedPart.{FeedPart}
use Rattle.itch_commands.specs.declared.filters.Filters.{Filters}
use Rattle.itch_commands.specs.declared.request.Request.{Request}
use Rattle.itch_commands.specs.declared.request.Request.TheVariants.{One, Two, At}
use Rattle.itch_commands.specs.declared.request.Command.{Command}
use Rattle.itch_commands.specs.declared.request.Command.TheVariants.{Snap, Check, Info, Show, ShowOrders, Cut, Canon, Book}
use Rattle.itch_commands.specs.declared.request.PairCommand.{PairCommand}
use Rattle.itch_commands.specs.declared.request.PairCommand.TheVariants.{Compare, CompareFirst, Join}
use Rattle.itch_commands.specs.Choices.{Chosen, chosen_by}
use Rattle.itch_commands.specs.Commands.{Snaps, SnapsStocks, Checks, ShowsSnapshot, WritesCanon, ChecksCanon, ListsBooks, ListsStocks, Compares, ComparesFirst, Joins, JoinsStocks}
use Rattle.itch_commands.specs.Cuts.{CutsFile}
use Rattle.itch_commands.specs.Infos.{Informs}
use Rattle.itch_commands.specs.declared.form.BookForm.{BookForm}
use Rattle.itch_commands.specs.declared.form.ShowForm.{ShowForm}
use Rattle.itch_commands.specs.declared.form.ShowForm.TheVariants as form
use Rattle.itch_commands.specs.declared.kind.FileKind.{FileKind}
use Rattle.itch_commands.specs.declared.kind.FileKind.TheVariants as kind
use Rattle.itch_day.specs.declared.limit.Limit.{Limit}
use Rattle.itch_commands.specs.declared.selection.Selection.{Selection}
use Rattle.itch_commands.specs.declared.selection.Selection.TheVariants.{All, Locates, Stocks}
use Rattle.itch_commands.specs.ListedOrders.{ListsFile}
use Rattle.itch_commands.specs.Outputs.{WritesText}
use Rattle.itch_commands.specs.Readings.{FromBlocks}
use Rattle.itch_commands.specs.Rows.{heading}
use Rattle.itch_commands.specs.Showing.{Shows}
use Rattle.itch_commands.specs.Stocks.{names_of}

-- the list of the locates that are selected, if they are by a list
abbrev pub list_of : Selection → Option (List ℕ)
list_of All = None
list_of (Locates list) = Some list.now
list_of (Stocks names) = None

-- the list of the requested locates of a command, if it has one
abbrev pub list_of_command : Command → Option (List ℕ)
list_of_command (Snap limit selection) = list_of selection
list_of_command (Book selection depth kind form) = list_of selection
list_of_command (Show kind form filters) = option_map (λ list. list.now) filters.only
list_of_command (ShowOrders limit form filters) = option_map (λ list. list.now) filters.only
list_of_command (Cut limit filters) = option_map (λ list. list.now) filters.only
list_of_command command = None

abbrev pub list_of_pair : PairCommand → Option (List ℕ)
list_of_pair (Join part selection) = list_of selection
list_of_pair command = None

-- the list of the requested locates of a request, if it has one
abbrev pub only_of : Request → Option (List ℕ)
only_of (One file command) = list_of_command command
only_of (Two first second command) = list_of_pair command
only_of (At folder feed point selection) = list_of selection

-- the commands whose output is a snapshot or the blocks of messages, not text
abbrev pub writes_blocks : Command → Bool
writes_blocks (Snap limit selection) = true
writes_blocks (Cut limit filters) = true
writes_blocks (Canon false) = true
writes_blocks command = false

abbrev pub joins : PairCommand → Bool
joins (Join part selection) = true
joins command = false

-- the requests whose output is a snapshot or the blocks of messages, not text
abbrev pub is_binary : Request → Bool
is_binary (One file command) = writes_blocks command
is_binary (Two first second command) = joins command
is_binary (At folder feed point selection) = true

module _ {R W : Type 0} (remaining : R → Option (List ℕ)) (failed_reads : R → Failures) (contents : W → Option (List ℕ)) (failed_writes : W → Failures) where
  -- `snap` of a selection: by the names of stocks, or by the set of the requested locates
  abbrev pub PerformsSnap : Limit → Selection → Option Wanted → Reading R → Reading R → W → Result Bool ToolFault → W → Type 0
  PerformsSnap limit (Stocks names) set old new = SnapsStocks remaining failed_reads contents failed_writes limit (names_of names.now) (FromBlocks old new)
  PerformsSnap limit selection set old new = Snaps remaining failed_reads contents failed_writes limit set (FromBlocks old new)

  -- `book` of the same selection
  abbrev pub PerformsBook : BookForm → Selection → Option Wanted → Option ℕ → FileKind → Reading R → Reading R → W → Result Bool ToolFault → W → Type 0
  PerformsBook form (Stocks names) set depth kind old new =
      ListsStocks remaining failed_reads contents failed_writes form (names_of names.now) depth kind (FromBlocks old new)
  PerformsBook form selection set depth kind old new = ListsBooks remaining failed_reads contents failed_writes form set depth kind (FromBlocks old new)

  -- the input, the output and the result of `show` for a file of a kind
  abbrev pub ShowsKind : FileKind → ShowForm → Chosen → Reading R → Reading R → W → Result Bool ToolFault → W → Type 0
  ShowsKind (kind.Day limit) form chosen old new = Shows contents failed_writes remaining failed_reads limit form chosen old new
  ShowsKind kind.Snapshot form chosen old new = ShowsSnapshot remaining failed_reads contents failed_writes form chosen (FromBlocks old new)

  -- The same below a heading, in the form that has one. If the heading cannot be written, nothing is read.
  abbrev pub ShowsBelow : FileKind → ShowForm → Chosen → Reading R → Reading R → W → Result Bool ToolFault → W → Type 0
  ShowsBelow kind (form.Csv letter) chosen old new out result out' =
      ((fault : ToolFault) × (result ≡ Err fault) × WritesText contents failed_writes (heading letter) out (Err fault) out' × (new ≡ old))
      ⊎ ((mid : W) × WritesText contents failed_writes (heading letter) out (Ok tt) mid × ShowsKind kind (form.Csv letter) chosen old new mid result out')
  ShowsBelow kind form chosen old new out result out' = ShowsKind kind form chosen old new out result out'

  -- the same for the messages that the filters choose, unless memory for the names of stocks runs out, before anything is read
  abbrev pub ShowsFile : FileKind → ShowForm → Option Wanted → Filters → Reading R → Reading R → W → Result Bool ToolFault → W → Type 0
  ShowsFile kind form set filters old new out result out' =
      (IsSome filters.stocks × (result ≡ Err OutOfMemory) × (new ≡ old) × (out' ≡ out)) ⊎ ShowsBelow kind form (chosen_by set filters) old new out result out'

  -- the input, the output and the result of a command over the blocks of one file, with the set of the requested locates, if not all are
  abbrev pub Performs : Command → Option Wanted → Reading R → Reading R → W → Result Bool ToolFault → W → Type 0
  Performs (Snap limit selection) set old new = PerformsSnap limit selection set old new
  Performs (Check limit expected form) set old new = Checks remaining failed_reads contents failed_writes form limit expected (FromBlocks old new)
  Performs (Info limit form) set old new = Informs remaining failed_reads contents failed_writes form limit (FromBlocks old new)
  Performs (Show kind form filters) set old new = ShowsFile kind form set filters old new
  Performs (ShowOrders limit form filters) set old new = ListsFile contents failed_writes remaining failed_reads limit form set filters old new
  Performs (Cut limit filters) set old new = CutsFile contents failed_writes remaining failed_reads limit set filters old new
  Performs (Canon false) set old new = WritesCanon remaining failed_reads contents failed_writes (FromBlocks old new)
  Performs (Canon true) set old new = ChecksCanon remaining failed_reads contents failed_writes (FromBlocks old new)
  Performs (Book selection depth kind form) set old new = PerformsBook form selection set depth kind old new

module _ {R S W : Type 0} (remaining : R → Option (List ℕ)) (failed_reads : R → Failures) (remaining_then : S → Option (List ℕ)) (failed_then : S → Failures)
    (contents : W → Option (List ℕ)) (failed_writes : W → Failures) where
  -- `join` of a selection: by the names of stocks, or by the set of the requested locates
  abbrev pub PerformsJoin : Selection → Option Wanted → FeedPart → Reading R → Reading R → Reading S → Reading S → W → Result Bool ToolFault → W → Type 0
  PerformsJoin (Stocks names) set part old new old_then new_then =
      JoinsStocks remaining failed_reads remaining_then failed_then contents failed_writes (read_by None) part (names_of names.now) (FromBlocks old new) (FromBlocks old_then new_then)
  PerformsJoin selection set part old new old_then new_then =
      Joins remaining failed_reads remaining_then failed_then contents failed_writes (read_by set) part (FromBlocks old new) (FromBlocks old_then new_then)

  -- the input, the output and the result of a command over the blocks of two files, with the set of the requested locates, if not all are
  abbrev pub PerformsPair : PairCommand → Option Wanted → Reading R → Reading R → Reading S → Reading S → W → Result Bool ToolFault → W → Type 0
  PerformsPair (Compare kind form) set old new old_then new_then =
      Compares remaining failed_reads remaining_then failed_then contents failed_writes form kind (FromBlocks old new) (FromBlocks old_then new_then)
  PerformsPair (CompareFirst limit form) set old new old_then new_then =
      ComparesFirst remaining failed_reads remaining_then failed_then contents failed_writes form limit (FromBlocks old new) (FromBlocks old_then new_then)
  PerformsPair (Join part selection) set old new old_then new_then = PerformsJoin selection set part old new old_then new_then
