-- The input, the output and the result of `book --changes`. A file is refused where `check` refuses it, after the lines before.
use Rattle.std.specs.Prelude.{◌≡◌, ◌⊎◌, ℕ, ◌+◌, ◌==◌, Bool, true, false, not, List, [], ◌∷◌, ◌++◌, bytes_eq, drop, length, map, slice_get, take, Option, None, Some, Result, Ok, Err}
use Rattle.std.specs.Io.KnownBytes.{Consumes}
use Rattle.std.specs.declared.io.Error.{Error}
use Rattle.itch_codec.specs.Messages.{message_of}
use Rattle.itch_codec.specs.Text.{before_spaces}
use Rattle.itch_codec.specs.declared.message.Message.{Message}
use Rattle.itch_day.specs.declared.limit.Limit.{Limit}
use Rattle.itch_day.specs.declared.stop.PartStop.{PartStop as Part}
use Rattle.itch_day.specs.declared.stop.PartStop.TheVariants as part
use Rattle.itch_frame.specs.Blocks.{blocks}
use Rattle.itch_frame.specs.Reading.{Reading, bytes_left}
use Rattle.itch_frame.specs.declared.tally.Failures.{Failures}
use Rattle.itch_market.specs.Content.{Content, laid}
use Rattle.itch_market.specs.DayMessages.{AreTaken}
use Rattle.itch_market.specs.Effects.{effect, takes_memory}
use Rattle.itch_market.specs.Reasons.{reason}
use Rattle.itch_market.specs.Replays.{IsRefusal, LeavesReaderFirst}
use Rattle.itch_market.specs.Runs.{run}
use Rattle.itch_market.specs.Takings.{RefusesMessage, TakesMessage}
use Rattle.itch_market.specs.declared.refused.Refused.TheVariants as refused
use Rattle.itch_market.specs.declared.stop.Stop.TheVariants as stop
use Rattle.itch_commands.specs.FirstDifferences.{IsRefusedAfter}
use Rattle.itch_commands.specs.Outputs.{Wrote, WritesText}
use Rattle.itch_commands.specs.Readings.{ReadsDay}
use Rattle.itch_commands.specs.Showing.{WritesPart}
use Rattle.itch_commands.specs.declared.fault.Source.TheVariants.{Only}
use Rattle.itch_commands.specs.declared.fault.ToolFault.{ToolFault}
use Rattle.itch_commands.specs.declared.fault.ToolFault.TheVariants as tool
use Rattle.itch_depth.specs.Own.{IsOwn}
use Rattle.itch_depth.specs.Changes.{Sides, best, best_of, change, change_head, change_past, changes_of_day, followed, same_level, same_sides}
use Rattle.itch_depth.specs.declared.changes.best.DepthLevel.{DepthLevel}
use Rattle.itch_depth.specs.declared.changes.request.ChangesRequest.{ChangesRequest}
use Rattle.itch_depth.specs.declared.changes.request.OneStock.{OneStock}
use Rattle.itch_depth.specs.declared.changes.request.OneStock.TheVariants.{Locate, Named}
use Rattle.itch_depth.specs.declared.changes.book.Unfollowed.{Unfollowed}
use Rattle.itch_depth.specs.declared.changes.book.Unfollowed.TheVariants as unfollowed

-- a locate with this stock in the directory, or none, is that of the followed stock
abbrev pub wants : OneStock → ℕ → Option (List ℕ) → Bool
wants (Locate wanted) locate stock = locate == wanted
wants (Named name) locate None = false
wants (Named name) locate (Some stock) = bytes_eq (before_spaces stock) name.now

-- the followed locate and its best prices are those of the market
pub record IsFollowing (request : ChangesRequest) (m own : Content) (locate : Option ℕ) (shown : Sides) : Type 0 where
  pub own_market : IsOwn (wants request.stock) m own
  pub place : locate ≡ followed request.stock m
  pub sides : shown ≡ best request.depth request.stock m

-- this is the level that is there
abbrev pub is_level : DepthLevel → Option DepthLevel → Bool
is_level level None = false
is_level level (Some there) = same_level there level

-- The market applies a message, and this tells whether the best prices of the stock changed; or it refuses the message; or memory runs out
-- for the market of the stock.
abbrev pub PassesOne : ChangesRequest → Message → Content → Result Bool Unfollowed → Content → Type 0
PassesOne request message m (Ok changed) n =
    (reason m message ≡ None) × (n ≡ laid (effect m message))
    × (changed ≡ not (same_sides (best request.depth request.stock m) (best request.depth request.stock n)))
PassesOne request message m (Err (unfollowed.Refused (refused.Rule why))) n = (n ≡ m) × IsRefusal (reason m message) (takes_memory m message) why
PassesOne request message m (Err (unfollowed.Refused (refused.Codec fault))) n = ⊥
PassesOne request message m (Err (unfollowed.Write error)) n = ⊥
PassesOne request message m (Err unfollowed.OutOfMemory) n = (reason m message ≡ None) × (n ≡ laid (effect m message))

-- the market of the stock follows the market, and this tells whether the best prices changed; or memory runs out
abbrev pub FollowsOne : ChangesRequest → Content → Content → Result Bool Unfollowed → Content → Option ℕ → Sides → Type 0
FollowsOne request m n (Ok changed) own locate sides =
    IsFollowing request n own locate sides
    × (changed ≡ not (same_sides (best request.depth request.stock m) (best request.depth request.stock n)))
FollowsOne request m n (Err fault) own locate sides = fault ≡ unfollowed.OutOfMemory

-- the best prices are those of this locate, and this tells whether they changed; or memory runs out. Without a locate nothing changes.
abbrev pub Renews : ℕ → Content → Option ℕ → Sides → Result Bool Unfollowed → Sides → Type 0
Renews depth own None old (Ok changed) new = (new ≡ old) × (changed ≡ false)
Renews depth own (Some locate) old (Ok changed) new = (new ≡ best_of depth own.orders locate) × (changed ≡ not (same_sides old new))
Renews depth own locate old (Err fault) new = fault ≡ unfollowed.OutOfMemory

-- the prices of a side with this one at a place, or at the end
abbrev pub with_level : ℕ → DepthLevel → List DepthLevel → List DepthLevel
with_level place level xs = take place xs ++ level ∷ drop 1 (drop place xs)

-- another price, or none, was at this place
abbrev pub was_other : ℕ → DepthLevel → List DepthLevel → Bool
was_other place level xs = not (is_level level (slice_get xs place))

-- the fault if no locate has the stock
abbrev pub lack_of : OneStock → ToolFault
lack_of (Locate locate) = tool.UnknownLocate
lack_of (Named name) = tool.UnknownStock

-- whether the directory has the stock: it has a locate, or this fault
abbrev pub found_by : OneStock → Option ℕ → Result Bool ToolFault
found_by stock None = Err (lack_of stock)
found_by stock (Some locate) = Ok true

-- the result at the end of the file, which is not a fault if no number was requested
abbrev pub ended : Option ℕ → ℕ → Result Bool ToolFault → Result Bool ToolFault
ended None count found = found
ended (Some most) count found = Err (tool.Short Only count)

-- the result if the part ends after that many messages
abbrev pub answer_of : Option ℕ → ℕ → Result Bool ToolFault → Part Unfollowed → Result Bool ToolFault
answer_of wanted count found part.Full = found
answer_of wanted count found part.Late = found
answer_of wanted count found part.End = ended wanted count found
answer_of wanted count found (part.Frame fault) = Err (tool.Stopped Only (record { count = count; stop = stop.Frame fault }))
answer_of wanted count found part.TooMany = Err (tool.Stopped Only (record { count = count; stop = stop.TooManyMessages }))
answer_of wanted count found (part.Refused (unfollowed.Refused (refused.Codec fault))) = Err (tool.Stopped Only (record { count = count; stop = stop.Codec fault }))
answer_of wanted count found (part.Refused (unfollowed.Refused (refused.Rule why))) = Err (tool.Stopped Only (record { count = count; stop = stop.Rule why }))
answer_of wanted count found (part.Refused (unfollowed.Write error)) = Err (tool.Write error)
answer_of wanted count found (part.Refused unfollowed.OutOfMemory) = Err tool.OutOfMemory

module _ {W : Type 0} (contents : W → Option (List ℕ)) (failures : W → Failures) where
  -- lines are written, or a write failed after a prefix of them, or memory ran out before
  abbrev pub WritesLines : List ℕ → W → Result (Unit {0}) Unfollowed → W → Type 0
  WritesLines bytes old (Ok done) new = WritesText contents failures bytes old (Ok tt) new
  WritesLines bytes old (Err (unfollowed.Write error)) new = WritesText contents failures bytes old (Err (tool.Write error)) new
  WritesLines bytes old (Err unfollowed.OutOfMemory) new = new ≡ old
  WritesLines bytes old (Err (unfollowed.Refused why)) new = ⊥

  -- the market applies the message with this number, and the lines of its change are written; or it refuses it, or a write failed, or memory
  -- ran out
  abbrev pub ListsOne : ChangesRequest → ℕ → Message → Content → W → Result (Unit {0}) Unfollowed → Content → W → Type 0
  ListsOne request number message m out (Err (unfollowed.Refused why)) m' out' = PassesOne request message m (Err (unfollowed.Refused why)) m' × (out' ≡ out)
  ListsOne request number message m out result m' out' =
      (reason m message ≡ None) × (m' ≡ laid (effect m message)) × WritesLines (change request number message m m') out result out'

  -- the market takes the message with this number, and the lines of its change are written
  abbrev pub FollowsMessage : ChangesRequest → ℕ → List ℕ → Content → W → Content → W → Type 0
  FollowsMessage request number payload m out m' out' =
      TakesMessage m number payload m' × WritesText contents failures (change request number (message_of payload) m m') out (Ok tt) out'

  -- the market refuses it; or its lines could not be written, or memory ran out for the market of the stock
  abbrev pub LeavesMessage : ChangesRequest → ℕ → List ℕ → Content → W → Unfollowed → Content → W → Type 0
  LeavesMessage request number payload m out (unfollowed.Refused why) m' out' = RefusesMessage m number payload why m' × (out' ≡ out)
  LeavesMessage request number payload m out (unfollowed.Write error) m' out' =
      TakesMessage m number payload m' × WritesText contents failures (change request number (message_of payload) m m') out (Err (tool.Write error)) out'
  LeavesMessage request number payload m out unfollowed.OutOfMemory m' out' = TakesMessage m number payload m' × (out' ≡ out)

  module _ {R : Type 0} (remaining : R → Option (List ℕ)) (failed_reads : R → Failures) (limit : Limit) (request : ChangesRequest) where
    -- a write failed within the lines of the last message read, which follows the order rules as those before it do
    abbrev pub FollowsFirst : Error → Reading R → Reading R → W → W → Type 0
    FollowsFirst error old new out out' =
        (payloads : List (List ℕ)) × (payload : List ℕ) × AreTaken limit (payloads ++ payload ∷ [])
        × Consumes (bytes_left remaining old) (bytes_left remaining new) (blocks (payloads ++ payload ∷ []))
        × WritesPart contents failures (changes_of_day request payloads) (change_past request payloads payload) error out out'
        × (failed_reads new.reader ≡ failed_reads old.reader) × LeavesReaderFirst old (length payloads + 1) None new

    -- memory ran out for the market of the stock at the last message read, before which all lines were written
    abbrev pub FollowsSome : Reading R → Reading R → W → W → Type 0
    FollowsSome old new out out' =
        (payloads : List (List ℕ)) × (payload : List ℕ) × AreTaken limit (payloads ++ payload ∷ [])
        × Consumes (bytes_left remaining old) (bytes_left remaining new) (blocks (payloads ++ payload ∷ []))
        × Wrote contents failures (changes_of_day request payloads) out out'
        × (failed_reads new.reader ≡ failed_reads old.reader) × LeavesReaderFirst old (length payloads + 1) None new

    -- the lines of all requested messages are written, and the stock has this locate after them
    abbrev pub FollowsAll : Option ℕ → Reading R → Reading R → W → W → Type 0
    FollowsAll locate old new out out' =
        (payloads : List (List ℕ)) × ReadsDay remaining failed_reads Only limit old new (Ok payloads)
        × Wrote contents failures (changes_of_day request payloads) out out' × (followed request.stock (run (map message_of payloads)) ≡ locate)

    -- The lines of all requested messages are written, and the directory has the stock, or lacks it; or a write failed, or memory ran out; or
    -- the day is refused, as every command refuses it, after the lines of the messages before.
    abbrev pub FollowsPart : Reading R → Reading R → W → Result Bool ToolFault → W → Type 0
    FollowsPart old new out (Ok answer) out' = (answer ≡ true) × ((locate : ℕ) × FollowsAll (Some locate) old new out out')
    FollowsPart old new out (Err tool.UnknownLocate) out' = (lack_of request.stock ≡ tool.UnknownLocate) × FollowsAll None old new out out'
    FollowsPart old new out (Err tool.UnknownStock) out' = (lack_of request.stock ≡ tool.UnknownStock) × FollowsAll None old new out out'
    FollowsPart old new out (Err (tool.Write error)) out' = FollowsFirst error old new out out'
    FollowsPart old new out (Err tool.OutOfMemory) out' = FollowsSome old new out out'
    FollowsPart old new out (Err fault) out' =
        (payloads : List (List ℕ)) × IsRefusedAfter remaining failed_reads Only limit old new fault payloads
        × Wrote contents failures (changes_of_day request payloads) out out'

    -- The heading is written first. If that fails, nothing is read.
    abbrev pub FollowsDay : Reading R → W → Result Bool ToolFault → W → Type 0
    FollowsDay old out result out' =
        ((fault : ToolFault) × (result ≡ Err fault) × WritesText contents failures (change_head request.form request.depth) out (Err fault) out')
        ⊎ ((mid : W) × (new : Reading R) × WritesText contents failures (change_head request.form request.depth) out (Ok tt) mid × FollowsPart old new mid result out')
