-- The output of `cut` for a day: the blocks of some messages, unchanged.
use Rattle.std.specs.Prelude.{◌≡◌, ◌⊎◌, ℕ, ◌-◌, ◌<◌, ◌&&◌, Bool, true, false, List, [], ◌∷◌, length, map, Option, None, Some, IsSome, option_map, Result, Ok, Err, if◌then◌else◌}
use Rattle.itch_codec.specs.Headers.{header, time_of}
use Rattle.itch_codec.specs.Messages.{message_of}
use Rattle.itch_codec.specs.declared.header.Header.{Header}
use Rattle.itch_codec.specs.declared.message.Message.{Message}
use Rattle.itch_codec.specs.declared.message.Message.TheVariants as is
use Rattle.itch_day.specs.Limits.{IsWithin}
use Rattle.itch_day.specs.Parts.{Counts, Leaves, StopsAt}
use Rattle.itch_day.specs.Passing.{left_by}
use Rattle.itch_day.specs.declared.limit.Limit.{Limit}
use Rattle.itch_day.specs.declared.stop.PartStop.{PartStop as Part}
use Rattle.itch_frame.specs.Blocks.{block, blocks}
use Rattle.itch_frame.specs.Reading.{Reading, bytes_left}
use Rattle.itch_frame.specs.declared.tally.Failures.{Failures}
use Rattle.itch_market.specs.Wanted.{Wanted, has}
use Rattle.itch_commands.specs.Choices.{Chosen, chosen_after, chosen_by, chosen_past, everything, is_about, is_located, is_typed}
use Rattle.itch_commands.specs.Outputs.{Wrote, WritesText}
use Rattle.itch_commands.specs.Showing.{IfFound, IsClean, IsFaultOf, ReadsOff, answer_of}
use Rattle.itch_commands.specs.Lookup.{Lookup, are_found, is_found, is_sought}
use Rattle.itch_commands.specs.Starts.{is_begun}
use Rattle.itch_commands.specs.declared.fault.Source.TheVariants.{Only}
use Rattle.itch_commands.specs.declared.fault.ToolFault.{ToolFault}
use Rattle.itch_commands.specs.declared.fault.ToolFault.TheVariants as tool
use Rattle.itch_commands.specs.declared.filters.Filters.{Filters}

-- the locate of the stock that a message is about, if it is about one; unknown for a message without a header
abbrev pub stock_of : Message → Option ℕ
stock_of (is.SystemEvent m) = None
stock_of message = option_map (λ (h : Header). h.locate) (header message)

-- a message about no stock counts as of the chosen stocks, and so does one about one of them
abbrev pub is_of_stocks : Chosen → Message → Option ℕ → Bool
is_of_stocks chosen message None = true
is_of_stocks chosen message (Some locate) = is_located chosen.only message && is_sought chosen.stocks message

-- a message is kept: the range has begun, it is about a chosen stock or none, it has a chosen type, and it is about the chosen order
abbrev pub is_kept : Chosen → Message → Bool
is_kept chosen message =
    is_begun chosen.start (time_of message) && is_of_stocks chosen message (stock_of message) && is_typed chosen.types message && is_about chosen.reference message

-- the payloads whose messages are kept, in order
unfoldable pub kept_of : Chosen → List (List ℕ) → List (List ℕ)
kept_of chosen [] = []
kept_of chosen (payload ∷ payloads) =
    if is_kept chosen (message_of payload)
    then payload ∷ kept_of (chosen_after chosen (message_of payload)) payloads
    else kept_of (chosen_after chosen (message_of payload)) payloads

-- the messages of the locates of a set, and those about no stock
abbrev pub of_locates : Wanted → Chosen
of_locates set = record everything { only = Some set }

-- the block of a payload whose message is kept, else nothing
abbrev pub kept_block : Chosen → List ℕ → List ℕ
kept_block chosen payload = if is_kept chosen (message_of payload) then block payload else []

-- the locate of a message that adds, changes or ends an order
abbrev pub order_at : Message → Option ℕ
order_at (is.AddOrder m) = Some m.header.locate
order_at (is.AttributedAddOrder m) = Some m.order.header.locate
order_at (is.OrderExecuted m) = Some m.header.locate
order_at (is.OrderExecutedWithPrice m) = Some m.execution.header.locate
order_at (is.OrderCancel m) = Some m.header.locate
order_at (is.OrderDelete m) = Some m.header.locate
order_at (is.OrderReplace m) = Some m.header.locate
order_at message = None

-- a locate is in a set, if there is one
abbrev pub is_in : Option Wanted → ℕ → Bool
is_in None locate = true
is_in (Some set) locate = has set locate

-- a locate has one of the stocks searched for, if there are any
abbrev pub has_stock : Option Lookup → ℕ → Bool
has_stock None locate = true
has_stock (Some s) locate = is_found s locate

-- a message that is not kept is passed; or nothing changes
abbrev pub Skips : Chosen → List ℕ → Bool → Chosen → Type 0
Skips chosen payload true new =
    IsClean payload × (is_kept chosen (message_of payload) ≡ false) × (new ≡ chosen_after chosen (message_of payload))
Skips chosen payload false new = new ≡ chosen

module _ {W : Type 0} (contents : W → Option (List ℕ)) (failures : W → Failures) where
  -- the block of a payload is written, or a write failed after a prefix of it; a payload that is too long has none
  abbrev pub WritesBlock : List ℕ → W → Result (Unit {0}) ToolFault → W → Type 0
  WritesBlock payload old (Err (tool.Stopped file end)) new = 65535 < length payload
  WritesBlock payload old result new = WritesText contents failures (block payload) old result new

  -- a message passes: its payload spells it, and its block is written if it is kept
  abbrev pub CutsMessage : List ℕ → Chosen → W → Chosen → W → Type 0
  CutsMessage payload chosen out chosen' out' =
      IsClean payload × WritesText contents failures (kept_block chosen payload) out (Ok tt) out' × (chosen' ≡ chosen_after chosen (message_of payload))

  -- it does not: the payload is not valid, or a write failed within its block
  abbrev pub HoldsBack : Chosen → W → ℕ → List ℕ → ToolFault → W → Type 0
  HoldsBack chosen out number payload (tool.Stopped file end) out' =
      (file ≡ Only) × (end.count ≡ number - 1) × IsFaultOf payload end.stop × (out' ≡ out)
  HoldsBack chosen out number payload fault out' = IsClean payload × WritesText contents failures (kept_block chosen payload) out (Err fault) out'

  module _ {R : Type 0} (remaining : R → Option (List ℕ)) (failed_reads : R → Failures) (limit : Limit) (chosen : Chosen) where
    -- The blocks of the kept ones of these messages are written; the messages came off the front, and then this stops the reading.
    pub record CutsOff (old mid : Reading R) (count : ℕ) (out : W) (stop : Part ToolFault) (out' : W) (payloads : List (List ℕ)) : Type 0 where
      pub last : W
      pub off : ReadsOff limit (bytes_left remaining old) (bytes_left remaining mid) payloads
      pub counted : count ≡ length payloads
      pub wanted : 0 < length payloads → IsWithin limit count
      pub wrote : Wrote contents failures (blocks (kept_of chosen payloads)) out last
      pub stops : StopsAt remaining (HoldsBack (chosen_past chosen (map message_of payloads))) limit count mid last stop out'
      pub leaves : Leaves old (length payloads) stop mid
      pub counts : Counts stop (failed_reads old.reader) (failed_reads mid.reader)

    -- the same, with the result. The message that stops the reading is passed
    pub record CutsPart (old new : Reading R) (out : W) (result : Result Bool ToolFault) (out' : W) : Type 0 where
      pub payloads : List (List ℕ)
      pub count : ℕ
      pub mid : Reading R
      pub stop : Part ToolFault
      pub cuts : CutsOff old mid count out stop out' payloads
      pub left : new ≡ left_by stop mid
      pub answer : result ≡ answer_of limit.after count (are_found (Chosen.stocks (chosen_past chosen (map message_of payloads)))) stop

    -- the same, and each of the stocks searched for was found
    abbrev pub Cuts : Reading R → Reading R → W → Result Bool ToolFault → W → Type 0
    Cuts old new out result out' = IfFound (λ found. CutsPart old new out found out') result

  -- the same for the messages that the filters choose, unless memory for the names of stocks runs out, before anything is read
  abbrev pub CutsFile : {R : Type 0} → (R → Option (List ℕ)) → (R → Failures) → Limit → Option Wanted → Filters → Reading R → Reading R → W → Result Bool ToolFault → W → Type 0
  CutsFile remaining failed_reads limit set filters old new out result out' =
      (IsSome filters.stocks × (result ≡ Err tool.OutOfMemory) × (new ≡ old) × (out' ≡ out))
      ⊎ Cuts remaining failed_reads limit (chosen_by set filters) old new out result out'
