-- What copying the messages of some types in blocks into C's memory returns and leaves.
use Rattle.std.specs.Prelude.{◌≡◌, ◌⊎◌, ◌+◌, ◌-◌, ◌<◌, ◌≤◌, ◌^◌, ◌==◌, ◌&&◌, ◌||◌, ℕ, Bool, true, List, [], ◌∷◌, ◌++◌, length, take, drop, replicate, Option, Some, None, option_to_list, unwrap_or, Result, Ok, Err, if◌then◌else◌}
use Rattle.std.specs.List.{AllByRecursion, list_any}
use Rattle.itch_codec.specs.declared.fault.CodecFault.{CodecFault}
use Rattle.itch_codec.specs.declared.header.Header.{Header}
use Rattle.itch_codec.specs.Headers.{header, time_of}
use Rattle.itch_codec.specs.Messages.{fault, message_of}
use Rattle.itch_codec.specs.Numbers.{byte_at}
use Rattle.itch_frame.specs.Blocks.{block, blocks, Ends, IsFull, Open}
use Rattle.itchsnap_c.specs.declared.answers.Answer.{Answer}
use Rattle.itchsnap_c.specs.declared.rows.Decoded.{Decoded}
use Rattle.itchsnap_c.specs.declared.rows.Row.{Row}
use Rattle.itchsnap_c.specs.Codes.{coded, codec_answer, done}
use Rattle.itchsnap_c.specs.Snapshots.{is_listed}

-- the type of a payload is one of these
abbrev pub is_of : List ℕ → List ℕ → Bool
is_of types payload = list_any (λ t. t == byte_at 0 payload) types

-- the locate is in the list, or none is
abbrev pub is_chosen : List ℕ → ℕ → Bool
is_chosen locates locate = length locates == 0 || is_listed locates locate

-- a message with this header is at a locate of the list, or none is listed; one without a header is at none
abbrev pub is_at : List ℕ → Option Header → Bool
is_at locates (Some h) = is_chosen locates h.locate
is_at locates None = length locates == 0

-- the first 48 bytes of a payload, with zeros after the last
abbrev pub row_bytes : List ℕ → List ℕ
row_bytes payload = take 48 payload ++ replicate (48 - length payload) 0

-- the row of a message with this number, whose payload begins here
abbrev pub row : ℕ → ℕ → List ℕ → Row
row number offset payload =
    record { number = number; offset = offset; timestamp = unwrap_or (time_of (message_of payload)) 0; payload = row_bytes payload }

-- these rows, one or none, are behind the others in the memory
pub record Follows (more : List Row) (before : ℕ) (old : List Row) (rows : ℕ) (new : List Row) : Type 0 where
  pub rows_are : rows ≡ before + length more
  pub within : rows ≤ length old
  pub memory : new ≡ take before old ++ more ++ drop rows old

-- a row is written behind the others, or there is no room for it
abbrev pub PutsRow : Row → ℕ → List Row → Result (Unit {0}) Answer → ℕ → List Row → Type 0
PutsRow made before old (Ok put) rows new = Follows (made ∷ []) before old rows new
PutsRow made before old (Err answer) rows new = (before ≡ length old) × (answer ≡ coded 49 0) × (rows ≡ before) × (new ≡ old)

-- so much was copied, and this came after it
abbrev pub stopped : ℕ → ℕ → ℕ → Answer → Decoded
stopped count rows len answer = record { count = count; rows = rows; len = len; detail = answer.detail; code = answer.code }

-- nothing was copied, for this reason
abbrev pub not_begun : ℕ → ℕ → Decoded
not_begun before code = record { count = before; rows = 0; len = 0; detail = 0; code = code }

-- why no block begins with what is left
abbrev pub end_of : List ℕ → Answer
end_of rest = if length rest == 0 then done else coded 32 (length rest)

module _ (types locates : List ℕ) where
  -- the message of a payload is of one of these types and at one of these locates
  abbrev pub is_wanted : List ℕ → Bool
  is_wanted payload = is_of types payload && is_at locates (header (message_of payload))

  -- the row of a message, if it is wanted
  abbrev pub wanted_row : ℕ → ℕ → List ℕ → Option Row
  wanted_row number offset payload = if is_wanted payload then Some (row number offset payload) else None

  -- the rows of the messages that are wanted, after so many messages, in blocks that begin here
  abbrev pub rows_of : ℕ → ℕ → List (List ℕ) → List Row
  rows_of count offset [] = []
  rows_of count offset (p ∷ ps) = option_to_list (wanted_row (count + 1) (offset + 2) p) ++ rows_of (count + 1) (offset + length (block p)) ps

  -- a payload is passed: it is not empty, and if its type is listed, it spells a message
  abbrev pub IsPassed : List ℕ → Type 0
  IsPassed payload = IsFull payload × (is_of types payload ≡ true → fault payload ≡ None)

  -- Why the message of a payload is not taken after so many messages and so many rows: there is no number for it, or it spells none
  -- though its type is listed, or it is wanted and there is room for no more rows.
  abbrev pub Stays : ℕ → ℕ → ℕ → List ℕ → Answer → Type 0
  Stays count rows room payload answer =
      ((10 ^ 19 - 1 ≤ count) × (answer ≡ coded 33 0))
      ⊎ ((count < 10 ^ 19 - 1) × (is_of types payload ≡ true) × ((f : CodecFault) × (fault payload ≡ Some f) × (answer ≡ codec_answer f)))
      ⊎ ((count < 10 ^ 19 - 1) × (is_wanted payload ≡ true) × (fault payload ≡ None) × (rows ≡ room) × (answer ≡ coded 49 0))

  -- why the blocks are passed no further than to what is left of them
  abbrev pub Halts : ℕ → ℕ → ℕ → List ℕ → Answer → Type 0
  Halts count rows room rest answer =
      (Ends rest × (answer ≡ done))
      ⊎ (Open rest × (answer ≡ coded 32 (length rest)))
      ⊎ ((payload : List ℕ) × (more : List ℕ) × IsFull payload × (rest ≡ block payload ++ more) × Stays count rows room payload answer)

  -- Blocks are passed, after so many messages, and the rows of those that are wanted are at the front of the memory. The rest of it is
  -- as it was.
  pub record Fills (before : ℕ) (bytes : List ℕ) (old : List Row) (d : Decoded) (new : List Row) : Type 0 where
    pub payloads : List (List ℕ)
    pub rest : List ℕ
    pub whole : bytes ≡ blocks payloads ++ rest
    pub each : AllByRecursion IsPassed payloads
    pub count : d.count ≡ before + length payloads
    pub len : d.len ≡ length (blocks payloads)
    pub rows : d.rows ≡ length (rows_of before 0 payloads)
    pub memory : new ≡ rows_of before 0 payloads ++ drop d.rows old
    pub halts : Halts d.count d.rows (length old) rest (record { detail = d.detail; code = d.code })

  -- the same, unless memory for the locates is refused
  abbrev pub CopiesRows : ℕ → List ℕ → List Row → Decoded → List Row → Type 0
  CopiesRows before bytes old d new = Fills before bytes old d new ⊎ ((d ≡ not_begun before 48) × (new ≡ old))

  -- what is made of a payload: the row of a message that is wanted, or none; or it has a fault
  abbrev pub Makes : ℕ → ℕ → List ℕ → Result (Option Row) CodecFault → Type 0
  Makes number offset payload (Ok made) = (is_of types payload ≡ true → fault payload ≡ None) × (made ≡ wanted_row number offset payload)
  Makes number offset payload (Err f) = (is_of types payload ≡ true) × (fault payload ≡ Some f)

  -- the next message is taken, and its row written if it is wanted; or it is not, and nothing changes
  abbrev pub TakesBlock : ℕ → ℕ → List ℕ → ℕ → List Row → Result (Unit {0}) Answer → ℕ → List Row → Type 0
  TakesBlock count passed payload before old (Ok taken) rows new =
      (0 < length payload) × (count < 10 ^ 19 - 1) × (is_of types payload ≡ true → fault payload ≡ None)
      × Follows (option_to_list (wanted_row (count + 1) (passed + 2) payload)) before old rows new
  TakesBlock count passed payload before old (Err answer) rows new =
      (((payload ≡ []) × (answer ≡ done)) ⊎ ((0 < length payload) × Stays count before (length old) payload answer)) × (rows ≡ before) × (new ≡ old)
