-- The effect of reading a part of a day.
use Rattle.std.specs.Prelude.{◌≡◌, ◌≢◌, ℕ, ◌+◌, ◌-◌, ◌<◌, ◌≤◌, ◌^◌, ◌⊎◌, List, [], length, ⊤, Option, Some, IfSome, Result, Ok, Err}
use Rattle.std.specs.List.{AllByRecursion}
use Rattle.std.specs.Io.KnownBytes.{Keeps, Consumes, IsAtEnd}
use Rattle.itch_frame.specs.Blocks.{block, blocks, IsBlockOf, IsFull, Open}
use Rattle.itch_frame.specs.Counting.{failed}
use Rattle.itch_frame.specs.Reading.{Reading, bytes_left, StaysAsEnded}
use Rattle.itch_frame.specs.declared.reader.BlockStage.TheVariants.{Going, Given, Ended, Cut}
use Rattle.itch_frame.specs.declared.tally.Failures.{Failures}
use Rattle.itch_frame.specs.declared.fault.FrameFault.TheVariants.{Read, Truncated, Write, TooLong}
use Rattle.itch_day.specs.declared.limit.Limit.{Limit}
use Rattle.itch_day.specs.declared.not_taken.NotTaken.{NotTaken}
use Rattle.itch_day.specs.declared.not_taken.NotTaken.TheVariants as untaken
use Rattle.itch_day.specs.declared.stop.PartStop.{PartStop}
use Rattle.itch_day.specs.declared.stop.PartStop.TheVariants.{Full, Late, End, Frame, TooMany, Refused}
use Rattle.itch_day.specs.Limits.{IsBefore, IsLate, IsNoEarlier, IsNotLate, IsWithin}
use Rattle.itch_day.specs.Sinks.{TakesAll}

-- the block of this payload is the next one
abbrev pub IsNext : {R : Type 0} → Reading R → List ℕ → Type 0
IsNext r payload = IsBlockOf payload r.held × (r.stage ≡ Going)

-- a failed read is counted with its error, and nothing else is counted
abbrev pub Counts : {F : Type 0} → PartStop F → Failures → Failures → Type 0
Counts (Frame (Read error)) old new = new ≡ failed error old
Counts stop old new = new ≡ old

-- The reader of blocks after the messages that were taken: unread, or after the last one. After the end of the input no messages are taken.
pub record Passes {R : Type 0} (old : Reading R) (count : ℕ) (new : Reading R) : Type 0 where
  pub unread : count ≡ 0 → new ≡ old
  pub given : 0 < count → (new.held ≡ []) × (new.stage ≡ Given) × (old.stage ≢ Ended) × (old.stage ≢ Cut)

-- the reader of blocks when the reading stops after this number of messages
abbrev pub Leaves : {R F : Type 0} → Reading R → ℕ → PartStop F → Reading R → Type 0
Leaves old count Full new = Passes old count new
Leaves old count stop new = (old.stage ≡ Ended → (count ≡ 0) × (new ≡ old)) × (old.stage ≡ Cut → (count ≡ 0) × (new ≡ old))

-- another part may follow after a part that stopped like this
abbrev pub GoesOn : {F : Type 0} → PartStop F → Type 0
GoesOn Full = ⊤
GoesOn Late = ⊤
GoesOn End = ⊤
GoesOn (Frame fault) = ⊥
GoesOn TooMany = ⊥
GoesOn (Refused why) = ⊥

-- After a part that stopped like this, after this number of messages, another part with this limit may follow: it ends no smaller part, and
-- if the message after those taken was examined, it requests more messages than were taken.
pub record GoesOnTo {F : Type 0} (before : Limit) (stop : PartStop F) (count : ℕ) (limit : Limit) : Type 0 where
  pub goes_on : GoesOn stop
  pub later : IsNoEarlier before.until limit.until
  pub within : IsWithin limit count
  pub more : (stop ≡ Full) ⊎ IsBefore limit count

-- this holds unless a message was refused
abbrev pub UnlessRefused : {F : Type 0} → PartStop F → Type 0 → Type 0
UnlessRefused (Refused why) p = ⊤
UnlessRefused stop p = p

module _ {R T F : Type 0} (remaining : R → Option (List ℕ)) (refuses : T → ℕ → List ℕ → F → T → Type 0) (limit : Limit) where
  -- the reason why the message after `count` others is not taken from this reader, and the sink afterwards
  abbrev pub StopsAt : ℕ → Reading R → T → PartStop F → T → Type 0
  StopsAt count r old Full new = (new ≡ old) × ((most : ℕ) × (limit.after ≡ Some most) × (most ≤ count))
  StopsAt count r old Late new = (new ≡ old) × IsBefore limit count × ((payload : List ℕ) × IsNext r payload × IsFull payload × (count < 10 ^ 19 - 1) × IsLate limit payload)
  StopsAt count r old End new =
      (new ≡ old) × IsBefore limit count × (((r.stage ≡ Ended) × (r.held ≡ []) × IsAtEnd (bytes_left remaining r)) ⊎ IsNext r [])
  StopsAt count r old (Frame (Truncated held)) new =
      (new ≡ old) × IsBefore limit count × (r.stage ≡ Cut) × (held ≡ length r.held) × IfSome (bytes_left remaining r) (λ b. Open b × (held ≡ length b))
  StopsAt count r old (Frame (Read error)) new = (new ≡ old) × IsBefore limit count × (r.stage ≡ Going)
  StopsAt count r old (Frame (Write sent error)) new = ⊥
  StopsAt count r old (Frame TooLong) new = ⊥
  StopsAt count r old TooMany new = (new ≡ old) × IsBefore limit count × ((payload : List ℕ) × IsNext r payload × IsFull payload × (count ≡ 10 ^ 19 - 1))
  StopsAt count r old (Refused why) new =
      IsBefore limit count
      × ((payload : List ℕ) × IsNext r payload × IsFull payload × (count < 10 ^ 19 - 1) × IsNotLate limit payload × refuses old (count + 1) payload why new)

-- the stop of a part for a reason why a message is not taken
abbrev pub stop_of : {F : Type 0} → NotTaken F → PartStop F
stop_of untaken.Ended = End
stop_of untaken.Late = Late
stop_of untaken.TooMany = TooMany
stop_of (untaken.Refused why) = Refused why

module _ {T F : Type 0} (takes : T → ℕ → List ℕ → T → Type 0) (refuses : T → ℕ → List ℕ → F → T → Type 0) (limit : Limit) where
  -- the effect of a payload that is not empty: it is taken, or it is late, or it is refused
  abbrev pub TakesPayload : List ℕ → ℕ → ℕ → T → Result (Unit {0}) (NotTaken F) → T → Type 0
  TakesPayload payload before count t (Ok done) u =
      (before < 10 ^ 19 - 1) × IsNotLate limit payload × takes t (before + 1) payload u × (count ≡ before + 1)
  TakesPayload payload before count t (Err untaken.Late) u = (count ≡ before) × (u ≡ t) × (before < 10 ^ 19 - 1) × IsLate limit payload
  TakesPayload payload before count t (Err untaken.TooMany) u = (count ≡ before) × (u ≡ t) × (before ≡ 10 ^ 19 - 1)
  TakesPayload payload before count t (Err (untaken.Refused why)) u =
      (count ≡ before) × (before < 10 ^ 19 - 1) × IsNotLate limit payload × refuses t (before + 1) payload why u
  TakesPayload payload before count t (Err untaken.Ended) u = ⊥

  -- the effect of the loaded block: its payload is taken, and the block passed; or it remains the next one
  abbrev pub TakesHeld : {R : Type 0} → Reading R → Reading R → ℕ → ℕ → T → Result (Unit {0}) (NotTaken F) → T → Type 0
  TakesHeld old new before count t (Ok done) u =
      (new ≡ record { reader = old.reader; held = []; stage = Given })
      × ((payload : List ℕ) × IsBlockOf payload old.held × IsFull payload × TakesPayload payload before count t (Ok done) u)
  TakesHeld old new before count t (Err untaken.Ended) u = (new ≡ old) × (count ≡ before) × (u ≡ t) × IsBlockOf [] old.held
  TakesHeld old new before count t (Err why) u =
      (new ≡ old) × ((payload : List ℕ) × IsBlockOf payload old.held × IsFull payload × TakesPayload payload before count t (Err why) u)

module _ {R T : Type 0} (remaining : R → Option (List ℕ)) (takes : T → ℕ → List ℕ → T → Type 0) (limit : Limit) where
  -- these payloads came off the front and were taken in order: none is empty or late, and they are no more than requested
  pub record Takes (old now : Reading R) (before count : ℕ) (t u : T) (payloads : List (List ℕ)) : Type 0 where
    pub bytes : Consumes (bytes_left remaining old) (bytes_left remaining now) (blocks payloads)
    pub full : AllByRecursion IsFull payloads
    pub early : AllByRecursion (IsNotLate limit) payloads
    pub wanted : 0 < length payloads → IsWithin limit count
    pub taken : TakesAll takes t before payloads u
    pub counted : count ≡ before + length payloads

module _ {R T : Type 0} (remaining : R → Option (List ℕ)) (failures : R → Failures) (takes : T → ℕ → List ℕ → T → Type 0) (limit : Limit) where
  -- some payloads came off the front and were taken, possibly none, and no read failed
  pub record TakesSome (old now : Reading R) (before count : ℕ) (t u : T) : Type 0 where
    pub payloads : List (List ℕ)
    pub taken : Takes remaining takes limit old now before count t u payloads
    pub passes : Passes old (length payloads) now
    pub uncounted : failures now.reader ≡ failures old.reader

module _ {R T F : Type 0} (remaining : R → Option (List ℕ)) (failures : R → Failures) (takes : T → ℕ → List ℕ → T → Type 0) (refuses : T → ℕ → List ℕ → F → T → Type 0) (limit : Limit) where
  -- the effect of one block: its payload is taken, or the part stops there
  abbrev pub Steps : Reading R → Reading R → ℕ → ℕ → T → Result (Unit {0}) (PartStop F) → T → Type 0
  Steps old new before count t (Ok done) u =
      (payload : List ℕ) × Consumes (bytes_left remaining old) (bytes_left remaining new) (block payload) × IsFull payload
      × TakesPayload {F = F} takes refuses limit payload before count t (Ok done) u
      × (new.held ≡ []) × (new.stage ≡ Given) × (old.stage ≢ Ended) × (old.stage ≢ Cut) × (failures new.reader ≡ failures old.reader)
  Steps old new before count t (Err stop) u =
      (count ≡ before) × Keeps (bytes_left remaining old) (bytes_left remaining new) × StopsAt remaining refuses limit before new t stop u
      × StaysAsEnded old new × Counts stop (failures old.reader) (failures new.reader)

  -- As many of the messages as possible are taken, and then the reading stops for this reason: the next message, if there is one, is left.
  pub record ReadsPart (old new : Reading R) (before count : ℕ) (t : T) (stop : PartStop F) (u : T) : Type 0 where
    pub payloads : List (List ℕ)
    pub last : T
    pub taken : Takes remaining takes limit old new before count t last payloads
    pub stops : StopsAt remaining refuses limit count new last stop u
    pub leaves : Leaves old (length payloads) stop new
    pub counts : Counts stop (failures old.reader) (failures new.reader)
