-- A snapshot file has one list of messages and one number, and any other file has one fault.
use Rattle.std.proofs.Common.{◌≡◌, ℕ, ◌+◌, ◌^◌, ◌⊎◌, List, [], ◌∷◌, ◌++◌, length, refl, sym, ap, subst, ◌∙◌, inl, inr}
use Rattle.std.specs.List.{AllByRecursion}
use Rattle.itch_codec.specs.declared.message.Message.{Message}
use Rattle.itch_codec.specs.Fields.{AreBytes}
use Rattle.itch_codec.specs.Widths.{IsMessage}
use Rattle.itch_codec.proofs.Spelling.{IsMessage-Spells}
use Rattle.itch_frame.specs.Blocks.{IsFull, block, Open}
use Rattle.itch_frame.specs.declared.fault.FrameFault.TheVariants.{Read, Truncated, Write, TooLong}
use Rattle.itch_market.specs.Content.{empty, laid}
use Rattle.itch_market.specs.Runs.{run}
use Rattle.itch_market.specs.declared.stop.Stop.{Stop}
use Rattle.itch_market.specs.declared.stop.Stop.TheVariants as stop
use Rattle.itch_market.specs.Stops.{Stops}
use Rattle.itch_market.proofs.DayFiles.{payload_bytes}
use Rattle.itch_market.proofs.OneStop.{stops_place, stops_reason}
use Rattle.itch_snapshot.specs.declared.fault.SnapFault.{SnapFault}
use Rattle.itch_snapshot.specs.declared.fault.SnapFault.TheVariants.{NoEnd, Frame, Codec, Rule, AfterEnd, TooManyMessages}
use Rattle.itch_snapshot.specs.Files.{AreSpelled, ClosesBefore, IsSnapshotFile, StopsAt, IsFaultOf, IsMarketOf}
use Rattle.itch_snapshot.proofs.FileLemmas.{closes_once, file_no_fault, not_refused, not_ended, not_cut}

pub file_messages : (bytes : List ℕ) → (ms ns : List Message) → (j k : ℕ) → IsSnapshotFile bytes ms j → IsSnapshotFile bytes ns k → ms ≡ ns
file_messages bytes ms ns j k (r, one, ends) (s, other, other_ends) = (closes_once bytes r s ms ns j k one other).messages

pub file_number : (bytes : List ℕ) → (ms ns : List Message) → (j k : ℕ) → IsSnapshotFile bytes ms j → IsSnapshotFile bytes ns k → j ≡ k
file_number bytes ms ns j k (r, one, ends) (s, other, other_ends) = (closes_once bytes r s ms ns j k one other).number

-- the fields of messages in bytes fit
spelled_fit : (ms : List Message) (ps : List (List ℕ)) → AreSpelled ms ps → AllByRecursion AreBytes ps → AllByRecursion IsMessage ms
spelled_fit [] [] spelled wide = tt
spelled_fit [] (p ∷ ps) spelled wide = absurd spelled
spelled_fit (x ∷ xs) [] spelled wide = absurd spelled
spelled_fit (x ∷ xs) (p ∷ ps) spelled wide = (IsMessage-Spells x p wide.0 spelled.0, spelled_fit xs ps spelled.1 wide.1)

pub file_market : (bytes : List ℕ) → (ms : List Message) → (next : ℕ) → AreBytes bytes → IsSnapshotFile bytes ms next → IsMarketOf bytes (laid (run ms), next)
file_market bytes ms next wide (rest, file, ends) = (
  ms,
  (rest, file, ends),
  spelled_fit ms file.payloads file.spelled (payload_bytes file.payloads (block file.last ++ rest) (subst AreBytes file.whole wide)),
  refl,
)

pub file_or_fault : (bytes : List ℕ) → (ms : List Message) → (next : ℕ) → (fault : SnapFault) → IsSnapshotFile bytes ms next → IsFaultOf bytes fault → ⊥
file_or_fault bytes ms next fault (rest, file, ends) is = file_no_fault bytes rest ms next file fault ends is

-- the fault of a replay that stops after k messages
abbrev fault_at : ℕ → Stop → SnapFault
fault_at k stop.End = NoEnd
fault_at k (stop.Frame f) = Frame f
fault_at k (stop.Codec f) = Codec (k + 1) f
fault_at k (stop.Rule why) = Rule (k + 1) why
fault_at k stop.TooManyMessages = TooManyMessages

-- a fault of a file without an End of Snapshot
record IsBefore (bytes : List ℕ) (fault : SnapFault) : Type 0 where
  count : ℕ
  why : Stop
  stops : Stops empty bytes count why
  is : fault ≡ fault_at count why
  never_closed : (rest : List ℕ) (ms : List Message) (next : ℕ) → ClosesBefore rest bytes ms next → ⊥

-- the bytes after the End of Snapshot, if they are not an end
abbrev IsRestFault : List ℕ → SnapFault → Type 0
IsRestFault rest fault =
    (Open rest × (fault ≡ Frame (Truncated (length rest))))
    ⊎ ((payload : List ℕ) × (more : List ℕ) × IsFull payload × (rest ≡ block payload ++ more) × (fault ≡ AfterEnd))

-- a fault after an End of Snapshot
record IsAfter (bytes : List ℕ) (fault : SnapFault) : Type 0 where
  messages : List Message
  next : ℕ
  rest : List ℕ
  closes : ClosesBefore rest bytes messages next
  following : IsRestFault rest fault

-- a fault is one of the two
refused_before : (bytes : List ℕ) (place : ℕ) (why : Stop) (fault : SnapFault) → ((before : ℕ) → place ≡ before + 1 → fault ≡ fault_at before why)
    → StopsAt bytes place why → IsBefore bytes fault
refused_before bytes place why fault is at = record {
  count = at.before;
  why = why;
  stops = at.stops;
  is = is at.before at.place_is;
  never_closed = λ rest ms next file. not_refused bytes rest ms next file place why at;
}

fault_is : (bytes : List ℕ) (fault : SnapFault) → IsFaultOf bytes fault → IsBefore bytes fault ⊎ IsAfter bytes fault
fault_is bytes NoEnd (k, stops) =
    inl (record { count = k; why = stop.End; stops = stops; is = refl; never_closed = λ rest ms next file. not_ended bytes rest ms next file k stops })
fault_is bytes (Frame (Truncated held)) (inl (k, stops)) =
    inl (record { count = k; why = stop.Frame (Truncated held); stops = stops; is = refl; never_closed = λ rest ms next file. not_cut bytes rest ms next file k held stops })
fault_is bytes (Frame (Truncated held)) (inr (ms, next, rest, closes, (part, count))) =
    inr (record { messages = ms; next = next; rest = rest; closes = closes; following = inl (part, ap (λ n. Frame (Truncated n)) count) })
fault_is bytes (Frame (Read error)) h = absurd h
fault_is bytes (Frame (Write sent error)) h = absurd h
fault_is bytes (Frame TooLong) h = absurd h
fault_is bytes (Codec place f) at = inl (refused_before bytes place (stop.Codec f) (Codec place f) (λ before here. ap (λ p. Codec p f) here) at)
fault_is bytes (Rule place why) at = inl (refused_before bytes place (stop.Rule why) (Rule place why) (λ before here. ap (λ p. Rule p why) here) at)
fault_is bytes AfterEnd (ms, next, rest, closes, (payload, more, full, same)) =
    inr (record { messages = ms; next = next; rest = rest; closes = closes; following = inr (payload, more, full, same, refl) })
fault_is bytes TooManyMessages at = inl (refused_before bytes (10 ^ 19) stop.TooManyMessages TooManyMessages (λ before here. refl) at)

-- the bytes after the End of Snapshot have one kind
rest_once : (rest : List ℕ) (f g : SnapFault) → IsRestFault rest f → IsRestFault rest g → f ≡ g
rest_once rest f g (inl (part, is)) (inl (other, is_too)) = is ∙ sym is_too
rest_once rest f g (inl (part, is)) (inr (payload, more, full, same, is_too)) = absurd (part.1 payload more full.1 same)
rest_once rest f g (inr (payload, more, full, same, is)) (inl (part, is_too)) = absurd (part.1 payload more full.1 same)
rest_once rest f g (inr (payload, more, full, same, is)) (inr (q, others, full_too, same_too, is_too)) = is ∙ sym is_too

fault_once : (bytes : List ℕ) (f g : SnapFault) → IsBefore bytes f ⊎ IsAfter bytes f → IsBefore bytes g ⊎ IsAfter bytes g → f ≡ g
fault_once bytes f g (inl p) (inl q) =
    p.is ∙ ap (λ k. fault_at k p.why) (stops_place empty bytes p.count q.count p.why q.why p.stops q.stops)
    ∙ ap (fault_at q.count) (stops_reason empty bytes p.count q.count p.why q.why p.stops q.stops) ∙ sym q.is
fault_once bytes f g (inl p) (inr q) = absurd (p.never_closed q.rest q.messages q.next q.closes)
fault_once bytes f g (inr p) (inl q) = absurd (q.never_closed p.rest p.messages p.next p.closes)
fault_once bytes f g (inr p) (inr q) =
    rest_once q.rest f g (subst (λ r. IsRestFault r f) (closes_once bytes p.rest q.rest p.messages q.messages p.next q.next p.closes q.closes).rest p.following) q.following

pub one_fault : (bytes : List ℕ) → (f g : SnapFault) → IsFaultOf bytes f → IsFaultOf bytes g → f ≡ g
one_fault bytes f g p q = fault_once bytes f g (fault_is bytes f p) (fault_is bytes g q)
