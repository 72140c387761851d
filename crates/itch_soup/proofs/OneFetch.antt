-- The bytes that answer a login end a fetch in only one way.
use Rattle.std.proofs.Common.{◌≡◌, ℕ, suc, ◌+◌, ◌-◌, ◌^◌, ◌≤◌, ◌<◌, Bool, true, false, List, [], ◌∷◌, ◌++◌, map, length, Option, Some, None, Ok, Err, refl, sym, ap, subst, ◌∙◌, append_assoc, append-nil, arith, length-append}
use Rattle.std.proofs.lemmas.Bool.Decides.{nat_tests}
use Rattle.std.specs.List.{AllByRecursion}
use Rattle.itch_codec.specs.declared.message.Message.{Message}
use Rattle.itch_codec.specs.declared.message.Message.TheVariants as message
use Rattle.itch_codec.specs.Messages.{message_of}
use Rattle.itch_codec.specs.Widths.{IsMessage}
use Rattle.itch_codec.proofs.Spelling.{fault-Spells, message_of-Spells}
use Rattle.itch_frame.specs.Blocks.{IsPayload, block, blocks}
use Rattle.itch_market.specs.Content.{empty, laid}
use Rattle.itch_market.specs.Effects.{effect}
use Rattle.itch_market.specs.Runs.{run}
use Rattle.itch_market.specs.Stops.{cause}
use Rattle.itch_market.specs.Replays.{NoCause, Fits}
use Rattle.itch_market.proofs.GoodMarkets.{empty_good}
use Rattle.itch_market.proofs.Causes.{after_more}
use Rattle.itch_snapshot.specs.Files.{AreSpelled}
use Rattle.itch_snapshot.specs.TakenMessages.{number_by, number_in, closing_number, is_full}
use Rattle.itch_snapshot.proofs.FileLemmas.{spelled_none, spelled_is}
use Rattle.itch_soup.specs.declared.client.ClientAct.{ClientAct}
use Rattle.itch_soup.specs.declared.client.ClientAct.TheVariants as act
use Rattle.itch_soup.specs.declared.origin.Origin.TheVariants.{Server}
use Rattle.itch_soup.specs.declared.packet.Packet.{Packet}
use Rattle.itch_soup.specs.Packets.{PacketSpells}
use Rattle.itch_soup.specs.Clients.{Client, client_answer, client_after_packet}
use Rattle.itch_soup.specs.NextPackets.{is_enough}
use Rattle.itch_soup.specs.Fetching.{ArePackets, news, after_packets, Hears, EndsFetch, load_of, Receives, IsDecidedFetch}
use Rattle.itch_soup.proofs.FetchEnds.{Answer, so_far, Closes, EndsHere}
use Rattle.itch_soup.proofs.FetchRuns.{Goes, Run, one_run}
use Rattle.itch_soup.proofs.SessionSteps.{heard_by}
use Rattle.itch_soup.proofs.ClientAnswers.{Says, Next, next_heard, nothing_heard}

-- there are fewer messages than packets after the login was accepted
abbrev Few : Bool → ℕ → ℕ → Type 0
Few false k taken = taken ≤ k
Few true k taken = taken + 1 ≤ k

few_on : (at : Bool) (k taken : ℕ) → Few at k taken → Few at (k + 1) taken
few_on false k taken few = omega (arith, few)
few_on true k taken few = omega (arith, few)

room_for : (k n : ℕ) → k + suc n ≤ 10 ^ 19 → is_enough k ≡ false
room_for k n few = grind (arith, nat_tests)

space_for : (k n taken : ℕ) → k + suc n ≤ 10 ^ 19 → taken + 1 ≤ k → is_full taken ≡ false
space_for k n taken few less = let small : taken < 10 ^ 19 - 1 = omega (arith, few, less) in grind (arith, nat_tests)

-- the bytes lead from here to this end
abbrev Reaches : ℕ → Client → List (List ℕ) → List ℕ → Answer → Type 0
Reaches k c ps bytes r = (xs : List Packet) × (read : List (List ℕ)) × (b : List ℕ) × (bytes ≡ blocks read ++ b) × Run k c ps xs read b r

goes_on : (k : ℕ) (c : Client) (ps : List (List ℕ)) (x : Packet) (q : List ℕ) (bytes : List ℕ) (r : Answer) (answer : ClientAct) → is_enough k ≡ false → IsPayload q → PacketSpells x q Server
    → client_answer c x ≡ answer → Goes answer ps → Reaches (k + 1) (client_after_packet c x 0) (heard_by answer ps) bytes r → Reaches k c ps (block q ++ bytes) r
goes_on k c ps x q bytes r answer room fits spelled is goes (xs, read, b, whole, run) = (
  x ∷ xs,
  q ∷ read,
  b,
  ap (λ t. block q ++ t) whole ∙ sym (append_assoc (block q) (blocks read) b),
  (
    room,
    fits,
    spelled,
    subst (λ a. Goes a ps) (sym is) goes,
    subst (λ a. Run (k + 1) (client_after_packet c x 0) (heard_by a ps) xs read b r) (sym is) run,
  ),
)

-- the message that closes the snapshot
abbrev Closing : Answer → List (List ℕ) → List ℕ → Type 0
Closing (Ok done) all p = (closing_number p ≡ Some done.1) × (done.0 ≡ laid (so_far all))
Closing (Err f) all p = ⊥

closes_here : (r : Answer) (k : ℕ) (c : Client) (ps : List (List ℕ)) (x : Packet) (q : List ℕ) (bytes : List ℕ) (n : ℕ) (p : List ℕ) → is_enough k ≡ false → IsPayload q → PacketSpells x q Server
    → client_answer c x ≡ act.Data n p → Closing r ps p → Reaches k c ps (block q ++ bytes) r
closes_here (Ok done) k c ps x q bytes n p room fits spelled is closing =
    ([], [], block q ++ bytes, refl, (Some bytes, (x, (room, (q, fits, refl, spelled)), subst (λ a. Closes a ps done) (sym is) closing)))
closes_here (Err f) k c ps x q bytes n p room fits spelled is closing = absurd closing

-- these messages are received, and then the end of the fetch
module _ (tail all : List (List ℕ)) (b : List ℕ) (r : Answer) (close : (p : List ℕ) (rest : List (List ℕ)) → tail ≡ p ∷ rest → Closing r all p) where
  abbrev Decided : ℕ → Client → List Packet → List (List ℕ) → List (List ℕ) → List (List ℕ) → Bool → ℕ → Type 0
  Decided k c xs read ps qs at n =
      Says at n (news c xs) (qs ++ tail) → NoCause (so_far ps) qs → AllByRecursion Fits qs → Few at k (length ps) → ps ++ qs ≡ all
      → Reaches k c ps (blocks read ++ b) r

  took : (k : ℕ) (c : Client) (x : Packet) (xs : List Packet) (q : List ℕ) (read ps qs : List (List ℕ)) (n m : ℕ) (p : List ℕ) → k + length (x ∷ xs) ≤ 10 ^ 19 → IsPayload q → PacketSpells x q Server
      → client_answer c x ≡ act.Data m p → (rest : List (List ℕ)) → qs ++ tail ≡ p ∷ rest → Says true (n + 1) (news (client_after_packet c x 0) xs) rest
      → NoCause (so_far ps) qs → AllByRecursion Fits qs → Few true k (length ps) → ps ++ qs ≡ all
      → ((ps2 qs2 : List (List ℕ)) (at2 : Bool) (n2 : ℕ) → Decided (k + 1) (client_after_packet c x 0) xs read ps2 qs2 at2 n2)
      → Reaches k c ps (block q ++ (blocks read ++ b)) r
  took k c x xs q read ps [] n m p few fits spelled is rest same acts none fit less whole on =
      closes_here r k c ps x q (blocks read ++ b) m p (room_for k (length xs) few) fits spelled is
      (subst (λ ps. Closing r ps p) (sym whole ∙ append-nil ps) (close p rest same))
  took k c x xs q read ps (y ∷ qs) n m p few fits spelled is rest same acts none fit less whole on =
      let first : y ≡ p = cc in
      let later : qs ++ tail ≡ rest = cc in
      let clean : cause (so_far ps) p ≡ None = ap (cause (so_far ps)) (sym first) ∙ none 0 (omega arith) in
      goes_on k c ps x q (blocks read ++ b) r (act.Data m p) (room_for k (length xs) few) fits spelled is
      (space_for k (length xs) (length ps) few less, clean, subst Fits first fit.0)
      (on (ps ++ p ∷ []) qs true (n + 1) (subst (λ t. Says true (n + 1) (news (client_after_packet c x 0) xs) t) (sym later) acts)
      (subst (λ m. NoCause m qs) (ap (λ z. effect (so_far ps) (message_of z)) first ∙ sym (after_more empty ps p)) (λ i within. none (suc i) (omega arith)))
      fit.1 (omega (arith, less, length-append ps (p ∷ [])))
      (append_assoc ps (p ∷ []) qs ∙ ap (λ z. ps ++ z ∷ qs) (sym first) ∙ whole))

  step : (answer : ClientAct) (k : ℕ) (c : Client) (x : Packet) (xs : List Packet) (q : List ℕ) (read ps qs : List (List ℕ)) (at : Bool) (n : ℕ) → k + length (x ∷ xs) ≤ 10 ^ 19 → IsPayload q → PacketSpells x q Server
      → client_answer c x ≡ answer → Next at n answer (news (client_after_packet c x 0) xs) (qs ++ tail)
      → NoCause (so_far ps) qs → AllByRecursion Fits qs → Few at k (length ps) → ps ++ qs ≡ all
      → ((ps2 qs2 : List (List ℕ)) (at2 : Bool) (n2 : ℕ) → Decided (k + 1) (client_after_packet c x 0) xs read ps2 qs2 at2 n2)
      → Reaches k c ps (block q ++ (blocks read ++ b)) r
  step act.Nothing k c x xs q read ps qs at n few fits spelled is next none fit less whole on =
      goes_on k c ps x q (blocks read ++ b) r act.Nothing (room_for k (length xs) few) fits spelled is tt (on ps qs at n next none fit (few_on at k (length ps) less) whole)
  step (act.Accepted first) k c x xs q read ps qs false n few fits spelled is (one, later) none fit less whole on =
      goes_on k c ps x q (blocks read ++ b) r (act.Accepted first) (room_for k (length xs) few) fits spelled is one (on ps qs true 1 later none fit (omega (arith, less)) whole)
  step (act.Accepted first) k c x xs q read ps qs true n few fits spelled is next none fit less whole on = absurd next
  step (act.Data m p) k c x xs q read ps qs false n few fits spelled is next none fit less whole on = absurd next
  step (act.Data m p) k c x xs q read ps qs true n few fits spelled is (rest, same, acts) none fit less whole on =
      took k c x xs q read ps qs n m p few fits spelled is rest same acts none fit less whole on
  step (act.Rejected code) k c x xs q read ps qs at n few fits spelled is next none fit less whole on = absurd next
  step act.Ended k c x xs q read ps qs at n few fits spelled is next none fit less whole on = absurd next
  step (act.Fault f) k c x xs q read ps qs at n few fits spelled is next none fit less whole on = absurd next

  no_tail : (qs : List (List ℕ)) → qs ++ tail ≡ [] → (qs ≡ []) × (tail ≡ [])
  no_tail [] h = (refl, h)
  no_tail (q ∷ qs) h = let no_one : ⊥ = cc in absurd no_one

  reaches : (xs : List Packet) (read : List (List ℕ)) (k : ℕ) (c : Client) → k + length xs ≤ 10 ^ 19 → ArePackets xs read
      → (tail ≡ [] → EndsHere (is_enough (k + length xs)) (after_packets c xs) all b r) → (ps qs : List (List ℕ)) (at : Bool) (n : ℕ) → Decided k c xs read ps qs at n
  reaches [] [] k c few spelled stop ps qs at n acts none fit less whole =
      let gone = no_tail qs (nothing_heard at n (qs ++ tail) acts) in
      let same : k + 0 ≡ k = omega arith in
      let taken : all ≡ ps = sym whole ∙ ap (λ t. ps ++ t) gone.0 ∙ append-nil ps in
      ([], [], b, refl, subst (λ ps. EndsHere (is_enough k) c ps b r) taken (subst (λ k. EndsHere (is_enough k) c all b r) same (stop gone.1)))
  reaches [] (q ∷ read) k c few spelled stop ps qs at n acts none fit less whole = absurd spelled
  reaches (x ∷ xs) [] k c few spelled stop ps qs at n acts none fit less whole = absurd spelled
  reaches (x ∷ xs) (q ∷ read) k c few spelled stop ps qs at n acts none fit less whole =
      let same : k + length (x ∷ xs) ≡ k + 1 + length xs = omega arith in
      let later = client_after_packet c x 0 in
      subst (λ t. Reaches k c ps t r) (sym (append_assoc (block q) (blocks read) b))
      (step (client_answer c x) k c x xs q read ps qs at n few spelled.0.0 spelled.0.1 refl (next_heard at n (client_answer c x) (news later xs) (qs ++ tail) acts) none fit less whole
      (reaches xs read (k + 1) later (omega (arith, few)) spelled.1 (λ gone. subst (λ k. EndsHere (is_enough k) (after_packets later xs) all b r) same (stop gone))))

spelled_fits : (ms : List Message) (ps : List (List ℕ)) → AreSpelled ms ps → AllByRecursion IsMessage ms → AllByRecursion Fits ps
spelled_fits [] [] spelled fit = tt
spelled_fits [] (p ∷ ps) spelled fit = absurd spelled
spelled_fits (x ∷ xs) [] spelled fit = absurd spelled
spelled_fits (x ∷ xs) (p ∷ ps) spelled fit = (subst IsMessage (message_of-Spells x p spelled.0) fit.0, spelled_fits xs ps spelled.1 fit.1)

received_reaches : (r : Answer) (c : Client) (bytes : List ℕ) (left : Option (List ℕ)) → Receives c (Some bytes) left r → Reaches 0 c [] bytes r
received_reaches (Ok done) c bytes None (payloads, heard, (ms, snapshot, fit, market, at_last)) = absurd heard.bytes
received_reaches (Ok done) c bytes (Some rest) (payloads, heard, (ms, snapshot, fit, market, at_last)) =
    let are : ms ≡ map message_of snapshot.before = spelled_is ms snapshot.before snapshot.spelled in
    let number : closing_number snapshot.last ≡ Some done.1 =
    ap (λ f. number_by f snapshot.last) (fault-Spells (message.End done.1) snapshot.last snapshot.closes)
    ∙ ap number_in (sym (message_of-Spells (message.End done.1) snapshot.last snapshot.closes)) in
    let some : snapshot.last ∷ [] ≡ [] → ⊥ = λ none. let no_one : ⊥ = cc in no_one in
    subst (λ t. Reaches 0 c [] t (Ok done)) (sym heard.bytes)
    (reaches (snapshot.last ∷ []) snapshot.before rest (Ok done)
    (λ p following same. let is : snapshot.last ≡ p = cc in (subst (λ p. closing_number p ≡ Some done.1) is number, market ∙ ap (λ ms. laid (run ms)) are))
    heard.packets heard.read 0 c (omega (arith, heard.few)) heard.spelled (λ gone. absurd (some gone)) [] snapshot.before false 0
    (subst (Hears (news c heard.packets)) snapshot.whole heard.heard)
    (spelled_none empty ms snapshot.before snapshot.spelled snapshot.follows) (spelled_fits ms snapshot.before snapshot.spelled fit) (omega arith) refl)
received_reaches (Err f) c bytes left (payloads, None, heard, none, fit, (load, ends)) = absurd heard.bytes
received_reaches (Err f) c bytes left (payloads, Some rest, heard, none, fit, (load, ends)) =
    let same : length heard.packets ≡ 0 + length heard.packets = omega arith in
    subst (λ t. Reaches 0 c [] t (Err f)) (sym heard.bytes)
    (reaches [] payloads rest (Err f) (λ p following same. let no_one : ⊥ = cc in no_one)
    heard.packets heard.read 0 c (omega (arith, heard.few)) heard.spelled
    (λ gone. (left, load, subst (λ k. EndsFetch (is_enough k) (after_packets c heard.packets) (load_of payloads) (Some rest) left f load) same ends)) [] payloads false 0
    (subst (Hears (news c heard.packets)) (sym (append-nil payloads)) heard.heard)
    none fit (omega arith) refl)

-- the bytes end the fetch in only one way
pub one_fetch : (c : Client) (bytes : List ℕ) (left other : Option (List ℕ)) (r s : Answer) → Receives c (Some bytes) left r → Receives c (Some bytes) other s → IsDecidedFetch r → IsDecidedFetch s → r ≡ s
one_fetch c bytes left other r s h k decided certain = both (received_reaches r c bytes left h) (received_reaches s c bytes other k) where
  both : Reaches 0 c [] bytes r → Reaches 0 c [] bytes s → r ≡ s
  both (xs, read, b, whole, run) (ys, eaten, d, total, going) = one_run 0 c [] xs ys read eaten b d r s empty_good run going (sym whole ∙ total) decided certain
