-- A fetch step by step: the packets received so far, and one more.
use Rattle.std.proofs.Common.{◌≡◌, ℕ, ◌+◌, ◌-◌, ◌^◌, ◌≤◌, true, false, List, [], ◌∷◌, ◌++◌, map, length, Option, None, Some, Result, Ok, Err, refl, sym, ap, subst, ◌∙◌, arith, length-append}
use Rattle.std.proofs.lemmas.List.{length-map}
use Rattle.std.specs.List.{AllByRecursion}
use Rattle.std.specs.Option.{is_some}
use Rattle.std.specs.Result.{IsOk}
use Rattle.std.specs.Io.KnownBytes.{Consumes}
use Rattle.itch_codec.specs.Messages.{message_of}
use Rattle.itch_codec.specs.Widths.{IsMessage}
use Rattle.itch_frame.specs.Blocks.{IsPayload, block}
use Rattle.itch_frame.proofs.BlockLemmas.{each-push}
use Rattle.itch_book.proofs.Lists.{All-map_rec}
use Rattle.itch_market.specs.Content.{Content, empty, laid}
use Rattle.itch_market.specs.GoodMarkets.{IsGood}
use Rattle.itch_market.specs.Runs.{after, run}
use Rattle.itch_market.specs.Replays.{NoCause, Fits}
use Rattle.itch_market.proofs.Causes.{none_clean, none_more, none_follows, after_more}
use Rattle.itch_market.proofs.ReplayProgress.{taken_on, not_full}
use Rattle.itch_snapshot.specs.declared.reader.SnapshotStage.TheVariants.{Taking, Closed}
use Rattle.itch_snapshot.specs.TakenMessages.{Load, begun, Loads, TakesAt, TakesNext, Finishes, closing_number}
use Rattle.itch_snapshot.proofs.KnownFiles.{clean_spelled}
use Rattle.itch_snapshot.proofs.FileLemmas.{Spells-number}
use Rattle.itch_soup.specs.declared.connection.SessionStage.TheVariants as stage
use Rattle.itch_soup.specs.declared.client.ClientAct.{ClientAct}
use Rattle.itch_soup.specs.declared.client.ClientAct.TheVariants as act
use Rattle.itch_soup.specs.declared.fault.SoupFault.{SoupFault}
use Rattle.itch_soup.specs.declared.origin.Origin.TheVariants.{Server}
use Rattle.itch_soup.specs.declared.packet.Packet.{Packet}
use Rattle.itch_soup.specs.Packets.{PacketSpells}
use Rattle.itch_soup.specs.Clients.{Client, client_answer, client_after_packet}
use Rattle.itch_soup.specs.NextPackets.{is_enough}
use Rattle.itch_soup.specs.Fetching.{after_packets, SpellsSnapshot, Fetched, TakesPacket, TakesAnswer, EndsFetch, Receives, load_of}
use Rattle.itch_soup.proofs.SessionSteps.{Came, came_first, came_by, heard_of, heard_by, GoesOn, only_data}

-- the messages of these payloads were applied to the empty market
pub record Applied (payloads : List (List ℕ)) (taken : ℕ) (n : Content) : Type 0 where
  pub none : NoCause empty payloads
  pub fits : AllByRecursion Fits payloads
  pub left : n ≡ laid (run (map message_of payloads))
  pub good : IsGood (run (map message_of payloads))
  pub counted : length payloads ≡ taken
  pub few : taken ≤ 10 ^ 19 - 1

applied_on : (payloads : List (List ℕ)) (taken : ℕ) (n k : Content) (p : List ℕ) → Applied payloads taken n → TakesNext taken n p (Ok None) k → Applied (payloads ++ p ∷ []) (taken + 1) k
applied_on ps taken n k p applied (room, (clean, fits, next)) =
    let so_far = run (map message_of ps) in
    let (took, after_it, still) = taken_on so_far n k p applied.good applied.left clean fits next in
    record {
      none = none_more empty ps p applied.none took;
      fits = each-push Fits ps p applied.fits fits;
      left = after_it ∙ ap laid (sym (after_more empty ps p));
      good = subst IsGood (sym (after_more empty ps p)) still;
      counted = length-append ps (p ∷ []) ∙ ap (λ c. c + 1) applied.counted;
      few = omega (arith, not_full taken applied.few room);
    }

closes : (ps : List (List ℕ)) (taken : ℕ) (n : Content) (p : List ℕ) (next : ℕ) → Applied ps taken n → closing_number p ≡ Some next → SpellsSnapshot (ps ++ p ∷ []) (map message_of ps) next
closes ps taken n p next applied number = record {
  before = ps;
  last = p;
  whole = refl;
  spelled = clean_spelled ps (none_clean empty ps applied.none);
  follows = none_follows empty ps applied.none;
  few = omega (arith, applied.few, applied.counted, length-map ps message_of);
  closes = Spells-number p next number;
}

-- packets arrived, and the session and the snapshot's reader took them
pub record Hearing (start : Client) (old new : Option (List ℕ)) (count : ℕ) (c : Client) (load : Load) : Type 0 where
  pub payloads : List (List ℕ)
  pub came : Came 1 start old new count c payloads
  pub applied : Applied payloads load.taken load.market
  pub taking : load.stage ≡ Taking

-- no packets arrived at first
pub hearing_first : (start : Client) (bytes : Option (List ℕ)) (load : Load) → start.connection.stage ≡ stage.Before → load ≡ begun → IsGood load.market → laid load.market ≡ load.market
    → Hearing start bytes bytes 0 start load
hearing_first start bytes load before is good in_order = record {
  payloads = [];
  came = came_first 1 start bytes before;
  applied = record {
    none = λ k within. absurd (omega arith);
    fits = tt;
    left = sym in_order ∙ ap (λ l. laid l.market) is;
    good = subst (λ l. IsGood l.market) is good;
    counted = sym (ap (λ l. l.taken) is);
    few = let none = ap (λ l. l.taken) is in omega arith;
  };
  taking = ap (λ l. l.stage) is;
}

-- one more packet arrived, which did not close the snapshot
module _ (start : Client) (old mid new : Option (List ℕ)) (count : ℕ) (c : Client) (load after : Load) (so_far : Hearing start old mid count c load) (packet : Packet) (block_read : List ℕ)
    (room : is_enough count ≡ false) (fits : IsPayload block_read) (consumed : Consumes mid new (block block_read)) (spelled : PacketSpells packet block_read Server) where
  abbrev later : Client
  later = client_after_packet c packet 0

  abbrev More : List (List ℕ) → Type 0
  More payloads = (came : Came 1 start old new (count + 1) later payloads) × (came.packets ≡ so_far.came.packets ++ packet ∷ [])

  more : (answer : ClientAct) → client_answer c packet ≡ answer → GoesOn 1 answer → More (heard_by answer so_far.payloads)
  more = came_by 1 start old mid new count c so_far.payloads so_far.came packet block_read room fits consumed spelled

  heard_more : (payloads : List (List ℕ)) → More payloads → Applied payloads after.taken after.market → after.stage ≡ Taking → Hearing start old new (count + 1) later after
  heard_more payloads came applied taking = record { payloads = payloads; came = came.0; applied = applied; taking = taking }

  same_load : (payloads : List (List ℕ)) → after ≡ load → Applied payloads load.taken load.market → Applied payloads after.taken after.market
  same_load payloads is applied = subst (λ l. Applied payloads l.taken l.market) (sym is) applied

  took_data : (payload : List ℕ) (taken : Option ℕ) → Loads load payload (Ok taken) after → false ≡ is_some taken → Applied (so_far.payloads ++ payload ∷ []) after.taken after.market × (after.stage ≡ Taking)
  took_data payload (Some next) loads unclosed = absurd (let no_one : ⊥ = cc in no_one)
  took_data payload None loads unclosed =
      let took = subst (λ s. TakesAt s load payload (Ok None) after) so_far.taking loads in
      (subst (λ n. Applied (so_far.payloads ++ payload ∷ []) n after.market) (sym took.1) (applied_on so_far.payloads load.taken load.market after.market payload so_far.applied took.0), took.2)

  heard_answer : (answer : ClientAct) → client_answer c packet ≡ answer → TakesAnswer answer load false after → Hearing start old new (count + 1) later after
  heard_answer act.Nothing is (unclosed, same) =
      heard_more so_far.payloads (more act.Nothing is tt) (same_load so_far.payloads same so_far.applied) (ap (λ l. l.stage) same ∙ so_far.taking)
  heard_answer (act.Accepted next) is (one, unclosed, same) =
      heard_more so_far.payloads (more (act.Accepted next) is one) (same_load so_far.payloads same so_far.applied) (ap (λ l. l.stage) same ∙ so_far.taking)
  heard_answer (act.Data number payload) is (taken, loads, unclosed) =
      let took = took_data payload taken loads unclosed in heard_more (so_far.payloads ++ payload ∷ []) (more (act.Data number payload) is tt) took.0 took.1
  heard_answer answer is takes = absurd takes

  -- or it closed it: its message was the End of Snapshot
  closed_by : (payload : List ℕ) (taken : Option ℕ) → Loads load payload (Ok taken) after → true ≡ is_some taken
      → (next : ℕ) × (closing_number payload ≡ Some next) × (after.market ≡ load.market) × (after.stage ≡ Closed next)
  closed_by payload None loads closed = absurd (let no_one : ⊥ = cc in no_one)
  closed_by payload (Some next) loads closed =
      let took = subst (λ s. TakesAt s load payload (Ok (Some next)) after) so_far.taking loads in
      (next, took.0.1, took.0.0, took.2)

  -- then its reader finishes
  unfinished : (payload : List ℕ) (taken : Option ℕ) → Loads load payload (Ok taken) after → true ≡ is_some taken → (back : Load) → Finishes after (Err back) → ⊥
  unfinished payload taken loads closed back finishes =
      let (next, number_is, market, at_end) = closed_by payload taken loads closed in
      finishes.1 next at_end

  not_failed : (answer : ClientAct) → TakesAnswer answer load true after → (back : Load) → Finishes after (Err back) → ⊥
  not_failed act.Nothing (unclosed, same) back finishes = let no_one : ⊥ = cc in no_one
  not_failed (act.Accepted next) (one, unclosed, same) back finishes = let no_one : ⊥ = cc in no_one
  not_failed (act.Data number payload) (taken, loads, closed) back finishes = unfinished payload taken loads closed back finishes
  not_failed answer takes back finishes = absurd takes

  finished_by : (answer : ClientAct) → TakesAnswer answer load true after → (result : Result (Content × ℕ) Load) → Finishes after result → IsOk result
  finished_by answer takes (Ok done) finishes = refl
  finished_by answer takes (Err back) finishes = absurd (not_failed answer takes back finishes)

  heard_end : (answer : ClientAct) → client_answer c packet ≡ answer → TakesAnswer answer load true after → (done : Content × ℕ) → Finishes after (Ok done) → Fetched start old new done
  unfolding closes
  heard_end act.Nothing is (unclosed, same) done finishes = absurd (let no_one : ⊥ = cc in no_one)
  heard_end (act.Accepted next) is (one, unclosed, same) done finishes = absurd (let no_one : ⊥ = cc in no_one)
  heard_end (act.Data number payload) is (taken, loads, closed) done finishes =
      let (next, number_is, market, at_end) = closed_by payload taken loads closed in
      let (came, packets) = more (act.Data number payload) is tt in
      let same : Closed next ≡ Closed done.1 = sym at_end ∙ finishes.1 in
      let numbers : next ≡ done.1 = cc in (
        so_far.payloads ++ payload ∷ [],
        heard_of 1 start old new (count + 1) later (so_far.payloads ++ payload ∷ []) came,
        (
          map message_of so_far.payloads,
          closes so_far.payloads load.taken load.market payload done.1 so_far.applied (number_is ∙ ap (λ n. Some n) numbers),
          All-map_rec IsMessage message_of so_far.payloads so_far.applied.fits,
          finishes.0 ∙ market ∙ so_far.applied.left,
          (so_far.came.packets, packets ∙ ap (λ p. so_far.came.packets ++ p ∷ []) (only_data c packet number payload is)),
        ),
      )
  heard_end answer is takes done finishes = absurd takes

-- the next packet was taken
pub hearing_on : (start : Client) (old mid new : Option (List ℕ)) (count : ℕ) (c later : Client) (load after : Load) → Hearing start old mid count c load
    → TakesPacket (is_enough count) c load mid new (Ok false) later after → Hearing start old new (count + 1) later after
hearing_on start old mid new count c c_after load after so_far (packet, (room, (payload, fits, consumed, spelled)), is, takes) =
    subst (λ s. Hearing start old new (count + 1) s after) (sym is)
    (heard_answer start old mid new count c load after so_far packet payload room fits consumed spelled (client_answer c packet) refl takes)

pub hearing_closed : (start : Client) (old mid new : Option (List ℕ)) (count : ℕ) (c later : Client) (load after : Load) → Hearing start old mid count c load
    → TakesPacket (is_enough count) c load mid new (Ok true) later after → (done : Content × ℕ) → Finishes after (Ok done) → Receives start old new (Ok done)
hearing_closed start old mid new count c c_after load after so_far (packet, (room, (payload, fits, consumed, spelled)), is, takes) done finishes =
    heard_end start old mid new count c load after so_far packet payload room fits consumed spelled (client_answer c packet) refl takes done finishes

-- and the snapshot's reader finishes
pub hearing_finishes : (start : Client) (old mid new : Option (List ℕ)) (count : ℕ) (c later : Client) (load after : Load) → Hearing start old mid count c load
    → TakesPacket (is_enough count) c load mid new (Ok true) later after → (result : Result (Content × ℕ) Load) → Finishes after result → IsOk result
hearing_finishes start old mid new count c c_after load after so_far (packet, (room, (payload, fits, consumed, spelled)), is, takes) result finishes =
    finished_by start old mid new count c load after so_far packet payload room fits consumed spelled (client_answer c packet) takes result finishes

-- the snapshot's reader has taken these messages
loaded : (payloads : List (List ℕ)) (load : Load) → Applied payloads load.taken load.market → load.stage ≡ Taking → load ≡ load_of payloads
loaded payloads load applied taking = λ i. record { taken = sym applied.counted i; market = applied.left i; stage = taking i }

-- the fetch ends at the next packet
pub hearing_ends : (start : Client) (old mid new : Option (List ℕ)) (count : ℕ) (c later : Client) (load after : Load) (fault_met : SoupFault) → Hearing start old mid count c load
    → TakesPacket (is_enough count) c load mid new (Err fault_met) later after → Receives start old new (Err fault_met)
hearing_ends start old mid new count c c_after load after fault_met so_far ends = (
  so_far.payloads,
  mid,
  heard_of 1 start old mid count c so_far.payloads so_far.came,
  so_far.applied.none,
  so_far.applied.fits,
  (
    after,
    subst (λ n. EndsFetch (is_enough n) (after_packets start so_far.came.packets) (load_of so_far.payloads) mid new fault_met after) (sym so_far.came.counted)
        (subst (λ s. EndsFetch (is_enough count) s (load_of so_far.payloads) mid new fault_met after) so_far.came.session
        (subst (λ l. EndsFetch (is_enough count) c l mid new fault_met after) (loaded so_far.payloads load so_far.applied so_far.taking) ends)),
  ),
)
