-- Fetching a served snapshot gives that snapshot.
use Rattle.std.proofs.Common.{◌≡◌, ℕ, ◌+◌, ◌-◌, ◌^◌, ◌<◌, ◌≤◌, nat_lt, true, List, [], ◌∷◌, ◌++◌, map, length, Some, refl, sym, ap, ◌∙◌, append_assoc, append-nil, arith, length-append}
use Rattle.std.proofs.lemmas.Bool.Decides.{nat_tests}
use Rattle.std.proofs.lemmas.List.{map-append, length-map}
use Rattle.itch_codec.specs.declared.message.Message.{Message}
use Rattle.itch_codec.specs.declared.message.Message.TheVariants as message
use Rattle.itch_codec.specs.Fields.{IsAlpha}
use Rattle.itch_codec.specs.Messages.{spelling}
use Rattle.itch_codec.specs.Widths.{IsSequence}
use Rattle.itch_codec.proofs.Spelling.{Spells-spelling}
use Rattle.itch_frame.specs.Blocks.{IsPayload, block, blocks}
use Rattle.itch_frame.proofs.BlockLemmas.{blocks-append}
use Rattle.itch_book.proofs.Lists.{All-append_rec}
use Rattle.itch_market.specs.Content.{Content, laid}
use Rattle.itch_market.specs.GoodMarkets.{IsGood}
use Rattle.itch_market.specs.Runs.{AreMessages}
use Rattle.itch_market.specs.SameMarkets.{Same}
use Rattle.itch_market.proofs.SameMarkets.{laid_is_same, laid_same}
use Rattle.itch_snapshot.specs.Files.{AreSpelled}
use Rattle.itch_snapshot.specs.Snapshot.{snap}
use Rattle.itch_snapshot.proofs.OneSnapshot.{snap_follows, run-snap}
use Rattle.itch_snapshot.proofs.SpelledMessages.{snap_messages}
use Rattle.itch_soup.specs.declared.client.ClientAct.{ClientAct}
use Rattle.itch_soup.specs.declared.client.ClientAct.TheVariants as act
use Rattle.itch_soup.specs.declared.connection.SessionStage.{SessionStage}
use Rattle.itch_soup.specs.declared.connection.SessionStage.TheVariants as stage
use Rattle.itch_soup.specs.declared.login.Credentials.{Credentials}
use Rattle.itch_soup.specs.declared.login.ServerConfig.{ServerConfig}
use Rattle.itch_soup.specs.declared.origin.Origin.TheVariants.{Server}
use Rattle.itch_soup.specs.declared.packet.Packet.{Packet}
use Rattle.itch_soup.specs.declared.packet.Packet.TheVariants as is
use Rattle.itch_soup.specs.declared.server.ServerAct.TheVariants as server
use Rattle.itch_soup.specs.Packets.{PacketSpells, packet_spelling}
use Rattle.itch_soup.specs.Clients.{Client, client_turn, client_after_packet, login_of}
use Rattle.itch_soup.specs.Servers.{acceptance}
use Rattle.itch_soup.specs.Sending.{messages, data_packet, session_packets, packets_for, verdict, served, FitPackets}
use Rattle.itch_soup.specs.Fetching.{asking, ArePackets, news, numbered, SpellsSnapshot, Fetched, noted}
use Rattle.itch_soup.proofs.LoginBytes.{acceptance-spelled}
use Rattle.itch_soup.proofs.SentSessions.{snap_fits, packet_fits}
use Rattle.itch_soup.proofs.SessionNames.{server_session-fits}

-- the bytes written for an acceptance encode it
pub accepted-spelled : (config : ServerConfig) (n : ℕ) → IsAlpha 10 config.session → 1 ≤ n → n ≤ 10 ^ 19
    → PacketSpells (is.LoginAccepted (acceptance config n)) (packet_spelling (is.LoginAccepted (acceptance config n))) Server
accepted-spelled config n alpha low high = acceptance-spelled (acceptance config n) _ (server_session-fits config.session alpha) low high refl

-- the bytes written for a message encode its packet
data-spelled : (x : Message) → PacketSpells (data_packet x) (packet_spelling (data_packet x)) Server
data-spelled x = record { first = refl; side = refl; size = omega arith; parts = (sym (append-nil (spelling x)), tt) }

pub data_packets : (xs : List Message) → FitPackets xs → ArePackets (map data_packet xs) (map packet_spelling (map data_packet xs))
data_packets [] fit = tt
data_packets (x ∷ xs) fit = ((fit.0, data-spelled x), data_packets xs fit.1)

-- after the acceptance, a session gives each message the next number
data_turn : (at : SessionStage) (next : ℕ) (payload : List ℕ) → at ≡ stage.Accepted → nat_lt next (10 ^ 19) ≡ true
    → client_turn next at (is.SequencedData payload) ≡ (act.Data next payload, stage.Accepted, next + 1)
data_turn at next payload e k = rw e (rw k refl)

pub data_news : (c : Client) (n : ℕ) (xs : List Message) → c.connection.stage ≡ stage.Accepted → c.next ≡ n → n + length xs ≤ 10 ^ 19 → news c (map data_packet xs) ≡ numbered n (map spelling xs)
data_news c n [] at next few = refl
data_news c n (x ∷ xs) at next few =
    let room : nat_lt c.next (10 ^ 19) ≡ true = grind (arith, nat_tests) in
    let turn = data_turn c.connection.stage c.next (spelling x) at room in
    let later = client_after_packet c (data_packet x) 0 in
    ap (λ (t : ClientAct × SessionStage × ℕ). noted t.0 (news later (map data_packet xs))) turn
    ∙ ap (λ k. act.Data k (spelling x) ∷ news later (map data_packet xs)) next
    ∙ ap (λ rest. act.Data n (spelling x) ∷ rest) (data_news later (n + 1) xs (ap (λ (t : ClientAct × SessionStage × ℕ). t.1) turn) (ap (λ (t : ClientAct × SessionStage × ℕ). t.2) turn ∙ ap (λ k. k + 1) next) (omega arith))

-- the served packets are those that the client receives, and then the end of the session
pub whole_answer : (first : Packet) (xs : List Message) (more : List ℕ)
    → blocks (map packet_spelling (first ∷ session_packets xs)) ++ more ≡ blocks (map packet_spelling (first ∷ map data_packet xs)) ++ (block (90 ∷ []) ++ more)
whole_answer first xs more =
    let heard = first ∷ map data_packet xs in
    ap (λ bytes. bytes ++ more)
    (ap blocks (map-append packet_spelling heard (is.EndOfSession ∷ []))
    ∙ blocks-append (map packet_spelling heard) (packet_spelling is.EndOfSession ∷ [])
    ∙ ap (λ last. blocks (map packet_spelling heard) ++ last) (append-nil (block (90 ∷ []))))
    ∙ append_assoc (blocks (map packet_spelling heard)) (block (90 ∷ [])) more

spelled_list : (xs : List Message) → AreMessages xs → AreSpelled xs (map spelling xs)
spelled_list [] fit = tt
spelled_list (x ∷ xs) fit = (Spells-spelling x fit.0, spelled_list xs fit.1)

module _ (m : Content) (next : ℕ) (config : ServerConfig) (good : IsGood m) (number : IsSequence next) (alpha : IsAlpha 10 config.session)
    (few : length (snap m) < 10 ^ 19 - 1) where
  pub all_fit : FitPackets (messages m next)
  all_fit = All-append_rec (λ x. IsPayload (packet_spelling (data_packet x))) (snap m) (message.End next ∷ []) (snap_fits m 0 good) (packet_fits (message.End next) number (λ kept. kept), tt)

  pub count : length (messages m next) ≡ length (snap m) + 1
  count = length-append (snap m) (message.End next ∷ [])

  abbrev first : Packet
  first = is.LoginAccepted (acceptance config 1)

  abbrev heard : List Packet
  heard = first ∷ map data_packet (messages m next)

  closes : SpellsSnapshot (map spelling (messages m next)) (snap m) next
  closes = record {
    before = map spelling (snap m);
    last = spelling (message.End next);
    whole = map-append spelling (snap m) (message.End next ∷ []);
    spelled = spelled_list (snap m) (snap_messages m good);
    follows = snap_follows m good;
    few = omega arith;
    closes = Spells-spelling (message.End next) number;
  }

  -- the answer to an accepted login for number 1, followed by any bytes, is fetched
  pub served_fetched : (credentials : Credentials) (more : List ℕ) → verdict m next config (login_of (asking credentials)) ≡ server.Accept 1
      → Fetched (asking credentials) (Some (served m next config (login_of (asking credentials)) ++ more)) (Some (block (90 ∷ []) ++ more)) (laid m, next)
  unfolding closes spelling
  served_fetched credentials more accepted = (
    map spelling (messages m next),
    record {
      packets = heard;
      read = map packet_spelling heard;
      bytes =
          ap (λ a. blocks (map packet_spelling (packets_for m next config a)) ++ more) accepted
          ∙ whole_answer first (messages m next) more;
      spelled = ((omega (arith, (accepted-spelled config 1 alpha (omega arith) (omega arith)).size), accepted-spelled config 1 alpha (omega arith) (omega arith)), data_packets (messages m next) all_fit);
      few = omega (arith, count, length-map (messages m next) data_packet);
      heard = ap (λ rest. act.Accepted 1 ∷ rest) (data_news (client_after_packet (asking credentials) first 0) 1 (messages m next) refl refl (omega (arith, count)));
    },
    (
      snap m,
      closes,
      snap_messages m good,
      sym (ap laid (run-snap m good) ∙ laid_same (laid m) m (laid_is_same m good)),
      (first ∷ map data_packet (snap m), ap (λ rest. first ∷ rest) (map-append data_packet (snap m) (message.End next ∷ []))),
    ),
  )

  pub same_market : Same (laid m) m
  same_market = laid_is_same m good
