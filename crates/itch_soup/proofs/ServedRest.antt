-- Fetching a rest that is served from a number on gives that rest.
use Rattle.std.proofs.Common.{◌≡◌, ℕ, zero, suc, ◌+◌, ◌-◌, ◌^◌, ◌<◌, ◌≤◌, List, [], ◌∷◌, ◌++◌, map, length, take, drop, None, Some, refl, sym, ap, ◌∙◌, arith}
use Rattle.std.proofs.lemmas.List.{map-append, length-map, length-drop, drop-append-le, take-append-drop}
use Rattle.std.specs.List.{AllByRecursion}
use Rattle.itch_codec.specs.declared.message.Message.{Message}
use Rattle.itch_codec.specs.declared.message.Message.TheVariants as message
use Rattle.itch_codec.specs.Fields.{IsAlpha}
use Rattle.itch_codec.specs.Messages.{spelling}
use Rattle.itch_codec.specs.Widths.{IsSequence}
use Rattle.itch_codec.proofs.Spelling.{Spells-spelling}
use Rattle.itch_frame.specs.Blocks.{block, blocks}
use Rattle.itch_frame.proofs.BlockLemmas.{blocks-append, blocks-push}
use Rattle.itch_market.specs.Content.{Content, empty, laid}
use Rattle.itch_market.specs.Effects.{effect}
use Rattle.itch_market.specs.GoodMarkets.{IsGood}
use Rattle.itch_market.specs.Reasons.{reason}
use Rattle.itch_market.specs.Runs.{AreMessages, FollowsFrom}
use Rattle.itch_snapshot.specs.Bytes.{canon, closing}
use Rattle.itch_snapshot.specs.Snapshot.{snap}
use Rattle.itch_snapshot.specs.TakenMessages.{number_in}
use Rattle.itch_snapshot.proofs.OneSnapshot.{snap_follows, snap-laid}
use Rattle.itch_snapshot.proofs.SpelledMessages.{snap_messages}
use Rattle.itch_soup.specs.declared.client.ClientAct.TheVariants as act
use Rattle.itch_soup.specs.declared.login.Credentials.{Credentials}
use Rattle.itch_soup.specs.declared.login.ServerConfig.{ServerConfig}
use Rattle.itch_soup.specs.declared.packet.Packet.{Packet}
use Rattle.itch_soup.specs.declared.packet.Packet.TheVariants as is
use Rattle.itch_soup.specs.declared.server.ServerAct.TheVariants as server
use Rattle.itch_soup.specs.Packets.{packet_spelling}
use Rattle.itch_soup.specs.Clients.{client_after_packet, login_of}
use Rattle.itch_soup.specs.Servers.{acceptance}
use Rattle.itch_soup.specs.Sending.{messages, messages_from, data_packet, packets_for, verdict, served, FitPackets}
use Rattle.itch_soup.specs.Fetching.{asking_from}
use Rattle.itch_soup.specs.FetchingRest.{SpellsOther, SpellsRest, FetchedRest}
use Rattle.itch_soup.proofs.SentSessions.{drop_fits}
use Rattle.itch_soup.proofs.ServedIsFetched.{accepted-spelled, data_packets, data_news, whole_answer, all_fit, count}

-- messages that follow the order rules are not End of Snapshot
no_number : (m : Content) (x : Message) → reason m x ≡ None → number_in x ≡ None
no_number m (message.End next) follows = let no_one : ⊥ = cc in absurd no_one
no_number m x follows = refl

others_from : (m : Content) (k : ℕ) (xs : List Message) → AreMessages xs → FollowsFrom m xs → AllByRecursion SpellsOther (map spelling (drop k xs))
others_from m zero [] fit follows = tt
others_from m (suc k) [] fit follows = tt
others_from m zero (x ∷ xs) fit follows = ((x, Spells-spelling x fit.0, no_number m x follows.0), others_from (effect m x) zero xs fit.1 follows.1)
others_from m (suc k) (x ∷ xs) fit follows = others_from (effect m x) k xs fit.1 follows.1

module _ (m : Content) (next n : ℕ) (config : ServerConfig) (good : IsGood m) (number : IsSequence next) (alpha : IsAlpha 10 config.session)
    (few : length (snap m) < 10 ^ 19 - 1) (low : 1 ≤ n) (high : n ≤ length (messages m next)) where
  counted : length (messages m next) ≡ length (snap m) + 1
  counted = count m next config good number alpha few

  abbrev before : List Message
  before = drop (n - 1) (snap m)

  abbrev last : Message
  last = message.End next

  parts : messages_from n m next ≡ before ++ last ∷ []
  parts = drop-append-le (n - 1) (snap m) (last ∷ []) (omega (arith, high, counted))

  size : length (messages_from n m next) ≡ length (messages m next) - (n - 1)
  size = length-drop (n - 1) (messages m next)

  fits : FitPackets (messages_from n m next)
  fits = drop_fits (n - 1) (messages m next) (all_fit m next config good number alpha few)

  abbrev first : Packet
  first = is.LoginAccepted (acceptance config n)

  abbrev heard : List Packet
  heard = first ∷ map data_packet (messages_from n m next)

  closes : SpellsRest (map spelling (messages_from n m next))
  closes = record {
    before = map spelling before;
    last = spelling last;
    next = next;
    whole = ap (map spelling) parts ∙ map-append spelling before (last ∷ []);
    others = others_from empty (n - 1) (snap m) (snap_messages m good) (snap_follows m good);
    closes = Spells-spelling last number;
  }

  -- the answer to a login that is accepted from the requested number, followed by any bytes, is fetched
  pub served_rest : (credentials : Credentials) (more : List ℕ) → verdict m next config (login_of (asking_from n credentials)) ≡ server.Accept n
      → FetchedRest n (asking_from n credentials) (Some (served m next config (login_of (asking_from n credentials)) ++ more)) (Some (block (90 ∷ []) ++ more)) (blocks (map spelling (messages_from n m next)))
  unfolding closes spelling
  served_rest credentials more accepted =
      let spelled = accepted-spelled config n alpha low (omega (arith, high, counted, few)) in (
        map spelling (messages_from n m next),
        record {
          packets = heard;
          read = map packet_spelling heard;
          bytes =
              ap (λ a. blocks (map packet_spelling (packets_for m next config a)) ++ more) accepted
              ∙ whole_answer first (messages_from n m next) more;
          spelled = ((omega (arith, spelled.size), spelled), data_packets (messages_from n m next) fits);
          few = omega (arith, size, counted, few, length-map (messages_from n m next) data_packet);
          heard = ap (λ rest. act.Accepted n ∷ rest) (data_news (client_after_packet (asking_from n credentials) first 0) n (messages_from n m next) refl refl (omega (arith, size, counted, few, high, low)));
        },
        (
          closes,
          refl,
          (first ∷ map data_packet before, ap (λ rest. first ∷ rest) (ap (map data_packet) parts ∙ map-append data_packet before (last ∷ []))),
        ),
      )

-- the blocks before a number, and those from that number on
pub rest_joined : (m : Content) (next n : ℕ) → IsGood m
    → blocks (map spelling (take (n - 1) (messages m next))) ++ blocks (map spelling (messages_from n m next)) ≡ canon (laid m) ++ closing next
rest_joined m next n good =
    let front = take (n - 1) (messages m next) in
    let whole : blocks (map spelling (messages m next)) ≡ canon m ++ closing next =
    ap blocks (map-append spelling (snap m) (message.End next ∷ [])) ∙ blocks-push (map spelling (snap m)) (spelling (message.End next)) in
    sym (blocks-append (map spelling front) (map spelling (messages_from n m next)))
    ∙ ap blocks (sym (map-append spelling front (messages_from n m next)))
    ∙ ap (λ xs. blocks (map spelling xs)) (take-append-drop (n - 1) (messages m next))
    ∙ whole
    ∙ ap (λ xs. blocks (map spelling xs) ++ closing next) (sym (snap-laid m good))
