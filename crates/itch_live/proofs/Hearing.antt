-- Packets from a client.
use Rattle.std.proofs.Common.{◌≡◌, ℕ, false, List, [], Option, sym, ap, subst, ◌∙◌, inl, inr}
use Rattle.itch_frame.specs.Blocks.{IsBlockOf}
use Rattle.itch_frame.specs.Cuts.{IsTake}
use Rattle.itch_soup.specs.declared.packet.LoginRequest.{LoginRequest}
use Rattle.itch_soup.specs.declared.server.ServerAct.{ServerAct}
use Rattle.itch_soup.specs.Servers.{Server}
use Rattle.itch_live.specs.SnapshotClients.{SnapshotClient, after_act, moved_by_words, is_deaf, Judges, HearsPayload, Hears}

-- a payload has the effect that the session's judgement has
hearing : (g h : SnapshotClient) (payload : List ℕ) (now : ℕ) (answer : ServerAct × Option LoginRequest) (s : Server) → Judges g.session payload now answer s
    → h ≡ after_act answer.0 answer.1 now (record g { held = []; session = s; moved = moved_by_words g now }) → HearsPayload g payload now h
hearing g h payload now answer s (inl (packet, spelled, is, after)) turned = inl (packet, spelled, rw (is, after) at turned)
hearing g h payload now answer s (inr (fault, at, is, after)) turned = inr (fault, at, rw (is, after) at turned)

-- a complete packet arrives: its held bytes are dropped, and the client has made progress
pub hears_packet : (inside g h : SnapshotClient) (piece held payload dropped : List ℕ) (now n moved : ℕ) (answer : ServerAct × Option LoginRequest) (s : Server)
    → inside ≡ g → is_deaf g ≡ false → IsTake inside.held piece n held → IsBlockOf payload held → Judges inside.session payload now answer s → dropped ≡ [] → moved ≡ moved_by_words g now
    → h ≡ after_act answer.0 answer.1 now (record inside { held = dropped; session = s; moved = moved }) → Hears g piece now n h
hears_packet inside g h piece held payload dropped now n moved answer s same hears took block judged none moves turned =
    let after = turned ∙ ap (λ bytes. after_act answer.0 answer.1 now (record inside { held = bytes; session = s; moved = moved })) none
    ∙ ap (λ m. after_act answer.0 answer.1 now (record inside { held = []; session = s; moved = m })) (moves ∙ ap (λ x. moved_by_words x now) (sym same)) in
    subst (λ x. Hears x piece now n h) same
    (inr (ap is_deaf same ∙ hears, (held, took, inl (payload, block, hearing inside h payload now answer s judged after))))
