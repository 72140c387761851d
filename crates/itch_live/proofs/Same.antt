-- Equal markets are answered with the same bytes.
use Rattle.std.proofs.Common.{◌≡◌, ℕ, List, [], ◌∷◌, ◌++◌, map, drop, ap}
use Rattle.itch_codec.specs.declared.message.Message.{Message}
use Rattle.itch_codec.specs.declared.message.Message.TheVariants as message
use Rattle.itch_frame.specs.Blocks.{blocks}
use Rattle.itch_market.specs.Content.{Content}
use Rattle.itch_snapshot.specs.Snapshot.{snap}
use Rattle.itch_soup.specs.Packets.{packet_spelling}
use Rattle.itch_soup.specs.Sending.{session_packets}
use Rattle.itch_live.specs.SnapshotClients.{session_bytes}

pub same_bytes : (m n : Content) (next : ℕ) → snap m ≡ snap n → session_bytes m next ≡ session_bytes n next
same_bytes m n next same =
    ap (λ (xs : List Message). blocks (map packet_spelling (session_packets (drop 0 (xs ++ message.End next ∷ []))))) same
