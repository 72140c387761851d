-- The bytes of a snapshot (GLIMPSE 5.0): the blocks of its messages, and the block of End of Snapshot.
use Rattle.std.specs.Prelude.{ℕ, List, map}
use Rattle.itch_codec.specs.Messages.{spelling}
use Rattle.itch_codec.specs.declared.message.Message.TheVariants as is
use Rattle.itch_frame.specs.Blocks.{block, blocks}
use Rattle.itch_market.specs.Content.{Content}
use Rattle.itch_snapshot.specs.Snapshot.{snap}

-- the canonical bytes of a market: the blocks of its snapshot list, without End of Snapshot
abbrev pub canon : Content → List ℕ
canon m = blocks (map spelling (snap m))

-- the block of End of Snapshot, with the number of the first message that the snapshot does not contain
abbrev pub closing : ℕ → List ℕ
closing next = block (spelling (is.End next))
