use Rattle.std.proofs.Common.{sym, ◌∙◌, arith}
use Rattle.itch_offsets.proofs.Entries.{entry_length}
use Rattle.itch_offsets.proofs.directory.DirectoryBlocks.keep.Goals as goal

pub push-requires : goal.push-requires
push-requires g c =
    omega (arith, entry_length c.args.payload.now c.in-StockDirectory.field-0 c.requires.clean (sym c.in-StockDirectory.is ∙ c.requires.message))
