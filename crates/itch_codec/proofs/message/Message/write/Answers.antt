-- The fields of a stock directory message are those of its layout.
use Rattle.itch_codec.proofs.message.Message.write.Goals as goal

pub returns-in-StockDirectory-clause-bytes : goal.returns-in-StockDirectory-clause-bytes
returns-in-StockDirectory-clause-bytes g c = rw c.in-StockDirectory.is c.write-in-StockDirectory.ensures.bytes
