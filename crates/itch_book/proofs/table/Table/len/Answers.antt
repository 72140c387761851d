use Rattle.std.proofs.Common.{subst}
use Rattle.itch_book.specs.Table.{at, IsCount}
use Rattle.itch_book.proofs.table.Table.len.Goals as goal

pub returns : goal.returns
returns g c = subst (λ t. IsCount (at t) c.self.inside.len) c.self.view_is c.self.invariant.count
