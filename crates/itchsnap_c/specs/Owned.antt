-- The ownership of a pointer to an object.
use Rattle.std.specs.Prelude.{Option, Some, None}
use base.Fml.{Fml, ftrue}
use denote.RattleType.{RattleType}
use denote.RawPtr.{Ptr}
use Rattle.std.specs.Box.Ownership.{box_owns}
use Rattle.std.specs.contracts.impls.GlobalAllocator.TheImpl as heap
use Rattle.itchsnap_c.specs.contracts.object.Object as object
use Rattle.itchsnap_c.specs.declared.object.Object.{Object}

-- the type of the objects in C's handles
abbrev pub object_row : RattleType
object_row = object.the_row

-- the object at the pointer, and the right to free its block; nothing if there is no object
abbrev pub kept_owns : Ptr → Option Object → Fml
kept_owns p None = ftrue
kept_owns p (Some x) = box_owns (λ ty q. heap.ghosts.dealloc_token (record { memory = record { seal = tt } }) ty q) object_row p x
