use Rattle.std.proofs.Common.{refl}
use Rattle.std.proofs.lemmas.List.{append_assoc}
use Rattle.itch_checkpoints.proofs.listing.push_cursor.Goals as goal

pub returns : goal.returns
returns g c =
    simp (
      c.in_ok-extend_from_slice.ensures.items,
      c.in_ok-push_field.ensures,
      c.in_ok-push_place.ensures,
      append_assoc,
    ) refl
