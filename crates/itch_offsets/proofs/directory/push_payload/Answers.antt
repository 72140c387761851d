use Rattle.std.proofs.Common.{refl}
use Rattle.std.proofs.lemmas.List.{append_assoc}
use Rattle.itch_offsets.proofs.directory.push_payload.Goals as goal

pub returns : goal.returns
returns g c =
    simp (
      c.in_ok-extend_from_slice-3.ensures.items,
      c.in_ok-extend_from_slice-2.ensures.items,
      c.as_bytes.ensures.value,
      c.in_ok-digits.ensures,
      c.in_ok-extend_from_slice.ensures.items,
      append_assoc,
    ) refl
