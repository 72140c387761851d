use Rattle.std.proofs.Common.{◌≡◌, refl}
use Rattle.std.proofs.lemmas.List.{append_assoc}
use Rattle.itch_status.proofs.response.head.Goals as goal

pub returns : goal.returns
returns c =
    simp (
      c.push-6.ensures.items,
      c.push-5.ensures.items,
      c.allow.ensures.text,
      c.as_u16.ensures.value,
      c.push_date.ensures.items,
      c.push_number.ensures.items,
      c.push-4.ensures.items,
      c.push-3.ensures.items,
      c.push-2.ensures.items,
      c.push_status.ensures.items,
      c.push.ensures.items,
      c.new-head.ensures,
      append_assoc,
    ) refl
