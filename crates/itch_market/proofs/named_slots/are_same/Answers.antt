use Rattle.std.proofs.Common.{◌≡◌, ℕ, ◌<◌, length, get_or, rules, ◌∙◌, ap}
use Rattle.itch_market.proofs.Slots.{same_number}
use Rattle.itch_market.proofs.named_slots.are_same.Goals as goal

pub returns : goal.returns
returns c =
    let long : length c.args.one ≡ 8 = search rules in
    let other_long : length c.args.other ≡ 8 = search rules in
    let fits : (i : ℕ) → get_or c.args.one i 0 < 256 = search rules in
    let other_fits : (i : ℕ) → get_or c.args.other i 0 < 256 = search rules in
    rw (c.from_be_bytes.ensures, c.from_be_bytes-2.ensures) (same_number c.args.one c.args.other long other_long fits other_fits)
