use Rattle.std.proofs.Common.{◌≡◌, ◌++◌, ◌-◌, length, take, ap, ap₂, ◌∙◌, arith}
use Rattle.itch_checkpoints.proofs.PassedBytes.{first_on}
use Rattle.itch_checkpoints.proofs.passed.keep_first.Goals as goal

pub returns : goal.returns
returns g c = λ bytes is.
    let size : c.len.result ≡ length c.args.first.now.items = omega arith in
    c.in_ok-extend_from_slice.ensures.items ∙ ap₂ (λ xs n. xs ++ take n c.args.piece.now) is c.min.ensures
    ∙ first_on c.saturating_sub-room.result bytes c.args.piece.now (c.saturating_sub-room.ensures ∙ ap (λ n. 65536 - n) (size ∙ ap length is))
