use Rattle.std.proofs.Common.{refl, subst}
use Rattle.std.specs.String.{string_bytes}
use Rattle.itch_commands.specs.Runs.{IsWritten}
use Rattle.itch_commands.proofs.WrittenLocates.{last_run}
use Rattle.itch_commands.proofs.runs.Runs.end.Goals as goal

pub returns-in-Some : goal.returns-in-Some
returns-in-Some g c = λ set so_far.
    let old = c.args.self in
    last_run set (string_bytes old.list) old.is_first 65536 c.in-Some.begin 65535
    (subst (λ begun. IsWritten set (string_bytes old.list) old.is_first begun 65536) c.in-Some.is so_far) refl (string_bytes c.push.new.self.list) c.in_ok-push.ensures.text refl
