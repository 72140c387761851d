use Rattle.std.proofs.Common.{◌≡◌, ◌+◌, subst, arith}
use Rattle.std.specs.String.{string_bytes}
use Rattle.itch_commands.specs.Runs.{IsWritten}
use Rattle.itch_commands.proofs.WrittenLocates.{ok_so}
use Rattle.itch_commands.proofs.runs.write_locates.Goals as goal
use Rattle.itch_commands.proofs.runs.write_locates.Goals.{else-loop-locate-test, then-loop-locate-test+in_ok-pass+else-locate-lt65535}

pub returns : goal.returns
returns g c =
    let set = c.args.set.now in
    let runs = c.loop-locate-test.runs in
    let whole : IsWritten set (string_bytes runs.list) runs.is_first runs.begun 65536 = elim c.loop-locate-test.branch [
      | else-loop-locate-test w ↦ absurd (omega arith)
      | then-loop-locate-test+in_ok-pass+else-locate-lt65535 w ↦
          let all : c.loop-locate.locate + 1 ≡ 65536 = omega arith in
          rw w.runs-is (subst (λ n. IsWritten set (string_bytes w.pass.new.self.list) w.pass.new.self.is_first w.pass.new.self.begun n) all (w.in_ok-pass.ensures set c.loop-locate.invariant w.contains.ensures))
    ] in
    ok_so _ _ c.end.result (λ list is. is set whole) c.end.ensures
