use Rattle.itch_offsets.proofs.DirectoryLines.{all_appended, fewer, none_appended, one_appended}
use Rattle.itch_offsets.proofs.directory.push_directory.Goals as goal

pub loop-payload-init : goal.loop-payload-init
loop-payload-init g c = none_appended c.args.directory.now c.args.lines.now.items

pub loop-payload-smaller : goal.loop-payload-smaller
loop-payload-smaller g c = fewer c.loop-payload.rest.now c.in-Some.payload.now c.in-Some.after.now c.in-Some.ensures.1

pub loop-payload-preserved : goal.loop-payload-preserved
loop-payload-preserved g c =
    one_appended c.args.directory.now c.args.lines.now.items c.loop-payload.rest.now c.loop-payload.lines.items c.loop-payload.invariant c.in-Some.payload.now c.in-Some.after.now
    c.in-Some.ensures.0 c.in-Some.ensures.1 c.push_payload.new.lines.items c.in_ok-push_payload.ensures

pub returns : goal.returns
returns g c = λ payloads rest are.
    all_appended c.args.directory.now c.args.lines.now.items c.loop-payload.rest.now c.loop-payload.lines.items c.loop-payload.invariant c.in_default.ensures payloads rest are
