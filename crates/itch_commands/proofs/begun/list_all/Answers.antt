use Rattle.itch_commands.proofs.ListedBlocks.{fewer, listed_all, listed_more, listed_none}
use Rattle.itch_commands.proofs.begun.list_all.Goals as goal

pub loop-payload-init : goal.loop-payload-init
loop-payload-init g c = listed_none c.args.directory.now c.args.choice.now

pub loop-payload-smaller : goal.loop-payload-smaller
loop-payload-smaller g c = fewer c.loop-payload.rest.now c.in-Some.payload.now c.in-Some.after.now c.in-Some.ensures.1

pub loop-payload-preserved : goal.loop-payload-preserved
loop-payload-preserved g c =
    listed_more c.args.directory.now c.args.choice.now c.loop-payload.rest.now c.loop-payload.choice c.loop-payload.invariant c.in-Some.payload.now c.in-Some.after.now
    c.in-Some.ensures.0 c.in-Some.ensures.1 c.list_payload.new.choice c.list_payload.ensures

pub returns : goal.returns
returns g c = λ payloads are. listed_all c.args.directory.now c.args.choice.now c.loop-payload.rest.now c.loop-payload.choice c.loop-payload.invariant c.in_default.ensures payloads are
