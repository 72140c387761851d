use Rattle.itch_depth.proofs.changes.follow_part.Goals as goal

pub write_changes-requires-clause-following : goal.write_changes-requires-clause-following
write_changes-requires-clause-following g c = c.new-followed.ensures.following c.args.request
