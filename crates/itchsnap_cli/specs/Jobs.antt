-- The jobs of the program.
use Rattle.std.specs.Prelude.{ℕ, Bool, true, false, List, Option, Some, None, option_map}
use Rattle.itchsnap_cli.specs.declared.command_line.job.Job.{Job}
use Rattle.itchsnap_cli.specs.declared.command_line.job.Job.TheVariants.{Files, Index, Indexed, History, Points, Books, Changes, Serve, Fetch, Live, Follow, Feed, Status, Completions}
use Rattle.itchsnap_cli.specs.declared.command_line.indexed.IndexedWork.{IndexedWork}
use Rattle.itchsnap_cli.specs.declared.command_line.indexed.IndexedWork.TheVariants as work
use Rattle.itch_commands.specs.declared.request.Command.TheVariants.{Cut}
use Rattle.itch_sessions.specs.declared.follow_form.FollowForm.{FollowForm}
use Rattle.itch_sessions.specs.declared.follow_form.FollowForm.TheVariants as form
use Rattle.itch_commands.specs.Requests.{is_binary}

-- the path of the output file for a snapshot, or of the folder for several, if one is named
abbrev pub output_of : Job → Option (List ℕ)
output_of (Files request progress output) = option_map (λ path. path.now) output
output_of (Index arguments) = option_map (λ path. path.now) arguments.output
output_of (Indexed arguments) = option_map (λ path. path.now) arguments.output
output_of (Points arguments) = Some arguments.folder.now
output_of (Fetch server login from output) = option_map (λ path. path.now) output
output_of job = None

-- a form that is not text
abbrev pub is_blocks : FollowForm → Bool
is_blocks form.Json = false
is_blocks form.Blocks = true
is_blocks form.Whole = true

-- `cut` with an index, whose output is a day file
abbrev pub cuts : IndexedWork → Bool
cuts (work.Command (Cut limit filters)) = true
cuts work = false

-- the jobs whose output is a snapshot or a day file, which are not text
abbrev pub writes_snapshot : Job → Bool
writes_snapshot (Files request progress output) = is_binary request
writes_snapshot (Index arguments) = false
writes_snapshot (Indexed arguments) = cuts arguments.work
writes_snapshot (History arguments) = false
writes_snapshot (Points arguments) = false
writes_snapshot (Books arguments) = false
writes_snapshot (Changes arguments) = false
writes_snapshot (Serve file kind address login session count progress) = false
writes_snapshot (Fetch server login from output) = true
writes_snapshot (Live live) = false
writes_snapshot (Follow follow) = is_blocks follow.form
writes_snapshot (Feed feed) = false
writes_snapshot (Status status) = false
writes_snapshot (Completions shell) = false
