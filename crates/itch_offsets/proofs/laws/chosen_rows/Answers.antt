use Rattle.std.proofs.Common.{None}
use Rattle.itch_day.proofs.DayCursors.{in_part}
use Rattle.itch_day.specs.DayCursors.{is_before, is_in, is_within}
use Rattle.itch_commands.specs.Starts.{is_beyond}
use Rattle.itch_offsets.proofs.Beginnings.{and_first, and_second, begins, most}
use Rattle.itch_offsets.proofs.laws.chosen_rows.Goals as goal

pub returns-clause-found : goal.returns-clause-found
returns-clause-found c = λ range rows. begins range None rows tt

pub returns-clause-most : goal.returns-clause-most
returns-clause-most c = λ range rows. most range None rows

pub returns-clause-early : goal.returns-clause-early
returns-clause-early c = λ range cursor payloads is may.
    let both = and_second (is_beyond range.start cursor) (is_in range.limit cursor) may in
    in_part range.limit cursor payloads is (and_first (is_within range.limit.after cursor.count) (is_before range.limit.until cursor.latest) both)
    (and_second (is_within range.limit.after cursor.count) (is_before range.limit.until cursor.latest) both)
