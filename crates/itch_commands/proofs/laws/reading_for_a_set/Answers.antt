use Rattle.itch_market.specs.Content.{empty}
use Rattle.itch_snapshot.proofs.AsRead.{read_number}
use Rattle.itch_commands.proofs.SetReadings.{refused_so, effect_so, memory_so, bad_so, after_so}
use Rattle.itch_commands.proofs.laws.reading_for_a_set.Goals as goal

pub returns-clause-refused : goal.returns-clause-refused
returns-clause-refused c = refused_so

pub returns-clause-effect : goal.returns-clause-effect
returns-clause-effect c = effect_so

pub returns-clause-memory : goal.returns-clause-memory
returns-clause-memory c = memory_so

pub returns-clause-number : goal.returns-clause-number
returns-clause-number c = read_number

pub returns-clause-first_bad : goal.returns-clause-first_bad
returns-clause-first_bad c = λ wanted feed. bad_so wanted empty feed

pub returns-clause-leaves : goal.returns-clause-leaves
returns-clause-leaves c = λ wanted ps. after_so wanted empty ps
