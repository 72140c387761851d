use Rattle.itch_market.proofs.DayFiles.{day_count, day_few, day_ends, day_clean, day_messages, day_follows, clean_stops}
use Rattle.itch_market.proofs.laws.day_files.Goals as goal

pub returns-clause-count : goal.returns-clause-count
returns-clause-count c = day_count

pub returns-clause-few : goal.returns-clause-few
returns-clause-few c = day_few

pub returns-clause-ends : goal.returns-clause-ends
returns-clause-ends c = day_ends

pub returns-clause-clean : goal.returns-clause-clean
returns-clause-clean c = day_clean

pub returns-clause-messages : goal.returns-clause-messages
returns-clause-messages c = day_messages

pub returns-clause-follows : goal.returns-clause-follows
returns-clause-follows c = day_follows

pub returns-clause-stops : goal.returns-clause-stops
returns-clause-stops c = clean_stops
