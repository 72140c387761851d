use Rattle.itch_market.proofs.OneStop.{stops_place, stops_reason}
use Rattle.itch_market.proofs.laws.one_stop.Goals as goal

pub returns-clause-place : goal.returns-clause-place
returns-clause-place c = stops_place

pub returns-clause-reason : goal.returns-clause-reason
returns-clause-reason c = stops_reason
