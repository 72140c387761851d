use Rattle.itch_live.proofs.Visits.{visits}
use Rattle.itch_live.proofs.OneVisit.{one_visit}
use Rattle.itch_live.proofs.laws.clients_apart.Goals as goal

pub returns-clause-alone : goal.returns-clause-alone
returns-clause-alone g c = λ begun past d k h. visits g.W.CountedWrite.contents g.W.CountedWrite.failures k begun past d h

pub returns-clause-decides : goal.returns-clause-decides
returns-clause-decides g c = λ begun start past other d e k i h also same.
    one_visit g.W.CountedWrite.contents g.W.CountedWrite.failures begun start past other d e k i h also same
