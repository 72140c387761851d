-- A client's visit determines the bytes sent to it.
use Rattle.std.proofs.Common.{◌≡◌, ℕ, List, Option, None, Some, sym, ◌∙◌, subst}
use Rattle.itch_frame.specs.declared.tally.Failures.{Failures}
use Rattle.itch_live.specs.SnapshotClients.{SnapshotClient}
use Rattle.itch_live.specs.Slots.{client_at}
use Rattle.itch_live.specs.Follows.{Following}
use Rattle.itch_live.specs.LiveServers.{LiveServer, Event, History, sent_at}
use Rattle.itch_live.specs.Visits.{Visit, visit_at, IsVisit}
use Rattle.itch_live.proofs.OneStory.{one_story}
use Rattle.itch_live.proofs.Visits.{visits}

one_sent : (visit : Option Visit) (slot place : Option SnapshotClient) (sent other : List ℕ) → IsVisit visit slot sent → IsVisit visit place other → sent ≡ other
one_sent None None None sent other none nothing = none ∙ sym nothing
one_sent None None (Some h) sent other none is = absurd is
one_sent None (Some g) place sent other is also = absurd is
one_sent (Some v) None place sent other is also = absurd is
one_sent (Some v) (Some g) None sent other is also = absurd also
one_sent (Some v) (Some g) (Some h) sent other story tale = (one_story v.begun.config v.begun.now v.past g h sent other story tale).1

module _ {W : Type 0} (contents : W → Option (List ℕ)) (failures : W → Failures) where
  pub one_visit : (begun start : Following) (past other : List (Event W)) (d e : LiveServer) (k i : ℕ) → History contents failures begun past d → History contents failures start other e
      → visit_at k past ≡ visit_at i other → sent_at k past ≡ sent_at i other
  one_visit begun start past other d e k i h also same =
      one_sent (visit_at i other) (client_at d.slots k) (client_at e.slots i) (sent_at k past) (sent_at i other)
      (subst (λ v. IsVisit v (client_at d.slots k) (sent_at k past)) same (visits contents failures k begun past d h)) (visits contents failures i start other e also)
