-- The effect of a call on a handle's joiner, from the effect of the call on the joiner.
use Rattle.std.proofs.Common.{Option, Some, None}
use Rattle.itch_join.specs.States.{Joining}
use Rattle.itchsnap_c.specs.declared.object.Object.{Object}
use Rattle.itchsnap_c.specs.declared.object.Object.TheVariants.{Market, Joiner, Client, Server}
use Rattle.itchsnap_c.specs.Objects.{OnHandle, AtJoiner}

pub at_joiner_weaker : {A : Type 0} (wrong : A) (P Q : Joining → A → Joining → Type 0) (old new : Option Object) (answer : A)
    → ((j : Joining) (a : A) (k : Joining) → P j a k → Q j a k) → OnHandle wrong (AtJoiner wrong P) old answer new → OnHandle wrong (AtJoiner wrong Q) old answer new
at_joiner_weaker wrong P Q (Some (Market m)) (Some new) answer weaker met = met
at_joiner_weaker wrong P Q (Some (Joiner j)) (Some new) answer weaker met = (met.0, weaker j answer met.0 met.1, met.2)
at_joiner_weaker wrong P Q (Some (Client c)) (Some new) answer weaker met = met
at_joiner_weaker wrong P Q (Some (Server s)) (Some new) answer weaker met = met
at_joiner_weaker wrong P Q (Some old) None answer weaker met = met
at_joiner_weaker wrong P Q None new answer weaker met = met
