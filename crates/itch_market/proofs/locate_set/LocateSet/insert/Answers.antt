use Rattle.std.proofs.Common.{◌≡◌, ℕ, Bool, true, false, cond, ◌||◌, ◌==◌, ap, ◌∙◌, arith}
use Rattle.std.specs.List.{list_any}
use Rattle.std.specs.Ordering.{nat_cmp, eq_by_cmp}
use Rattle.std.proofs.lemmas.Bool.Decides.{nat_tests}
use Rattle.itch_market.specs.Wanted.{Wanted, has}
use Rattle.itch_market.proofs.locate_set.LocateSet.insert.Goals as goal

-- a locate is the inserted one, or was already in the set
put_in : (x b y z : Bool) → x ≡ false → z ≡ cond b true y → (x || z) ≡ (b || (x || y))
put_in true b y z e h = cc
put_in false true y z e h = h
put_in false false y z e h = h

test : (locate other : ℕ) → eq_by_cmp nat_cmp locate other ≡ (other == locate)
test locate other = grind (arith, nat_tests)

pub returns-clause-ok : goal.returns-clause-ok
returns-clause-ok g c = λ other.
    put_in c.self.inside.all (other == c.args.locate) (list_any (eq_by_cmp nat_cmp other) c.self.inside.listed.keys) _ c.if-self.false
    (c.in_ok-_is_new.ensures.updates.0 other ∙ ap (λ b. cond b true (list_any (eq_by_cmp nat_cmp other) c.self.inside.listed.keys)) (test c.args.locate other))
    ∙ ap (λ (w : Wanted). other == c.args.locate || has w other) c.self.view_is
