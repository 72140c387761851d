use Rattle.itch_depth.proofs.Followings.{begun}
use Rattle.itch_depth.proofs.changes.book.Followed.new.Goals as goal

pub returns-clause-following : goal.returns-clause-following
returns-clause-following g c = λ request. rw (c.new.ensures, c.new-2.ensures, c.new-3.ensures) (begun request)
