use Rattle.std.proofs.Common.{◌≡◌, ℕ, Ok, Err, Some, ap, ◌∙◌, subst}
use Rattle.itch_frame.specs.Reading.{bytes_left}
use Rattle.itch_market.specs.Wanted.{Wanted, has}
use Rattle.itch_snapshot.specs.AsRead.{ReadsMarket, as_read}
use Rattle.itch_join.specs.HalfReads.{JoinsAt, half_of}
use Rattle.itch_join.specs.States.{Joining, State, new}
use Rattle.itch_join.proofs.joiner.Joiner.read_snapshot.Goals as goal

pub returns-in-Err-clause-joins : goal.returns-in-Err-clause-joins
returns-in-Err-clause-joins g c =
    let from = bytes_left g.R.CountedRead.remaining c.args.reader.now in
    let to = bytes_left g.R.CountedRead.remaining c.read_messages.new.reader in
    (subst (λ (w : Wanted). ReadsMarket (as_read (has w)) from to (Err c.in-Err.fault)) (ap (λ (k : Joining). k.set) c.self.view_is) c.in-Err.ensures.steps, c.requires)

pub returns-in-Ok-clause-joins : goal.returns-in-Ok-clause-joins
returns-in-Ok-clause-joins g c =
    let i = c.self.inside in
    let s : State = record { wait = i.wait; half = half_of i.half; joined = i.joined; halt = i.halt } in
    let first : s ≡ new = ap (λ (k : Joining). k.state) c.self.view_is ∙ c.requires in
    let from = bytes_left g.R.CountedRead.remaining c.args.reader.now in
    let to = bytes_left g.R.CountedRead.remaining c.read_messages.new.reader in
    let m = c.in-Ok.market in
    let n = c.in-Ok.next in
    let same : c.value.result ≡ n = c.value.ensures.value in
    let now : State = record s { joined = Some (record { next = c.value.result; market = m }) } in
    subst (λ (k : Joining). JoinsAt (ReadsMarket (as_read (has k.set)) from to) (Ok tt) now) c.self.view_is
    ((m, n), c.in-Ok.ensures.steps, ap (λ (k : State). record k { joined = Some (record { next = c.value.result; market = m }) }) first ∙ ap (λ (x : ℕ). let k : State = record new { joined = Some (record { next = x; market = m }) } in k) same)
