use Rattle.std.proofs.Common.{◌≡◌, refl, arith}
use Rattle.itch_records.proofs.First.{ends_at_first, joins_at_first}
use Rattle.itch_records.proofs.resuming.at_the_first.Goals as goal

pub returns-in-Ok-clause-first : goal.returns-in-Ok-clause-first
returns-in-Ok-clause-first g c = λ is.
    let first : c.in-Some.next ≡ 1 = grind arith in
    let begins = joins_at_first _ c.args.joiner.now.cap _ _ _ _ c.snapshot.ensures.step is (ends_at_first _ c.in-Some.next c.encode-payload.ensures.bytes first) in (refl, begins.1, begins.2)

pub returns-in-Err-clause-first : goal.returns-in-Err-clause-first
returns-in-Err-clause-first g c = λ is.
    let first : c.in-Some.next ≡ 1 = grind arith in
    let begins = joins_at_first _ c.args.joiner.now.cap _ _ _ _ c.snapshot.ensures.step is (ends_at_first _ c.in-Some.next c.encode-payload.ensures.bytes first) in
    let joined = begins.0 in let failed = c.in-Err.is in let no_one : ⊥ = cc in absurd no_one
