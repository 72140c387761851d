use Rattle.std.proofs.Common.{◌<◌, ◌≤◌, length, arith}
use Rattle.itch_book.specs.Referred.{references_of}
use Rattle.itch_book.proofs.PlacedLemmas.{led_none, led_more, led_all, known_at, reference_at, many}
use Rattle.itch_book.proofs.references.write_places.Goals as goal

pub loop-place-init : goal.loop-place-init
loop-place-init g c = led_none _ _ c.requires.known

pub set-requires-clause-known : goal.set-requires-clause-known
set-requires-clause-known g c =
    let xs = c.args.orders.now in let i = c.loop-place.place in let x = c.index-orders-place.result in
    let within : i < length (references_of xs) = let all = many xs in let t = c.loop-place-test.true in omega arith in
    known_at _ _ i x.order.reference c.loop-place.invariant within (reference_at xs i x c.loop-place-test.true c.index-orders-place.is)

pub loop-place-preserved : goal.loop-place-preserved
loop-place-preserved g c =
    let xs = c.args.orders.now in let i = c.loop-place.place in let x = c.index-orders-place.result in
    let within : i < length (references_of xs) = let all = many xs in let t = c.loop-place-test.true in omega arith in
    led_more _ _ _ i x.order.reference c.requires.known.distinct c.loop-place.invariant within (reference_at xs i x c.loop-place-test.true c.index-orders-place.is) c.set.ensures

pub returns : goal.returns
returns g c =
    let xs = c.args.orders.now in let i = c.loop-place.place in
    let end : length (references_of xs) ≤ i = let all = many xs in let t = c.loop-place-test.false in omega arith in
    led_all _ _ i c.loop-place.invariant end
