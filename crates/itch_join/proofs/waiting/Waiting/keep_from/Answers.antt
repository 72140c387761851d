use Rattle.std.proofs.Common.{◌≡◌, ap, sym, ◌∙◌, subst, refl, not, nat_lt}
use Rattle.std.specs.List.{filter}
use Rattle.std.specs.FinMap as map
use Rattle.itch_join.specs.Waits.{AreNumbers}
use Rattle.itch_join.proofs.Waits.{is_kept, all_kept, first_dropped, fewer, none_kept, waits_from, numbers_from}
use Rattle.itch_join.proofs.waiting.Waiting.keep_from.Goals as goal

pub loop-number-init : goal.loop-number-init
loop-number-init g c = refl

pub invariant_of-self : goal.invariant_of-self
invariant_of-self g c =
    let here = c.loop-number.self-inside.messages in
    let left : here.entries ≡ filter (is_kept c.args.next) c.self.inside.messages.entries =
    sym (all_kept c.args.next c.in-Some.number.now c.if-number-next.true here.entries c.in-Some.ensures.all_from) ∙ c.loop-number.invariant in
    subst AreNumbers (sym (waits_from c.self.inside.messages here c.args.next left)) (numbers_from _ c.args.next c.self.invariant)

pub returns-then-number-next : goal.returns-then-number-next
returns-then-number-next g c =
    let here = c.loop-number.self-inside.messages in
    let left : here.entries ≡ filter (is_kept c.args.next) c.self.inside.messages.entries =
    sym (all_kept c.args.next c.in-Some.number.now c.if-number-next.true here.entries c.in-Some.ensures.all_from) ∙ c.loop-number.invariant in
    waits_from c.self.inside.messages here c.args.next left ∙ ap (λ w. map.retain_keys w (λ i. not (nat_lt i c.args.next))) c.self.view_is

pub loop-number-smaller-else-number-next : goal.loop-number-smaller-else-number-next
loop-number-smaller-else-number-next g c =
    fewer c.pop_first.result c.loop-number.self-inside.messages.entries c.pop_first.new.self.entries (c.pop_first.ensures.variant.1 (c.in-Some.ensures.variant.0 refl)) c.pop_first.ensures.removal

pub loop-number-preserved-else-number-next : goal.loop-number-preserved-else-number-next
loop-number-preserved-else-number-next g c =
    first_dropped c.args.next c.pop_first.result c.loop-number.self-inside.messages.entries c.pop_first.new.self.entries _ (c.pop_first.ensures.variant.1 (c.in-Some.ensures.variant.0 refl)) c.pop_first.ensures.removal c.in-Some.ensures.first
    c.if-number-next.false
    ∙ c.loop-number.invariant

pub loop-number-preserved : goal.loop-number-preserved
loop-number-preserved g c =
    first_dropped c.args.next c.pop_first.result c.loop-number.self-inside.messages.entries c.pop_first.new.self.entries _ (c.pop_first.ensures.variant.1 (c.in-Some.ensures.variant.0 refl)) c.pop_first.ensures.removal c.in-Some.ensures.first
    c.if-number-next.false
    ∙ c.loop-number.invariant

pub invariant_of-self-in_default : goal.invariant_of-self-in_default
invariant_of-self-in_default g c =
    let here = c.loop-number.self-inside.messages in
    let left : here.entries ≡ filter (is_kept c.args.next) c.self.inside.messages.entries =
    none_kept c.args.next here.entries (λ some. absurd (let e = c.in_default.ensures.variant.1 some in cc)) ∙ c.loop-number.invariant in
    subst AreNumbers (sym (waits_from c.self.inside.messages here c.args.next left)) (numbers_from _ c.args.next c.self.invariant)

pub returns : goal.returns
returns g c =
    let here = c.loop-number.self-inside.messages in
    let left : here.entries ≡ filter (is_kept c.args.next) c.self.inside.messages.entries =
    none_kept c.args.next here.entries (λ some. absurd (let e = c.in_default.ensures.variant.1 some in cc)) ∙ c.loop-number.invariant in
    waits_from c.self.inside.messages here c.args.next left ∙ ap (λ w. map.retain_keys w (λ i. not (nat_lt i c.args.next))) c.self.view_is
