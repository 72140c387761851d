use Rattle.std.proofs.Common.{◌≡◌, ◌||◌, Bool, true, false, bytes_eq, refl, sym, ap, ◌∙◌, arith, rules}
use Rattle.std.proofs.lemmas.Str.Pattern.{split_parts}
use Rattle.itch_commands.specs.Stocks.{names_of}
use Rattle.itch_commands.proofs.StockNames.{first_name, one_name}
use Rattle.itch_depth.specs.Own.{has_name}
use Rattle.itch_depth.proofs.pass.locates.has_name.Goals as goal

or_neither : (b : Bool) → (b || false) ≡ b
or_neither true = refl
or_neither false = refl

pub loop-name-init : goal.loop-name-init
loop-name-init c = record { so_far = refl; utf8 = c.utf8.names }

pub loop-name-preserved : goal.loop-name-preserved
loop-name-preserved c =
    let cut = rw c.in-Some.is at (split_parts 44 c.loop-name.rest.now c.split_once.result c.split_once.ensures.cases (omega arith)) in
    let stock = c.args.stock.now in
    let more = c.in-Some.more.now in
    let other : bytes_eq stock c.in-Some.name.now ≡ false = sym c.eq.ensures ∙ c.if-eq.false in
    record {
      so_far = c.loop-name.invariant.so_far ∙ ap (λ names. has_name (names_of names) stock) cut.0 ∙ ap (λ names. has_name names stock) (first_name c.in-Some.name.now more cut.1)
          ∙ ap (λ b. b || has_name (names_of more) stock) other;
      utf8 = search rules;
    }

pub returns-then-eq : goal.returns-then-eq
returns-then-eq c =
    let cut = rw c.in-Some.is at (split_parts 44 c.loop-name.rest.now c.split_once.result c.split_once.ensures.cases (omega arith)) in
    let stock = c.args.stock.now in
    let more = c.in-Some.more.now in
    let same : bytes_eq stock c.in-Some.name.now ≡ true = sym c.eq.ensures ∙ c.if-eq.true in
    sym (c.loop-name.invariant.so_far ∙ ap (λ names. has_name (names_of names) stock) cut.0 ∙ ap (λ names. has_name names stock) (first_name c.in-Some.name.now more cut.1)
    ∙ ap (λ b. b || has_name (names_of more) stock) same)

pub returns : goal.returns
returns c =
    let whole = rw c.in_default.is at (split_parts 44 c.loop-name.rest.now c.split_once.result c.split_once.ensures.cases (omega arith)) in
    let stock = c.args.stock.now in
    let rest = c.loop-name.rest.now in
    c.eq-2.ensures
    ∙ sym (c.loop-name.invariant.so_far ∙ ap (λ names. has_name names stock) (one_name rest whole) ∙ or_neither (bytes_eq stock rest))
