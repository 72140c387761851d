use Rattle.std.proofs.Common.{[], ◌∷◌, ◌++◌, sym, ap, subst, ◌∙◌, map, arith, rules}
use Rattle.std.proofs.lemmas.List.{map-append}
use Rattle.std.proofs.lemmas.Str.Pattern.{split_parts}
use Rattle.itch_commands.specs.Stocks.{names_of}
use Rattle.itch_commands.proofs.SoughtNames.{Named, named_on, named_last}
use Rattle.itch_commands.proofs.stock_names.names_in.Goals as goal

pub loop-name-init : goal.loop-name-init
loop-name-init g c = record {
  so_far = sym (ap (λ items. map (λ n. n.now) items ++ names_of c.args.text.now) c.new-names.ensures.items);
  utf8 = c.utf8.text;
}

pub loop-name-preserved : goal.loop-name-preserved
loop-name-preserved g c =
    let cut = rw c.in-Some.is at (split_parts 44 c.loop-name.rest.now c.split_once.result c.split_once.ensures.cases (omega arith)) in record {
      so_far = subst (λ names. Named c.args.text.now names c.in-Some.more.now)
          (sym (ap (map (λ n. n.now)) c.in_ok-push.ensures.items ∙ map-append (λ n. n.now) c.loop-name.names.items (c.in-Some.name ∷ [])))
          (named_on c.args.text.now (map (λ n. n.now) c.loop-name.names.items) c.loop-name.rest.now c.in-Some.name.now c.in-Some.more.now c.loop-name.invariant.so_far cut.0 cut.1);
      utf8 = search rules;
    }

pub returns : goal.returns
returns g c =
    let whole = rw c.in_default.is at (split_parts 44 c.loop-name.rest.now c.split_once.result c.split_once.ensures.cases (omega arith)) in
    ap (map (λ n. n.now)) c.in_ok-push-2.ensures.items ∙ map-append (λ n. n.now) c.loop-name.names.items (c.loop-name.rest ∷ [])
    ∙ named_last c.args.text.now (map (λ n. n.now) c.loop-name.names.items) c.loop-name.rest.now c.loop-name.invariant.so_far whole
