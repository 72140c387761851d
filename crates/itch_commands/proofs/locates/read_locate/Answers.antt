-- answers
use Rattle.std.proofs.Common.{◌≡◌, refl, rules}
use borrow.Author.Tests.{tests}
use Rattle.std.specs.Char.{is_ascii_digit}
use Rattle.std.specs.List.{list_all}
use Rattle.std.proofs.lemmas.Iterator.Adapters.{YieldsList-from_bytes}
use Rattle.std.proofs.lemmas.Iterator.Search.{all_from_yields_List}
use Rattle.itch_commands.proofs.LocateLists.{not_digits, digits_parsed, fault_mapped}
use Rattle.itch_commands.proofs.locates.read_locate.Goals as goal

pub returns-then-not-all : goal.returns-then-not-all
returns-then-not-all c =
    let decided : c.all.result ≡ list_all is_ascii_digit c.args.text.now =
    all_from_yields_List is_ascii_digit _ _ c.all.result c.all.ensures.ran (YieldsList-from_bytes c.args.text.now c.bytes.ensures.rest) (λ x b q k. search (rules, tests)) in
    (refl, not_digits c.args.text.now c.all.result decided c.if-not-all.true)

pub returns : goal.returns
returns c =
    let decided : c.all.result ≡ list_all is_ascii_digit c.args.text.now =
    all_from_yields_List is_ascii_digit _ _ c.all.result c.all.ensures.ran (YieldsList-from_bytes c.args.text.now c.bytes.ensures.rest) (λ x b q k. search (rules, tests)) in
    let parsed = digits_parsed c.args.text.now c.all.result c.parse.result decided c.if-not-all.false c.parse.ensures.value.0 in
    fault_mapped c.args.text.now c.parse.result c.map_err.result c.map_err.ensures.cases (λ e fault h. search (rules, tests)) parsed
