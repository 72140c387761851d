use Rattle.std.proofs.Common.{IsSome, refl, sym, ◌∙◌, subst}
use Rattle.itch_book.proofs.PlaceLemmas.{position_there}
use Rattle.itch_book.proofs.priority.index_of.Goals as goal

pub unwrap-requires : goal.unwrap-requires
unwrap-requires c = subst IsSome (sym (c.place_in.ensures ∙ position_there c.args.reference c.args.orders.now c.requires)) refl

pub returns-clause-place : goal.returns-clause-place
returns-clause-place c =
    let there = c.place_in.ensures ∙ position_there c.args.reference c.args.orders.now c.requires in cc
