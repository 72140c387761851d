use Rattle.itch_commands.proofs.lookup.none_found.Goals as goal

pub returns : goal.returns
returns g c = c.in_ok-found.ensures.items_if_clones_equal (λ y same. same)
