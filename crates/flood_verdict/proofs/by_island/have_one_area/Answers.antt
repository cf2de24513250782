use Rattle.flood_verdict.proofs.by_island.have_one_area.Goals as goal

pub returns-clause-area : goal.returns-clause-area
returns-clause-area c =
    λ _. c.newest_of_the_same_give_one_area.ensures _ _ (c.holds_the_same.ensures.of_the_same c.if-not-holds_the_same.false)
