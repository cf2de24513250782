use Rattle.mrt_graph.proofs.IdPlaces.{place_tells, told}
use Rattle.mrt_graph.proofs.id_places.place_of.Goals as goal

pub returns-clause-place : goal.returns-clause-place
returns-clause-place c =
    let facts = c.binary_search.ensures in
    rw c.ok.ensures.value (place_tells c.args.ids.now c.args.id c.binary_search.result c.requires facts.bound facts.position)

pub returns-clause-found : goal.returns-clause-found
returns-clause-found c = (told c.args.ids.now c.args.id c.ok.result c.requires (returns-clause-place c)).found

pub returns-clause-within : goal.returns-clause-within
returns-clause-within c = (told c.args.ids.now c.args.id c.ok.result c.requires (returns-clause-place c)).within

pub returns-clause-none : goal.returns-clause-none
returns-clause-none c = (told c.args.ids.now c.args.id c.ok.result c.requires (returns-clause-place c)).none
