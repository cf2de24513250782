use Rattle.mrt_graph.proofs.BlockPlaced.{one_block}
use Rattle.mrt_graph.proofs.relatives.BlockPlaces.place.Goals as goal

pub returns-in-Some-clause-related : goal.returns-in-Some-clause-related
returns-in-Some-clause-related c = λ w same.
    let p = c.args.self.now in
    one_block w p.relatives.now p.node c.args.t p.block same c.requires.places.both c.requires.places.within c.requires.target c.requires.places.block c.in-Some.ensures.own
