use Rattle.std.proofs.Common.{OnOk, length, subst, ap, arith}
use Rattle.std.proofs.lemmas.Result.{on_ok_weaker}
use Rattle.area_graph.specs.Parts.{AreaParts}
use Rattle.primary_alt.specs.DistancesFrom.{AreDistancesFrom}
use Rattle.primary_alt.proofs.DistancesFound.{all_from}
use Rattle.primary_alt.proofs.searches.Searches.distances.Goals.{in-Ok, in-Err}
use Rattle.primary_alt.proofs.searches.Searches.distances.Goals as goal

pub distances_to-requires-clause-tails : goal.distances_to-requires-clause-tails
distances_to-requires-clause-tails c = λ arc has.
    omega (arith, c.self.invariant.tails arc has, c.requires.one_each, ap (λ (a : AreaParts). length a.ids) c.self.view_is)

pub returns-clause-distances : goal.returns-clause-distances
returns-clause-distances c = elim c.match-distances_to.branch [
  | in-Ok w ↦
      let found : OnOk c.distances_to.result (AreDistancesFrom c.args.self.now.arcs c.args.s c.distances_to.new.known.items) =
      subst (λ (a : AreaParts). OnOk c.distances_to.result (AreDistancesFrom a.arcs c.args.s c.distances_to.new.known.items)) c.self.view_is
      (on_ok_weaker c.distances_to.result (all_from c.self.inside.area.now.arcs c.self.inside.into.arcs.items c.args.s c.distances_to.new.known.items c.self.invariant.turned)
      c.distances_to.ensures.distances) in
      rw (w.result-is, w.known-is) (rw w.in-Ok.is at found)
  | in-Err w ↦ rw w.result-is tt
]
