use Rattle.std.proofs.Common.{length, ap, refl, arith}
use Rattle.lfa_alt.proofs.PathsFound.{all_paths, arc_left, arc_more, no_path}
use Rattle.lfa_alt.proofs.neighbour_paths.paths.Goals.{in-Some+in_ok-push_over, in_default}
use Rattle.lfa_alt.proofs.neighbour_paths.paths.Goals as goal

pub loop-number-init : goal.loop-number-init
loop-number-init c = rw c.new-paths.ensures.items (no_path c.args.area.now c.args.source)

pub loop-number-preserved : goal.loop-number-preserved
loop-number-preserved c = elim c.match-own_arc.branch [
  | in-Some+in_ok-push_over w ↦
      rw w.paths-is (arc_more c.args.area.now c.args.source c.loop-number.number c.loop-number.paths.items w.push_over.new.paths.items c.loop-number.invariant
      (rw w.in-Some.ensures.some.0 at w.in_ok-push_over.ensures))
  | in_default w ↦
      rw w.paths-is (arc_left c.args.area.now c.args.source c.loop-number.number c.loop-number.paths.items
      (λ arc at. w.in_default.ensures.none refl arc (rw c.requires.arcs at)) c.loop-number.invariant)
]

pub returns : goal.returns
returns c =
    all_paths c.args.area.now c.args.source c.loop-number.number c.loop-number.paths.items c.sort_unstable_by_key.new.self.items
    (omega (arith, c.loop-number-test.false, ap length c.requires.arcs)) c.loop-number.invariant c.sort_unstable_by_key.ensures.permutation
