use Rattle.std.proofs.Common.{◌≡◌, ◌∙◌, ◌+◌, ◌-◌, [], Some, ℕ, get_or, length, sym, ap, arith}
use Rattle.std.proofs.lemmas.Bool.{eqb-true, not-false, not-true}
use Rattle.std.proofs.lemmas.Option.{same_Some}
use Rattle.mrt_graph.specs.Certificate.{certificate_of}
use Rattle.mrt_graph.specs.steps.FoldedRows.{waypoint}
use Rattle.mrt_graph.specs.Related.{are_unrelated}
use Rattle.mrt_graph.proofs.Waypoints.{at_top, head_at, head_there, turn_on, turn_related}
use Rattle.mrt_graph.proofs.unfolded.waypoint.Goals as goal

pub returns-then-are_related : goal.returns-then-are_related
returns-then-are_related c =
    let cert = certificate_of c.args.nodes.now [] [] in
    let told = c.are_related.ensures cert (sym c.requires.index) in
    let related = not-true (are_unrelated cert c.args.s c.loop.by) (sym told ∙ c.if-are_related.true) in
    sym c.loop.invariant.on ∙ turn_related cert c.args.s (length c.args.nodes.now + 1 - c.loop.counter) c.loop.by (omega (arith, c.loop-test.true)) related

pub returns-then-eq : goal.returns-then-eq
returns-then-eq c =
    let nodes = c.args.nodes.now in
    let cert = certificate_of nodes [] [] in
    let told = c.are_related.ensures cert (sym c.requires.index) in
    let far = not-false (are_unrelated cert c.args.s c.loop.by) (sym told ∙ c.if-are_related.false) in
    let head = head_at nodes c.loop.by c.get.result c.index-nodes-get.result c.loop.invariant.within c.get.ensures.value in
    let own : (get_or nodes c.get.result c.index-nodes-get.result).head ≡ c.loop.by = eqb-true _ c.loop.by (sym c.if-eq.ensures) in
    sym c.loop.invariant.on
    ∙ at_top cert c.args.s (length nodes + 1 - c.loop.counter) c.loop.by far (head ∙ ap (λ (x : ℕ). Some x) own)
    ∙ head_at nodes c.args.s c.get-then-eq.result c.index-nodes-get-then-eq.result c.requires.source c.get-then-eq.ensures.value

pub loop-preserved : goal.loop-preserved
loop-preserved c =
    let nodes = c.args.nodes.now in
    let cert = certificate_of nodes [] [] in
    let told = c.are_related.ensures cert (sym c.requires.index) in
    let far = not-false (are_unrelated cert c.args.s c.loop.by) (sym told ∙ c.if-are_related.false) in
    let head = head_at nodes c.loop.by c.get.result c.index-nodes-get.result c.loop.invariant.within c.get.ensures.value in
    let there = head_there cert c.loop.by c.requires.kept c.loop.invariant.within in
    let same : there.0 ≡ (get_or nodes c.get.result c.index-nodes-get.result).head = same_Some there.0 _ (sym there.1.0 ∙ head) in
    let left : length nodes + 1 - (c.loop.counter + 1) + 1 ≡ length nodes + 1 - c.loop.counter = omega (arith, c.loop-test.true) in
    record {
      within = omega (arith, there.1.1, same);
      on =
          sym (turn_on cert c.args.s (length nodes + 1 - (c.loop.counter + 1)) c.loop.by (get_or nodes c.get.result c.index-nodes-get.result).head far head)
          ∙ ap (λ (k : ℕ). waypoint cert c.args.s k c.loop.by) left ∙ c.loop.invariant.on;
    }

pub returns : goal.returns
returns c =
    let nodes = c.args.nodes.now in
    let cert = certificate_of nodes [] [] in
    let none : length nodes + 1 - c.loop.counter ≡ 0 = omega (arith, c.loop-test.false) in
    sym c.loop.invariant.on ∙ ap (λ (k : ℕ). waypoint cert c.args.s k c.loop.by) none
    ∙ head_at nodes c.args.s c.get-2.result c.index-nodes-get-2.result c.requires.source c.get-2.ensures.value
