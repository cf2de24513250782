use Rattle.std.proofs.Common.{◌≡◌, ◌==◌, ◌++◌, ◌∙◌, ℕ, List, length, take, sym, ap, arith}
use Rattle.std.specs.List.{filter}
use Rattle.std.proofs.Math.Seq.{take-length}
use Rattle.area_graph.specs.declared.area_types.Arc.{Arc}
use Rattle.area_graph.specs.steps.Starts.{below}
use Rattle.primary_alt.proofs.AreaArcs.{all_arcs_below, arcs_more}
use Rattle.primary_alt.proofs.ArcStarts.{starts_at_zero}
use Rattle.primary_alt.proofs.of_area.all_arcs.Goals as goal

pub loop-s-init : goal.loop-s-init
loop-s-init c = record {
  count = c.count-count.ensures.count;
  filled = c.new-arcs.ensures.items ∙ ap (λ (n : ℕ). take n c.args.area.now.arcs) (sym (starts_at_zero c.args.area.now.arcs));
}

pub loop-s-preserved : goal.loop-s-preserved
loop-s-preserved c =
    let area = c.args.area.now in
    let row = c.arcs.ensures.value ∙ ap (λ (n : ℕ). filter (λ (arc : Arc). arc.tail == n) area.arcs) c.new.ensures in
    record {
      count = c.loop-s.invariant.count;
      filled = c.in_ok-extend_from_slice.ensures.items
          ∙ ap (λ (xs : List Arc). xs ++ c.arcs.result.now) c.loop-s.invariant.filled
          ∙ ap (λ (xs : List Arc). take (below c.loop-s.s area.arcs) area.arcs ++ xs) row
          ∙ arcs_more c.loop-s.s area c.count-count.ensures.kept;
    }

pub returns-clause-kept : goal.returns-clause-kept
returns-clause-kept c = c.count-count.ensures.kept

pub returns-clause-arcs : goal.returns-clause-arcs
returns-clause-arcs c =
    let area = c.args.area.now in
    let all : c.loop-s.s ≡ length area.ids = omega (arith, c.loop-s-test.false, c.loop-s.auto.s-end, c.loop-s.invariant.count) in
    c.loop-s.invariant.filled
    ∙ ap (λ (n : ℕ). take (below n area.arcs) area.arcs) all
    ∙ ap (λ (n : ℕ). take n area.arcs) (all_arcs_below area c.count-count.ensures.kept)
    ∙ take-length area.arcs
