use Rattle.std.proofs.Common.{◌+◌, ◌∙◌, ℕ, List, get_or, length, subst, sym, ap, arith}
use Rattle.std.proofs.lemmas.List.{get_or-replicate}
use Rattle.link_direction.specs.steps.Counting.{AreCounts, entered_by}
use Rattle.link_direction.proofs.counting.entering.Goals as goal

pub loop-e-init : goal.loop-e-init
loop-e-init c = record {
  one_each = omega (arith, c.in_ok-counts.ensures.len, c.in_ok-counts.counts.ok.0, c.node_count.ensures.count);
  each = λ v within.
      ap (λ (xs : List ℕ). get_or xs v 0) (c.in_ok-counts.ensures.items_if_clones_equal (λ y same. same))
      ∙ get_or-replicate c.node_count.result v 0 0 (omega (arith, within, c.node_count.ensures.count));
}

pub count-requires : goal.count-requires
count-requires c = record {
  link = omega (arith, c.new.ensures, c.loop-e-test.true, c.link_count-e-end.ensures.count);
  kept = c.node_count.ensures.kept;
  marks = c.requires;
  counts = subst (λ (e : ℕ). AreCounts (entered_by c.args.g.now c.args.marks.now) e (length c.args.g.now.ids) c.loop-e.counts.items) (sym c.new.ensures) c.loop-e.invariant;
}

pub loop-e-preserved : goal.loop-e-preserved
loop-e-preserved c =
    subst (λ (e : ℕ). AreCounts (entered_by c.args.g.now c.args.marks.now) (e + 1) (length c.args.g.now.ids) c.count.new.counts.items) c.new.ensures c.count.ensures

pub returns-clause-counts : goal.returns-clause-counts
returns-clause-counts c =
    subst (λ (count : ℕ). AreCounts (entered_by c.args.g.now c.args.marks.now) count (length c.args.g.now.ids) c.loop-e.counts.items)
    (omega (arith, c.loop-e-test.false, c.loop-e.auto.e-end, c.link_count-e-end.ensures.count)) c.loop-e.invariant

pub returns-clause-kept : goal.returns-clause-kept
returns-clause-kept c = c.node_count.ensures.kept
