use Rattle.std.proofs.Common.{◌≡◌, ◌∙◌, ◌<◌, ℕ, true, Some, length, set, slice_get, sym, ap, subst, inl, inr, arith}
use Rattle.std.proofs.lemmas.Bool.{cases_eq}
use Rattle.std.proofs.lemmas.List.{length-set}
use Rattle.std.proofs.lemmas.Option.{same_Some, slice_get_within}
use Rattle.mrt_graph.proofs.ListPlaces.{set_elsewhere, set_there}
use Rattle.mrt_rows.specs.NearOf.{IsSoleOf}
use Rattle.mrt_rows.specs.steps.ListedDirections.{directions_by}
use Rattle.mrt_rows.proofs.SoleRows.{none_of_more}
use Rattle.mrt_rows.proofs.common.take_soles.Goals as goal

pub mark-requires : goal.mark-requires
mark-requires c =
    let v = c.new-v.result in
    let within : v < length c.args.rooted.now.graph.now.ids = omega (arith, c.loop-n-test.true, c.node_count-n-end.ensures.count, c.new-v.ensures) in
    omega (arith, c.place.ensures.head, c.requires.rooted.ordered.heads.head_within v within, c.loop-n.invariant.a_mark_each)

pub loop-n-preserved : goal.loop-n-preserved
loop-n-preserved c =
    let g = c.args.rooted.now.graph.now in
    let w = directions_by c.args.rooted.now in
    let n = c.loop-n.n in
    let soles = c.loop-n.soles in
    let sole = c.sole_of-sole.result in
    let within : n < length soles = omega (arith, c.loop-n-test.true, c.node_count-n-end.ensures.count, c.loop-n.invariant.a_sole_each) in
    let own : IsSoleOf g w n sole = subst (λ (v : ℕ). IsSoleOf g w v sole) c.new-v.ensures c.sole_of-sole.ensures in
    record {
      a_sole_each = length-set soles n sole ∙ c.loop-n.invariant.a_sole_each;
      a_mark_each = c.mark.ensures.one_each ∙ c.loop-n.invariant.a_mark_each;
      soles = λ v link below at. elim (cases_eq v n) [
        | inl same ↦
            let is : sole ≡ link =
            same_Some sole link (sym (set_there soles n sole within) ∙ subst (λ (x : ℕ). slice_get (set soles n sole) x ≡ Some link) same at) in
            subst (λ (x : ℕ). IsSoleOf g w v x) is (subst (λ (x : ℕ). IsSoleOf g w x sole) (sym same) own)
        | inr other ↦ c.loop-n.invariant.soles v link (omega (arith, below, other)) (sym (set_elsewhere soles n v sole other) ∙ at)
      ];
      marked = λ v below more. elim (cases_eq v n) [
        | inl same ↦
            subst (λ (h : ℕ). slice_get c.mark.new.marks h ≡ Some true) (c.place.ensures.head ∙ ap w.head (c.new-v.ensures ∙ sym same))
            (c.mark.ensures.marked (none_of_more g w v sole (subst (λ (x : ℕ). IsSoleOf g w x sole) (sym same) own) more))
        | inr other ↦ c.mark.ensures.stay (w.head v) (c.loop-n.invariant.marked v (omega (arith, below, other)) more)
      ];
    }

pub returns-clause-soles : goal.returns-clause-soles
returns-clause-soles c = record {
  one_each = c.loop-n.invariant.a_sole_each;
  each = λ v link at.
      c.loop-n.invariant.soles v link
      (omega (arith, slice_get_within c.loop-n.soles v link at, c.loop-n.invariant.a_sole_each, c.node_count-n-end.ensures.count, c.loop-n-test.false)) at;
}

pub returns-clause-heads : goal.returns-clause-heads
returns-clause-heads c = record {
  each = λ v within more.
      c.loop-n.invariant.marked v (omega (arith, within, c.node_count-n-end.ensures.count, c.loop-n-test.false)) more;
}
