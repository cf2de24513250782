use Rattle.std.proofs.Common.{rules, ◌≡◌, ◌∙◌, ◌<◌, ℕ, List, Option, Some, None, length, set, sym, ap, subst, arith}
use Rattle.std.specs.Prelude.{replicate}
use Rattle.std.proofs.lemmas.List.{length-replicate, length-set}
use Rattle.mrt_rows.specs.steps.ListedDirections.{directions_by}
use Rattle.mrt_rows.proofs.Climbing.{IsClimbed, all_climbed, begun, one_climbed}
use Rattle.mrt_rows.proofs.NearFound.{differ_by, same_by}
use Rattle.mrt_rows.proofs.Rooting.{og_of}
use Rattle.mrt_rows.proofs.column.put_below.Goals as goal

pub loop-c-init : goal.loop-c-init
loop-c-init c =
    let blank : c.fill.new.self ≡ replicate (length c.args.below.now) None = search rules in
    record {
      one_each = ap (λ (xs : List (Option ℕ)). length xs) blank ∙ length-replicate (length c.args.below.now) None ∙ c.requires.one_each;
      within = c.requires.to;
      climbed = begun c.args.rooted.now.graph.now c.args.rooted.now.root (directions_by c.args.rooted.now) c.args.to (length c.args.below.now) c.fill.new.self blank;
    }

pub loop-c-smaller : goal.loop-c-smaller
loop-c-smaller c =
    let w = directions_by c.args.rooted.now in
    let at = c.loop-c.c in
    let other = differ_by at c.args.rooted.now.root c.ne.result c.ne.ensures c.loop-c-test.true in
    omega (arith, ap w.order c.place-head.ensures.head, c.requires.rooted.ordered.heads.lower at c.loop-c.invariant.within other)

pub loop-c-preserved : goal.loop-c-preserved
loop-c-preserved c =
    let rooted = c.args.rooted.now in
    let g = rooted.graph.now in
    let w = directions_by rooted in
    let at = c.loop-c.c in
    let below = c.loop-c.below in
    let within = c.loop-c.invariant.within in
    let head_is = c.place-head.ensures.head in
    let other = differ_by at rooted.root c.ne.result c.ne.ensures c.loop-c-test.true in
    record {
      one_each = length-set below c.get.result (Some at) ∙ c.loop-c.invariant.one_each;
      within = subst (λ (v : ℕ). v < length g.ids) (sym head_is) (c.requires.rooted.ordered.heads.head_within at within);
      climbed = subst (λ (v : ℕ). IsClimbed g rooted.root w c.args.to v (set below c.get.result (Some at))) (sym head_is)
          (subst (λ (v : ℕ). IsClimbed g rooted.root w c.args.to (w.head at) (set below v (Some at))) (sym (c.get.ensures.value ∙ head_is))
          (one_climbed (og_of c.requires.rooted) c.args.to at below c.loop-c.invariant.climbed within other c.loop-c.invariant.one_each));
    }

pub returns : goal.returns
returns c =
    all_climbed (og_of c.requires.rooted) c.args.to c.loop-c.c c.loop-c.below c.loop-c.invariant.climbed
    (same_by c.loop-c.c c.args.rooted.now.root c.ne.result c.ne.ensures c.loop-c-test.false) c.loop-c.invariant.one_each
