use Rattle.std.proofs.Common.{length, refl, sym, subst, ◌+◌, ◌∙◌, ap, ℕ, Option, get_or, arith}
use Rattle.std.specs.Option.{option_and_then, option_map_or}
use Rattle.std.proofs.lemmas.Option.{slice_get_read}
use Rattle.mrt_graph.specs.declared.tree.TreeNode.{TreeNode}
use Rattle.lowpoint_dfs.specs.declared.lowpoints.Lowest.{Lowest}
use Rattle.lowpoint_dfs.specs.steps.Lowering.{IsLowest, Own, lowered}
use Rattle.lowpoint_dfs.proofs.LowestSoFar.{lowest_more}
use Rattle.lowpoint_dfs.proofs.lowpoints.least_low.Goals as goal

pub loop-end-init : goal.loop-end-init
loop-end-init c =
    let node = c.index-nodes-get.result in
    let read = c.index-nodes-get.is ∙ ap (λ (i : ℕ). get_or c.args.nodes.now i node) c.get.ensures.value in
    let there = slice_get_read c.args.nodes.now (length c.args.nodes.now) c.args.v node refl c.requires.node read in
    let number = sym (ap (λ (o : Option TreeNode). option_map_or (λ n. n.number) o 0) there) in
    record {
      own = omega (arith, number);
      least = λ j n end early. absurd (omega (arith, early));
      from = Own number (sym (ap (λ (o : Option TreeNode). option_and_then (λ n. n.parent) o) there));
    }

pub loop-end-preserved : goal.loop-end-preserved
loop-end-preserved c =
    let next = lowest_more c.args.nodes.now c.args.v c.loop-end.end-index c.args.ends.now c.end-item.result c.loop-end.lowest c.loop-end.invariant
    (slice_get_read c.args.ends.now (length c.args.ends.now) c.loop-end.end-index c.end-item.result refl c.loop-end-test.true c.end-item.is) in
    let given = ap (λ (o : Option ℕ). lowered c.loop-end.lowest o c.end-item.result.link) (sym c.offer_of.ensures) ∙ sym c.lower-lowest.ensures in
    subst (λ (known : Lowest). IsLowest c.args.nodes.now c.args.v c.args.ends.now (c.loop-end.end-index + 1) known) given next
