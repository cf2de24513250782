use Rattle.std.proofs.Common.{ℕ, refl, sym, subst}
use Rattle.text_parts.proofs.Adding.{joined}
use Rattle.order_repair.specs.steps.Tagging.{IsPair}
use Rattle.order_repair.proofs.line.push_line.Goals as goal

pub returns : goal.returns
returns c = λ root w hops k h of_pair.
    let g = c.args.view.now.graph.now in
    let place = c.block_of-place.result in
    let same = c.block_of-place.ensures.block root w hops.are k h of_pair.share in
    let pair =
    subst (λ (x : ℕ). IsPair g root w c.args.pair.now.source c.args.pair.now.to c.args.pair.now.tag place.block x) (sym same.1)
    (subst (λ (x : ℕ). IsPair g root w c.args.pair.now.source c.args.pair.now.to c.args.pair.now.tag x h) (sym same.0) of_pair) in
    let nodes = rw c.members_of.ensures at (c.in_ok-push_letters.ensures root w hops (rw c.members_of.ensures pair)) in
    let links = rw c.members_of-2.ensures at (c.in_ok-push_letters-2.ensures root w hops (rw c.members_of-2.ensures pair)) in
    record {
      part = _;
      is = record {
        block = c.block_of-place.result.block;
        head = c.block_of-place.result.head;
        share = pair.share;
        id = c.id.result;
        id_is = c.id.ensures;
        nodes = nodes.part;
        nodes_are = nodes.is;
        links = links.part;
        links_are = links.is;
        spelled = refl;
      };
      added =
          joined _ _ _ _ _ (joined _ _ _ _ _ (joined _ _ _ _ _ (joined _ _ _ _ _ (joined _ _ _ _ _
          c.in_ok-push_node.ensures.added c.in_ok-push.ensures.added) nodes.added) c.in_ok-push-2.ensures.added) links.added) c.in_ok-push-3.ensures.added;
    }
