use Rattle.std.proofs.Common.{◌++◌, refl, codes}
use Rattle.text_parts.specs.Spelling.{node_text}
use Rattle.text_parts.proofs.Adding.{joined}
use Rattle.order_repair.proofs.text.push_head.Goals as goal

pub returns : goal.returns
returns c =
    let first = codes "order " in
    let named = first ++ node_text c.id.result in
    let rooted = named ++ codes " root " in
    record {
      part = _;
      is = record { router = c.id.result; router_is = c.id.ensures; root_id = c.id-2.result; root_is = c.id-2.ensures; spelled = refl };
      added =
          joined _ (rooted ++ node_text c.id-2.result) _ _ _ (joined _ rooted _ _ _ (joined _ named _ _ _
          (joined _ first _ _ _ c.in_ok-push.ensures.added c.in_ok-push_node.ensures.added) c.in_ok-push-2.ensures.added)
          c.in_ok-push_node-2.ensures.added) c.in_ok-push-3.ensures.added;
    }
