use Rattle.std.proofs.Common.{◌++◌, refl, codes, decimal, length}
use Rattle.text_parts.specs.Spelling.{node_text}
use Rattle.text_parts.proofs.Adding.{joined}
use Rattle.lfa_alt.proofs.text.push_head.Goals as goal

pub returns : goal.returns
returns c =
    let first = codes "lfa " in
    let named = first ++ node_text c.id.result in
    let counted = named ++ codes " nodes " in
    record {
      part = _;
      is = record { router = c.id.result; router_is = c.id.ensures; spelled = refl };
      added =
          joined _ (counted ++ decimal (length c.args.area.now.ids)) _ _ _ (joined _ counted _ _ _ (joined _ named _ _ _
          (joined _ first _ _ _ c.in_ok-push.ensures.added c.in_ok-push_node.ensures.added) c.in_ok-push-2.ensures.added)
          (rw c.count.ensures.count at c.in_ok-push_count.ensures.added)) c.in_ok-push-3.ensures.added;
    }
