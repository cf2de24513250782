use Rattle.std.proofs.Common.{refl}
use Rattle.text_parts.proofs.Adding.{joined}
use Rattle.lfa_alt.proofs.text.push_lfa_hop.Goals as goal

pub returns : goal.returns
returns c =
    let hop = c.in_ok-push_arc_hop.ensures in
    record {
      part = _;
      is = record { hop = hop.part; hop_is = hop.is; next = c.id.result; next_is = c.id.ensures; spelled = refl };
      added =
          joined _ _ _ _ _ (joined _ _ _ _ _ (joined _ _ _ _ _ (joined _ _ _ _ _
          hop.added c.in_ok-push.ensures.added) c.in_ok-push_node.ensures.added) c.in_ok-push-2.ensures.added)
          (rw c.kind_word.ensures at c.in_ok-push-3.ensures.added);
    }
