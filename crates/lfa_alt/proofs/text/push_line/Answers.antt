use Rattle.std.proofs.Common.{refl}
use Rattle.text_parts.proofs.Adding.{joined}
use Rattle.lfa_alt.proofs.text.push_line.Goals as goal

pub returns : goal.returns
returns c =
    let hop = c.in_ok-push_arc_hop.ensures in
    let lfa = c.in_ok-push_lfa.ensures in
    record {
      part = _;
      is = record { id = c.id.result; id_is = c.id.ensures; hop = hop.part; hop_is = hop.is; lfa = c.args.lfa; lfa_is = c.requires.lfa; words = lfa.part; words_are = lfa.is; spelled = refl };
      added =
          joined _ _ _ _ _ (joined _ _ _ _ _ (joined _ _ _ _ _ (joined _ _ _ _ _ (joined _ _ _ _ _
          c.in_ok-push_node.ensures.added c.in_ok-push.ensures.added) hop.added) c.in_ok-push-2.ensures.added) lfa.added) c.in_ok-push-3.ensures.added;
    }
