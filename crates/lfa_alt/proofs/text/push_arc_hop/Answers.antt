use Rattle.std.proofs.Common.{refl}
use Rattle.lfa_alt.proofs.text.push_arc_hop.Goals as goal

pub returns : goal.returns
returns c = record {
  part = _;
  is = record { arc = c.arc-arc.result; arc_is = c.arc-arc.ensures.value; far = c.id.result; far_is = c.id.ensures; spelled = refl };
  added = c.in_ok-push_hop.ensures.added;
}
