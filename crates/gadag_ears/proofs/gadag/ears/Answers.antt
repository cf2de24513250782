use Rattle.gadag_ears.proofs.GadagMade.{common_ended, gadag_made}
use Rattle.gadag_ears.proofs.gadag.ears.Goals as goal

pub give_blocks-requires-clause-common : goal.give_blocks-requires-clause-common
give_blocks-requires-clause-common c =
    common_ended c.args.g.now c.args.root c.args.tree.now c.in_ok-growing.growing c.deref.result.now c.in_ok-growing.ensures c.deref.ensures.value

pub returns : goal.returns
returns c =
    gadag_made c.args.g.now c.args.root c.args.tree.now c.in_ok-growing.growing c.deref.result.now c.give_blocks.new.marks.items c.new.result
    c.in_ok-growing.ensures c.deref.ensures.value c.give_blocks.ensures c.new.ensures
