use Rattle.std.specs.BinaryHeap.{heap_items}
use Rattle.primary_alt.proofs.OfferMade.{added_by, added_none}
use Rattle.primary_alt.proofs.backward.wait.Goals as goal

pub returns-in_ok-push-clause-added : goal.returns-in_ok-push-clause-added
returns-in_ok-push-clause-added c =
    added_by c.args.into.now.arcs.items c.args.u _ (heap_items c.args.waiting.now) (heap_items c.push.new.self) c.in_ok-push.ensures.permutation

pub returns-else-not-is_one_from-clause-added : goal.returns-else-not-is_one_from-clause-added
returns-else-not-is_one_from-clause-added c =
    added_none c.args.into.now.arcs.items c.row.result.now c.args.u c.args.node c.args.distance (heap_items c.args.waiting.now) c.row.ensures
    (c.is_one_from.ensures c.if-not-is_one_from.false)
