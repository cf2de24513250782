use Rattle.flood.proofs.Numbered.{one_packet}
use Rattle.flood.proofs.numbered_update.numbered_updates.Goals as goal

pub loop-update-preserved : goal.loop-update-preserved
loop-update-preserved c =
    one_packet c.loop-update.lsas.items c.numbered.new.lsas.items c.loop-update.packets.items c.push.new.self.items
    c.loop-update.update-iterator.rest.items c.next.new.self.rest.items c.args.updates.items c.in-Some.update
    c.in_ok-packet.packet c.in-Some.ensures.steps.0 c.loop-update.invariant c.in_ok-packet.ensures.lsas
    c.in_ok-packet.ensures.packet c.in_ok-packet.ensures.numbers c.in_ok-push.ensures.items
