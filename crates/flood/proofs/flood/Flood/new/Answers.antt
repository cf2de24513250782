use Rattle.flood.proofs.NumberedDelivery.{flood_begun}
use Rattle.flood.proofs.flood.Flood.new.Goals as goal

pub invariant_of-result : goal.invariant_of-result
invariant_of-result c =
    flood_begun c.numbered_updates.new.lsas.items c.in_ok-packets.packets.items c.in_ok-routers.routers.items
    c.args.updates.items c.args.routers c.in_ok-packets.ensures.packets
    (c.in_ok-routers.ensures.routers c.numbered_updates.new.lsas.items) c.requires.few_updates c.requires.may_flood
    c.in_ok-packets.ensures.numbers (c.in_ok-routers.ensures.stored c.numbered_updates.new.lsas.items)
