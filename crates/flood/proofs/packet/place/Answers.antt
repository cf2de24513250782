use Rattle.std.proofs.Common.{◌<◌, ◌+◌, ◌^◌, List, length, get_or, sym, subst, arith}
use Rattle.mrt_graph.proofs.Members.{contains_from_has}
use Rattle.ospf_lsa.specs.declared.lsa.Lsa.{Lsa}
use Rattle.flood.specs.Updates.{placed_from}
use Rattle.flood.proofs.Placing.{mapped_next, unmapped_at}
use Rattle.flood.proofs.packet.place.Goals as goal

pub overflow_add-lsa : goal.overflow_add-lsa
overflow_add-lsa c =
    let within : c.loop-lsa.lsa-index < length c.args.lsas.now = omega arith in
    let fits : c.args.start + (get_or c.loop-lsa.lsas c.loop-lsa.lsa-index c.lsa-item.result).at < 2 ^ 32 =
    subst (λ (xs : List Lsa). c.args.start + (get_or xs c.loop-lsa.lsa-index c.lsa-item.result).at < 2 ^ 32)
    (sym c.loop-lsa.invariant)
    (c.requires _ (contains_from_has c.args.lsas.now _
    (unmapped_at (placed_from c.args.start) c.args.lsas.now c.loop-lsa.lsa-index c.lsa-item.result within))) in
    omega (arith, fits)

pub loop-lsa-preserved : goal.loop-lsa-preserved
loop-lsa-preserved c =
    let within : c.loop-lsa.lsa-index < length c.args.lsas.now = omega arith in
    mapped_next (placed_from c.args.start) c.args.lsas.now c.loop-lsa.lsas c.loop-lsa.lsa-index c.lsa-item.result within
    c.loop-lsa.invariant
