use Rattle.std.proofs.Common.{arith}
use Rattle.ospf_lsa.proofs.Links.{length_links}
use Rattle.ospf_lsa.proofs.writing.put_router.Goals as goal

pub overflow_cast-links : goal.overflow_cast-links
overflow_cast-links c =
    let few = length_links c.args.links.now c.args.tos.now c.requires.entries in
    omega (arith, few, c.requires.short)
