use Rattle.std.proofs.Common.{arith}
use Rattle.ospf_lsa.proofs.Links.{length_links}
use Rattle.ospf_lsa.proofs.writing.links_length.Goals as goal

pub returns : goal.returns
returns c = omega (arith, length_links c.args.links.now c.args.tos.now c.requires.entries)
