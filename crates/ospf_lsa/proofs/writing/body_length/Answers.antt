use Rattle.std.proofs.Common.{arith}
use Rattle.ospf_lsa.proofs.Numbers.{length_numbers}
use Rattle.ospf_lsa.proofs.writing.body_length.Goals as goal

pub returns-in-Network : goal.returns-in-Network
returns-in-Network c =
    rw (c.as_slice-in-Network.ensures, c.in-Network.is) (omega (arith, length_numbers c.in-Network.routers))
