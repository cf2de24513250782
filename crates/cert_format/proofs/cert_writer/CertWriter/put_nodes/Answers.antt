use Rattle.std.proofs.Common.{arith}
use Rattle.cert_format.proofs.cert_writer.CertWriter.put_nodes.Goals as goal

pub put_list-requires-clause-short : goal.put_list-requires-clause-short
put_list-requires-clause-short g c = λ node. omega arith
