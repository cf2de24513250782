use Rattle.cert_format.proofs.Puttings.{closed_gained, closed_healthy, closed_part}
use Rattle.cert_format.proofs.cert_writer.CertWriter.finish.Goals as goal

pub returns-clause-gained : goal.returns-clause-gained
returns-clause-gained g c = closed_gained _ _ _ _ _ _ c.args.self _ c.put_held.result c.put_held.ensures.puts c.put_held.ensures.none

pub returns-clause-part : goal.returns-clause-part
returns-clause-part g c = closed_part _ _ _ _ _ _ c.args.self _ c.put_held.result c.put_held.ensures.puts

pub returns-clause-stays_healthy : goal.returns-clause-stays_healthy
returns-clause-stays_healthy g c = closed_healthy _ _ _ _ _ _ c.args.self _ c.put_held.result c.put_held.ensures.puts c.put_held.ensures.none
