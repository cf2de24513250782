use Rattle.std.proofs.Common.{arith}
use Rattle.cert_format.proofs.FileRows.{rows_put, short_row}
use Rattle.cert_format.proofs.cert_writer.CertWriter.put_rows.Goals as goal

pub put_list-requires-clause-short : goal.put_list-requires-clause-short
put_list-requires-clause-short g c = λ row. omega (arith, short_row c.args.self.now.version row)

pub put_list-requires-clause-small : goal.put_list-requires-clause-small
put_list-requires-clause-small g c = rw (rows_put c.args.self.now.version c.args.rows.now) c.requires

pub returns : goal.returns
returns g c = rw (rows_put c.args.self.now.version c.args.rows.now) at c.put_list.ensures
