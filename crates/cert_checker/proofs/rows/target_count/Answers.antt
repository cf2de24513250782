use Rattle.std.proofs.lemmas.List.FromFn.{length-range_with_len}
use Rattle.cert_checker.proofs.rows.target_count.Goals as goal

pub returns-in-None : goal.returns-in-None
returns-in-None c = rw (c.in-None.is, length-range_with_len) c.from.ensures
