use Rattle.ospf_lsa.specs.Checksum.{is_good}
use Rattle.ospf_lsa.proofs.record.has_good_checksum.Goals as goal

pub returns-then-second-eq0 : goal.returns-then-second-eq0
unfolding is_good
returns-then-second-eq0 c =
    let value = rw (c.from.ensures, c.number_16.ensures) at c.sums-first.ensures.value in
    rw (c.number_16-then-second-eq0.ensures, ← value, c.if-first-eq0.true, c.if-second-eq0.true)
