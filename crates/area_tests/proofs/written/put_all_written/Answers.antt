use Rattle.area_tests.proofs.Writable.{faultless_at, faultless_written}
use Rattle.area_tests.proofs.written.put_all_written.Goals as goal

-- What is read is without a fault.
pub write_lsa-requires : goal.write_lsa-requires
write_lsa-requires c =
    let can = faultless_written c.lsa-item.result
    (faultless_at c.args.lsas.now 0 c.loop-lsa.lsa-index c.lsa-item.result c.requires c.loop-lsa-test.true c.lsa-item.is) in
    record { kind = can.kind; entries = can.entries; fits = can.fits }
