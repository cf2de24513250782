use Rattle.mrt_args.proofs.Readings.{errs, reads_none}
use Rattle.mrt_args.proofs.reading.read_task_file.Goals as goal

pub returns-in_err-read_certificate_file-in-Check : goal.returns-in_err-read_certificate_file-in-Check
returns-in_err-read_certificate_file-in-Check g c =
    rw (c.in-Check.is, ← c.certificate.ensures) (errs g.F.Shelf.held g.F.Shelf.faults g.F.Shelf.healthy _ _ _ _ _ _ _ c.from_residual.ensures.1 (reads_none g.F.Shelf.held g.F.Shelf.faults g.F.Shelf.healthy _ _ _ _ _ _ _ c.in_err-read_certificate_file-in-Check.ensures))

pub returns-in_err-read_certificate_file-in-Upgrade : goal.returns-in_err-read_certificate_file-in-Upgrade
returns-in_err-read_certificate_file-in-Upgrade g c =
    rw (c.in-Upgrade.is, ← c.certificate-in-Upgrade.ensures) (errs g.F.Shelf.held g.F.Shelf.faults g.F.Shelf.healthy _ _ _ _ _ _ _ c.from_residual-in_err-read_certificate_file-in-Upgrade.ensures.1 (reads_none g.F.Shelf.held g.F.Shelf.faults g.F.Shelf.healthy _ _ _ _ _ _ _ c.in_err-read_certificate_file-in-Upgrade.ensures))

pub returns-in_err-read_file-in-Fabric : goal.returns-in_err-read_file-in-Fabric
returns-in_err-read_file-in-Fabric g c =
    rw (c.in-Fabric.is, ← c.script.ensures) (errs g.F.Shelf.held g.F.Shelf.faults g.F.Shelf.healthy _ _ _ _ _ _ _ c.from_residual-in_err-read_file-in-Fabric.ensures.1 (reads_none g.F.Shelf.held g.F.Shelf.faults g.F.Shelf.healthy _ _ _ _ _ _ _ c.in_err-read_file-in-Fabric.ensures))
