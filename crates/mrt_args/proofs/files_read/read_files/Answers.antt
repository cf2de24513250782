use Rattle.std.proofs.Common.{refl}
use Rattle.mrt_args.specs.Files.{task_names}
use Rattle.mrt_args.proofs.Readings.{errs, first_is, first_stops, last_reads, profile_is, profile_stops, reads_none, reads_ok}
use Rattle.mrt_args.proofs.files_read.read_files.Goals as goal

pub returns-in_err-profile : goal.returns-in_err-profile
returns-in_err-profile g c =
    profile_stops g.F.Shelf.held g.F.Shelf.faults g.F.Shelf.healthy (task_names c.args.form.now) c.database.result c.database.ensures _ _
    c.in_ok-database.database c.in_ok-database.ensures _ _ _ c.in_err-profile.field-0.0 _ c.from_residual-in_err-profile.ensures.1
    c.in_err-profile.ensures

pub returns-in_err-work : goal.returns-in_err-work
returns-in_err-work g c =
    errs g.F.Shelf.held g.F.Shelf.faults g.F.Shelf.healthy _ _ _ _ _ _ c.in_err-work.field-0.0 c.from_residual-in_err-work.ensures.1
    (last_reads g.F.Shelf.held g.F.Shelf.faults g.F.Shelf.healthy (task_names c.args.form.now) c.database.result c.database.ensures _ _
    c.in_ok-database.database c.in_ok-database.ensures _ c.in_ok-profile.profile c.in_ok-profile.ensures _ _ _
    (reads_none g.F.Shelf.held g.F.Shelf.faults g.F.Shelf.healthy _ _ _ _ _ _ _ c.in_err-work.ensures))

pub returns : goal.returns
returns g c =
    let first = first_is g.F.Shelf.held g.F.Shelf.faults g.F.Shelf.healthy (task_names c.args.form.now) c.database.result
    c.database.ensures _ _ c.in_ok-database.database c.in_ok-database.ensures in
    let lines = profile_is g.F.Shelf.held g.F.Shelf.faults g.F.Shelf.healthy (task_names c.args.form.now) c.database.result
    c.database.ensures _ _ c.in_ok-database.database c.in_ok-database.ensures _ c.in_ok-profile.profile c.in_ok-profile.ensures in
    reads_ok g.F.Shelf.held g.F.Shelf.faults g.F.Shelf.healthy _ _ _ _ _ _ _ c.in_ok-work.work _
    (λ read. (
      record {
        first = c.in_ok-database.database.items;
        profile = c.in_ok-profile.profile.items;
        last = read.0;
      },
      record { first_read = first; profile_read = lines; last_read = read.1 },
      record { database = refl; profile = refl; work = read.2 },
    ))
    (last_reads g.F.Shelf.held g.F.Shelf.faults g.F.Shelf.healthy (task_names c.args.form.now) c.database.result c.database.ensures _ _
    c.in_ok-database.database c.in_ok-database.ensures _ c.in_ok-profile.profile c.in_ok-profile.ensures _ _ _ c.in_ok-work.ensures)

pub returns-in_err-database : goal.returns-in_err-database
returns-in_err-database g c =
    first_stops g.F.Shelf.held g.F.Shelf.faults g.F.Shelf.healthy (task_names c.args.form.now) c.database.result c.database.ensures _ _
    _ _ c.in_err-database.field-0.0 _ c.from_residual.ensures.1 c.in_err-database.ensures
