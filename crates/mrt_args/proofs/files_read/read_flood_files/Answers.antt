use Rattle.std.proofs.Common.{[], ◌∷◌, Ok, Err, subst}
use Rattle.mrt_args.specs.FileBytes.{AreRead}
use Rattle.mrt_args.specs.Files.{NamedFile, IsReadAs, flood_names}
use Rattle.mrt_args.specs.Work.{flood_bytes}
use Rattle.mrt_args.specs.Reading.{ReadsFiles}
use Rattle.mrt_args.proofs.Readings.{errs, first_is, first_stops, last_reads, profile_is, profile_stops, reads_none, reads_ok}
use Rattle.mrt_args.proofs.files_read.read_flood_files.Goals as goal

pub returns-in_err-profile-clause-reads : goal.returns-in_err-profile-clause-reads
returns-in_err-profile-clause-reads g c =
    profile_stops g.F.Shelf.held g.F.Shelf.faults g.F.Shelf.healthy (flood_names c.args.form.now) c.updates.result c.updates.ensures _ _
    c.in_ok-updates.updates c.in_ok-updates.ensures _ _ _ c.in_err-profile.field-0.0 _ c.from_residual-in_err-profile.ensures.1
    c.in_err-profile.ensures

pub returns-in_err-script-clause-reads : goal.returns-in_err-script-clause-reads
returns-in_err-script-clause-reads g c =
    errs g.F.Shelf.held g.F.Shelf.faults g.F.Shelf.healthy _ _ _ _ _ _ c.in_err-script.field-0.0 c.from_residual-in_err-script.ensures.1
    (last_reads g.F.Shelf.held g.F.Shelf.faults g.F.Shelf.healthy (flood_names c.args.form.now) c.updates.result c.updates.ensures _ _
    c.in_ok-updates.updates c.in_ok-updates.ensures _ c.in_ok-profile.profile c.in_ok-profile.ensures _ _ _
    (subst (λ (f : NamedFile). ReadsFiles g.F.Shelf.held g.F.Shelf.faults g.F.Shelf.healthy c.read_profile_file.new.shelf
    c.read_file-2.new.shelf (f ∷ []) (λ held files. AreRead held (flood_names c.args.form.now) (flood_bytes files))
    (Err c.in_err-script.field-0.0)) c.script.ensures
    (reads_none g.F.Shelf.held g.F.Shelf.faults g.F.Shelf.healthy _ _ _ _ _ _ _ c.in_err-script.ensures)))

pub returns-in_err-updates-clause-reads : goal.returns-in_err-updates-clause-reads
returns-in_err-updates-clause-reads g c =
    first_stops g.F.Shelf.held g.F.Shelf.faults g.F.Shelf.healthy (flood_names c.args.form.now) c.updates.result c.updates.ensures _ _
    _ _ c.in_err-updates.field-0.0 _ c.from_residual.ensures.1 c.in_err-updates.ensures

pub returns-clause-reads : goal.returns-clause-reads
returns-clause-reads g c =
    let first = first_is g.F.Shelf.held g.F.Shelf.faults g.F.Shelf.healthy (flood_names c.args.form.now) c.updates.result
    c.updates.ensures _ _ c.in_ok-updates.updates c.in_ok-updates.ensures in
    let lines = profile_is g.F.Shelf.held g.F.Shelf.faults g.F.Shelf.healthy (flood_names c.args.form.now) c.updates.result
    c.updates.ensures _ _ c.in_ok-updates.updates c.in_ok-updates.ensures _ c.in_ok-profile.profile c.in_ok-profile.ensures in
    reads_ok g.F.Shelf.held g.F.Shelf.faults g.F.Shelf.healthy _ _ _ _ _ _ _ c.in_ok-script.script _
    (λ read. record { first_read = first; profile_read = lines; last_read = read })
    (last_reads g.F.Shelf.held g.F.Shelf.faults g.F.Shelf.healthy (flood_names c.args.form.now) c.updates.result c.updates.ensures _ _
    c.in_ok-updates.updates c.in_ok-updates.ensures _ c.in_ok-profile.profile c.in_ok-profile.ensures _ _ _
    (subst (λ (f : NamedFile). ReadsFiles g.F.Shelf.held g.F.Shelf.faults g.F.Shelf.healthy c.read_profile_file.new.shelf
    c.read_file-2.new.shelf (f ∷ []) (λ held bytes. IsReadAs held f bytes.items) (Ok c.in_ok-script.script)) c.script.ensures
    c.in_ok-script.ensures))
