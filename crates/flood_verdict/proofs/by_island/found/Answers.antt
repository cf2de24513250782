use Rattle.std.proofs.Common.{rules, ◌≡◌, None}
use Rattle.lsdb.specs.Conflicts.{least_conflict}
use Rattle.flood_verdict.proofs.Finding.{found_in_database}
use Rattle.flood_verdict.proofs.by_island.found.Goals as goal

pub returns-in-Ok : goal.returns-in-Ok
returns-in-Ok c =
    let settled : least_conflict c.args.database.now.entries ≡ None = search rules in
    found_in_database c.args.profile.now c.args.database.now c.in-Ok.area c.args.router settled
    c.in-Ok.ensures.area c.in-Ok.ensures.within c.found_in.ensures.kept c.found_in.result c.found_in.ensures.found
