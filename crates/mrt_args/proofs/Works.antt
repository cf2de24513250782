-- What is kept of the files that were read, and what comes of it.
use Rattle.std.proofs.Common.{◌≤◌, ℕ, List, Option, length, subst}
use Rattle.mrt_io.specs.Holding.{Files}
use Rattle.mrt_args.specs.declared.task.Task.TheVariants.{Fabric, OfRouter}
use Rattle.mrt_args.specs.FileBytes.{IsLastRead}
use Rattle.mrt_args.specs.Files.{IsReadAs, script_file, script_limit, task_file}
use Rattle.mrt_args.specs.Form.{IsTaskWithin, Task}
use Rattle.mrt_args.specs.Work.{IsWorkWithin, IsWorkFor, Work}

-- a script is within its limit, and a task is as it has to be
pub work_within : (held : Option Files) (task : Task) (last : List ℕ) (work : Work) → IsTaskWithin task
    → IsLastRead held (task_file task) last → IsWorkFor task last work → IsWorkWithin work
work_within held task last (Fabric script) within read kept =
    let read_as : IsReadAs held (script_file kept.0.0) last = subst (λ (t : Task). IsLastRead held (task_file t) last) kept.0.1 read in
    subst (λ (bytes : List ℕ). length bytes ≤ script_limit) kept.1 read_as.1
work_within held task last (OfRouter asked) within read kept = subst IsTaskWithin kept within
work_within held task last work within read kept = tt
