-- What is kept of the files that were read.
use Rattle.std.specs.Prelude.{◌≡◌, ◌≤◌, ℕ, List, Result, Ok, Err, Some, length}
use Rattle.std.specs.declared.alloc.Global.{Global}
use Rattle.std.specs.declared.vec.Vec.{Vec}
use Rattle.cert_format.specs.FirstFault.{first_fault}
use Rattle.cert_format.specs.declared.error.CertFault.{CertFault}
use Rattle.mrt_graph.specs.declared.cert.CertFile.{CertFile}
use Rattle.mrt_args.specs.declared.files_read.FilesRead.{FilesRead}
use Rattle.mrt_args.specs.declared.files_read.FloodRead.{FloodRead}
use Rattle.mrt_args.specs.declared.task.Task.{Task as TaskOver}
use Rattle.mrt_args.specs.declared.task.Task.TheVariants.{Check, Upgrade, Fabric, OfRouter}
use Rattle.mrt_args.specs.FileBytes.{FileBytes}
use Rattle.mrt_args.specs.Files.{script_limit}
use Rattle.mrt_args.specs.Form.{IsRouterTaskWithin, Task}
use Rattle.mrt_args.specs.CertSpelling.{IsSpellingOf}

-- what the bytes of a certificate come to: the file that they spell, or their first fault
abbrev pub IsCertRead : List ℕ → Result CertFile CertFault → Type 0
IsCertRead bytes (Ok file) = IsSpellingOf bytes file
IsCertRead bytes (Err fault) = first_fault bytes ≡ Some (fault.at, fault.kind)

-- a task whose file was read: a certificate as what its bytes come to, a script as its bytes
abbrev pub Work : Type 0
Work = TaskOver (Result CertFile CertFault) (Vec ℕ Global)

-- this is to be done for a task, the file of which has these bytes
abbrev pub IsWorkFor : Task → List ℕ → Work → Type 0
IsWorkFor task last (Check certificate) = ((name : List ℕ) × (task ≡ Check name)) × IsCertRead last certificate
IsWorkFor task last (Upgrade certificate) = ((name : List ℕ) × (task ≡ Upgrade name)) × IsCertRead last certificate
IsWorkFor task last (Fabric script) = ((name : List ℕ) × (task ≡ Fabric name)) × (last ≡ script.items)
IsWorkFor task last (OfRouter asked) = task ≡ OfRouter asked

-- a script is within its limit, and the two routers of a prefix differ
abbrev pub IsWorkWithin : Work → Type 0
IsWorkWithin (Fabric script) = length script.items ≤ script_limit
IsWorkWithin (OfRouter asked) = IsRouterTaskWithin asked
IsWorkWithin _ = Unit {0}

-- the files of a task have these bytes, of which this is kept
pub record AreBytesOf (task : Task) (files : FilesRead) (bytes : FileBytes) : Type 0 where
  pub database : bytes.first ≡ files.database.items
  pub profile : bytes.profile ≡ files.profile.items
  pub work : IsWorkFor task bytes.last files.work

-- the bytes of the packets, of the profile and of the script of a form over packets
abbrev pub flood_bytes : FloodRead → FileBytes
flood_bytes files = record { first = files.updates.items; profile = files.profile.items; last = files.script.items }
