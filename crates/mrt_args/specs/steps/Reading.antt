-- Why a call stops that reads files of a shelf.
use Rattle.std.specs.Prelude.{◌≡◌, ℕ}
use Rattle.mrt_io.specs.Counts.{Rose}
use Rattle.mrt_exit.specs.declared.exit.Exit.{Exit}
use Rattle.mrt_exit.specs.declared.exit.Exit.TheVariants.{ReadFault, NoMemory}
use Rattle.mrt_args.specs.Files.{NamedFile}

-- a file could not be read on for a fault of the shelf, or there was no memory
abbrev pub IsStopped : NamedFile → ℕ → ℕ → Exit → Type 0
IsStopped file before now (ReadFault word) = (word ≡ file.place) × Rose before now
IsStopped file before now NoMemory = Unit {0}
IsStopped file before now _ = ⊥
