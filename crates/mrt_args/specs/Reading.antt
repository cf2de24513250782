-- What a call says that reads files of a shelf.
use Rattle.std.specs.Prelude.{◌≡◌, ◌≤◌, ℕ, List, Option, Result, IfErr, IfOk}
use Rattle.mrt_io.specs.Counts.{Rose}
use Rattle.mrt_io.specs.Holding.{Files}
use Rattle.mrt_exit.specs.Due.{IsDue}
use Rattle.mrt_exit.specs.declared.exit.Exit.{Exit}
use Rattle.mrt_exit.specs.declared.exit.Exit.TheVariants.{ReadFault}
use Rattle.mrt_args.specs.Files.{NamedFile, AreThere, IsRefusedBy, MayFail}

-- the exit is due; but where it says that a file was not read, this is one of these files, those before it could be read, and
-- the count of faults rose
abbrev pub IsDueOrFault : (Exit → Type 0) → Option Files → List NamedFile → ℕ → ℕ → Exit → Type 0
IsDueOrFault Refuses held named before now (ReadFault word) = MayFail held named word × Rose before now
IsDueOrFault Refuses held named before now exit = IsDue Refuses exit

-- a call read these files of a shelf, in their order: it gives a value or is refused, as is said of what the shelf held. Where no
-- count rose, and over a healthy shelf, a refusal is due to the files that are held. The count of faults never falls, and what is held
-- is as before; a healthy shelf that holds the files has no fault and stays healthy
pub record ReadsAs {S T : Type 0} (held : S → Option Files) (faults : S → ℕ) (healthy : S → Type 0) (old new : S)
    (named : List NamedFile) (Refuses : Option Files → Exit → Type 0) (Gives : Option Files → T → Type 0) (result : Result T Exit)
    : Type 0 where
  pub read : IfOk result (Gives (held old))
  pub refused : IfErr result (IsDueOrFault (Refuses (held old)) (held old) named (faults old) (faults new))
  pub calm : (Rose (faults old) (faults new) → ⊥) → IfErr result (IsDue (Refuses (held old)))
  pub in_health : healthy old → IfErr result (IsDue (Refuses (held old)))
  pub count : faults old ≤ faults new
  pub unchanged : held new ≡ held old
  pub no_fault : healthy old → AreThere (held old) named → faults new ≡ faults old
  pub stays_healthy : healthy old → AreThere (held old) named → healthy new

-- the same, where the files alone decide
abbrev pub ReadsFiles : {S T : Type 0} (held : S → Option Files) (faults : S → ℕ) (healthy : S → Type 0) (old new : S)
    (named : List NamedFile) (Gives : Option Files → T → Type 0) (result : Result T Exit) → Type 0
ReadsFiles held faults healthy old new named Gives result =
    ReadsAs held faults healthy old new named (λ files exit. IsRefusedBy files named exit) Gives result
