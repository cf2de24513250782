-- The program's one line on a fault, in a buffer.
use Rattle.std.specs.Prelude.{◌≡◌, ◌⊎◌, ℕ, List, length}
use Rattle.mrt_exit.specs.Exits.{line_of, status_of}
use Rattle.mrt_exit.specs.declared.exit.Exit.{Exit}
use Rattle.mrt_calls.specs.Faults.{IsWide, fault_of}
use Rattle.mrt_calls.specs.Putting.{PutsIn}
use Rattle.mrt_calls.specs.declared.fault.MrtFault.{MrtFault}

-- a fault tells of no exit
abbrev pub TellsNone : MrtFault → Type 0
TellsNone fault = (exit : Exit) → IsWide exit → fault ≡ fault_of exit → ⊥

-- the line of the exit that a fault tells of is put into a buffer, if there is room for it
pub record IsLineIn (fault : MrtFault) (buffer : List ℕ) (count status : ℕ) : Type 0 where
  pub exit : Exit
  pub wide : IsWide exit
  pub told : fault ≡ fault_of exit
  pub counted : count ≡ length (line_of exit)
  pub how : Exit
  pub put : PutsIn buffer (line_of exit) how
  pub status_is : status ≡ status_of how

-- so; or it tells of none, and the status is that of the usage
pub record IsLineOf (fault : MrtFault) (room : ℕ) (buffer : List ℕ) (count status : ℕ) : Type 0 where
  pub same_room : length buffer ≡ room
  pub line : IsLineIn fault buffer count status ⊎ (TellsNone fault × (status ≡ 2) × (count ≡ 0))
