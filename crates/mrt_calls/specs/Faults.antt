-- What C is told of an exit.
use Rattle.std.specs.Prelude.{◌≡◌, ◌<◌, ◌^◌, ℕ}
use Rattle.mrt_exit.specs.Exits.{status_of}
use Rattle.mrt_exit.specs.declared.exit.DbKind.TheVariants.{Lsa, Conflict}
use Rattle.mrt_exit.specs.declared.exit.Exit.{Exit}
use Rattle.mrt_exit.specs.declared.exit.Exit.TheVariants.{Done, No, Usage, BadDatabase, BadProfile, BadCertificate, TooLarge, NotThere, ReadFault, WriteFault, NoMemory, BadScript, NoCommonBlock, BadUpdate}
use Rattle.mrt_calls.specs.Kinds.{certificate_number, line_number, record_number, update_number, what_number}
use Rattle.mrt_calls.specs.declared.fault.MrtFault.{MrtFault}

-- an exit's numbers have the widths that it tells them in
abbrev pub IsWide : Exit → Type 0
IsWide (No rule a b) = (rule < 2 ^ 8) × (a < 2 ^ 16) × (b < 2 ^ 16)
IsWide (TooLarge what size) = size < 2 ^ 32
IsWide (ReadFault word) = word < 2 ^ 8
IsWide exit = Unit {0}

-- a fault with these numbers
abbrev pub fault : ℕ → ℕ → ℕ → ℕ → ℕ → MrtFault
fault status kind at other size =
    record { status = status; kind = kind; at = at; other = other; size = size; reserved = 0 }

-- what C is told of an exit: its status, and then its numbers
abbrev pub fault_of : Exit → MrtFault
fault_of Done = fault 0 0 0 0 0
fault_of (No rule a b) = fault 1 rule a b 0
fault_of Usage = fault 2 0 0 0 0
fault_of (BadDatabase at (Lsa kind)) = fault 3 (record_number kind) at 0 0
fault_of (BadDatabase at (Conflict first)) = fault 3 8 at first 0
fault_of (BadProfile line kind) = fault 4 (line_number kind) line 0 0
fault_of (BadCertificate at kind) = fault 5 (certificate_number kind) at 0 0
fault_of (TooLarge what size) = fault 6 (what_number what) 0 0 size
fault_of (NotThere number) = fault 7 0 number 0 0
fault_of (ReadFault word) = fault 8 0 word 0 0
fault_of (WriteFault taken) = fault 9 0 0 0 taken
fault_of NoMemory = fault 10 0 0 0 0
fault_of (BadScript line) = fault 11 0 line 0 0
fault_of NoCommonBlock = fault 13 0 0 0 0
fault_of (BadUpdate at kind) = fault 14 (update_number kind) at 0 0

-- a status and a fault tell an exit
abbrev pub IsTold : Exit → ℕ → MrtFault → Type 0
IsTold exit status told = (status ≡ status_of exit) × (told ≡ fault_of exit)
