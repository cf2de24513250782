-- What reading a file of packets comes to.
use Rattle.std.specs.Prelude.{◌≡◌, ◌⊎◌, ◌<◌, ◌+◌, ℕ, List, length, drop, Result, Ok, Err}
use Rattle.std.specs.declared.alloc.Global.{Global}
use Rattle.std.specs.declared.vec.Vec.{Vec}
use Rattle.flood.specs.declared.error.UpdateKind.{UpdateKind}
use Rattle.flood.specs.declared.error.UpdateError.{UpdateError}
use Rattle.flood.specs.declared.error.UpdateError.TheVariants.{NoMemory}
use Rattle.flood.specs.declared.update.Update.{Update}
use Rattle.flood.specs.PacketFaults.{HasFirstFault}
use Rattle.flood.specs.Updates.{AreUpdates}

-- these packets are the answer, or there was no memory
abbrev pub AreAnswer : List Update → Result (Vec Update Global) UpdateError → Type 0
AreAnswer updates (Ok answer) = answer.items ≡ updates
AreAnswer updates (Err error) = error ≡ NoMemory

-- this error is the answer, or there was no memory
abbrev pub IsRefusal : UpdateError → Result (Vec Update Global) UpdateError → Type 0
IsRefusal error (Ok answer) = ⊥
IsRefusal error (Err told) = (told ≡ error) ⊎ (told ≡ NoMemory)

-- the first packet with a fault begins after packets without one, and the first of its faults is this, at this place of
-- the file
pub record IsFirstUpdateFault (bytes : List ℕ) (at : ℕ) (kind : UpdateKind) : Type 0 where
  pub packet : ℕ
  pub before : List Update
  pub more : packet < length bytes
  pub faultless : AreUpdates 0 bytes before (drop packet bytes)
  pub offset : ℕ
  pub fault : HasFirstFault kind offset (drop packet bytes)
  pub place : at ≡ packet + offset
