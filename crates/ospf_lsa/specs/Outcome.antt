-- What reading a database comes to. One record with a fault refuses all of it: no part is used without the rest.
use Rattle.std.specs.Prelude.{◌≡◌, ◌⊎◌, ◌<◌, ℕ, List, length, take, drop, Result, Ok, Err}
use Rattle.std.specs.declared.alloc.Global.{Global}
use Rattle.std.specs.declared.vec.Vec.{Vec}
use Rattle.ospf_lsa.specs.declared.error.LsaKind.{LsaKind}
use Rattle.ospf_lsa.specs.declared.error.LsaError.{LsaError}
use Rattle.ospf_lsa.specs.declared.error.LsaError.TheVariants.{NoMemory}
use Rattle.ospf_lsa.specs.declared.lsa.Lsa.{Lsa}
use Rattle.ospf_lsa.specs.Faults.{HasFirstFault}
use Rattle.ospf_lsa.specs.LsaText.{lsas_text}
use Rattle.ospf_lsa.specs.Lsas.{AreLsas}

-- these LSAs are the answer, or there was no memory
abbrev pub AreAnswer : List Lsa → Result (Vec Lsa Global) LsaError → Type 0
AreAnswer lsas (Ok answer) = answer.items ≡ lsas
AreAnswer lsas (Err error) = error ≡ NoMemory

-- this error is the answer, or there was no memory
abbrev pub IsRefusal : LsaError → Result (Vec Lsa Global) LsaError → Type 0
IsRefusal error (Ok answer) = ⊥
IsRefusal error (Err told) = (told ≡ error) ⊎ (told ≡ NoMemory)

-- the first record with a fault begins at this place, after LSAs without one, and this is the first of its faults
pub record IsFirstLsaFault (bytes : List ℕ) (at : ℕ) (kind : LsaKind) : Type 0 where
  pub before : List Lsa
  pub faultless : AreLsas 0 before
  pub spelled : take at bytes ≡ lsas_text before
  pub more : at < length bytes
  pub fault : HasFirstFault kind (drop at bytes)
