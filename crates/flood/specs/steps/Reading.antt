-- What the private steps of reading answer.
use Rattle.std.specs.Prelude.{◌≡◌, ◌≤◌, ◌+◌, ℕ, List, length, map}
use Rattle.ospf_lsa.specs.declared.lsa.Lsa.{Lsa}
use Rattle.ospf_lsa.specs.Lsas.{AreLsas}
use Rattle.ospf_lsa.specs.LsaText.{lsas_text}
use Rattle.flood.specs.declared.error.UpdateKind.{UpdateKind}
use Rattle.flood.specs.PacketFaults.{HasFirstFault}
use Rattle.flood.specs.PacketFields.{ospf_version, link_state_update, version_field, type_field, length_field, lsa_bytes}
use Rattle.flood.specs.Updates.{placed_from}

-- none of the faults that are told before those of LSAs
pub record HasSoundHeader (bytes : List ℕ) : Type 0 where
  pub header_there : 28 ≤ length bytes
  pub whole : length_field bytes ≤ length bytes
  pub version : version_field bytes ≡ ospf_version
  pub type : type_field bytes ≡ link_state_update
  pub long_enough : 28 ≤ length_field bytes

-- these are the LSAs after the count of the packet that begins at this place, with their places in the file
pub record AreRead (at : ℕ) (bytes : List ℕ) (lsas : List Lsa) : Type 0 where
  pub read : List Lsa
  pub faultless : AreLsas 0 read
  pub spelled : lsa_bytes bytes ≡ lsas_text read
  pub placed : lsas ≡ map (placed_from (at + 28)) read

-- the packet that begins at this place has this first fault, which is told at that one
pub record IsRefused (at place : ℕ) (kind : UpdateKind) (bytes : List ℕ) : Type 0 where
  pub offset : ℕ
  pub fault : HasFirstFault kind offset bytes
  pub told : place ≡ at + offset
