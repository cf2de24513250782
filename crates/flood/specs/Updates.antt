-- Link State Update packets without a fault (RFC 2328, section A.3.5).
use Rattle.std.specs.Prelude.{◌≡◌, ◌≤◌, ◌+◌, ℕ, List, [], ◌∷◌, length, map, drop}
use Rattle.ospf_lsa.specs.declared.lsa.Lsa.{Lsa}
use Rattle.ospf_lsa.specs.Lsas.{AreLsas}
use Rattle.ospf_lsa.specs.LsaText.{lsas_text}
use Rattle.flood.specs.declared.update.Update.{Update}
use Rattle.flood.specs.PacketFields.{ospf_version, link_state_update, version_field, type_field, length_field, router_field, area_field, count_field, lsa_bytes}

-- an LSA that stands so far into bytes which begin at this place of a file, with its place in the file
abbrev pub placed_from : ℕ → Lsa → Lsa
placed_from start lsa = record lsa { at = start + lsa.at }

-- these bytes begin with a packet without a fault, whose first byte has this place in the file, and this is what it
-- says
pub record IsUpdate (at : ℕ) (bytes : List ℕ) (update : Update) : Type 0 where
  pub header_there : 28 ≤ length bytes
  pub whole : length_field bytes ≤ length bytes
  pub version : version_field bytes ≡ ospf_version
  pub type : type_field bytes ≡ link_state_update
  pub long_enough : 28 ≤ length_field bytes
  pub read : List Lsa
  pub faultless : AreLsas 0 read
  pub spelled : lsa_bytes bytes ≡ lsas_text read
  pub count : count_field bytes ≡ length read
  pub place : update.at ≡ at
  pub router : update.router ≡ router_field bytes
  pub area : update.area ≡ area_field bytes
  pub lsas : update.lsas ≡ map (placed_from (at + 28)) read

-- these bytes begin with such packets one after another, the first at this place, and these bytes are left after them
abbrev pub AreUpdates : ℕ → List ℕ → List Update → List ℕ → Type 0
AreUpdates at bytes [] rest = rest ≡ bytes
AreUpdates at bytes (update ∷ updates) rest =
    IsUpdate at bytes update × AreUpdates (at + length_field bytes) (drop (length_field bytes) bytes) updates rest
