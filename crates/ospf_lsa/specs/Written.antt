-- LSAs as they are written, with a fresh checksum (RFC 905, annex B).
use Rattle.std.specs.Prelude.{◌≡◌, ◌≢◌, ◌^◌, ℕ}
use Rattle.std.specs.Int.{w32, cast_signed}
use Rattle.ospf_lsa.specs.declared.lsa.Body.{Body}
use Rattle.ospf_lsa.specs.declared.lsa.Body.TheVariants.{Router, Network, Other}
use Rattle.ospf_lsa.specs.declared.lsa.Lsa.{Lsa}
use Rattle.ospf_lsa.specs.Checksum.{fresh_checksum}
use Rattle.ospf_lsa.specs.LsaText.{covered_text}
use Rattle.ospf_lsa.specs.Lsas.{AreEntriesOf, KeepsMetrics}
use Rattle.ospf_lsa.specs.Types.{router_lsa}

-- an LSA but for its checksum, which is this one
abbrev pub with_checksum : Lsa → ℕ → Lsa
with_checksum lsa checksum = record lsa { checksum = checksum }

-- an LSA but for its checksum, which is that of its own bytes
abbrev pub renewed : Lsa → Lsa
renewed lsa = with_checksum lsa (fresh_checksum (covered_text (with_checksum lsa 0)))

-- the same at the front of a file
abbrev pub renewed_at_front : Lsa → Lsa
renewed_at_front lsa = record (renewed lsa) { at = 0 }

-- a router-LSA's body has as many TOS entries as its links say
abbrev pub HasItsEntries : Body → Type 0
HasItsEntries (Router flags spare links tos) = AreEntriesOf links tos
HasItsEntries (Network mask routers) = Unit {0}
HasItsEntries (Other bytes) = Unit {0}

-- an LSA without the faults that writing leaves as they are: its sequence number is not the reserved one, the link
-- state ID of a router-LSA is its advertising router, and no metric is 0 where it may not be
pub record IsReadable (lsa : Lsa) : Type 0 where
  pub not_reserved : lsa.sequence ≢ cast_signed w32 (2 ^ 31)
  pub own_id : lsa.kind ≡ router_lsa → lsa.id ≡ lsa.router
  pub metrics : KeepsMetrics lsa.body
