-- What is found of a router in a database.
use Rattle.std.specs.Prelude.{◌≡◌, ◌⊎◌, ℕ, false, List, Option, Some, None, Contains}
use Rattle.mrt_graph.specs.NodeIds.{router as router_node}
use Rattle.area_graph.specs.Parts.{AreaParts}
use Rattle.cert_stream.specs.Stream.{Stream}
use Rattle.lsdb.specs.Entries.{Database}
use Rattle.mrt_graph.specs.declared.cert.CertFile.{CertFile}
use Rattle.mrt_island.specs.Policy.{policy_of}
use Rattle.mrt_island.specs.declared.setting.Setting.{Setting}
use Rattle.mrt_rows.specs.CertOf.{IsCertOf}
use Rattle.flood_verdict.specs.Says.{IsIslandCert, IsSilent, Tells}

-- in a database nothing where it tells nothing of the router, else the graph and the root of the certificate that it tells
abbrev pub IsFound : List Setting → Database → ℕ → Option Stream → Type 0
IsFound settings database router None = IsSilent settings database router
IsFound settings database router (Some stream) =
    (file : CertFile) × IsCertOf stream.graph stream.root file × Tells settings database router file

-- in an area nothing where the router is not there or takes no part, else those of its island
abbrev pub IsFoundIn : List Setting → AreaParts → ℕ → Option Stream → Type 0
IsFoundIn settings area router None =
    (Contains area.ids (router_node router) → ⊥) ⊎ ((policy_of settings).supports router ≡ false)
IsFoundIn settings area router (Some stream) =
    (file : CertFile) × IsCertOf stream.graph stream.root file × IsIslandCert settings area router file
