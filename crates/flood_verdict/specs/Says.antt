-- What is said of two databases and a router: whether the certificates of the router's islands are the same.
use Rattle.std.specs.Prelude.{◌≡◌, ◌⊎◌, ℕ, false, List, Option, None, Contains, length, map}
use Rattle.area_graph.specs.AreaInvariant.{IsArea}
use Rattle.area_graph.specs.AreaOf.{area_of}
use Rattle.area_graph.specs.AreaSize.{IsTooLarge}
use Rattle.mrt_graph.specs.NodeIds.{router as router_node}
use Rattle.area_graph.specs.Parts.{AreaParts}
use Rattle.flood.specs.declared.verdict.Verdict.{Verdict}
use Rattle.flood.specs.declared.verdict.Verdict.TheVariants as verdicts
use Rattle.lsdb.specs.Conflicts.{least_conflict}
use Rattle.lsdb.specs.Entries.{Database}
use Rattle.mrt_graph.specs.GraphInvariant.{IsTopology}
use Rattle.mrt_graph.specs.Topology.{Topology}
use Rattle.mrt_graph.specs.declared.cert.CertFile.{CertFile}
use Rattle.mrt_island.specs.IslandOf.{IsIsland}
use Rattle.mrt_island.specs.Policy.{policy_of}
use Rattle.mrt_island.specs.declared.setting.Setting.{Setting}
use Rattle.mrt_rows.specs.CertOf.{IsCertOf}

-- the area of a database's newest LSAs
abbrev pub area_in : Database → AreaParts
area_in database = area_of (map (λ entry. entry.lsa) database.entries)

-- a database tells nothing of a router: two of its newest instances contradict each other, its area is over the limits,
-- the router is not in the area, or the profile says that it takes no part
pub data IsSilent (settings : List Setting) (database : Database) (router : ℕ) : Type 0 where
  Unsettled : (least_conflict database.entries ≡ None → ⊥) → IsSilent settings database router
  TooLarge : IsTooLarge (length (area_in database).ids) (length (area_in database).arcs)
      → IsSilent settings database router
  Absent : (Contains (area_in database).ids (router_node router) → ⊥) → IsSilent settings database router
  Unsupported : (policy_of settings).supports router ≡ false → IsSilent settings database router

-- the certificate of a router's island in an area: that of the island's graph, which keeps what each graph does, and root
pub record IsIslandCert (settings : List Setting) (area : AreaParts) (router : ℕ) (file : CertFile) : Type 0 where
  pub graph : Topology
  pub root : ℕ
  pub link_of : List (Option ℕ)
  pub island : IsIsland (policy_of settings) area router graph root link_of
  pub kept : IsTopology graph
  pub certificate : IsCertOf graph root file

-- a database tells of a router: it is settled, its area is within the limits and keeps what each area does, and the router
-- has an island there with this certificate
pub record Tells (settings : List Setting) (database : Database) (router : ℕ) (file : CertFile) : Type 0 where
  pub settled : least_conflict database.entries ≡ None
  pub within : IsTooLarge (length (area_in database).ids) (length (area_in database).arcs) → ⊥
  pub area_kept : IsArea (area_in database)
  pub told : IsIslandCert settings (area_in database) router file

-- none where one of the two tells nothing of the router, else the same or different, as the two certificates are
abbrev pub Says : List Setting → Database → Database → ℕ → Verdict → Type 0
Says settings its others router verdicts.None = IsSilent settings its router ⊎ IsSilent settings others router
Says settings its others router verdicts.Same =
    (file : CertFile) × Tells settings its router file × Tells settings others router file
Says settings its others router verdicts.Different =
    (file : CertFile) × (second : CertFile) × Tells settings its router file × Tells settings others router second
    × (file ≡ second → ⊥)
