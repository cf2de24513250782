-- What is found of a router in a database.
use Rattle.std.proofs.Common.{◌≡◌, ℕ, List, Option, Some, None, Result, Ok, Err, length, subst, inl, inr}
use Rattle.std.specs.Prelude.{Contains, IfOk}
use Rattle.area_graph.specs.AreaInvariant.{IsArea}
use Rattle.area_graph.specs.AreaSize.{IsTooLarge}
use Rattle.mrt_graph.specs.NodeIds.{router as router_node}
use Rattle.area_graph.specs.Parts.{AreaParts}
use Rattle.cert_stream.specs.Stream.{Stream}
use Rattle.lsdb.specs.Conflicts.{least_conflict}
use Rattle.lsdb.specs.Entries.{Database}
use Rattle.mrt_island.specs.declared.setting.Setting.{Setting}
use Rattle.flood_verdict.specs.steps.Found.{IsFound, IsFoundIn}
use Rattle.flood_verdict.specs.Says.{IsIslandCert, Absent, Unsupported, area_in}

-- it is what is found in its area, where this is within the limits
pub found_in_database : {E : Type 0} (settings : List Setting) (database : Database) (area : AreaParts) (router : ℕ)
    → least_conflict database.entries ≡ None → area ≡ area_in database
    → (IsTooLarge (length (area_in database).ids) (length (area_in database).arcs) → ⊥) → IsArea area
    → (result : Result (Option Stream) E) → IfOk result (IsFoundIn settings area router)
    → IfOk result (IsFound settings database router)
found_in_database settings database area router settled is within kept (Ok None) (inl absent) =
    Absent (subst (λ (a : AreaParts). Contains a.ids (router_node router) → ⊥) is absent)
found_in_database settings database area router settled is within kept (Ok None) (inr unsupported) =
    Unsupported unsupported
found_in_database settings database area router settled is within kept (Ok (Some stream)) (file, computed, told) = (
  file,
  computed,
  record {
    settled = settled;
    within = within;
    area_kept = subst IsArea is kept;
    told = subst (λ (a : AreaParts). IsIslandCert settings a router file) is told;
  },
)
found_in_database settings database area router settled is within kept (Err error) found = tt
