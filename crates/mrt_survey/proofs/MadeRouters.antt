-- The routers of a network that is made are in its area.
use Rattle.std.proofs.Common.{◌≤◌, ◌<◌, ◌+◌, ℕ, zero, suc, List, map, sym, ap, subst, inl, inr, arith}
use Rattle.std.specs.Prelude.{Contains}
use Rattle.std.specs.List.{range_with_len}
use Rattle.std.proofs.lemmas.Bool.{cases_eq}
use Rattle.mrt_graph.specs.declared.node_id.NodeId.{NodeId}
use Rattle.mrt_graph.proofs.Members.{Has, contains_from_has}
use Rattle.area_graph.specs.AreaOf.{area_of}
use Rattle.mrt_graph.specs.NodeIds.{router as router_node}
use Rattle.mrt_survey.specs.MadeLsas.{made_lsas}
use Rattle.mrt_survey.proofs.MadeArea.{made_nodes}

-- a router is a node of the area
routers_there : (from n v : ℕ) → from ≤ v → v < from + n → Has (map router_node (range_with_len from n)) (router_node v)
routers_there from zero v least most = absurd (omega (arith, least, most))
routers_there from (suc n) v least most = elim (cases_eq from v) [
  | inl same ↦ inl (ap router_node same)
  | inr later ↦ inr (routers_there (from + 1) n v (omega (arith, least, later)) (omega (arith, most)))
]

pub made_router_there : (number nodes v : ℕ) → 1 ≤ v → v ≤ nodes → Contains (area_of (made_lsas number nodes)).ids (router_node v)
made_router_there number nodes v least most =
    subst (λ (ids : List NodeId). Contains ids (router_node v)) (sym (made_nodes number nodes))
    (contains_from_has (map router_node (range_with_len 1 nodes)) (router_node v) (routers_there 1 nodes v least (omega (arith, most))))
