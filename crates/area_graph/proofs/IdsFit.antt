-- The numbers of an area's nodes have 32 bits.
use Rattle.std.proofs.Common.{◌<◌, ◌^◌, ◌==◌, List, inl, inr}
use Rattle.std.specs.List.{AllByRecursion}
use Rattle.std.proofs.lemmas.Bool.{cases_Bool}
use Rattle.mrt_graph.specs.declared.node_id.NodeId.{NodeId}
use Rattle.mrt_graph.proofs.Members.{all_from_has, all_has, all_map}
use Rattle.lsdb.specs.Orders.{newest_in}
use Rattle.ospf_lsa.specs.Types.{router_lsa}
use Rattle.ospf_lsa.specs.declared.lsa.Lsa.{Lsa}
use Rattle.area_graph.specs.AreaOf.{area_of}
use Rattle.area_graph.specs.Nodes.{node_of, speakers}
use Rattle.area_graph.proofs.EveryOrder.{chosen}
use Rattle.area_graph.proofs.Speaking.{speaker_is}

node_fits : (lsa : Lsa) → lsa.id < 2 ^ 32 → (node_of lsa).number < 2 ^ 32
node_fits lsa fits = elim (cases_Bool (lsa.kind == router_lsa)) [ inl router ↦ rw router fits | inr network ↦ rw network fits ]

pub ids_fit : (lsas : List Lsa) → AllByRecursion (λ (lsa : Lsa). lsa.id < 2 ^ 32) lsas
    → AllByRecursion (λ (id : NodeId). id.number < 2 ^ 32) (area_of (newest_in lsas)).ids
ids_fit lsas fit =
    all_map (λ (id : NodeId). id.number < 2 ^ 32) node_of (speakers (newest_in lsas))
    (all_from_has (λ (lsa : Lsa). (node_of lsa).number < 2 ^ 32) (speakers (newest_in lsas)) (λ lsa has.
    node_fits lsa (all_has (λ (l : Lsa). l.id < 2 ^ 32) lsas lsa fit (chosen lsas lsa (speaker_is (newest_in lsas) lsa has).there))))
