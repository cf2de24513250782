-- An island has no more nodes than its area.
use Rattle.std.proofs.Common.{◌≡◌, ◌≤◌, true, length, refl, ap, subst}
use Rattle.std.specs.Prelude.{◌↔◌, IsTrue}
use Rattle.std.specs.Ordering.{eq_by_cmp, is_eq}
use Rattle.std.specs.declared.cmp.Ordering.{Ordering}
use Rattle.std.specs.declared.cmp.Ordering.TheVariants.{Less, Equal, Greater}
use Rattle.std.proofs.lemmas.Cmp.{eq_by_cmp_equiv, tied_itself}
use Rattle.std.proofs.lemmas.Map.Keys.{IsDistinct-from_sorted}
use Rattle.std.proofs.lemmas.Map.Made.{is_member-Decides, length-le_from_is_member}
use Rattle.fabric.specs.FabricParts.{ArePartsKept, FabricParts}
use Rattle.mrt_graph.specs.NodeOrder.{node_id_cmp}
use Rattle.mrt_graph.specs.declared.node_id.NodeId.{NodeId}
use Rattle.mrt_graph.proofs.NodeIds.{node_id_total, tied_nodes}

-- the order tells two identifiers apart
same_id : (one other : NodeId) → IsTrue (eq_by_cmp node_id_cmp one other) ↔ (one ≡ other)
same_id one other = (
  λ holds. tied_nodes one other (tie (node_id_cmp one other) holds),
  λ same. subst (λ (id : NodeId). eq_by_cmp node_id_cmp one id ≡ true) same (ap is_eq (tied_itself node_id_total one)),
)
  where
    tie : (o : Ordering) → is_eq o ≡ true → o ≡ Equal
    tie Less is = cc
    tie Equal is = refl
    tie Greater is = cc

pub island_small : (parts : FabricParts) → ArePartsKept parts → length parts.island.ids ≤ length parts.area.ids
island_small parts are =
    length-le_from_is_member (eq_by_cmp_equiv node_id_total) parts.island.ids parts.area.ids (IsDistinct-from_sorted node_id_cmp parts.island.ids are.island_kept.ids_ascend)
    (λ id has. (is_member-Decides same_id parts.area.ids id).1 (are.fits.nodes id ((is_member-Decides same_id parts.island.ids id).0 has)))
