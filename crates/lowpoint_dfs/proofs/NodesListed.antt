-- A search that has gone on until its listed nodes are done has listed each node once.
use Rattle.std.proofs.Common.{◌≡◌, ◌<◌, ◌==◌, ◌∙◌, ℕ, List, [], ◌∷◌, Some, length, slice_get, count_by, subst, arith}
use Rattle.std.specs.Prelude.{Contains}
use Rattle.mrt_graph.specs.declared.tree.TreeNode.{TreeNode}
use Rattle.mrt_graph.specs.GraphInvariant.{IsTopology}
use Rattle.mrt_graph.specs.Leads.{leads}
use Rattle.mrt_graph.specs.Topology.{Topology}
use Rattle.mrt_graph.specs.Walk.{Walk}
use Rattle.mrt_graph.proofs.EndsAt.{IsEndOver, leads_end}
use Rattle.mrt_graph.proofs.FewNumbers.{IsAtOnePlace, tally_once}
use Rattle.mrt_graph.proofs.ListPlaces.{contains_at, place_of}
use Rattle.mrt_graph.proofs.Tallies.{count_is_tally}
use Rattle.lowpoint_dfs.specs.SearchOrder.{IsDone, IsSearchOrder}
use Rattle.lowpoint_dfs.proofs.FoundInTurn.{number_at, root_first}

-- no link of a node that is done leads outside
pub done_leads : (g : Topology) (listed : List ℕ) (e u v : ℕ) → IsTopology g → IsDone g listed u → leads g.links e u ≡ Some v → Contains listed v
done_leads g listed e u v kept done touches =
    let it : IsEndOver done.ends e v = leads_end g u e v done.ends kept done.list touches in
    subst (λ (w : ℕ). Contains listed w) it.to (done.all_inside it.place it.end it.at)

walk_listed : (g : Topology) (order : List ℕ) → IsTopology g → ((k v : ℕ) → slice_get order k ≡ Some v → IsDone g order v)
    → (walk : List ℕ) (s t : ℕ) → Contains order s → Walk g.links s walk t → Contains order t
walk_listed g order kept ended [] s t listed walks = subst (λ (w : ℕ). Contains order w) walks listed
walk_listed g order kept ended (e ∷ es) s t listed walks =
    let place = place_of order s listed in
    walk_listed g order kept ended es walks.0 t (done_leads g order e s walks.0 kept (ended place.0 s place.1) walks.1) walks.2

pub each_listed : (g : Topology) (root : ℕ) (tree : List TreeNode) (order : List ℕ) → IsTopology g → root < length g.ids → IsSearchOrder g root tree order
    → ((k v : ℕ) → slice_get order k ≡ Some v → IsDone g order v) → (v : ℕ) → v < length g.ids → Contains order v
each_listed g root tree order kept within searched ended v v_within =
    let walk = kept.connected root v within v_within in
    walk_listed g order kept ended walk.0 root v (contains_at order 0 root (root_first g root tree order searched).first) walk.1

-- no node stands at two places
pub one_place : (g : Topology) (root : ℕ) (tree : List TreeNode) (order : List ℕ) → IsSearchOrder g root tree order
    → (v : ℕ) → IsAtOnePlace order v
one_place g root tree order searched v j k at_j at_k =
    omega (arith, number_at g root tree order searched j v at_j, number_at g root tree order searched k v at_k)

pub each_once : (g : Topology) (root : ℕ) (tree : List TreeNode) (order : List ℕ) → IsTopology g → root < length g.ids → IsSearchOrder g root tree order
    → ((k v : ℕ) → slice_get order k ≡ Some v → IsDone g order v) → (v : ℕ) → v < length g.ids → count_by (λ node. node == v) order ≡ 1
each_once g root tree order kept within searched ended v v_within =
    count_is_tally (λ node. node == v) order
    ∙ tally_once order v (each_listed g root tree order kept within searched ended v v_within) (one_place g root tree order searched v)
