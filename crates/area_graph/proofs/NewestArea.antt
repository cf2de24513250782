-- The newest ones of the records of a database give an area.
use Rattle.std.proofs.Common.{◌≡◌, ◌∙◌, ◌&&◌, ℕ, Bool, not, List, [], ◌∷◌, length, map, refl, sym, ap, subst, ltb}
use Rattle.std.specs.List.{AllByRecursion, filter, list_any}
use Rattle.std.specs.List.Sorted.{IsStrictlySortedBy}
use Rattle.std.specs.declared.cmp.Ordering.TheVariants.{Less}
use Rattle.std.proofs.lemmas.Cmp.{on_total}
use Rattle.mrt_graph.specs.InOrder.{in_order}
use Rattle.mrt_graph.specs.NodeOrder.{node_id_cmp}
use Rattle.mrt_graph.proofs.InOrder.{in_order_moves, in_order_sorted}
use Rattle.mrt_graph.proofs.Members.{all_from_has, all_has}
use Rattle.mrt_graph.proofs.NodeIds.{node_id_total}
use Rattle.ospf_lsa.specs.declared.lsa.Lsa.{Lsa}
use Rattle.lsdb.specs.Installing.{IsKept}
use Rattle.lsdb.specs.Keys.{AreDistinct}
use Rattle.lsdb.specs.Orders.{newest_in}
use Rattle.lsdb.proofs.Entered.{distinct_newest}
use Rattle.area_graph.specs.AreaInvariant.{IsArea}
use Rattle.area_graph.specs.AreaOf.{area_of}
use Rattle.area_graph.specs.AreaSize.{IsTooLarge}
use Rattle.area_graph.specs.steps.NumberedArcs.{arcs_among}
use Rattle.area_graph.specs.steps.NumberedEntries.{entries}
use Rattle.area_graph.specs.steps.NumberedArea.{parts_of}
use Rattle.area_graph.specs.Nodes.{node_of, live, nodes, speakers, speaks}
use Rattle.area_graph.specs.Parts.{AreaParts}
use Rattle.area_graph.proofs.Built.{as_many, is_area, parts_are}
use Rattle.area_graph.proofs.EveryOrder.{chosen}
use Rattle.area_graph.proofs.Foremost.{foremost, greatest_first_total, none_over}
use Rattle.area_graph.proofs.ListedApart.{are_entries}
use Rattle.area_graph.proofs.OneOfEachNode.{by_node, live_differ, lsa_cmp}
use Rattle.mrt_graph.proofs.SameIds.{ties_are_same}

-- the test of a speaker, in the words of orders
same_test : (lsas : List Lsa) → none_over by_node (λ lsa. lsa.router) lsas ≡ speaks lsas
same_test lsas = λ i x. not (list_any (λ y. ties_are_same (node_of x) (node_of y) i && ltb x.router y.router) lsas)

below_map : (x : Lsa) (xs : List Lsa) → AllByRecursion (λ y. by_node x y ≡ Less) xs → AllByRecursion (λ id. node_id_cmp (node_of x) id ≡ Less) (map node_of xs)
below_map x [] below = tt
below_map x (y ∷ ys) below = (below.0, below_map x ys below.1)

nodes_of_ascend : (xs : List Lsa) → IsStrictlySortedBy by_node xs → IsStrictlySortedBy node_id_cmp (map node_of xs)
unfolding IsStrictlySortedBy
nodes_of_ascend [] ascend = tt
nodes_of_ascend (x ∷ xs) ascend = (below_map x xs ascend.0, nodes_of_ascend xs ascend.1)

-- the nodes of an area ascend, each once
nodes_ascend : (lsas : List Lsa) → AllByRecursion IsKept lsas → AreDistinct lsas → IsStrictlySortedBy node_id_cmp (nodes lsas)
unfolding IsStrictlySortedBy
nodes_ascend [] kept distinct = tt
nodes_ascend (lsa ∷ rest) kept distinct =
    let lsas : List Lsa = lsa ∷ rest in
    let total = on_total node_of node_id_total in
    let found =
    foremost by_node (λ (x : Lsa). x.router) total (live lsas) (in_order lsa_cmp (live lsas)) lsa (live_differ lsas kept distinct)
    (in_order_moves lsa_cmp (live lsas)) (in_order_sorted lsa_cmp (greatest_first_total by_node (λ (x : Lsa). x.router) total) (live lsas)) in
    nodes_of_ascend (speakers lsas)
    (subst (IsStrictlySortedBy by_node) (found.are ∙ ap (λ (t : Lsa → Bool). in_order by_node (filter t (live lsas))) (same_test (live lsas))) found.ascend)

pub newest_area : (lsas : List Lsa) → AllByRecursion IsKept lsas → (IsTooLarge (length (area_of (newest_in lsas)).ids) (length (area_of (newest_in lsas)).arcs) → ⊥)
    → IsArea (area_of (newest_in lsas))
newest_area lsas kept within =
    let newest = newest_in lsas in
    let stand : AllByRecursion IsKept newest = all_from_has IsKept newest (λ lsa has. all_has IsKept lsas lsa kept (chosen lsas lsa has)) in
    let ascend = nodes_ascend newest stand (distinct_newest lsas) in
    let are : parts_of (nodes newest) (arcs_among (entries newest)) ≡ area_of newest = parts_are newest (nodes newest) (entries newest) (arcs_among (entries newest)) ascend refl refl refl in
    let by_way = arcs_among (entries newest) in
    let nodes_are : length (nodes newest) ≡ length (area_of newest).ids = ap (λ (a : AreaParts). length a.ids) are in
    let arcs_are : length by_way ≡ length (area_of newest).arcs = sym (as_many by_way) ∙ ap (λ (a : AreaParts). length a.arcs) are in
    subst IsArea are
    (is_area (entries newest) by_way (nodes newest) refl (are_entries newest stand) ascend
    (λ large.
    within (subst (λ (n : ℕ). IsTooLarge n (length (area_of newest).arcs)) nodes_are (subst (λ (n : ℕ). IsTooLarge (length (nodes newest)) n) arcs_are large))))
