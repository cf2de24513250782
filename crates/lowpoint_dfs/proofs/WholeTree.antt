-- What holds of a whole search tree: numbers, parents, ancestors.
use Rattle.std.proofs.Common.{◌≡◌, ◌⊎◌, ◌<◌, ◌≤◌, ◌∙◌, ℕ, List, Some, None, length, slice_get, inl, inr, refl, sym, subst, arith}
use Rattle.std.specs.Prelude.{Contains}
use Rattle.std.proofs.lemmas.Bool.{cases_eq, cases_lt}
use Rattle.std.proofs.lemmas.Option.{slice_get_within}
use Rattle.mrt_graph.specs.declared.tree.TreeNode.{TreeNode}
use Rattle.mrt_graph.specs.GraphInvariant.{IsLink, IsTopology}
use Rattle.mrt_graph.specs.Leads.{leads}
use Rattle.mrt_graph.specs.Topology.{Topology}
use Rattle.mrt_graph.specs.TreeFields.{search_number, parent_link}
use Rattle.mrt_graph.proofs.FewNumbers.{few_numbers}
use Rattle.mrt_graph.proofs.Hops.{far_ends}
use Rattle.mrt_graph.proofs.ListPlaces.{place_of}
use Rattle.mrt_graph.proofs.ListTests.{all_at}
use Rattle.mrt_graph.proofs.Members.{contains_from_has}
use Rattle.lowpoint_dfs.specs.steps.Finding.{IsFinished}
use Rattle.lowpoint_dfs.specs.steps.Lowering.{AreAlike, AreNumbered}
use Rattle.lowpoint_dfs.specs.Lowpoint.{HasLowpoint}
use Rattle.lowpoint_dfs.specs.SearchTree.{IsSearchTree}
use Rattle.lowpoint_dfs.specs.Subtree.{IsInSubtree}
use Rattle.lowpoint_dfs.proofs.Ancestors.{Fall, joins}
use Rattle.lowpoint_dfs.proofs.FoundInTurn.{listed_within, number_at, root_first}
use Rattle.lowpoint_dfs.proofs.NodesListed.{each_listed, one_place}
use Rattle.lowpoint_dfs.proofs.ParentsFirst.{falls, has_parent, no_link_past, over_link}
use Rattle.lowpoint_dfs.proofs.SearchGoesOn.{order_kept}

-- both nodes of a link are nodes of the graph
pub leads_within : (g : Topology) (e u v : ℕ) → IsTopology g → leads g.links e u ≡ Some v → (u < length g.ids) × (v < length g.ids)
leads_within g e u v kept onward = go (slice_get g.links e) refl
  where
    go : (o : _) → slice_get g.links e ≡ o → (u < length g.ids) × (v < length g.ids)
    go None is = let none = rw is at onward in cc
    go (Some link) is =
        let there = rw is at onward in
        let it : IsLink g.ids link = all_at (IsLink g.ids) g.links e link kept.links_kept is in
        elim (far_ends link u v there) [
          | inl up ↦ (omega (arith, up.0, it.ascending, it.upper), omega (arith, up.1, it.upper))
          | inr down ↦ (omega (arith, down.0, it.upper), omega (arith, down.1, it.ascending, it.upper))
        ]

pub tree_falls : (g : Topology) (root : ℕ) (tree : List TreeNode) → IsTopology g → root < length g.ids → IsSearchTree g root tree → Fall g tree
tree_falls g root tree kept within search = falls g root tree search.order kept within search.searched search.ended search.one_each

-- a parent link touches its node
pub link_touches : (g : Topology) (root : ℕ) (tree : List TreeNode) → IsTopology g → root < length g.ids → IsSearchTree g root tree
    → (v e : ℕ) → parent_link tree v ≡ Some e → (u : ℕ) × (leads g.links e v ≡ Some u)
link_touches g root tree kept within search v e over = elim (cases_lt v (length g.ids)) [
  | inr past ↦ absurd (no_link_past tree v e (omega (arith, past, search.one_each)) over)
  | inl v_within ↦ elim (cases_eq v root) [
    | inl first ↦
        let none : parent_link tree v ≡ None = subst (λ (w : ℕ). parent_link tree w ≡ None) (sym first) (root_first g root tree search.order search.searched).parent in
        absurd (no_link (sym none ∙ over))
    | inr other ↦
        let has = has_parent g root tree search.order kept within search.searched search.ended v v_within other in
        let it = over_link g tree v has.parent has.is in
        (has.parent, subst (λ (d : ℕ). leads g.links d v ≡ Some has.parent) (same_link it.link e (sym it.over ∙ over)) it.onward)
  ]
]
  where
    no_link : None ≡ Some e → ⊥
    no_link same = cc

    same_link : (a b : ℕ) → Some a ≡ Some b → a ≡ b
    same_link a b same = cc

pub tree_lists : (g : Topology) (root : ℕ) (tree : List TreeNode) → IsTopology g → root < length g.ids → (search : IsSearchTree g root tree)
    → (v : ℕ) → v < length g.ids → Contains search.order v
tree_lists g root tree kept within search = each_listed g root tree search.order kept within search.searched search.ended

pub joins_all : (g : Topology) (root : ℕ) (tree : List TreeNode) → IsTopology g → root < length g.ids → IsSearchTree g root tree
    → (e u v : ℕ) → leads g.links e u ≡ Some v → IsInSubtree g tree u v ⊎ IsInSubtree g tree v u
joins_all g root tree kept within search e u v onward =
    let both = leads_within g e u v kept onward in
    joins g root tree search.order kept (tree_falls g root tree kept within search) search.searched e u v
    (tree_lists g root tree kept within search u both.0) (tree_lists g root tree kept within search v both.1) onward

pub numbers_within : (g : Topology) (root : ℕ) (tree : List TreeNode) → IsTopology g → root < length g.ids → IsSearchTree g root tree
    → (v : ℕ) → v < length g.ids → (1 ≤ search_number tree v) × (search_number tree v ≤ length g.ids)
numbers_within g root tree kept within search v v_within =
    let order = search.order in
    let place = place_of order v (tree_lists g root tree kept within search v v_within) in
    let number = number_at g root tree order search.searched place.0 v place.1 in
    let few : length order ≤ length g.ids =
    few_numbers (length g.ids) order
    (λ w has. let at = place_of order w (contains_from_has order w has) in listed_within g root tree order kept within search.searched at.0 w at.1)
    (one_place g root tree order search.searched) in
    (omega (arith, number), omega (arith, number, few, slice_get_within order place.0 v place.1))

pub numbers_differ : (g : Topology) (root : ℕ) (tree : List TreeNode) → IsTopology g → root < length g.ids → IsSearchTree g root tree
    → (u v : ℕ) → u < length g.ids → v < length g.ids → search_number tree u ≡ search_number tree v → u ≡ v
numbers_differ g root tree kept within search u v u_within v_within same =
    let place = place_of search.order u (tree_lists g root tree kept within search u u_within) in
    let other = place_of search.order v (tree_lists g root tree kept within search v v_within) in
    let one : place.0 ≡ other.0 = omega (arith, same, number_at g root tree search.order search.searched place.0 u place.1, number_at g root tree search.order search.searched other.0 v other.1) in
    same_some u v (sym place.1 ∙ subst (λ (k : ℕ). slice_get search.order k ≡ Some v) (sym one) other.1)
  where
    same_some : (a b : ℕ) → Some a ≡ Some b → a ≡ b
    same_some a b same = cc

-- a finished search has numbered the nodes
pub numbered : (g : Topology) (root : ℕ) (tree : List TreeNode) (order : List ℕ) → IsTopology g → root < length g.ids → IsFinished g root tree order → AreNumbered g tree order
numbered g root tree order kept within finished = record {
  places = number_at g root tree order finished.searched;
  within = listed_within g root tree order kept within finished.searched;
  falls = falls g root tree order kept within finished.searched finished.ended finished.one_each;
}

-- with its lowpoints it is a search tree
pub whole_tree : (g : Topology) (root : ℕ) (start tree : List TreeNode) (order : List ℕ) → IsTopology g → root < length g.ids → IsFinished g root start order
    → length tree ≡ length start → AreAlike start tree → ((v : ℕ) → Contains order v → HasLowpoint g tree v) → IsSearchTree g root tree
whole_tree g root start tree order kept within finished same alike lows = record {
  order = order;
  searched = order_kept g root start tree order finished.searched (λ v c. alike.numbers v) (λ v c. alike.parents v);
  ended = finished.ended;
  one_each = same ∙ finished.one_each;
  lowpoints = λ v v_within. lows v (each_listed g root start order kept within finished.searched finished.ended v v_within);
}
