-- What stands at each place of a search order.
use Rattle.std.proofs.Common.{◌≡◌, ◌⊎◌, ◌<◌, ◌+◌, ◌∙◌, ℕ, zero, suc, List, [], ◌∷◌, Some, None, length, slice_get, inl, inr, refl, sym, subst, arith}
use Rattle.std.proofs.lemmas.Option.{same_Some}
use Rattle.mrt_graph.specs.declared.tree.TreeNode.{TreeNode}
use Rattle.mrt_graph.specs.GraphInvariant.{IsEnd, IsTopology}
use Rattle.mrt_graph.specs.Topology.{Topology}
use Rattle.mrt_graph.specs.TreeFields.{search_number, parent_link}
use Rattle.mrt_graph.proofs.ListPlaces.{at_left, pushed_at}
use Rattle.mrt_graph.proofs.ListTests.{all_at}
use Rattle.mrt_graph.specs.FirstEnd.{IsFirstEnd}
use Rattle.lowpoint_dfs.specs.SearchOrder.{IsFoundNext, IsSearchOrder, Begun, Found}

-- the root stands first
pub record IsFirstRoot (root : ℕ) (tree : List TreeNode) (order : List ℕ) : Type 0 where
  pub first : slice_get order 0 ≡ Some root
  pub number : search_number tree root ≡ 1
  pub parent : parent_link tree root ≡ None

pub root_first : (g : Topology) (root : ℕ) (tree : List TreeNode) (order : List ℕ) → IsSearchOrder g root tree order → IsFirstRoot root tree order
root_first g root tree order (Begun number parent) = record { first = refl; number = number; parent = parent }
root_first g root tree order (Found listed node link earlier next number parent) =
    let before = root_first g root tree listed earlier in
    record { first = at_left listed (node ∷ []) 0 root before.first; number = before.number; parent = before.parent }

-- a node's number is its place, counted from 1
pub number_at : (g : Topology) (root : ℕ) (tree : List TreeNode) (order : List ℕ) → IsSearchOrder g root tree order → (k v : ℕ) → slice_get order k ≡ Some v
    → search_number tree v ≡ k + 1
number_at g root tree order (Begun number parent) zero v at =
    let one : search_number tree v ≡ 1 = subst (λ (w : ℕ). search_number tree w ≡ 1) (same_Some root v at) number in omega (arith, one)
number_at g root tree order (Begun number parent) (suc k) v at = cc
number_at g root tree order (Found listed node link earlier next number parent) k v at = elim (pushed_at listed node v k at) [
  | inl before ↦ number_at g root tree listed earlier k v before
  | inr last ↦
      let it : search_number tree v ≡ length listed + 1 = subst (λ (w : ℕ). search_number tree w ≡ length listed + 1) last.1 number in
      omega (arith, it, last.0)
]

-- an end that is a first one leads to a node of the graph
pub first_within : (g : Topology) (Asked : _ → Type 0) (v : ℕ) (end : _) → IsTopology g → IsFirstEnd g Asked v end → end.to < length g.ids
first_within g Asked v end kept first =
    (all_at (IsEnd (length g.ids) g.links v) first.ends first.place end (kept.ends_kept v first.ends first.list).kept first.there).to

-- all listed nodes are nodes of the graph
pub listed_within : (g : Topology) (root : ℕ) (tree : List TreeNode) (order : List ℕ) → IsTopology g → root < length g.ids → IsSearchOrder g root tree order
    → (k v : ℕ) → slice_get order k ≡ Some v → v < length g.ids
listed_within g root tree order kept within (Begun number parent) zero v at = subst (λ (w : ℕ). w < length g.ids) (same_Some root v at) within
listed_within g root tree order kept within (Begun number parent) (suc k) v at = cc
listed_within g root tree order kept within (Found listed node link earlier next number parent) k v at = elim (pushed_at listed node v k at) [
  | inl before ↦ listed_within g root tree listed kept within earlier k v before
  | inr last ↦ subst (λ (w : ℕ). w < length g.ids) (next.to ∙ last.1) (first_within g _ next.at next.end kept next.first)
]

-- the node v at place k was found when the nodes before it were listed
pub record IsFoundAt (g : Topology) (root : ℕ) (tree : List TreeNode) (order : List ℕ) (k v : ℕ) : Type 0 where
  pub before : List ℕ
  pub count : length before ≡ k
  pub earlier : IsSearchOrder g root tree before
  pub stays : (j u : ℕ) → slice_get before j ≡ Some u → slice_get order j ≡ Some u
  pub link : ℕ
  pub next : IsFoundNext g before v link
  pub parent : parent_link tree v ≡ Some link

pub found_at : (g : Topology) (root : ℕ) (tree : List TreeNode) (order : List ℕ) → IsSearchOrder g root tree order → (k v : ℕ) → slice_get order k ≡ Some v
    → ((k ≡ 0) × (v ≡ root)) ⊎ IsFoundAt g root tree order k v
found_at g root tree order (Begun number parent) zero v at = inl (refl, sym (same_Some root v at))
found_at g root tree order (Begun number parent) (suc k) v at = cc
found_at g root tree order (Found listed node link earlier next number parent) k v at = elim (pushed_at listed node v k at) [
  | inl before ↦ elim (found_at g root tree listed earlier k v before) [
    | inl first ↦ inl first
    | inr it ↦ inr (record {
      before = it.before;
      count = it.count;
      earlier = it.earlier;
      stays = λ j u there. at_left listed (node ∷ []) j u (it.stays j u there);
      link = it.link;
      next = it.next;
      parent = it.parent;
    })
  ]
  | inr last ↦ inr (record {
    before = listed;
    count = sym last.0;
    earlier = earlier;
    stays = λ j u there. at_left listed (node ∷ []) j u there;
    link = link;
    next = subst (λ (w : ℕ). IsFoundNext g listed w link) last.1 next;
    parent = subst (λ (w : ℕ). parent_link tree w ≡ Some link) last.1 parent;
  })
]
