-- A node is found at its parent, so that the parent has the lower number.
use Rattle.std.proofs.Common.{◌≡◌, ◌≢◌, ◌<◌, ◌≤◌, ◌∙◌, ℕ, List, Option, Some, None, length, slice_get, inl, inr, refl, sym, ap, subst, arith}
use Rattle.std.specs.Option.{option_and_then}
use Rattle.std.specs.Prelude.{Contains}
use Rattle.std.proofs.lemmas.Option.{same_Some, slice_get_within, slice_get_past}
use Rattle.std.proofs.lemmas.Bool.{cases_lt}
use Rattle.mrt_graph.specs.declared.tree.TreeNode.{TreeNode}
use Rattle.mrt_graph.specs.GraphInvariant.{IsTopology}
use Rattle.mrt_graph.specs.Leads.{leads}
use Rattle.mrt_graph.specs.Topology.{Topology}
use Rattle.mrt_graph.specs.TreeFields.{search_number, parent_link}
use Rattle.mrt_graph.proofs.EndsAt.{end_leads}
use Rattle.mrt_graph.proofs.Hops.{lead_back}
use Rattle.mrt_graph.proofs.ListPlaces.{place_of}
use Rattle.lowpoint_dfs.specs.SearchOrder.{IsDone, IsSearchOrder}
use Rattle.lowpoint_dfs.specs.Subtree.{HasParent, parent_of}
use Rattle.lowpoint_dfs.proofs.FoundInTurn.{IsFoundAt, found_at, number_at, root_first}
use Rattle.lowpoint_dfs.proofs.NodesListed.{each_listed}

-- where a node's parent link leads
pub parent_over : (g : Topology) (tree : List TreeNode) (v e u : ℕ) → parent_link tree v ≡ Some e → leads g.links e v ≡ Some u → parent_of g tree v ≡ Some u
parent_over g tree v e u over onward = rw over onward

-- the link and the node of a parent
pub record IsOver (g : Topology) (tree : List TreeNode) (v u : ℕ) : Type 0 where
  pub link : ℕ
  pub over : parent_link tree v ≡ Some link
  pub onward : leads g.links link v ≡ Some u

pub over_link : (g : Topology) (tree : List TreeNode) (v u : ℕ) → parent_of g tree v ≡ Some u → IsOver g tree v u
over_link g tree v u is = go (parent_link tree v) refl is
  where
    go : (o : Option ℕ) → parent_link tree v ≡ o → option_and_then (λ e. leads g.links e v) o ≡ Some u → IsOver g tree v u
    go None same is = cc
    go (Some e) same is = record { link = e; over = same; onward = is }

-- the node where another was found is its parent
pub found_has_parent : (g : Topology) (root : ℕ) (tree : List TreeNode) (order : List ℕ) (k v : ℕ) → IsTopology g → IsSearchOrder g root tree order
    → slice_get order k ≡ Some v → IsFoundAt g root tree order k v → HasParent g tree v
found_has_parent g root tree order k v kept searched at it =
    let next = it.next in
    let first = next.first in
    let down : leads g.links it.link next.at ≡ Some v =
    subst (λ (e : ℕ). leads g.links e next.at ≡ Some v) next.over
    (subst (λ (w : ℕ). leads g.links next.end.link next.at ≡ Some w) next.to (end_leads g next.at first.place first.ends next.end kept first.list first.there)) in
    record {
      parent = next.at;
      is = parent_over g tree v it.link next.at it.parent (lead_back g.links it.link next.at v down);
      lower = omega (
        arith,
        slice_get_within it.before next.place next.at next.there,
        it.count,
        number_at g root tree order searched k v at,
        number_at g root tree order searched next.place next.at (it.stays next.place next.at next.there),
      );
      end = next.end;
      first = record {
        ends = first.ends;
        list = first.list;
        place = first.place;
        there = first.there;
        asked = next.to;
        none_before = λ j other early there to. first.none_before j other early there
            (λ inside. first.asked (subst (λ (w : ℕ). Contains it.before w) (to ∙ sym next.to) inside));
      };
      over = it.parent ∙ ap (λ (e : ℕ). Some e) (sym next.over);
    }

-- each node but the root has a parent
pub has_parent : (g : Topology) (root : ℕ) (tree : List TreeNode) (order : List ℕ) → IsTopology g → root < length g.ids → IsSearchOrder g root tree order
    → ((k v : ℕ) → slice_get order k ≡ Some v → IsDone g order v) → (v : ℕ) → v < length g.ids → v ≢ root → HasParent g tree v
has_parent g root tree order kept within searched ended v v_within other =
    let place = place_of order v (each_listed g root tree order kept within searched ended v v_within) in
    elim (found_at g root tree order searched place.0 v place.1) [
      | inl first ↦ absurd (other first.1)
      | inr it ↦ found_has_parent g root tree order place.0 v kept searched place.1 it
    ]

pub no_link_past : (tree : List TreeNode) (v e : ℕ) → length tree ≤ v → parent_link tree v ≡ Some e → ⊥
no_link_past tree v e past over = let none = rw (slice_get_past tree v past) at over in cc

-- a parent has a lower number
pub falls : (g : Topology) (root : ℕ) (tree : List TreeNode) (order : List ℕ) → IsTopology g → root < length g.ids → IsSearchOrder g root tree order
    → ((k v : ℕ) → slice_get order k ≡ Some v → IsDone g order v) → length tree ≡ length g.ids
    → (v u : ℕ) → parent_of g tree v ≡ Some u → search_number tree u < search_number tree v
falls g root tree order kept within searched ended one_each v u is =
    let over = over_link g tree v u is in
    elim (cases_lt v (length g.ids)) [
      | inr past ↦ absurd (no_link_past tree v over.link (omega (arith, past, one_each)) over.over)
      | inl v_within ↦
          let place = place_of order v (each_listed g root tree order kept within searched ended v v_within) in
          elim (found_at g root tree order searched place.0 v place.1) [
            | inl first ↦
                let none : parent_link tree v ≡ None = subst (λ (w : ℕ). parent_link tree w ≡ None) (sym first.1) (root_first g root tree order searched).parent in
                absurd (some_none over.link (sym over.over ∙ none))
            | inr it ↦
                let has = found_has_parent g root tree order place.0 v kept searched place.1 it in
                subst (λ (w : ℕ). search_number tree w < search_number tree v) (same_Some has.parent u (sym has.is ∙ is)) has.lower
          ]
    ]
  where
    some_none : (a : ℕ) → Some a ≡ None → ⊥
    some_none a same = cc
