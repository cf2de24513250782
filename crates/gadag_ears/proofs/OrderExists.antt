-- Each search tree has an ear order: ears are put in and turns end until all turns are over.
use Rattle.std.proofs.Common.{◌≡◌, ◌⊎◌, ◌<◌, ◌≤◌, ◌+◌, ◌*◌, ◌++◌, ◌∙◌, ℕ, zero, suc, List, [], ◌∷◌, Some, length, slice_get, inl, inr, refl, sym, ap, subst, arith, length-append}
use Rattle.std.specs.Prelude.{Contains}
use Rattle.std.proofs.lemmas.Option.{same_Some, slice_get_within}
use Rattle.mrt_graph.specs.declared.link.End.{End}
use Rattle.mrt_graph.specs.declared.tree.TreeNode.{TreeNode}
use Rattle.mrt_graph.specs.FirstEnd.{IsFirstEnd}
use Rattle.mrt_graph.specs.Topology.{Topology}
use Rattle.mrt_graph.proofs.EndsAt.{leads_end, list_of_ends}
use Rattle.mrt_graph.proofs.FewNumbers.{few_numbers}
use Rattle.mrt_graph.proofs.Hops.{lead_back}
use Rattle.mrt_graph.proofs.Members.{contains_from_has, listed_or_not}
use Rattle.lowpoint_dfs.specs.SearchOrder.{IsDone}
use Rattle.lowpoint_dfs.specs.Subtree.{parent_of}
use Rattle.lowpoint_dfs.proofs.ParentsFirst.{over_link}
use Rattle.gadag_ears.specs.declared.kind.EarKind.TheVariants.{Child, Neighbour}
use Rattle.gadag_ears.specs.Ear.{Ear, IsNextEar, LeadsToChild, ToChild, ToNeighbour, new_nodes}
use Rattle.gadag_ears.specs.EarOrder.{AreEars, Begun, Grown, IsEarOrder, Turned}
use Rattle.gadag_ears.proofs.CutLists.{in_turn}
use Rattle.gadag_ears.proofs.EarsExist.{ear_exists}
use Rattle.gadag_ears.proofs.MarksGrown.{is_link_or_not}
use Rattle.gadag_ears.proofs.Once.{one_place}
use Rattle.gadag_ears.proofs.SearchFacts.{AreFacts}
use Rattle.gadag_ears.proofs.TurnsKept.{AreKept, all_kept}

-- the first end that has what is asked for, or none
record IsFirstOf (Asked : End → Type 0) (ends : List End) : Type 0 where
  pub place : ℕ
  pub end : End
  pub there : slice_get ends place ≡ Some end
  pub asked : Asked end
  pub none_before : (k : ℕ) (other : End) → k < place → slice_get ends k ≡ Some other → ¬ Asked other

none_at : (Asked : End → Type 0) (first : End) (ends : List End) (n : ℕ) → ¬ Asked first
    → ((k : ℕ) (other : End) → k < n → slice_get ends k ≡ Some other → ¬ Asked other)
    → (k : ℕ) (other : End) → k < suc n → slice_get (first ∷ ends) k ≡ Some other → ¬ Asked other
none_at Asked first ends n not_first none zero other early at = subst (λ (one : End). ¬ Asked one) (same_Some first other at) not_first
none_at Asked first ends n not_first none (suc k) other early at = none k other (omega (arith, early)) at

first_or_none : (Asked : End → Type 0) → ((end : End) → Asked end ⊎ (¬ Asked end)) → (ends : List End)
    → IsFirstOf Asked ends ⊎ ((k : ℕ) (end : End) → k < length ends → slice_get ends k ≡ Some end → ¬ Asked end)
first_or_none Asked tells [] = inr (λ k end early. absurd (omega (arith, early)))
first_or_none Asked tells (end ∷ ends) = elim (tells end) [
  | inl asked ↦ inl (record { place = 0; end = end; there = refl; asked = asked; none_before = λ k other early. absurd (omega (arith, early)) })
  | inr not_here ↦ elim (first_or_none Asked tells ends) [
    | inl it ↦ inl (record { place = suc it.place; end = it.end; there = it.there; asked = it.asked; none_before = none_at Asked end ends it.place not_here it.none_before })
    | inr none ↦ inr (none_at Asked end ends (length ends) not_here none)
  ]
]

first_end : (g : Topology) (x : ℕ) (Asked : End → Type 0) (ends : List End) → slice_get g.ends x ≡ Some ends → (it : IsFirstOf Asked ends)
    → IsFirstEnd g Asked x it.end
first_end g x Asked ends list it =
    record { ends = ends; list = list; place = it.place; there = it.there; asked = it.asked; none_before = it.none_before }

child_tells : (g : Topology) (tree : List TreeNode) (listed : List ℕ) (x : ℕ) (end : End) → LeadsToChild g tree listed x end ⊎ (¬ LeadsToChild g tree listed x end)
child_tells g tree listed x end = elim (listed_or_not listed end.to) [
  | inl inside ↦ inr (λ child. child.0 inside)
  | inr outside ↦ elim (is_link_or_not (parent_of g tree end.to) x) [
    | inl child ↦ inl (outside, child)
    | inr other ↦ inr (λ child. other child.1)
  ]
]

outside_tells : (listed : List ℕ) (end : End) → (¬ Contains listed end.to) ⊎ (¬ ¬ Contains listed end.to)
outside_tells listed end = elim (listed_or_not listed end.to) [ inl inside ↦ inr (λ outside. outside inside) | inr outside ↦ inl outside ]

-- the turn of x is over, or an ear is next
record HasNext (g : Topology) (tree : List TreeNode) (listed : List ℕ) (x : ℕ) : Type 0 where
  pub ear : Ear
  pub next : IsNextEar g tree listed x ear

all_listed : (listed : List ℕ) (ends : List End) → ((k : ℕ) (end : End) → k < length ends → slice_get ends k ≡ Some end → ¬ ¬ Contains listed end.to)
    → (k : ℕ) (end : End) → slice_get ends k ≡ Some end → Contains listed end.to
all_listed listed ends none k end at = elim (listed_or_not listed end.to) [
  | inl inside ↦ inside
  | inr outside ↦ absurd (none k end (slice_get_within ends k end at) at outside)
]

children_in : (g : Topology) (root : ℕ) (tree : List TreeNode) (listed : List ℕ) (x : ℕ) (ends : List End) → AreFacts g root tree → slice_get g.ends x ≡ Some ends
    → ((k : ℕ) (end : End) → k < length ends → slice_get ends k ≡ Some end → ¬ LeadsToChild g tree listed x end)
    → (v : ℕ) → parent_of g tree v ≡ Some x → Contains listed v
children_in g root tree listed x ends facts list none v child = elim (listed_or_not listed v) [
  | inl inside ↦ inside
  | inr outside ↦
      let over = over_link g tree v x child in
      let it = leads_end g x over.link v ends facts.kept list (lead_back g.links over.link v x over.onward) in
      absurd (none it.place it.end (slice_get_within ends it.place it.end it.at) it.at (
        subst (λ (w : ℕ). ¬ Contains listed w) (sym it.to) outside,
        ap (λ (w : ℕ). parent_of g tree w) it.to ∙ child,
      ))
]

step : (g : Topology) (root : ℕ) (tree : List TreeNode) (over : List ℕ) (x : ℕ) (later : List ℕ) (ears : List Ear) → AreFacts g root tree
    → IsEarOrder g root tree over x later ears → HasNext g tree (over ++ x ∷ later) x ⊎ IsDone g (over ++ x ∷ later) x
step g root tree over x later ears facts ordered =
    let kept = all_kept g root tree over x later ears facts ordered in
    let list = list_of_ends g x facts.kept (kept.within x (in_turn over x later)) in
    elim (first_or_none (LeadsToChild g tree (over ++ x ∷ later) x) (child_tells g tree (over ++ x ∷ later) x) list.0) [
      | inl it ↦
          let first = first_end g x (LeadsToChild g tree (over ++ x ∷ later) x) list.0 list.1 it in
          let ear = ear_exists g root tree over x later ears it.end Child facts ordered (ToChild first) in
          inl (record { ear = ear.0; next = ear.3 })
      | inr no_child ↦ elim (first_or_none (λ end. ¬ Contains (over ++ x ∷ later) end.to) (outside_tells (over ++ x ∷ later)) list.0) [
        | inl it ↦
            let first = first_end g x (λ end. ¬ Contains (over ++ x ∷ later) end.to) list.0 list.1 it in
            let ear = ear_exists g root tree over x later ears it.end Neighbour facts ordered
            (ToNeighbour (children_in g root tree (over ++ x ∷ later) x list.0 facts list.1 no_child) first) in
            inl (record { ear = ear.0; next = ear.3 })
        | inr none ↦ inr (record { ends = list.0; list = list.1; all_inside = all_listed (over ++ x ∷ later) list.0 none })
      ]
    ]

-- a list that has come about is no longer than the graph has nodes
few_listed : (g : Topology) (tree : List TreeNode) (over : List ℕ) (x : ℕ) (later : List ℕ) → AreKept g tree over x later → length over + 1 + length later ≤ length g.ids
few_listed g tree over x later kept =
    let few : length (over ++ x ∷ later) ≤ length g.ids =
    few_numbers (length g.ids) (over ++ x ∷ later) (λ v has. kept.within v (contains_from_has (over ++ x ∷ later) v has))
    (λ v. one_place (over ++ x ∷ later) v (kept.once v)) in
    omega (arith, few, length-append over (x ∷ later))

record IsEarOrdered (g : Topology) (root : ℕ) (tree : List TreeNode) : Type 0 where
  pub order : List ℕ
  pub ears : List Ear
  pub are : AreEars g root tree order ears

goes_on : (left : ℕ) (g : Topology) (root : ℕ) (tree : List TreeNode) (over : List ℕ) (x : ℕ) (later : List ℕ) (ears : List Ear) → AreFacts g root tree
    → IsEarOrder g root tree over x later ears → 2 * length g.ids ≤ 2 * length over + length later + left → IsEarOrdered g root tree
goes_on zero g root tree over x later ears facts ordered near =
    absurd (omega (arith, near, few_listed g tree over x later (all_kept g root tree over x later ears facts ordered)))
goes_on (suc left) g root tree over x [] ears facts ordered near = elim (step g root tree over x [] ears facts ordered) [
  | inl it ↦ goes_on left g root tree over x (new_nodes it.ear ++ []) (it.ear ∷ ears) facts (Grown over x [] ears it.ear ordered it.next)
      (omega (arith, near, length-append (new_nodes it.ear) []))
  | inr done ↦ record {
    order = over ++ x ∷ [];
    ears = ears;
    are = record { before = over; last = x; ordered = ordered; whole = refl; ended = done };
  }
]
goes_on (suc left) g root tree over x (y ∷ later) ears facts ordered near = elim (step g root tree over x (y ∷ later) ears facts ordered) [
  | inl it ↦ goes_on left g root tree over x (new_nodes it.ear ++ y ∷ later) (it.ear ∷ ears) facts (Grown over x (y ∷ later) ears it.ear ordered it.next)
      (omega (arith, near, length-append (new_nodes it.ear) (y ∷ later)))
  | inr done ↦ goes_on left g root tree (over ++ x ∷ []) y later ears facts (Turned over x y later ears ordered done)
      (omega (arith, near, length-append over (x ∷ [])))
]

pub some_order : (g : Topology) (root : ℕ) (tree : List TreeNode) → AreFacts g root tree → (order : List ℕ) × (ears : List Ear) × AreEars g root tree order ears
some_order g root tree facts =
    let it = goes_on (2 * length g.ids) g root tree [] root [] [] facts Begun (omega arith) in (it.order, it.ears, it.are)
