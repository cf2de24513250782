-- The facts on the search tree, from the laws of the search.
use Rattle.std.proofs.Common.{◌≡◌, ◌≢◌, ◌<◌, ◌≤◌, ◌∙◌, ◌==◌, ℕ, true, false, List, Some, None, length, inl, inr, refl, sym, ap, arith}
use Rattle.std.specs.Option.{option_and_then, option_map_or}
use Rattle.std.proofs.lemmas.Bool.{cases_Bool, eq-eqb}
use Rattle.std.proofs.lemmas.Option.{same_Some}
use Rattle.mrt_graph.specs.declared.link.End.{End}
use Rattle.mrt_graph.specs.declared.tree.TreeNode.{TreeNode}
use Rattle.mrt_graph.specs.Leads.{leads}
use Rattle.mrt_graph.specs.Topology.{Topology}
use Rattle.mrt_graph.specs.TreeFields.{search_number, parent_link, low_of, low_link}
use Rattle.mrt_graph.proofs.EndsAt.{end_leads}
use Rattle.mrt_graph.proofs.Hops.{lead_back, same_ends}
use Rattle.lowpoint_dfs.specs.Lowpoint.{IsLowLink, ByOffer, ByParent, is_parent_link, offer}
use Rattle.lowpoint_dfs.specs.Subtree.{IsInSubtree, Itself, Below, parent_of}
use Rattle.lowpoint_dfs.proofs.Ancestors.{in_subtree_on, numbers_rise}
use Rattle.lowpoint_dfs.proofs.FoundInTurn.{root_first}
use Rattle.lowpoint_dfs.proofs.LowpointsGiven.{parent_link_is}
use Rattle.lowpoint_dfs.proofs.LowReached.{low_reached}
use Rattle.lowpoint_dfs.proofs.ParentsFirst.{has_parent, over_link, parent_over}
use Rattle.lowpoint_dfs.proofs.WholeTree.{joins_all, leads_within, link_touches, numbers_differ, numbers_within, tree_falls}
use Rattle.gadag_ears.specs.declared.kind.EarKind.TheVariants.{Child}
use Rattle.gadag_ears.specs.Ear.{next_node}
use Rattle.gadag_ears.specs.steps.Growing.{IsSearched}
use Rattle.gadag_ears.proofs.SearchFacts.{AreFacts, Down, IsLowWay, ToParent, Up}

none_some : (n : ℕ) → None ≡ Some n → ⊥
none_some n same = cc

falls_of : (g : Topology) (root : ℕ) (tree : List TreeNode) → IsSearched g root tree → (v p : ℕ) → parent_of g tree v ≡ Some p
    → search_number tree p < search_number tree v
falls_of g root tree s = tree_falls g root tree s.kept s.within s.search

-- a lowpoint is at most each number that a link from the subtree reaches
by_link_of : (g : Topology) (root : ℕ) (tree : List TreeNode) → IsSearched g root tree → (v w e x : ℕ) → v < length g.ids → IsInSubtree g tree v w
    → parent_link tree v ≢ Some e → leads g.links e w ≡ Some x → low_of tree v ≤ search_number tree x
by_link_of g root tree s v w e x within inside other onward =
    (low_reached g root tree s.kept s.within s.search v within).least (search_number tree x)
    (inr (record { link = e; from = w; to = x; inside = inside; leads_on = onward; other = other; number = refl }))

-- a parent's parent link does not touch the child's subtree
not_above : (g : Topology) (root : ℕ) (tree : List TreeNode) (v p w e x : ℕ) → IsSearched g root tree → parent_of g tree v ≡ Some p → IsInSubtree g tree v w
    → leads g.links e w ≡ Some x → parent_link tree p ≢ Some e
not_above g root tree v p w e x s is inside onward over =
    let up = link_touches g root tree s.kept s.within s.search p e over in
    let above = falls_of g root tree s p up.0 (parent_over g tree p e up.0 over up.1) in
    let rise = numbers_rise g tree v w (falls_of g root tree s) inside in
    elim (same_ends g.links e p up.0 w x up.1 onward) [
      | inl at_p ↦ omega (arith, falls_of g root tree s v p is, rise, ap (λ (z : ℕ). search_number tree z) at_p)
      | inr at_up ↦ omega (arith, falls_of g root tree s v p is, rise, above, ap (λ (z : ℕ). search_number tree z) at_up)
    ]

by_child_of : (g : Topology) (root : ℕ) (tree : List TreeNode) → IsSearched g root tree → (v p : ℕ) → parent_of g tree v ≡ Some p → low_of tree p ≤ low_of tree v
by_child_of g root tree s v p is =
    let over = over_link g tree v p is in
    let back = lead_back g.links over.link v p over.onward in
    let both = leads_within g over.link v p s.kept over.onward in
    let v_within : v < length g.ids = both.0 in
    let p_within : p < length g.ids = both.1 in
    elim (low_reached g root tree s.kept s.within s.search v v_within).one_of_them [
      | inl own ↦ omega (arith, own, by_link_of g root tree s p p over.link v p_within Itself (not_above g root tree v p v over.link p s is Itself over.onward) back)
      | inr it ↦ omega (
        arith,
        it.number,
        by_link_of g root tree s p it.from it.link it.to p_within
            (in_subtree_on g tree p v it.from (Below v p is Itself) it.inside) (not_above g root tree v p it.from it.link it.to s is it.inside it.leads_on) it.leads_on,
      )
    ]

-- where a lowpoint link leads
low_way_over : (g : Topology) (root : ℕ) (tree : List TreeNode) (v : ℕ) (end : End) → IsSearched g root tree → low_of tree v < search_number tree v
    → leads g.links end.link v ≡ Some end.to → offer tree v end ≡ Some (low_of tree v) → low_link tree v ≡ Some end.link → IsLowWay g tree v
low_way_over g root tree v end s lower onward offers link =
    let next : next_node g tree Child v ≡ Some end.to = ap (λ o. option_and_then (λ e. leads g.links e v) o) link ∙ onward in
    elim (cases_Bool (is_parent_link tree v end.link)) [
      | inl own ↦ let none : None ≡ Some (low_of tree v) = rw own at offers in absurd (none_some (low_of tree v) none)
      | inr free ↦ elim (cases_Bool (is_parent_link tree end.to end.link)) [
        | inr no_child ↦
            let is : Some (search_number tree end.to) ≡ Some (low_of tree v) = rw (free, no_child) at offers in
            Up end.to end.link next onward (same_Some (search_number tree end.to) (low_of tree v) is) lower
        | inl child ↦
            let is : Some (low_of tree end.to) ≡ Some (low_of tree v) = rw (free, child) at offers in
            Down end.to next (parent_over g tree end.to end.link v (parent_link_is tree end.to end.link child) (lead_back g.links end.link v end.to onward))
            (same_Some (low_of tree end.to) (low_of tree v) is) lower
      ]
    ]

low_way_of : (g : Topology) (root : ℕ) (tree : List TreeNode) (v : ℕ) → IsSearched g root tree → IsLowLink g tree v → IsLowWay g tree v
low_way_of g root tree v s (ByParent own link) = ToParent own link
low_way_of g root tree v s (ByOffer end lower first link) =
    low_way_over g root tree v end s lower (end_leads g v first.place first.ends end s.kept first.list first.there) first.asked link

-- where a lowpoint is below the node's number its link is not the parent link
low_free_of : (g : Topology) (tree : List TreeNode) (v e : ℕ) → low_of tree v < search_number tree v → low_link tree v ≡ Some e → IsLowLink g tree v
    → parent_link tree v ≢ Some e
low_free_of g tree v e lower is (ByParent own link) over = omega (arith, lower, own)
low_free_of g tree v e lower is (ByOffer end low first link) over =
    let same : e ≡ end.link = same_Some e end.link (sym is ∙ link) in
    let own : is_parent_link tree v end.link ≡ true = ap (λ o. option_map_or (λ parent. parent == end.link) o false) over ∙ eq-eqb e end.link same in
    let none : None ≡ Some (low_of tree v) = rw own at first.asked in
    none_some (low_of tree v) none

low_from_one_of : (g : Topology) (root : ℕ) (tree : List TreeNode) → IsSearched g root tree → (v : ℕ) → v < length g.ids → 1 ≤ low_of tree v
low_from_one_of g root tree s v within = elim (low_reached g root tree s.kept s.within s.search v within).one_of_them [
  | inl own ↦ omega (arith, own, (numbers_within g root tree s.kept s.within s.search v within).0)
  | inr it ↦ omega (
    arith,
    it.number,
    (numbers_within g root tree s.kept s.within s.search it.to (leads_within g it.link it.from it.to s.kept it.leads_on).1).0,
  )
]

pub facts_of : (g : Topology) (root : ℕ) (tree : List TreeNode) → IsSearched g root tree → AreFacts g root tree
facts_of g root tree s = record {
  kept = s.kept;
  root_within = s.within;
  one_each = s.search.one_each;
  no_parent = λ p is.
      let over = over_link g tree root p is in
      none_some over.link (sym (root_first g root tree s.search.order s.search.searched).parent ∙ over.over);
  parent = has_parent g root tree s.search.order s.kept s.within s.search.searched s.search.ended;
  falls = falls_of g root tree s;
  few = λ v within. (numbers_within g root tree s.kept s.within s.search v within).1;
  differ = numbers_differ g root tree s.kept s.within s.search;
  leads_within = λ e u v onward. leads_within g e u v s.kept onward;
  parent_within = λ v p is. let over = over_link g tree v p is in leads_within g over.link v p s.kept over.onward;
  touches = link_touches g root tree s.kept s.within s.search;
  joins = joins_all g root tree s.kept s.within s.search;
  own = λ v within. (low_reached g root tree s.kept s.within s.search v within).least (search_number tree v) (inl refl);
  by_child = by_child_of g root tree s;
  by_link = by_link_of g root tree s;
  root_first = (root_first g root tree s.search.order s.search.searched).number;
  low_from_one = λ v within. low_from_one_of g root tree s v within;
  low_way = λ v within. low_way_of g root tree v s (s.search.lowpoints v within).link;
  low_free = λ v e within lower is. low_free_of g tree v e lower is (s.search.lowpoints v within).link;
}
