-- A lowpoint in the graph's words: the least number that a link reaches from a node's subtree.
use Rattle.std.proofs.Common.{◌≡◌, ◌≢◌, ◌⊎◌, ◌<◌, ◌≤◌, ◌+◌, ◌∙◌, ℕ, zero, suc, true, false, List, Some, None, length, inl, inr, refl, sym, ap, subst, arith}
use Rattle.std.proofs.lemmas.Bool.{cases_Bool, eq-eqb}
use Rattle.mrt_graph.specs.declared.tree.TreeNode.{TreeNode}
use Rattle.mrt_graph.specs.GraphInvariant.{IsTopology}
use Rattle.mrt_graph.specs.Leads.{leads}
use Rattle.mrt_graph.specs.Topology.{Topology}
use Rattle.mrt_graph.specs.TreeFields.{search_number, parent_link, low_of}
use Rattle.mrt_graph.proofs.EndsAt.{IsEndOver, end_leads, leads_end, list_of_ends}
use Rattle.mrt_graph.proofs.Hops.{lead_back, same_ends}
use Rattle.std.proofs.lemmas.Option.{same_Some}
use Rattle.lowpoint_dfs.specs.Lowpoint.{IsLeast, IsOffered, is_parent_link, offer}
use Rattle.lowpoint_dfs.specs.SearchTree.{IsSearchTree}
use Rattle.lowpoint_dfs.specs.Subtree.{IsInSubtree, Itself, Below, IsReachedFrom, parent_of}
use Rattle.lowpoint_dfs.proofs.Ancestors.{Fall, in_subtree_on, numbers_rise}
use Rattle.lowpoint_dfs.proofs.LowpointsGiven.{parent_link_is}
use Rattle.lowpoint_dfs.proofs.ParentsFirst.{IsOver, over_link, parent_over}
use Rattle.lowpoint_dfs.proofs.WholeTree.{leads_within, link_touches, numbers_within, tree_falls}

some_none : (n : ℕ) → None ≡ Some n → ⊥
some_none n same = cc

-- whether a link is a parent link, in both ways
pub is_link_parent : (tree : List TreeNode) (v e : ℕ) → parent_link tree v ≡ Some e → is_parent_link tree v e ≡ true
is_link_parent tree v e is = rw is (eq-eqb e e refl)

not_parent_link : (tree : List TreeNode) (v e : ℕ) → is_parent_link tree v e ≡ false → parent_link tree v ≢ Some e
not_parent_link tree v e fails is = let both : true ≡ false = sym (is_link_parent tree v e is) ∙ fails in cc

-- what is known of a search tree
record Facts (g : Topology) (tree : List TreeNode) : Type 0 where
  pub kept : IsTopology g
  pub fall : Fall g tree
  pub touch : (v e : ℕ) → parent_link tree v ≡ Some e → (u : ℕ) × (leads g.links e v ≡ Some u)
  pub least : (v : ℕ) → v < length g.ids → IsLeast (λ n. (n ≡ search_number tree v) ⊎ IsOffered g tree v n) (low_of tree v)

low_is_own : (g : Topology) (tree : List TreeNode) (v : ℕ) → Facts g tree → v < length g.ids → low_of tree v ≤ search_number tree v
low_is_own g tree v facts within = (facts.least v within).least (search_number tree v) (inl refl)

offered_over : (g : Topology) (tree : List TreeNode) (e v w : ℕ) → Facts g tree → leads g.links e v ≡ Some w → is_parent_link tree v e ≡ false
    → (low_of tree v ≤ low_of tree w) ⊎ (low_of tree v ≤ search_number tree w)
offered_over g tree e v w facts onward over =
    let within = (leads_within g e v w facts.kept onward).0 in
    let list = list_of_ends g v facts.kept within in
    let it : IsEndOver list.0 e w = leads_end g v e w list.0 facts.kept list.1 onward in
    let free : is_parent_link tree v it.end.link ≡ false = subst (λ (d : ℕ). is_parent_link tree v d ≡ false) (sym it.over) over in
    elim (cases_Bool (is_parent_link tree it.end.to it.end.link)) [
      | inl child ↦
          let offers : offer tree v it.end ≡ Some (low_of tree it.end.to) = rw (free, child) refl in
          inl (subst (λ (x : ℕ). low_of tree v ≤ low_of tree x) it.to
          ((facts.least v within).least (low_of tree it.end.to) (inr (record { ends = list.0; list = list.1; place = it.place; end = it.end; there = it.at; offers = offers }))))
      | inr no_child ↦
          let offers : offer tree v it.end ≡ Some (search_number tree it.end.to) = rw (free, no_child) refl in
          inr (subst (λ (x : ℕ). low_of tree v ≤ search_number tree x) it.to
          ((facts.least v within).least (search_number tree it.end.to) (inr (record { ends = list.0; list = list.1; place = it.place; end = it.end; there = it.at; offers = offers }))))
    ]

-- a link that is not v's parent link reaches at least low(v)
over_low : (g : Topology) (tree : List TreeNode) (e v w : ℕ) → Facts g tree → leads g.links e v ≡ Some w → is_parent_link tree v e ≡ false → low_of tree v ≤ search_number tree w
over_low g tree e v w facts onward over = elim (offered_over g tree e v w facts onward over) [
  | inl low ↦ omega (arith, low, low_is_own g tree w facts (leads_within g e v w facts.kept onward).1)
  | inr number ↦ number
]

-- a parent link is not that of the parent
not_both : (g : Topology) (tree : List TreeNode) (v u : ℕ) → Facts g tree → (over : IsOver g tree v u) → is_parent_link tree u over.link ≡ true → ⊥
not_both g tree v u facts over is =
    let up = parent_link_is tree u over.link is in
    let back = lead_back g.links over.link v u over.onward in
    omega (arith, facts.fall u v (parent_over g tree u over.link v up back), facts.fall v u (parent_over g tree v over.link u over.over over.onward))

-- the lowpoint of a child is offered to its parent
child_low : (g : Topology) (tree : List TreeNode) (v u : ℕ) → Facts g tree → parent_of g tree v ≡ Some u → low_of tree u ≤ low_of tree v
child_low g tree v u facts is =
    let over = over_link g tree v u is in
    let back = lead_back g.links over.link v u over.onward in
    let within = (leads_within g over.link u v facts.kept back).0 in
    let list = list_of_ends g u facts.kept within in
    let it : IsEndOver list.0 over.link v = leads_end g u over.link v list.0 facts.kept list.1 back in
    elim (cases_Bool (is_parent_link tree u over.link)) [
      | inl both ↦ absurd (not_both g tree v u facts over both)
      | inr free ↦
          let free_end : is_parent_link tree u it.end.link ≡ false = subst (λ (d : ℕ). is_parent_link tree u d ≡ false) (sym it.over) free in
          let child : is_parent_link tree it.end.to it.end.link ≡ true =
          is_link_parent tree it.end.to it.end.link (subst (λ (x : ℕ). parent_link tree x ≡ Some it.end.link) (sym it.to) (over.over ∙ ap (λ (d : ℕ). Some d) (sym it.over))) in
          let offers : offer tree u it.end ≡ Some (low_of tree it.end.to) = rw (free_end, child) refl in
          subst (λ (x : ℕ). low_of tree u ≤ low_of tree x) it.to
          ((facts.least u within).least (low_of tree it.end.to) (inr (record { ends = list.0; list = list.1; place = it.place; end = it.end; there = it.at; offers = offers })))
    ]

subtree_low : (g : Topology) (tree : List TreeNode) (u v : ℕ) → Facts g tree → IsInSubtree g tree u v → low_of tree u ≤ low_of tree v
subtree_low g tree u v facts Itself = omega arith
subtree_low g tree u v facts (Below x parent is rest) = omega (arith, child_low g tree x parent facts is, subtree_low g tree u parent facts rest)

own_link_low : (g : Topology) (tree : List TreeNode) (v w e x : ℕ) → Facts g tree → v < length g.ids → IsInSubtree g tree v w → parent_link tree v ≢ Some e → leads g.links e w ≡ Some x
    → parent_link tree w ≡ Some e → low_of tree v ≤ search_number tree x
own_link_low g tree v w e x facts within Itself other onward over = absurd (other over)
own_link_low g tree v w e x facts within (Below y parent is rest) other onward over =
    let same : parent ≡ x = same_Some parent x (sym is ∙ parent_over g tree y e x over onward) in
    omega (arith, low_is_own g tree v facts within, numbers_rise g tree v parent facts.fall rest, ap (λ (z : ℕ). search_number tree z) same)

-- a link from below v, its node's own parent link too, reaches at least low(v)
below_low : (g : Topology) (tree : List TreeNode) (v w e x : ℕ) → Facts g tree → v < length g.ids → IsInSubtree g tree v w → parent_link tree v ≢ Some e → leads g.links e w ≡ Some x
    → low_of tree v ≤ search_number tree x
below_low g tree v w e x facts within inside other onward = elim (cases_Bool (is_parent_link tree w e)) [
  | inr free ↦ omega (arith, subtree_low g tree v w facts inside, over_low g tree e w x facts onward free)
  | inl own ↦ own_link_low g tree v w e x facts within inside other onward (parent_link_is tree w e own)
]

-- v's parent link touches v and its parent alone, which are no nodes of a child's subtree
not_own : (g : Topology) (tree : List TreeNode) (v u from to e : ℕ) → Facts g tree → parent_of g tree u ≡ Some v → IsInSubtree g tree u from → leads g.links e from ≡ Some to
    → parent_link tree v ≡ Some e → ⊥
not_own g tree v u from to e facts is inside onward over =
    let up = facts.touch v e over in
    let above = facts.fall v up.0 (parent_over g tree v e up.0 over up.1) in
    let rise = numbers_rise g tree u from facts.fall inside in
    elim (same_ends g.links e v up.0 from to up.1 onward) [
      | inl at_v ↦ omega (arith, facts.fall u v is, rise, ap (λ (z : ℕ). search_number tree z) at_v)
      | inr at_parent ↦ omega (arith, facts.fall u v is, rise, above, ap (λ (z : ℕ). search_number tree z) at_parent)
    ]

reached_further : (g : Topology) (tree : List TreeNode) (v u n : ℕ) → Facts g tree → parent_of g tree u ≡ Some v → IsReachedFrom g tree u n → IsReachedFrom g tree v n
reached_further g tree v u n facts is reached = record {
  link = reached.link;
  from = reached.from;
  to = reached.to;
  inside = in_subtree_on g tree v u reached.from (Below u v is Itself) reached.inside;
  leads_on = reached.leads_on;
  other = not_own g tree v u reached.from reached.to reached.link facts is reached.inside reached.leads_on;
  number = reached.number;
}

reached_over : (g : Topology) (tree : List TreeNode) (v n : ℕ) (it : IsOffered g tree v n) (m : ℕ) → Facts g tree → is_parent_link tree v it.end.link ≡ false → m ≡ search_number tree it.end.to
    → IsReachedFrom g tree v m
reached_over g tree v n it m facts free is = record {
  link = it.end.link;
  from = v;
  to = it.end.to;
  inside = Itself;
  leads_on = end_leads g v it.place it.ends it.end facts.kept it.list it.there;
  other = not_parent_link tree v it.end.link free;
  number = is;
}

-- an offered lowpoint is reached, where those of children are
by_offer : (g : Topology) (tree : List TreeNode) (v : ℕ) → IsOffered g tree v (low_of tree v) → Facts g tree
    → ((u : ℕ) → parent_of g tree u ≡ Some v → u < length g.ids → (low_of tree u ≡ search_number tree u) ⊎ IsReachedFrom g tree u (low_of tree u))
    → IsReachedFrom g tree v (low_of tree v)
by_offer g tree v it facts of_child = elim (cases_Bool (is_parent_link tree v it.end.link)) [
  | inl own ↦ let none : None ≡ Some (low_of tree v) = rw own at it.offers in absurd (some_none (low_of tree v) none)
  | inr free ↦ elim (cases_Bool (is_parent_link tree it.end.to it.end.link)) [
    | inr no_child ↦
        let is : Some (search_number tree it.end.to) ≡ Some (low_of tree v) = rw (free, no_child) at it.offers in
        reached_over g tree v (low_of tree v) it (low_of tree v) facts free (sym (same_Some (search_number tree it.end.to) (low_of tree v) is))
    | inl child ↦
        let is : Some (low_of tree it.end.to) ≡ Some (low_of tree v) = rw (free, child) at it.offers in
        let same : low_of tree it.end.to ≡ low_of tree v = same_Some (low_of tree it.end.to) (low_of tree v) is in
        let onward : leads g.links it.end.link v ≡ Some it.end.to = end_leads g v it.place it.ends it.end facts.kept it.list it.there in
        let parent : parent_of g tree it.end.to ≡ Some v =
        parent_over g tree it.end.to it.end.link v (parent_link_is tree it.end.to it.end.link child) (lead_back g.links it.end.link v it.end.to onward) in
        elim (of_child it.end.to parent (leads_within g it.end.link v it.end.to facts.kept onward).1) [
          | inl own ↦ reached_over g tree v (low_of tree v) it (low_of tree v) facts free (sym same ∙ own)
          | inr reached ↦ subst (λ (n : ℕ). IsReachedFrom g tree v n) same (reached_further g tree v it.end.to (low_of tree it.end.to) facts parent reached)
        ]
  ]
]

-- the lowpoint is the node's number, or reached
reaches : (left : ℕ) (g : Topology) (tree : List TreeNode) (v : ℕ) → Facts g tree → v < length g.ids → ((w : ℕ) → w < length g.ids → search_number tree w ≤ length g.ids)
    → length g.ids ≤ search_number tree v + left → (low_of tree v ≡ search_number tree v) ⊎ IsReachedFrom g tree v (low_of tree v)
reaches zero g tree v facts within few fits = elim (facts.least v within).one_of_them [
  | inl own ↦ inl own
  | inr it ↦ inr (by_offer g tree v it facts (λ u is child_within. absurd (omega (arith, facts.fall u v is, few u child_within, fits))))
]
reaches (suc left) g tree v facts within few fits = elim (facts.least v within).one_of_them [
  | inl own ↦ inl own
  | inr it ↦ inr (by_offer g tree v it facts (λ u is child_within. reaches left g tree u facts child_within few (omega (arith, facts.fall u v is, fits))))
]

pub low_reached : (g : Topology) (root : ℕ) (tree : List TreeNode) → IsTopology g → root < length g.ids → IsSearchTree g root tree → (v : ℕ) → v < length g.ids
    → IsLeast (λ n. (n ≡ search_number tree v) ⊎ IsReachedFrom g tree v n) (low_of tree v)
low_reached g root tree kept within search v v_within =
    let facts : Facts g tree = record { kept = kept; fall = tree_falls g root tree kept within search; touch = link_touches g root tree kept within search; least = λ w w_within. (search.lowpoints w w_within).low } in
    record {
      one_of_them = reaches (length g.ids) g tree v facts v_within (λ w w_within. (numbers_within g root tree kept within search w w_within).1) (omega arith);
      least = λ n one. elim one [
        | inl own ↦ omega (arith, own, low_is_own g tree v facts v_within)
        | inr it ↦ omega (arith, it.number, below_low g tree v it.from it.link it.to facts v_within it.inside it.other it.leads_on)
      ];
    }
