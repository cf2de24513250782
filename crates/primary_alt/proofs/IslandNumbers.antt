-- The numbers of nodes and bonds in an island, one after another.
use Rattle.std.proofs.Common.{◌≡◌, ◌≢◌, ◌<◌, ◌+◌, ◌==◌, ◌&&◌, ◌++◌, ◌∷◌, [], ◌∙◌, ◌⊎◌, ℕ, true, List, Option, Some, None, length, set, slice_get, inl, inr, sym, ap, subst, arith}
use Rattle.std.specs.List.Sorted.{IsStrictlySortedBy}
use Rattle.std.proofs.lemmas.Bool.{and_parts, cases_eq, cases_lt, eqb-true}
use Rattle.std.proofs.lemmas.Option.{same_Some, slice_get_within}
use Rattle.area_graph.specs.declared.area_types.Arc.{Arc}
use Rattle.area_graph.specs.AreaInvariant.{IsArea}
use Rattle.area_graph.specs.Fits.{Fits, names}
use Rattle.area_graph.specs.Parts.{AreaParts}
use Rattle.mrt_graph.specs.NodeOrder.{node_id_cmp}
use Rattle.mrt_graph.specs.Topology.{Topology}
use Rattle.mrt_graph.specs.declared.node_id.NodeId.{NodeId}
use Rattle.mrt_graph.proofs.ListPlaces.{place_of, pushed_at, set_elsewhere, set_there}
use Rattle.mrt_graph.proofs.ListTests.{there}
use Rattle.mrt_graph.proofs.NodeIds.{one_place}
use Rattle.mrt_graph.proofs.Tallies.{counted_at}
use Rattle.primary_alt.proofs.ArcWalks.{arc_kept}
use Rattle.primary_alt.specs.RoutesMade.{AreAreaNodes, AreBondsOf, AreIslandNodes, IsNodeOf}

-- the nodes that so many island nodes are, told at these
pub record AreNodesTo (spots : List ℕ) (nodes : List (Option ℕ)) (count : ℕ) : Type 0 where
  pub only : (s n : ℕ) → slice_get nodes s ≡ Some (Some n) → slice_get spots n ≡ Some s
  pub all : (n s : ℕ) → n < count → slice_get spots n ≡ Some s → (k : ℕ) × (slice_get nodes s ≡ Some (Some k))

pub nodes_more : (spots : List ℕ) (nodes : List (Option ℕ)) (n s : ℕ) → slice_get spots n ≡ Some s → s < length nodes → AreNodesTo spots nodes n
    → AreNodesTo spots (set nodes s (Some n)) (n + 1)
nodes_more spots nodes n s is within so_far = record {
  only = λ s' n' at. elim (cases_eq s' s) [
    | inl same ↦
        let here : n ≡ n' =
        same_Some n n' (same_Some (Some n) (Some n') (sym told ∙ ap (λ (i : ℕ). slice_get (set nodes s (Some n)) i) (sym same) ∙ at)) in
        subst (λ (k : ℕ). slice_get spots k ≡ Some s') here (is ∙ ap (λ (i : ℕ). Some i) (sym same))
    | inr apart ↦ so_far.only s' n' (sym (set_elsewhere nodes s s' (Some n) apart) ∙ at)
  ];
  all = λ n' s' low is'. elim (cases_eq s' s) [
    | inl same ↦ (n, ap (λ (i : ℕ). slice_get (set nodes s (Some n)) i) same ∙ told)
    | inr apart ↦ elim (cases_lt n' n) [
      | inl early ↦ let old = so_far.all n' s' early is' in (old.0, set_elsewhere nodes s s' (Some n) apart ∙ old.1)
      | inr last ↦
          let same : n' ≡ n = omega (arith, low, last) in
          absurd (apart (same_Some s' s (sym is' ∙ ap (λ (i : ℕ). slice_get spots i) same ∙ is)))
    ]
  ];
}
  where
    told : slice_get (set nodes s (Some n)) s ≡ Some (Some n)
    told = set_there nodes s (Some n) within

-- once all island nodes have told, each node of the area has its own
pub nodes_all : (ids island : List NodeId) (spots : List ℕ) (nodes : List (Option ℕ)) → IsStrictlySortedBy node_id_cmp ids → AreAreaNodes ids island spots
    → length nodes ≡ length ids → AreNodesTo spots nodes (length island) → AreIslandNodes ids island nodes
nodes_all ids island spots nodes up are many told = record { one_each = many; same = λ s id node here at. is s id node here at }
  where
    is : (s : ℕ) (id : NodeId) (node : Option ℕ) → slice_get ids s ≡ Some id → slice_get nodes s ≡ Some node → IsNodeOf island id node
    is s id None here at = λ has.
        let place = place_of island id has in
        let spot = there spots place.0 (omega (arith, are.one_each, slice_get_within island place.0 id place.1)) in
        let same : s ≡ spot.0 = one_place ids s spot.0 id up here (are.same place.0 spot.0 id place.1 spot.1) in
        let other = told.all place.0 spot.0 (slice_get_within island place.0 id place.1) spot.1 in
        let clash : None ≡ Some other.0 = same_Some None (Some other.0) (sym at ∙ ap (λ (i : ℕ). slice_get nodes i) same ∙ other.1) in
        cc
    is s id (Some n) here at =
        let spot = told.only s n at in
        let own = there island n (omega (arith, are.one_each, slice_get_within spots n s spot)) in
        own.1 ∙ ap (λ (x : NodeId). Some x) (same_Some own.0 id (sym (are.same n s own.0 own.1 spot) ∙ here))

pub spot_more : (ids island : List NodeId) (spots : List ℕ) (n : ℕ) (id : NodeId) (spot : ℕ) → length spots ≡ n → slice_get island n ≡ Some id → slice_get ids spot ≡ Some id
    → ((k s : ℕ) (own : NodeId) → slice_get island k ≡ Some own → slice_get spots k ≡ Some s → slice_get ids s ≡ Some own)
    → (k s : ℕ) (own : NodeId) → slice_get island k ≡ Some own → slice_get (spots ++ spot ∷ []) k ≡ Some s → slice_get ids s ≡ Some own
spot_more ids island spots n id spot many at is so_far k s own here there' = elim (pushed_at spots spot s k there') [
  | inl before ↦ so_far k s own here before
  | inr last ↦
      let place : k ≡ n = last.0 ∙ many in
      let same : id ≡ own = same_Some id own (sym at ∙ ap (λ (i : ℕ). slice_get island i) (sym place) ∙ here) in
      subst (λ (x : NodeId). slice_get ids s ≡ Some x) same (subst (λ (x : ℕ). slice_get ids x ≡ Some id) last.1 is)
]

-- the bonds that so many arcs tell: where one of them is of a bond that names a link, the bond of that link names it
abbrev pub AreTold : List Arc → List (Option ℕ) → List ℕ → ℕ → Type 0
AreTold arcs link_of bonds count =
    (j e b : ℕ) (arc : Arc) → j < count → slice_get arcs j ≡ Some arc → slice_get link_of arc.bond ≡ Some (Some e) → slice_get bonds e ≡ Some b
    → slice_get link_of b ≡ Some (Some e)

-- an arc's bond has an entry
pub bond_within : (area : AreaParts) (graph : Topology) (link_of : List (Option ℕ)) (arcs : List Arc) (k : ℕ) (arc : Arc) → IsArea area → Fits area graph link_of → arcs ≡ area.arcs
    → slice_get arcs k ≡ Some arc → arc.bond < length link_of
bond_within area graph link_of arcs k arc kept fits same at =
    let is = arc_kept area k arc kept (subst (λ (xs : List Arc). slice_get xs k ≡ Some arc) same at) in
    omega (arith, fits.an_entry_each, slice_get_within area.bonds arc.bond is.bond is.there)

-- what one more tells
abbrev pub IsTold : Option ℕ → ℕ → List ℕ → List ℕ → Type 0
IsTold link bond before after =
    (e b : ℕ) → slice_get after e ≡ Some b → ((link ≡ Some e) × (b ≡ bond)) ⊎ ((link ≢ Some e) × (slice_get before e ≡ Some b))

pub told_more : (arcs : List Arc) (link_of : List (Option ℕ)) (before after : List ℕ) (k : ℕ) (own : Arc) (link : Option ℕ) → slice_get arcs k ≡ Some own
    → slice_get link_of own.bond ≡ Some link → AreTold arcs link_of before k → IsTold link own.bond before after → AreTold arcs link_of after (k + 1)
told_more arcs link_of before after k own link at is told new j e b arc low there names at_e = elim (new e b at_e) [
  | inl here ↦ ap (λ (n : ℕ). slice_get link_of n) here.1 ∙ is ∙ ap (λ (o : Option ℕ). Some o) here.0
  | inr other ↦ elim (cases_lt j k) [
    | inl early ↦ told j e b arc early there names other.1
    | inr last ↦
        let same : j ≡ k = omega (arith, low, last) in
        let arc_is : own ≡ arc = same_Some own arc (sym at ∙ ap (λ (i : ℕ). slice_get arcs i) (sym same) ∙ there) in
        absurd (other.0 (same_Some link (Some e) (sym is ∙ ap (λ (a : Arc). slice_get link_of a.bond) arc_is ∙ names)))
  ]
]

-- a bond that names a link
named : (e : ℕ) (o : Option ℕ) → names e o ≡ true → o ≡ Some e
named e None is = cc
named e (Some other) is = ap (λ (n : ℕ). Some n) (eqb-true other e is)

names_by : (link_of : List (Option ℕ)) (place bond e : ℕ) → bond ≡ place → slice_get link_of place ≡ Some (Some e) → slice_get link_of bond ≡ Some (Some e)
names_by link_of place bond e same is = ap (λ (n : ℕ). slice_get link_of n) same ∙ is

-- once all arcs have told, each link has its bond
pub told_all : (area : AreaParts) (graph : Topology) (link_of : List (Option ℕ)) (bonds : List ℕ) → IsArea area → Fits area graph link_of → length bonds ≡ length graph.links
    → AreTold area.arcs link_of bonds (length area.arcs) → AreBondsOf (length graph.links) link_of bonds
told_all area graph link_of bonds kept fits many told = record {
  one_each = many;
  names = λ e b at.
      let found = counted_at (names e) link_of (omega (arith, fits.one_bond_each e (omega (arith, many, slice_get_within bonds e b at)))) in
      let is : slice_get link_of found.place ≡ Some (Some e) = found.there ∙ ap (λ (o : Option ℕ). Some o) (named e found.item found.passes) in
      let bond = there area.bonds found.place (omega (arith, fits.an_entry_each, slice_get_within link_of found.place found.item found.there)) in
      let arc = counted_at (λ (arc : Arc). (arc.bond == found.place) && (arc.tail == bond.0.a)) area.arcs (omega (arith, (kept.arcs_of_bonds found.place bond.0 bond.1).there)) in
      let of_bond : arc.item.bond ≡ found.place = eqb-true arc.item.bond found.place (and_parts (arc.item.bond == found.place) (arc.item.tail == bond.0.a) arc.passes).0 in
      told arc.place e b arc.item (slice_get_within area.arcs arc.place arc.item arc.there) arc.there (names_by link_of found.place arc.item.bond e of_bond is) at;
}
