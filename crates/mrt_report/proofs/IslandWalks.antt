-- Walks in the island as walks along arcs of its area.
use Rattle.std.proofs.Common.{◌≡◌, ◌<◌, ◌≤◌, ◌==◌, ◌&&◌, ◌⊎◌, ◌∙◌, ℕ, Bool, true, List, [], ◌∷◌, Option, Some, None, length, slice_get, inl, inr, refl, sym, ap, subst, arith, cond}
use Rattle.std.specs.Prelude.{Contains, count_by}
use Rattle.std.proofs.lemmas.Bool.{and_parts, cases_eq, eqb-true, ne_eqb, eq-eqb}
use Rattle.std.proofs.lemmas.Option.{same_Some, slice_get_within}
use Rattle.area_graph.specs.declared.area_types.Arc.{Arc}
use Rattle.area_graph.specs.declared.area_types.Bond.{Bond}
use Rattle.area_graph.specs.AreaInvariant.{HasArcs, IsArc, IsArea, IsBack, IsBond, IsThere}
use Rattle.area_graph.specs.Fits.{Fits, IsPairOf, names}
use Rattle.area_graph.specs.Parts.{AreaParts}
use Rattle.mrt_graph.specs.declared.link.Link.{Link}
use Rattle.mrt_graph.specs.declared.node_id.NodeId.{NodeId}
use Rattle.mrt_graph.specs.GraphInvariant.{IsLink, IsTopology}
use Rattle.mrt_graph.specs.Leads.{far_node, leads}
use Rattle.mrt_graph.specs.Topology.{Topology}
use Rattle.mrt_graph.specs.Walk.{Walk}
use Rattle.mrt_graph.proofs.ListPlaces.{contains_at, place_of}
use Rattle.mrt_graph.proofs.ListTests.{all_at, there}
use Rattle.mrt_graph.proofs.NodeIds.{one_place}
use Rattle.mrt_graph.proofs.Tallies.{IsFound, counted_at}
use Rattle.primary_alt.specs.ArcWalk.{ArcWalk}
use Rattle.mrt_report.specs.LineParts.{IsSpotOf}

-- the link that leads from u to v has these two as its nodes
record IsLinkOf (links : List Link) (e u v : ℕ) : Type 0 where
  pub link : Link
  pub there : slice_get links e ≡ Some link
  pub two : ((link.a ≡ u) × (link.b ≡ v)) ⊎ ((link.b ≡ u) × (link.a ≡ v))

two_nodes : (link : Link) (u v : ℕ) → far_node u link ≡ Some v → ((link.a ≡ u) × (link.b ≡ v)) ⊎ ((link.b ≡ u) × (link.a ≡ v))
two_nodes link u v far = elim (cases_eq link.a u) [
  | inl first ↦
      let e : far_node u link ≡ Some link.b = rw (eq-eqb link.a u first) refl in
      inl (first, same_Some link.b v (sym e ∙ far))
  | inr not_first ↦ elim (cases_eq link.b u) [
    | inl second ↦
        let e : far_node u link ≡ Some link.a = rw (ne_eqb link.a u not_first, eq-eqb link.b u second) refl in
        inr (second, same_Some link.a v (sym e ∙ far))
    | inr neither ↦
        let e : far_node u link ≡ None = rw (ne_eqb link.a u not_first, ne_eqb link.b u neither) refl in
        absurd cc
  ]
]

link_of_step : (links : List Link) (e u v : ℕ) → leads links e u ≡ Some v → IsLinkOf links e u v
link_of_step links e u v on = go (slice_get links e) refl
  where
    go : (o : Option Link) → slice_get links e ≡ o → IsLinkOf links e u v
    go None is = absurd (let none : leads links e u ≡ None = rw is refl in cc)
    go (Some link) is = record { link = link; there = is; two = two_nodes link u v (let far : leads links e u ≡ far_node u link = rw is refl in sym far ∙ on) }

-- an arc between two nodes
pub record IsArcFrom (area : AreaParts) (u v : ℕ) : Type 0 where
  pub arc : Arc
  pub there : Contains area.arcs arc
  pub tail : arc.tail ≡ u
  pub to : arc.to ≡ v

-- over a pair an arc leads each way
over_bond : (area : AreaParts) (k : ℕ) (bond : Bond) → IsArea area → slice_get area.bonds k ≡ Some bond
    → (tail : ℕ) → 1 ≤ count_by (λ arc. (arc.bond == k) && (arc.tail == tail)) area.arcs
    → (to : ℕ) → ((arc : Arc) → IsThere bond arc ⊎ IsBack bond arc → arc.tail ≡ tail → arc.to ≡ to) → IsArcFrom area tail to
over_bond area k bond kept at tail some to onward =
    let found : IsFound (λ arc. (arc.bond == k) && (arc.tail == tail)) area.arcs = counted_at (λ arc. (arc.bond == k) && (arc.tail == tail)) area.arcs some in
    let parts = and_parts (found.item.bond == k) (found.item.tail == tail) found.passes in
    let same_bond : found.item.bond ≡ k = eqb-true found.item.bond k parts.0 in
    let same_tail : found.item.tail ≡ tail = eqb-true found.item.tail tail parts.1 in
    let is : IsArc area.ids area.bonds found.item = all_at (IsArc area.ids area.bonds) area.arcs found.place found.item kept.arcs_kept found.there in
    let one : is.bond ≡ bond = same_Some is.bond bond (sym is.there ∙ ap (slice_get area.bonds) same_bond ∙ at) in
    record {
      arc = found.item;
      there = contains_at area.arcs found.place found.item found.there;
      tail = same_tail;
      to = onward found.item (subst (λ (b : Bond). IsThere b found.item ⊎ IsBack b found.item) one is.leads) same_tail;
    }

there_to : (ids : List NodeId) (bond : Bond) → IsBond ids bond → (arc : Arc) → IsThere bond arc ⊎ IsBack bond arc → arc.tail ≡ bond.a → arc.to ≡ bond.b
there_to ids bond kept arc (inl there) tail = there.to
there_to ids bond kept arc (inr back) tail = absurd (kept.different (sym tail ∙ back.tail))

back_to : (ids : List NodeId) (bond : Bond) → IsBond ids bond → (arc : Arc) → IsThere bond arc ⊎ IsBack bond arc → arc.tail ≡ bond.b → arc.to ≡ bond.a
back_to ids bond kept arc (inl there) tail = absurd (kept.different (sym there.tail ∙ tail))
back_to ids bond kept arc (inr back) tail = back.to

named : (e : ℕ) (o : Option ℕ) → names e o ≡ true → o ≡ Some e
named e None is = absurd cc
named e (Some other) is = ap (λ (k : ℕ). Some k) (eqb-true other e is)

-- the same node, told by its identifier
same_spot : (area : AreaParts) (graph : Topology) → IsArea area → (s n : ℕ) (at : ℕ) (id : NodeId) → IsSpotOf area graph s n → slice_get area.ids at ≡ Some id
    → slice_get graph.ids n ≡ Some id → at ≡ s
same_spot area graph kept s n at id spot in_area in_graph =
    one_place area.ids at s id kept.ids_ascend in_area
    (subst (λ (x : NodeId). slice_get area.ids s ≡ Some x) (same_Some spot.id id (sym spot.in_island ∙ in_graph)) spot.in_area)

-- a step in the island is an arc of the area
pub step_arc : (area : AreaParts) (graph : Topology) (link_of : List (Option ℕ)) → IsArea area → Fits area graph link_of
    → (e u v su sv : ℕ) → leads graph.links e u ≡ Some v → IsSpotOf area graph su u → IsSpotOf area graph sv v → IsArcFrom area su sv
step_arc area graph link_of kept fits e u v su sv on at_u at_v =
    let step : IsLinkOf graph.links e u v = link_of_step graph.links e u v on in
    let found : IsFound (names e) link_of = counted_at (names e) link_of (omega (arith, fits.one_bond_each e (slice_get_within graph.links e step.link step.there))) in
    let entry : slice_get link_of found.place ≡ Some (Some e) = found.there ∙ ap (λ (o : Option ℕ). Some o) (named e found.item found.passes) in
    let bond : (b : Bond) × (slice_get area.bonds found.place ≡ Some b) = there area.bonds found.place
    (omega (arith, slice_get_within link_of found.place found.item found.there, fits.an_entry_each)) in
    let pair : IsPairOf area graph bond.0 step.link = fits.pairs found.place e bond.0 step.link entry bond.1 step.there in
    let bond_kept : IsBond area.ids bond.0 = all_at (IsBond area.ids) area.bonds found.place bond.0 kept.bonds_kept bond.1 in
    let arcs : HasArcs area.arcs found.place bond.0 = kept.arcs_of_bonds found.place bond.0 bond.1 in
    let back : count_by (λ arc. (arc.bond == found.place) && (arc.tail == bond.0.b)) area.arcs ≡ 1 = arcs.back ∙ ap (λ (p : Bool). cond p 1 0) pair.paired in
    elim step.two [
      | inl onward ↦
          let a : bond.0.a ≡ su = same_spot area graph kept su u bond.0.a pair.id_a at_u pair.a_there (subst (λ (n : ℕ). slice_get graph.ids n ≡ Some pair.id_a) onward.0 pair.a_here) in
          let b : bond.0.b ≡ sv = same_spot area graph kept sv v bond.0.b pair.id_b at_v pair.b_there (subst (λ (n : ℕ). slice_get graph.ids n ≡ Some pair.id_b) onward.1 pair.b_here) in
          subst (λ (x : ℕ). IsArcFrom area x sv) a (subst (λ (x : ℕ). IsArcFrom area bond.0.a x) b
          (over_bond area found.place bond.0 kept bond.1 bond.0.a (omega (arith, arcs.there)) bond.0.b (there_to area.ids bond.0 bond_kept)))
      | inr backward ↦
          let b : bond.0.b ≡ su = same_spot area graph kept su u bond.0.b pair.id_b at_u pair.b_there (subst (λ (n : ℕ). slice_get graph.ids n ≡ Some pair.id_b) backward.0 pair.b_here) in
          let a : bond.0.a ≡ sv = same_spot area graph kept sv v bond.0.a pair.id_a at_v pair.a_there (subst (λ (n : ℕ). slice_get graph.ids n ≡ Some pair.id_a) backward.1 pair.a_here) in
          subst (λ (x : ℕ). IsArcFrom area x sv) b (subst (λ (x : ℕ). IsArcFrom area bond.0.b x) a
          (over_bond area found.place bond.0 kept bond.1 bond.0.b (omega (arith, back)) bond.0.a (back_to area.ids bond.0 bond_kept)))
    ]

-- each node of the island stands in the area
pub spot_there : (area : AreaParts) (graph : Topology) (link_of : List (Option ℕ)) → Fits area graph link_of → (n : ℕ) → n < length graph.ids
    → (s : ℕ) × IsSpotOf area graph s n
spot_there area graph link_of fits n within =
    let id : (x : NodeId) × (slice_get graph.ids n ≡ Some x) = there graph.ids n within in
    let place : (k : ℕ) × (slice_get area.ids k ≡ Some id.0) = place_of area.ids id.0 (fits.nodes id.0 (contains_at graph.ids n id.0 id.1)) in
    (place.0, record { id = id.0; in_area = place.1; in_island = id.1 })

-- a step leads to a node of the graph
step_within : (graph : Topology) → IsTopology graph → (e u v : ℕ) → leads graph.links e u ≡ Some v → v < length graph.ids
step_within graph kept e u v on =
    let step : IsLinkOf graph.links e u v = link_of_step graph.links e u v on in
    let is : IsLink graph.ids step.link = all_at (IsLink graph.ids) graph.links e step.link kept.links_kept step.there in
    elim step.two [
      | inl onward ↦ subst (λ (n : ℕ). n < length graph.ids) onward.1 is.upper
      | inr backward ↦ subst (λ (n : ℕ). n < length graph.ids) backward.1 (omega (arith, is.upper, is.ascending))
    ]

-- a walk in the island is one in the area
pub walk_there : (area : AreaParts) (graph : Topology) (link_of : List (Option ℕ)) → IsArea area → IsTopology graph → Fits area graph link_of
    → (walk : List ℕ) (s t ss st : ℕ) → Walk graph.links s walk t → IsSpotOf area graph ss s → IsSpotOf area graph st t
    → (arcs : List Arc) × ArcWalk area.arcs ss arcs st
walk_there area graph link_of kept topology fits [] s t ss st w at_s at_t =
    ([], same_spot area graph kept st t ss at_s.id at_t at_s.in_area (subst (λ (n : ℕ). slice_get graph.ids n ≡ Some at_s.id) w at_s.in_island))
walk_there area graph link_of kept topology fits (e ∷ es) s t ss st w at_s at_t =
    let v : ℕ = w.0 in
    let on : leads graph.links e s ≡ Some v = w.1 in
    let spot : (sv : ℕ) × IsSpotOf area graph sv v = spot_there area graph link_of fits v (step_within graph topology e s v on) in
    let arc : IsArcFrom area ss spot.0 = step_arc area graph link_of kept fits e s v ss spot.0 on at_s spot.1 in
    let rest : (arcs : List Arc) × ArcWalk area.arcs spot.0 arcs st = walk_there area graph link_of kept topology fits es v t spot.0 st w.2 spot.1 at_t in
    (arc.arc ∷ rest.0, (arc.there, arc.tail, subst (λ (x : ℕ). ArcWalk area.arcs x rest.0 st) (sym arc.to) rest.1))
