-- An island of a router is that of each router in it, and a router has one island.
use Rattle.std.proofs.Common.{◌≡◌, ◌∙◌, ◌⊎◌, ◌&&◌, ℕ, Bool, true, false, List, [], ◌∷◌, length, get_or, Some, Option, inl, inr, refl, sym, ap, subst, arith}
use Rattle.std.specs.Prelude.{Contains, slice_get}
use Rattle.std.specs.List.Sorted.{IsStrictlySortedBy}
use Rattle.std.proofs.lemmas.List.{get_or_default, same_lists}
use Rattle.std.proofs.lemmas.Bool.{and_parts}
use Rattle.std.proofs.lemmas.Option.{same_Some, slice_get-get_or}
use Rattle.mrt_graph.specs.Reachable.{Path}
use Rattle.mrt_graph.specs.declared.node_id.NodeId.{NodeId}
use Rattle.mrt_graph.specs.NewGraph.{IsGraphOf}
use Rattle.mrt_graph.specs.NodeOrder.{node_id_cmp}
use Rattle.mrt_graph.specs.Search.{IsMarked}
use Rattle.mrt_graph.specs.Topology.{Topology}
use Rattle.mrt_graph.proofs.OneGraph.{one_graph}
use Rattle.area_graph.specs.AreaInvariant.{IsArea}
use Rattle.mrt_graph.specs.NodeIds.{router as router_node}
use Rattle.area_graph.specs.Parts.{AreaParts}
use Rattle.mrt_island.specs.Policy.{Policy}
use Rattle.mrt_island.specs.Eligible.{may_end}
use Rattle.mrt_island.specs.Members.{IsInside, IsMember, Joins}
use Rattle.mrt_island.specs.Numbering.{ids_of, links_of}
use Rattle.mrt_island.specs.IslandOf.{IsIsland}
use Rattle.mrt_island.specs.Rooting.{IsChosenBefore, IsRoot}
use Rattle.mrt_graph.proofs.NodeIds.{one_place}
use Rattle.mrt_island.proofs.Counting.{IsFrom, ascend_flagged, flagged_from}
use Rattle.mrt_island.proofs.GraphOfIsland.{start_inside}
use Rattle.mrt_island.proofs.Joined.{member_back, member_onward}
use Rattle.mrt_island.proofs.LinkNumbers.{are_link_numbers, link_numbers}
use Rattle.mrt_island.proofs.Telling.{far_cases}

same_flag : (a b : Bool) → (a ≡ true → b ≡ true) → (b ≡ true → a ≡ true) → a ≡ b
same_flag true b there back = sym (there refl)
same_flag false true there back = back refl
same_flag false false there back = refl

-- where one's router is inside the other's island, the same nodes are inside
pub same_inside : (policy : Policy) (area : AreaParts) (router other : ℕ) (inside inside' : List Bool) → IsArea area → IsInside policy area router inside → (its : IsInside policy area other inside')
    → IsMarked inside its.start → inside ≡ inside'
same_inside policy area router other inside inside' kept those its marked =
    let member : IsMember policy area those.start its.start = (those.those its.start).0 marked in
    let there : (s : ℕ) → IsMarked inside s → IsMarked inside' s =
    λ s m. (its.those s).1 (member_onward policy area its.start those.start s (member_back policy area those.start its.start kept member) ((those.those s).0 m)) in
    let back : (s : ℕ) → IsMarked inside' s → IsMarked inside s =
    λ s m. (those.those s).1 (member_onward policy area those.start its.start s member ((its.those s).0 m)) in
    let count : length inside ≡ length inside' = those.one_each ∙ sym its.one_each in
    same_lists inside inside' count
    (λ k d within.
    get_or_default inside k d false within ∙ same_flag (get_or inside k false) (get_or inside' k false) (there k) (back k)
    ∙ get_or_default inside' k false d (omega (arith, within, count)))

-- of one router the same nodes are inside
pub one_inside : (policy : Policy) (area : AreaParts) (router : ℕ) (inside inside' : List Bool) → IsArea area → IsInside policy area router inside → IsInside policy area router inside' → inside ≡ inside'
one_inside policy area router inside inside' kept those its =
    let same : those.start ≡ its.start = one_place area.ids those.start its.start (router_node router) kept.ids_ascend those.there its.there in
    same_inside policy area router router inside inside' kept those its (subst (λ (s : ℕ). IsMarked inside s) same (start_inside policy area router inside those))

same_number : (policy : Policy) (a b : ℕ) → IsChosenBefore policy a b → IsChosenBefore policy b a → a ≡ b
same_number policy a b (inl below) (inl above) = absurd (omega (arith, below, above))
same_number policy a b (inl below) (inr tie) = absurd (omega (arith, below, tie.0))
same_number policy a b (inr tie) (inl above) = absurd (omega (arith, above, tie.0))
same_number policy a b (inr tie) (inr also) = omega (arith, tie.1, also.1)

-- there is one root
one_root : (policy : Policy) (ids : List NodeId) (x y : ℕ) → IsStrictlySortedBy node_id_cmp ids → IsRoot policy ids x → IsRoot policy ids y → x ≡ y
one_root policy ids x y up first second =
    let number : first.id.number ≡ second.id.number =
    same_number policy first.id.number second.id.number (first.first y second.id second.there second.router) (second.first x first.id first.there first.router) in
    let kind = first.router ∙ sym second.router in
    let same : first.id ≡ second.id = λ i. record { kind = kind i; number = number i } in
    one_place ids x y first.id up first.there (second.there ∙ ap Some (sym same))

-- a path that leads elsewhere has a last step
last_step : (step : ℕ → ℕ → Type 0) (path : List ℕ) (s t : ℕ) → Path step s path t → (s ≡ t) ⊎ ((u : ℕ) × step u t)
last_step step [] s t p = inl p
last_step step (v ∷ vs) s t p = elim (last_step step vs v t p.1) [
  | inl same ↦ inr (s, subst (λ (w : ℕ). step s w) same p.0)
  | inr found ↦ inr found
]

-- a router that an eligible pair leads to supports the profile
end_supports : (policy : Policy) (ids : List NodeId) (s router link_data : ℕ) → slice_get ids s ≡ Some (router_node router)
    → may_end policy ids s link_data ≡ true → policy.supports router ≡ true
end_supports policy ids s router link_data at may =
    let both : (policy.supports router && policy.eligible router link_data) ≡ true = rw at at may in
    (and_parts (policy.supports router) (policy.eligible router link_data) both).0

joined_supports : (policy : Policy) (area : AreaParts) (u v router : ℕ) → Joins policy area u v → slice_get area.ids v ≡ Some (router_node router)
    → policy.supports router ≡ true
joined_supports policy area u v router joins at =
    let bond = joins.bond in
    let beside = (and_parts bond.paired _ joins.eligible).1 in
    let ends = (and_parts (may_end policy area.ids bond.a bond.data_a && may_end policy area.ids bond.b bond.data_b) _ beside).0 in
    let may = and_parts (may_end policy area.ids bond.a bond.data_a) (may_end policy area.ids bond.b bond.data_b) ends in
    elim (far_cases u bond.a bond.b v joins.leads) [
      | inl out ↦ end_supports policy area.ids v router bond.data_b at (subst (λ (s : ℕ). may_end policy area.ids s bond.data_b ≡ true) out.1 may.1)
      | inr home ↦ end_supports policy area.ids v router bond.data_a at (subst (λ (s : ℕ). may_end policy area.ids s bond.data_a ≡ true) home.1 may.0)
    ]

member_supports : (policy : Policy) (area : AreaParts) (router other r s : ℕ) → slice_get area.ids r ≡ Some (router_node router) → policy.supports router ≡ true
    → IsMember policy area r s → slice_get area.ids s ≡ Some (router_node other) → policy.supports other ≡ true
member_supports policy area router other r s start supported member at = elim (last_step (Joins policy area) member.0 r s member.1) [
  | inl same ↦
      let both : Some (router_node router) ≡ Some (router_node other) = sym start ∙ ap (slice_get area.ids) same ∙ at in
      let number : router ≡ other = ap (λ (id : NodeId). id.number) (same_Some (router_node router) (router_node other) both) in
      subst (λ (n : ℕ). policy.supports n ≡ true) number supported
  | inr found ↦ joined_supports policy area found.0 s other found.1 at
]

-- where another router is inside, the same nodes are inside its island
inside_of_member : (policy : Policy) (area : AreaParts) (router other : ℕ) (inside : List Bool) → IsArea area → IsInside policy area router inside
    → Contains (ids_of area inside) (router_node other) → IsInside policy area other inside
inside_of_member policy area router other inside kept those among =
    let at : slice_get (ids_of area inside) among.0 ≡ Some (router_node other) = slice_get-get_or (ids_of area inside) among.0 (router_node other) among.1 ∙ ap Some among.2 in
    let from : IsFrom inside area.ids among.0 (router_node other) = flagged_from inside area.ids among.0 (router_node other) at in
    let member : IsMember policy area those.start from.place = (those.those from.place).0 from.set in
    let back : IsMember policy area from.place those.start = member_back policy area those.start from.place kept member in
    record {
      start = from.place;
      there = from.there;
      supported = member_supports policy area router other those.start from.place those.there those.supported member from.there;
      one_each = those.one_each;
      those = λ s. (
        λ set. member_onward policy area from.place those.start s back ((those.those s).0 set),
        λ reached. (those.those s).1 (member_onward policy area those.start from.place s member reached),
      );
    }

-- an island of a router that has another router is that one's island
pub island_of_member : (policy : Policy) (area : AreaParts) (router other : ℕ) (g : Topology) (root : ℕ) (link_of : List (Option ℕ)) → IsArea area
    → IsIsland policy area router g root link_of → Contains g.ids (router_node other) → IsIsland policy area other g root link_of
island_of_member policy area router other g root link_of kept island among = record {
  inside = island.inside;
  those = inside_of_member policy area router other island.inside kept island.those
      (subst (λ (l : List NodeId). Contains l (router_node other)) island.made.same_ids among);
  made = island.made;
  rooted = island.rooted;
  numbered = island.numbered;
}

-- a router has one island
pub one_island : (policy : Policy) (area : AreaParts) (router : ℕ) (g h : Topology) (root root' : ℕ) (link_of link_of' : List (Option ℕ)) → IsArea area
    → IsIsland policy area router g root link_of → IsIsland policy area router h root' link_of'
    → (g ≡ h) × (root ≡ root') × (link_of ≡ link_of')
one_island policy area router g h root root' link_of link_of' kept ours theirs =
    let same : ours.inside ≡ theirs.inside = one_inside policy area router ours.inside theirs.inside kept ours.those theirs.those in
    let made : IsGraphOf (ids_of area ours.inside) (links_of policy area ours.inside) h =
    subst (λ (i : List Bool). IsGraphOf (ids_of area i) (links_of policy area i) h) (sym same) theirs.made in
    let rooted : IsRoot policy (ids_of area ours.inside) root' = subst (λ (i : List Bool). IsRoot policy (ids_of area i) root') (sym same) theirs.rooted in (
      one_graph (ids_of area ours.inside) (links_of policy area ours.inside) g h ours.made made,
      one_root policy (ids_of area ours.inside) root root' (ascend_flagged node_id_cmp ours.inside area.ids kept.ids_ascend) ours.rooted rooted,
      are_link_numbers policy area ours.inside link_of ours.numbered ∙ ap (λ (i : List Bool). link_numbers policy area i) same
          ∙ sym (are_link_numbers policy area theirs.inside link_of' theirs.numbered),
    )
