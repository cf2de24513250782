-- Columns of first arcs give the primaries of all routers.
use Rattle.std.proofs.Common.{◌≡◌, ◌≢◌, ◌<◌, ◌==◌, ◌∙◌, ◌↔◌, ℕ, Bool, true, false, List, [], Option, Some, None, get_or, length, slice_get, inl, inr, refl, sym, ap, subst, arith}
use Rattle.std.specs.Prelude.{Contains, map, unwrap_or}
use Rattle.std.specs.List.{range_with_len}
use Rattle.std.specs.Option.{option_and_then, option_map}
use Rattle.std.proofs.lemmas.Bool.{cases_Bool, cases_eq, cases_lt, eq-eqb, ne_eqb}
use Rattle.std.proofs.lemmas.List.{length-map}
use Rattle.std.proofs.lemmas.List.FromFn.{get_or-map-range_with_len, length-map-range_with_len}
use Rattle.std.proofs.lemmas.Option.{get_or_from_slice_get, same_Some, slice_get-map, slice_get_within}
use Rattle.area_graph.specs.declared.area_types.Arc.{Arc}
use Rattle.area_graph.specs.AreaInvariant.{IsArea}
use Rattle.area_graph.specs.Fits.{Fits}
use Rattle.area_graph.specs.Parts.{AreaParts}
use Rattle.mrt_graph.specs.GraphInvariant.{IsNetwork}
use Rattle.mrt_graph.specs.Topology.{Topology}
use Rattle.mrt_graph.specs.declared.node_id.NodeId.{NodeId}
use Rattle.primary_alt.specs.declared.shortest.Primary.{Primary}
use Rattle.primary_alt.specs.steps.FirstArcs.{AreColumnsFor, AreFirstArcs, IsFirstFor, IsTable, columns_of, primaries_by, primary_by, primary_over}
use Rattle.primary_alt.specs.Offers.{is_network}
use Rattle.primary_alt.specs.Primaries.{Direct, IsFirstArc, IsPrimary, Itself, LeadsOver, NoWalk, Over}
use Rattle.primary_alt.specs.RouteLists.{HasColumn, RouteLists, primary_at}
use Rattle.primary_alt.specs.Routers.{IsRouter}
use Rattle.primary_alt.specs.RoutesMade.{AreAreaNodes, AreBondsOf, AreColumns, AreIslandNodes, AreMade}
use Rattle.primary_alt.proofs.AreaArcs.{arcs_between}
use Rattle.primary_alt.proofs.ArcWalks.{network_by_test, no_network_by_test, test_of_network}
use Rattle.primary_alt.proofs.ColumnsRead.{column_back, column_seen, many_columns, many_primaries, none_past, primary_seen}
use Rattle.primary_alt.proofs.RouterFacts.{network_within, router_alone, router_within}

-- of each node whether it is a network
abbrev pub networks_of : List NodeId → List Bool
networks_of ids = map (λ s. is_network ids s) (range_with_len 0 (length ids))

-- of each arc where it leads
abbrev pub leads_of : List Arc → List ℕ
leads_of arcs = map (λ arc. arc.to) arcs

many_networks : (ids : List NodeId) → length (networks_of ids) ≡ length ids
many_networks ids = length-map-range_with_len (λ (s : ℕ). is_network ids s) 0 (length ids)

network_read : (ids : List NodeId) (x : ℕ) → x < length ids → get_or (networks_of ids) x false ≡ is_network ids x
network_read ids x within = get_or-map-range_with_len (λ (s : ℕ). is_network ids s) 0 (length ids) x x false within (omega arith)

lead_read : (arcs : List Arc) (number : ℕ) (arc : Arc) → slice_get arcs number ≡ Some arc → get_or (leads_of arcs) number 0 ≡ arc.to
lead_read arcs number arc at =
    get_or_from_slice_get (leads_of arcs) number arc.to 0
    (slice_get-map (λ (a : Arc). a.to) arcs number ∙ ap (λ (o : Option Arc). option_map (λ (a : Arc). a.to) o) at)

-- a router by the test
router_by_test : (ids : List NodeId) (x : ℕ) → IsRouter ids x → is_network ids x ≡ false
router_by_test ids x router = elim (cases_Bool (is_network ids x)) [
  | inl network ↦ absurd (router_alone ids x router (network_by_test ids x network))
  | inr other ↦ other
]

-- what is told of an arc to a node
told_to : (arcs : List Arc) (number n : ℕ) (o : Option Arc) → slice_get arcs number ≡ o → ((arc : Arc) → slice_get arcs number ≡ Some arc → arc.to < n) → (to : ℕ)
    → option_map (λ arc. arc.to) o ≡ Some to → to < n
told_to arcs number n None at within to is = absurd cc
told_to arcs number n (Some arc) at within to is = subst (λ (v : ℕ). v < n) (same_Some arc.to to is) (within arc at)

pub is_table : (area : AreaParts) (asked : List ℕ) (columns : List (Option (List (Option ℕ)))) → IsArea area → AreColumnsFor area asked columns
    → IsTable (networks_of area.ids) (leads_of area.arcs) columns
is_table area asked columns kept are = record {
  a_place_each = are.a_place_each ∙ sym (many_networks area.ids);
  each = λ t column at.
      let is = are.firsts t column at in
      record {
        one_each = is.one_each ∙ sym (many_networks area.ids);
        arcs = λ x number there. omega (arith, is.arcs x number there, length-map area.arcs (λ (a : Arc). a.to));
        nodes = λ number to there.
            omega (
              arith,
              many_networks area.ids,
              told_to area.arcs number (length area.ids) (slice_get area.arcs number) refl (λ arc there'. (arcs_between area kept).tos number arc there') to
                  (sym (slice_get-map (λ (a : Arc). a.to) area.arcs number) ∙ there),
            );
      };
}

module _ (area : AreaParts) (kept : IsArea area) (t : ℕ) (column : List (Option ℕ)) (are : AreFirstArcs area t column) where
  -- over a network
  over_network : (x number : ℕ) (arc : Arc) → x ≢ t → IsFirstArc area.arcs x t number arc → LeadsOver area t arc → (o : Option ℕ) → IsFirstFor area.arcs arc.to t o
      → IsPrimary area x t (option_map (λ second. record { first = number; second = Some second; next = get_or (leads_of area.arcs) second 0 }) o)
  over_network x number arc apart first over None none = absurd (none first.shortest.far.walk first.shortest.far.leads)
  over_network x number arc apart first over (Some second) is =
      subst (λ (to : ℕ). IsPrimary area x t (Some (record { first = number; second = Some second; next = to }))) (sym (lead_read area.arcs second is.0 is.1.there))
      (Over number second arc is.0 apart first over is.1)

  over : (x number : ℕ) (arc : Arc) → x ≢ t → IsFirstArc area.arcs x t number arc → IsPrimary area x t (primary_over (networks_of area.ids) (leads_of area.arcs) column t number arc.to)
  over x number arc apart first = elim (cases_eq arc.to t) [
    | inl here ↦
        let e = eq-eqb arc.to t here in
        rw e (Direct number arc apart first (λ leads. leads.other here))
    | inr further ↦
        let e = ne_eqb arc.to t further in
        let within = (arcs_between area kept).tos number arc first.there in
        let read = network_read area.ids arc.to within in
        elim (cases_Bool (is_network area.ids arc.to)) [
          | inl network ↦
              let e' = read ∙ network in
              rw (e, e') (over_network x number arc apart first (record { network = network_by_test area.ids arc.to network; other = further }) _ (are.first arc.to within further))
          | inr router ↦
              let e' = read ∙ router in
              rw (e, e') (Direct number arc apart first (λ leads. no_network_by_test area.ids arc.to router leads.network))
        ]
  ]

  by_first : (x : ℕ) → x ≢ t → (o : Option ℕ) → IsFirstFor area.arcs x t o
      → IsPrimary area x t (option_and_then (λ number. primary_over (networks_of area.ids) (leads_of area.arcs) column t number (get_or (leads_of area.arcs) number 0)) o)
  by_first x apart None none = NoWalk none
  by_first x apart (Some number) is =
      subst (λ (to : ℕ). IsPrimary area x t (primary_over (networks_of area.ids) (leads_of area.arcs) column t number to)) (sym (lead_read area.arcs number is.0 is.1.there))
      (over x number is.0 apart is.1)

  pub primary_is : (x : ℕ) → IsRouter area.ids x → IsPrimary area x t (primary_by (networks_of area.ids) (leads_of area.arcs) column x t)
  primary_is x router = elim (cases_eq x t) [
    | inl same ↦ let e = eq-eqb x t same in rw e (Itself same)
    | inr apart ↦
        let e = ne_eqb x t apart in
        let within = router_within area.ids x router in
        let e' = network_read area.ids x within ∙ router_by_test area.ids x router in
        rw (e, e') (by_first x apart _ (are.first x within apart))
  ]

-- a network has no primary
none_of_network : (ids : List NodeId) (leads : List ℕ) (column : List (Option ℕ)) (x t : ℕ) → IsNetwork ids x → primary_by (networks_of ids) leads column x t ≡ None
none_of_network ids leads column x t network =
    let within = network_within ids x network in
    let is : get_or (networks_of ids) x false ≡ true = network_read ids x within ∙ test_of_network ids x network in
    elim (cases_Bool (x == t)) [
      | inl same ↦ rw same refl
      | inr other ↦ rw (other, is) refl
    ]

none_by_column : (ids : List NodeId) (leads : List ℕ) (x t : ℕ) → IsNetwork ids x → (o : Option (List (Option ℕ)))
    → option_and_then (λ column. primary_by (networks_of ids) leads column x t) o ≡ None
none_by_column ids leads x t network None = refl
none_by_column ids leads x t network (Some column) = none_of_network ids leads column x t network

-- whatever the columns are
none_seen : (ids : List NodeId) (leads : List ℕ) (columns : List (Option (List (Option ℕ)))) (x t : ℕ) → IsNetwork ids x
    → get_or (unwrap_or (get_or (columns_of (networks_of ids) leads columns) t None) []) x None ≡ None
none_seen ids leads columns x t network = elim (cases_lt t (length (networks_of ids))) [
  | inl low ↦
      primary_seen (networks_of ids) leads columns x t (omega (arith, many_networks ids, network_within ids x network)) low
      ∙ none_by_column ids leads x t network (get_or columns t None)
  | inr past ↦ none_past (networks_of ids) leads columns x t past
]

pub columns_told : (area : AreaParts) (asked : List ℕ) (columns : List (Option (List (Option ℕ)))) (routes : RouteLists) → IsArea area → AreColumnsFor area asked columns
    → routes.primaries ≡ columns_of (networks_of area.ids) (leads_of area.arcs) columns → AreColumns area routes
columns_told area asked columns routes kept are told =
    let networks = networks_of area.ids in
    let leads = leads_of area.arcs in
    let many = many_networks area.ids in
    record {
      a_place_each = ap length told ∙ many_columns networks leads columns ∙ many;
      an_entry_each = λ t seen at.
          let back = column_back networks leads columns t seen (sym (ap (λ (cs : List (Option (List (Option Primary)))). slice_get cs t) told) ∙ at) in
          ap length back.2 ∙ many_primaries networks leads t back.0 ∙ many;
      routers = λ x t router has.
          let back = column_back networks leads columns t has.column (sym (ap (λ (cs : List (Option (List (Option Primary)))). slice_get cs t) told) ∙ has.there) in
          let from : x < length networks = omega (arith, many, router_within area.ids x router) in
          let to : t < length networks = omega (arith, many, are.a_place_each, slice_get_within columns t (Some back.0) back.1) in
          let read : primary_at routes x t ≡ primary_by networks leads back.0 x t =
          ap (λ (cs : List (Option (List (Option Primary)))). get_or (unwrap_or (get_or cs t None) []) x None) told
          ∙ primary_seen networks leads columns x t from to
          ∙ ap (λ (o : Option (List (Option ℕ))). option_and_then (λ column. primary_by networks leads column x t) o) (get_or_from_slice_get columns t (Some back.0) None back.1) in
          subst (λ (entry : Option Primary). IsPrimary area x t entry) (sym read) (primary_is area kept t back.0 (are.firsts t back.0 back.1) x router);
      networks = λ x t network.
          ap (λ (cs : List (Option (List (Option Primary)))). get_or (unwrap_or (get_or cs t None) []) x None) told ∙ none_seen area.ids leads columns x t network;
    }

-- routes of these lists are made with the area and the graph
pub made : (area : AreaParts) (graph : Topology) (link_of : List (Option ℕ)) (asked : List ℕ) (networks : List Bool) (leads : List ℕ)
    (columns : List (Option (List (Option ℕ)))) (nodes links : List (Option ℕ)) (spots bonds : List ℕ)
    → IsArea area → AreColumnsFor area asked columns → networks ≡ networks_of area.ids → leads ≡ leads_of area.arcs → Fits area graph link_of → links ≡ link_of
    → AreIslandNodes area.ids graph.ids nodes → AreAreaNodes area.ids graph.ids spots → AreBondsOf (length graph.links) link_of bonds
    → AreMade area graph (record { primaries = columns_of networks leads columns; nodes = nodes; links = links; spots = spots; bonds = bonds })
made area graph link_of asked networks leads columns nodes links spots bonds kept are networks_is leads_is fits links_is of_nodes of_spots of_bonds = record {
  primaries = columns_told area asked columns _ kept are
      (ap (λ (xs : List Bool). columns_of xs leads columns) networks_is ∙ ap (λ (xs : List ℕ). columns_of (networks_of area.ids) xs columns) leads_is);
  fits = subst (λ (xs : List (Option ℕ)). Fits area graph xs) (sym links_is) fits;
  nodes = of_nodes;
  spots = of_spots;
  bonds = subst (λ (xs : List (Option ℕ)). AreBondsOf (length graph.links) xs bonds) (sym links_is) of_bonds;
}

-- each destination has a column, and no other node has one
pub has_columns : (area : AreaParts) (asked : List ℕ) (networks : List Bool) (leads : List ℕ) (columns : List (Option (List (Option ℕ)))) (routes : RouteLists)
    → AreColumnsFor area asked columns → networks ≡ networks_of area.ids → routes.primaries ≡ columns_of networks leads columns
    → (t : ℕ) → HasColumn routes t ↔ Contains asked t
has_columns area asked networks leads columns routes are networks_is told t = (
  λ has.
      let back = column_back networks leads columns t has.column (sym (ap (λ (cs : List (Option (List (Option Primary)))). slice_get cs t) told) ∙ has.there) in
      are.only t back.0 back.1,
  λ is.
      let there = are.all t is in
      let low : t < length networks =
      omega (arith, are.a_place_each, slice_get_within columns t (Some there.0) there.1, ap length networks_is, many_networks area.ids) in
      record {
        column = primaries_by networks leads t there.0;
        there = ap (λ (cs : List (Option (List (Option Primary)))). slice_get cs t) told ∙ column_seen networks leads columns t there.0 low there.1;
      },
)
