-- What a line stands on: ends on the links of a row, and primaries.
use Rattle.std.proofs.Common.{◌≡◌, ◌≢◌, ◌<◌, ◌==◌, ◌∙◌, ℕ, zero, suc, List, [], ◌∷◌, Option, Some, None, length, slice_get, get_or, inl, inr, refl, sym, ap, subst, arith}
use Rattle.std.specs.Prelude.{IfSome, IsSome}
use Rattle.std.specs.List.{find}
use Rattle.std.specs.Option.{option_and_then, option_map}
use Rattle.std.proofs.lemmas.Bool.{cases_eq, eq-eqb, ne_eqb}
use Rattle.std.proofs.lemmas.Option.{get_or_from_slice_get, same_Some, slice_get_within}
use Rattle.mrt_graph.proofs.ListTests.{there}
use Rattle.area_graph.specs.declared.area_types.Arc.{Arc}
use Rattle.area_graph.specs.AreaInvariant.{IsArea}
use Rattle.area_graph.specs.Fits.{Fits}
use Rattle.area_graph.specs.Parts.{AreaParts}
use Rattle.mrt_graph.specs.declared.cert.Color.{Color}
use Rattle.mrt_graph.specs.declared.cert.Row.{Row}
use Rattle.mrt_graph.specs.declared.link.End.{End}
use Rattle.mrt_graph.specs.declared.link.Link.{Link}
use Rattle.mrt_graph.specs.GraphInvariant.{IsTopology}
use Rattle.mrt_graph.specs.Hop.{Hop, color_hop, hop_over}
use Rattle.mrt_graph.specs.Leads.{leads}
use Rattle.mrt_graph.specs.Rows.{Rows, link_of_color}
use Rattle.mrt_graph.specs.Topology.{Topology}
use Rattle.mrt_graph.specs.declared.node_id.NodeId.{NodeId}
use Rattle.mrt_graph.proofs.NodeIds.{one_place}
use Rattle.mrt_graph.proofs.EndsAt.{IsEndOver, leads_end}
use Rattle.primary_alt.specs.ArcWalk.{ArcWalk}
use Rattle.primary_alt.specs.Primaries.{Direct, IsPrimary, Over}
use Rattle.primary_alt.specs.declared.shortest.Primary.{Primary}
use Rattle.primary_alt.proofs.PrimariesLead.{entry_there}
use Rattle.mrt_report.specs.LineParts.{IsPrimaryOf, IsSpotOf}
use Rattle.mrt_report.specs.TableParts.{AreItsPrimaries, IsPrimaryFor}
use Rattle.mrt_report.proofs.IslandWalks.{walk_there}

-- where a color leads on, the link of this color in the row touches the node
pub row_touches : (links : List Link) (rows : Rows) (color : Color) (s t : ℕ) (row : Row) → rows s t ≡ Some row
    → IsSome (color_hop links rows color t s) → IsSome (leads links (link_of_color color row) s)
row_touches links rows color s t row is on = go (leads links (link_of_color color row) s) (rw is at on)
  where
    made : ℕ → Hop
    made v = record { link = link_of_color color row; to = v }

    go : (o : Option ℕ) → IsSome (option_map made o) → IsSome o
    go None some = cc
    go (Some v) some = refl

-- and there is a row
pub row_there : (links : List Link) (rows : Rows) (color : Color) (s t : ℕ) → IsSome (color_hop links rows color t s) → IsSome (rows s t)
row_there links rows color s t on = go (rows s t) on
  where
    go : (o : Option Row) → IsSome (option_and_then (λ row. hop_over links s (link_of_color color row)) o) → IsSome o
    go None some = cc
    go (Some row) some = refl

pub found_there : {X : Type 0} (o : Option X) → IsSome o → (x : X) × (o ≡ Some x)
found_there None some = cc
found_there (Some x) some = (x, refl)

-- an end is found on a link that touches the node
pub end_found : (g : Topology) (s e : ℕ) (ends : List End) → IsTopology g → slice_get g.ends s ≡ Some ends → IsSome (leads g.links e s)
    → IsSome (find (λ end. end.link == e) ends)
end_found g s e ends kept list touches =
    let far : (v : ℕ) × (leads g.links e s ≡ Some v) = found_there (leads g.links e s) touches in
    let over : IsEndOver ends e far.0 = leads_end g s e far.0 ends kept list far.1 in
    finds ends over.place over.end over.at over.over
  where
    finds : (xs : List End) (k : ℕ) (x : End) → slice_get xs k ≡ Some x → x.link ≡ e → IsSome (find (λ end. end.link == e) xs)
    finds [] k x at over = absurd cc
    finds (y ∷ ys) zero x at over = rw (eq-eqb y.link e (ap (λ (end : End). end.link) (same_Some y x at) ∙ over)) refl
    finds (y ∷ ys) (suc k) x at over = elim (cases_eq y.link e) [
      | inl same ↦ rw (eq-eqb y.link e same) refl
      | inr differs ↦ rw (ne_eqb y.link e differs) (finds ys k x at over)
    ]

-- an entry for another node of the island is a primary
pub primary_there : (area : AreaParts) (island : Topology) (link_of : List (Option ℕ)) → IsArea area → IsTopology island → Fits area island link_of
    → (source to spot : ℕ) (primaries : List (Option Primary)) (entry : Option Primary) → source < length island.ids → to < length island.ids → source ≢ to
    → AreItsPrimaries area island source primaries → IsSpotOf area island spot to → slice_get primaries spot ≡ Some entry → IsSome entry
primary_there area island link_of area_kept island_kept fits source to spot primaries entry own_within within other own at is =
    let walk = island_kept.connected source to own_within within in
    let apart : own.spot ≢ spot = λ same. other (one_place island.ids source to at.id island_kept.ids_ascend
    (subst (λ (x : NodeId). slice_get island.ids source ≡ Some x)
    (same_Some own.node.id at.id (sym own.node.in_area ∙ ap (slice_get area.ids) same ∙ at.in_area)) own.node.in_island) at.in_island) in
    let arcs : (arcs : List Arc) × ArcWalk area.arcs own.spot arcs spot = walk_there area island link_of area_kept island_kept fits walk.0 source to own.spot spot walk.1 own.node at in
    entry_there area own.spot spot entry arcs.0 (own.entries.each spot entry is) apart arcs.1

-- what stands at a node's place among the primaries
entry_of : (area : AreaParts) (island : Topology) (source : ℕ) (primaries : List (Option Primary)) → AreItsPrimaries area island source primaries
    → (spot : ℕ) (id : NodeId) (d : Option Primary) → slice_get area.ids spot ≡ Some id → slice_get primaries spot ≡ Some (get_or primaries spot d)
entry_of area island source primaries own spot id d at =
    let entry : (x : Option Primary) × (slice_get primaries spot ≡ Some x) =
    there primaries spot (omega (arith, slice_get_within area.ids spot id at, own.entries.one_each)) in
    entry.1 ∙ ap (λ (x : Option Primary). Some x) (sym (get_or_from_slice_get primaries spot entry.0 d entry.1))

-- there is a primary at the place of another node of the island
pub some_entry : (area : AreaParts) (island : Topology) (link_of : List (Option ℕ)) → IsArea area → IsTopology island → Fits area island link_of
    → (source to spot : ℕ) (primaries : List (Option Primary)) (id : NodeId) (d : Option Primary) → source < length island.ids → to < length island.ids → source ≢ to
    → AreItsPrimaries area island source primaries → slice_get area.ids spot ≡ Some id → slice_get island.ids to ≡ Some id → IsSome (get_or primaries spot d)
some_entry area island link_of area_kept island_kept fits source to spot primaries id d own_within within other own in_area in_island =
    primary_there area island link_of area_kept island_kept fits source to spot primaries (get_or primaries spot d) own_within within other own
    (record { id = id; in_area = in_area; in_island = in_island }) (entry_of area island source primaries own spot id d in_area)

-- and it is the primary for this node
pub entry_is : (area : AreaParts) (island : Topology) (source to spot : ℕ) (primaries : List (Option Primary)) (id : NodeId) (d : Option Primary) (primary : Primary)
    → AreItsPrimaries area island source primaries → slice_get area.ids spot ≡ Some id → slice_get island.ids to ≡ Some id → get_or primaries spot d ≡ Some primary
    → IsPrimaryFor area island primaries to primary
entry_is area island source to spot primaries id d primary own in_area in_island is = record {
  spot = spot;
  node = record { id = id; in_area = in_area; in_island = in_island };
  entry = entry_of area island source primaries own spot id d in_area ∙ ap (λ (x : Option Primary). Some x) is;
}

-- the arcs of a primary are arcs of the area
first_of : (area : AreaParts) (s t : ℕ) (primary : Primary) → IsPrimary area s t (Some primary) → primary.first < length area.arcs
first_of area s t primary (Direct number arc other first direct) = slice_get_within area.arcs number arc first.there
first_of area s t primary (Over number second arc onward other first over after) = slice_get_within area.arcs number arc first.there

second_of : (area : AreaParts) (s t : ℕ) (primary : Primary) → IsPrimary area s t (Some primary) → IfSome primary.second (λ second. second < length area.arcs)
second_of area s t primary (Direct number arc other first direct) = tt
second_of area s t primary (Over number second arc onward other first over after) = slice_get_within area.arcs second onward after.there

-- those of a node's primary for another one too
pub its_first_within : (area : AreaParts) (island : Topology) (source to : ℕ) (primary : Primary) → IsPrimaryOf area island source to primary → primary.first < length area.arcs
its_first_within area island source to primary its = first_of area its.spot its.target primary its.is

pub its_second_within : (area : AreaParts) (island : Topology) (source to : ℕ) (primary : Primary) → IsPrimaryOf area island source to primary
    → IfSome primary.second (λ second. second < length area.arcs)
its_second_within area island source to primary its = second_of area its.spot its.target primary its.is

-- what stands for a node among the router's primaries is the router's primary for it
pub its_primary : (area : AreaParts) (island : Topology) (source to : ℕ) (primaries : List (Option Primary)) (primary : Primary)
    → AreItsPrimaries area island source primaries → IsPrimaryFor area island primaries to primary → IsPrimaryOf area island source to primary
its_primary area island source to primaries primary own entry = record {
  spot = own.spot;
  spot_is = own.node;
  target = entry.spot;
  target_is = entry.node;
  is = own.entries.each entry.spot (Some primary) entry.entry;
}

-- what is taken as it is
pub as_it_is : {X : Type 0} (o : Option X) → option_map (λ x. x) o ≡ o
as_it_is None = refl
as_it_is (Some x) = refl
