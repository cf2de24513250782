-- Each router has a table.
use Rattle.std.proofs.Common.{◌≡◌, ◌≢◌, ◌∙◌, ◌+◌, ◌<◌, ◌==◌, ◌++◌, ℕ, zero, suc, not, List, [], ◌∷◌, Option, Some, None, length, inl, inr, refl, sym, ap, arith}
use Rattle.std.specs.Prelude.{IfSome, IsSome}
use Rattle.std.specs.List.{AllZip, concat, find, range_with_len}
use Rattle.std.specs.List.Sorted.{IsStrictlySortedBy}
use Rattle.std.specs.Option.{option_map}
use Rattle.std.proofs.lemmas.Bool.{eq-eqb, not-true}
use Rattle.std.proofs.lemmas.Option.{slice_get_within}
use Rattle.area_graph.specs.AreaInvariant.{IsArc, IsArea}
use Rattle.area_graph.specs.Fits.{Fits}
use Rattle.mrt_graph.specs.Alternate.{IsAlternate}
use Rattle.mrt_graph.specs.Certificate.{row_of}
use Rattle.mrt_graph.specs.GraphInvariant.{IsEnd, IsTopology}
use Rattle.mrt_graph.specs.Hop.{color_hop}
use Rattle.mrt_graph.specs.Leads.{leads}
use Rattle.mrt_graph.specs.NodeIds.{number_of}
use Rattle.mrt_graph.specs.NodeOrder.{node_id_cmp}
use Rattle.mrt_graph.specs.Rows.{Rows}
use Rattle.mrt_graph.specs.declared.cert.Color.{Color}
use Rattle.mrt_graph.specs.declared.cert.Color.TheVariants.{Blue, Red}
use Rattle.mrt_graph.specs.declared.link.Element.{Element}
use Rattle.mrt_graph.specs.declared.link.Element.TheVariants as elements
use Rattle.mrt_graph.specs.declared.link.End.{End}
use Rattle.mrt_graph.specs.declared.link.Link.{Link}
use Rattle.mrt_graph.specs.declared.node_id.NodeId.{NodeId}
use Rattle.mrt_graph.proofs.IdPlaces.{number_found, told}
use Rattle.mrt_graph.proofs.ListTests.{all_at, there}
use Rattle.mrt_graph.proofs.Members.{Has, all_has, find_has, has_filter}
use Rattle.primary_alt.proofs.ArcsOffered.{far_within}
use Rattle.primary_alt.specs.declared.shortest.Primary.{Primary}
use Rattle.mrt_report.specs.steps.LineParts.{AreLineParts}
use Rattle.mrt_report.specs.LineParts.{LineParts}
use Rattle.mrt_report.specs.Lines.{row_text}
use Rattle.mrt_report.specs.Repairs.{AreArcRepairs, AreSecondRepairs, Inside, IsLinkElement, IsNodeElement, IsRepair, Outside}
use Rattle.mrt_report.specs.Rows.{IsArcHop, IsLinkHop, IsRow}
use Rattle.mrt_report.specs.TableParts.{AreItsPrimaries, IsPrimaryFor, TableParts, parts_of_lines}
use Rattle.mrt_report.specs.TableText.{IsTableLine, IsTableText, head_line, others}
use Rattle.mrt_report.specs.declared.row.ArcRepairs.{ArcRepairs}
use Rattle.mrt_report.specs.declared.row.HopTo.{HopTo}
use Rattle.mrt_report.specs.declared.row.TableRow.{TableRow}
use Rattle.mrt_report.proofs.ForLine.{end_found, found_there, its_first_within, its_primary, its_second_within, primary_there, row_there, row_touches}
use Rattle.mrt_report.proofs.IslandWalks.{spot_there}

-- the law of the layer below
abbrev pub SomeAlternate : Type 0
SomeAlternate = (links : List Link) (n : ℕ) (rows : Rows) (s t : ℕ) (failed : Option Element)
    → (answer : Option Color) × IsAlternate links n rows s t failed answer

-- the link of the island that a bond is, if it is one
link_element : (link_of : List (Option ℕ)) (bond : ℕ) → bond < length link_of → (element : Option Element) × IsLinkElement link_of bond element
link_element link_of bond within =
    let entry = there link_of bond within in
    (option_map (λ e. elements.Link e) entry.0, ap (λ (o : Option (Option ℕ)). option_map (option_map (λ e. elements.Link e)) o) entry.1)

-- the node of the island that has an identifier, if one has
node_element : (ids : List NodeId) (id : NodeId) → IsStrictlySortedBy node_id_cmp ids → (element : Option Element) × IsNodeElement ids id element
node_element ids id ascend = go (number_of ids id) refl
  where
    go : (place : Option ℕ) → number_of ids id ≡ place → (element : Option Element) × IsNodeElement ids id element
    go None is = (None, Outside ((told ids id None ascend (sym is)).none.0 refl))
    go (Some n) is = (Some (elements.Node n), Inside n (number_found ids id n is))

-- a row of the table, from parts that belong together
module _ (alternate : SomeAlternate) (parts : LineParts) (to : ℕ) (kept : AreLineParts parts to) where
  repair : (failed : Option Element) → (answer : Option Color) × IsRepair parts to failed answer
  repair failed = alternate parts.island.links (length parts.island.ids) parts.rows parts.source to failed

  arc_repairs : (number : ℕ) → number < length parts.area.arcs → (repairs : ArcRepairs) × AreArcRepairs parts to number repairs
  arc_repairs number within =
      let arc = there parts.area.arcs number within in
      let is : IsArc parts.area.ids parts.area.bonds arc.0 =
      all_at (IsArc parts.area.ids parts.area.bonds) parts.area.arcs number arc.0 kept.area_kept.arcs_kept arc.1 in
      let far = there parts.area.ids arc.0.to (far_within parts.area arc.0 kept.area_kept is) in
      let link = link_element parts.link_of arc.0.bond
      (omega (arith, slice_get_within parts.area.bonds arc.0.bond is.bond is.there, kept.fits.an_entry_each)) in
      let node = node_element parts.island.ids far.0 kept.island_kept.ids_ascend in
      let over_link = repair link.0 in
      let over_node = repair node.0 in (
        record { link = over_link.0; node = over_node.0 },
        record {
          link = link.0;
          node = node.0;
          elements_are = record { arc = arc.0; there = arc.1; link_is = link.1; far = far.0; far_is = far.1; node_is = node.1 };
          link_repair_is = over_link.1;
          node_repair_is = over_node.1;
        },
      )

  second_repairs : (second : Option ℕ) → IfSome second (λ number. number < length parts.area.arcs)
      → (repairs : Option ArcRepairs) × AreSecondRepairs parts to second repairs
  second_repairs None within = (None, tt)
  second_repairs (Some number) within = let some = arc_repairs number within in (Some some.0, some.1)

  arc_hop : (number : ℕ) → number < length parts.area.arcs → (hop : HopTo) × IsArcHop parts.area number hop
  arc_hop number within =
      let arc = there parts.area.arcs number within in
      let is : IsArc parts.area.ids parts.area.bonds arc.0 =
      all_at (IsArc parts.area.ids parts.area.bonds) parts.area.arcs number arc.0 kept.area_kept.arcs_kept arc.1 in
      let far = there parts.area.ids arc.0.to (far_within parts.area arc.0 kept.area_kept is) in
      (record { far = far.0; link_data = arc.0.link_data }, record { arc = arc.0; arc_is = arc.1; far_is = far.1; data_is = refl })

  link_hop : (link : ℕ) → IsSome (leads parts.island.links link parts.source) → (hop : HopTo) × IsLinkHop parts.island parts.source link hop
  link_hop link touches =
      let ends = there parts.island.ends parts.source (omega (arith, kept.within, kept.island_kept.a_list_each)) in
      let found = found_there (find (λ (end : End). end.link == link) ends.0)
      (end_found parts.island parts.source link ends.0 kept.island_kept ends.1 touches) in
      let is : IsEnd (length parts.island.ids) parts.island.links parts.source found.0 =
      all_has (IsEnd (length parts.island.ids) parts.island.links parts.source) ends.0 found.0
      (kept.island_kept.ends_kept parts.source ends.0 ends.1).kept
      (find_has (λ (end : End). end.link == link) ends.0 found.0 found.1).0 in
      let far = there parts.island.ids found.0.to is.to in (
        record { far = far.0; link_data = found.0.link_data },
        record {
          end = found.0;
          end_is = record { ends = ends.0; ends_are = ends.1; is = found.1 };
          far_is = far.1;
          data_is = refl;
        },
      )

  row_made : (primary : Primary) → primary.first < length parts.area.arcs → IfSome primary.second (λ second. second < length parts.area.arcs)
      → (row : TableRow) × IsRow parts to primary row
  row_made primary first second =
      let goes : (color : Color) → IsSome (color_hop parts.island.links parts.rows color to parts.source) =
      λ color. kept.leads_on color parts.source kept.within kept.different in
      let links = found_there (parts.rows parts.source to) (row_there parts.island.links parts.rows Blue parts.source to (goes Blue)) in
      let id = there parts.island.ids to kept.target in
      let blue = link_hop links.0.blue (row_touches parts.island.links parts.rows Blue parts.source to links.0 links.1 (goes Blue)) in
      let red = link_hop links.0.red (row_touches parts.island.links parts.rows Red parts.source to links.0 links.1 (goes Red)) in
      let hop = arc_hop primary.first first in
      let one = arc_repairs primary.first first in
      let two = second_repairs primary.second second in (
        record { id = id.0; tag = links.0.tag; blue = blue.0; red = red.0; primary = hop.0; first = one.0; second = two.0 },
        record {
          id_is = id.1;
          links = links.0;
          links_are = links.1;
          tag_is = refl;
          blue_is = blue.1;
          red_is = red.1;
          primary_is = hop.1;
          first_is = one.1;
          second_is = two.1;
        },
      )

-- ---- a line on each node

each_has : {A B : Type 0} (R : A → B → Type 0) (xs : List A) → ((x : A) → Has xs x → (y : B) × R x y) → (ys : List B) × AllZip R xs ys
each_has R [] some = ([], tt)
each_has R (x ∷ xs) some =
    let one = some x (inl refl) in
    let rest = each_has R xs (λ y has. some y (inr has)) in
    (one.0 ∷ rest.0, (one.1, rest.1))

in_range : (from count x : ℕ) → Has (range_with_len from count) x → x < from + count
in_range from zero x has = absurd has
in_range from (suc count) x (inl same) = omega (arith, same)
in_range from (suc count) x (inr later) = let below = in_range (from + 1) count x later in omega (arith, below)

-- the nodes that have a line are the others
other_node : (count source to : ℕ) → Has (others count source) to → (to < count) × (source ≢ to)
other_node count source to has =
    let kept = has_filter (λ (n : ℕ). not (n == source)) (range_with_len 0 count) to has in
    let below = in_range 0 count to kept.0 in
    let differs = not-true (to == source) kept.1 in
    (omega (arith, below), λ same. let one = eq-eqb to source (sym same) in cc)

module _ (alternate : SomeAlternate) (parts : TableParts) (root : ℕ) (area_kept : IsArea parts.area) (island_kept : IsTopology parts.island)
    (fits : Fits parts.area parts.island parts.link_of)
    (leads_on : (color : Color) (s t : ℕ) → s < length parts.island.ids → t < length parts.island.ids → s ≢ t
    → IsSome (color_hop parts.island.links (row_of parts.cert) color t s))
    (own : AreItsPrimaries parts.area parts.island parts.source parts.primaries) where
  within : parts.source < length parts.island.ids
  within = slice_get_within parts.island.ids parts.source own.node.id own.node.in_island

  primary_of : (to : ℕ) → to < length parts.island.ids → parts.source ≢ to
      → (primary : Primary) × IsPrimaryFor parts.area parts.island parts.primaries to primary
  primary_of to upper other =
      let spot = spot_there parts.area parts.island parts.link_of fits to upper in
      let entry = there parts.primaries spot.0 (omega (arith, slice_get_within parts.area.ids spot.0 spot.1.id spot.1.in_area, own.entries.one_each)) in
      let some = found_there entry.0 (primary_there parts.area parts.island parts.link_of area_kept island_kept fits parts.source to spot.0
      parts.primaries entry.0 within upper other own spot.1 entry.1) in
      (some.0, record { spot = spot.0; node = spot.1; entry = entry.1 ∙ ap (λ (e : Option Primary). Some e) some.1 })

  line_made : (to : ℕ) → to < length parts.island.ids → parts.source ≢ to → (text : List ℕ) × IsTableLine parts to text
  line_made to upper other =
      let primary = primary_of to upper other in
      let its = its_primary parts.area parts.island parts.source to parts.primaries primary.0 own primary.1 in
      let kept : AreLineParts (parts_of_lines parts) to = record {
        area_kept = area_kept;
        island_kept = island_kept;
        fits = fits;
        within = within;
        target = upper;
        different = other;
        leads_on = λ color s below apart. leads_on color s to below upper apart;
      } in
      let made = row_made alternate (parts_of_lines parts) to kept primary.0
      (its_first_within parts.area parts.island parts.source to primary.0 its)
      (its_second_within parts.area parts.island parts.source to primary.0 its) in
      (row_text made.0, record { primary = primary.0; primary_is = primary.1; line = record { row = made.0; row_is = made.1; spelled = refl } })

  pub some_table : root < length parts.island.ids → (text : List ℕ) × IsTableText parts root text
  some_table upper =
      let router = there parts.island.ids parts.source within in
      let root_id = there parts.island.ids root upper in
      let head : List ℕ = head_line router.0 root_id.0 (length parts.island.ids) (length parts.island.links) in
      let lines = each_has (IsTableLine parts) (others (length parts.island.ids) parts.source) (λ to has.
      let other = other_node (length parts.island.ids) parts.source to has in line_made to other.0 other.1) in (
        head ++ concat lines.0,
        record {
          head = head;
          head_is = record { router = router.0; router_is = router.1; root_id = root_id.0; root_is = root_id.1; spelled = refl };
          lines = lines.0;
          lines_are = lines.1;
          spelled = refl;
        },
      )
