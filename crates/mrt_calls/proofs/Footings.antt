-- What the rows of a router's table are made from, as the text of a table is made from it.
use Rattle.std.proofs.Common.{◌≡◌, ◌≢◌, ◌∙◌, ℕ, List, Some, Ok, length, map, slice_get, refl, sym, ap, subst}
use Rattle.std.specs.List.{AllZip}
use Rattle.std.proofs.lemmas.Option.{same_Some, slice_get_within}
use Rattle.area_graph.specs.Parts.{AreaParts}
use Rattle.mrt_graph.specs.Certificate.{Certificate}
use Rattle.mrt_graph.specs.NodeIds.{router as router_node}
use Rattle.mrt_graph.specs.declared.cert.CertFile.{CertFile}
use Rattle.mrt_graph.specs.declared.node_id.NodeId.{NodeId}
use Rattle.mrt_report.specs.TableParts.{AreItsPrimaries, TableParts, table_parts}
use Rattle.mrt_answer.specs.Input.{Input, area}
use Rattle.mrt_answer.specs.Made.{AreParts, with_cert}
use Rattle.mrt_answer.specs.Texts.{IsComputedFile}
use Rattle.mrt_answer.specs.declared.table.Parts.{Parts}
use Rattle.mrt_answer.proofs.Tables.{not_network}
use Rattle.mrt_calls.specs.steps.Footings.{ArePartsOf, IsFooting}
use Rattle.mrt_calls.specs.TableRows.{AreTableRows, IsTheRow, TableFooting, tabled}
use Rattle.mrt_calls.specs.steps.Filling.{IsFilled}
use Rattle.mrt_calls.specs.steps.Putting.{IsHeldIn}
use Rattle.mrt_calls.specs.RowNumbers.{row_in}
use Rattle.mrt_calls.specs.declared.row.MrtRow.{MrtRow}
use Rattle.mrt_report.specs.ByColumn.{IsRowByColumn}
use Rattle.mrt_report.specs.TableText.{others}
use Rattle.mrt_report.proofs.ByColumn.{row_of_table, rows_of_table}
use Rattle.mrt_report.specs.declared.row.TableRow.{TableRow}
use Rattle.mrt_calls.specs.declared.footing.Footing.{Footing}

module _ (input : Input) (router : ℕ) (footing : Footing) (is : IsFooting input router footing) (parts : Parts) (are : ArePartsOf footing parts) where
  its_primaries : AreItsPrimaries footing.net.area footing.net.island.graph footing.source footing.primaries.items
  its_primaries = record {
    spot = is.own.spot;
    node = record { id = router_node router; in_area = is.own.spot_is; in_island = is.own.source_is };
    entries = is.own.primaries_are;
  }

  pub are_parts : AreParts parts
  are_parts = record {
    fits = rw (are.area_is, are.island_is, are.links_are) is.fits;
    within = rw (are.source_is, are.island_is) (slice_get_within footing.net.island.graph.ids footing.source (router_node router) is.own.source_is);
    router = rw (are.source_is, are.island_is) (not_network footing.net.island.graph.ids footing.source router is.own.source_is);
    primaries = rw (are.area_is, are.island_is, are.source_is, are.primaries_are) its_primaries;
  }

  -- with a certificate
  pub same_parts : (cert : Certificate) → with_cert parts cert
      ≡ table_parts footing.net.area footing.net.island.graph footing.net.island.link_of cert footing.source footing.primaries.items
  same_parts cert = λ i. table_parts (are.area_is i) (are.island_is i) (are.links_are i) cert (are.source_is i) (are.primaries_are i)

  abbrev pub on_table : (file : CertFile) → IsComputedFile footing.net.island.graph footing.net.island.root file
      → TableFooting footing.net.area footing.net.island router
  on_table file computed = record {
    source = footing.source;
    source_is = is.own.source_is;
    spot = is.own.spot;
    spot_is = is.own.spot_is;
    file = file;
    certificate = computed;
    primaries = footing.primaries.items;
    primaries_are = is.own.primaries_are;
  }

  -- another node than the router has another number
  pub apart : (to : ℕ) (id : NodeId) → slice_get footing.net.island.graph.ids to ≡ Some id → id ≢ router_node router → footing.source ≢ to
  apart to id at other same =
      other (same_Some id (router_node router) (sym at ∙ ap (λ (k : ℕ). slice_get footing.net.island.graph.ids k) (sym same) ∙ is.own.source_is))

-- rows that were put into a buffer by the columns of a certificate are those of the table
pub table_filled : (input : Input) (router : ℕ) (footing : Footing) (is : IsFooting input router footing) (parts : Parts) → ArePartsOf footing parts
    → (file : CertFile) → IsComputedFile footing.net.island.graph footing.net.island.root file → (buffer : List MrtRow) (count : ℕ)
    → IsFilled (IsRowByColumn (with_cert parts file.cert)) parts.source (length parts.island.now.ids) buffer count
    → (them : List MrtRow) × tabled input router (Ok them) × IsHeldIn buffer count them
table_filled input router footing is parts are file computed buffer count filled =
    let on : TableParts = table_parts footing.net.area footing.net.island.graph footing.net.island.link_of file.cert footing.source footing.primaries.items in
    let nodes = others (length footing.net.island.graph.ids) footing.source in
    let zipped : AllZip (IsRowByColumn on) nodes filled.lines =
    subst (λ (p : TableParts). AllZip (IsRowByColumn p) nodes filled.lines) (same_parts input router footing is parts are file.cert)
    (subst (λ (xs : List ℕ). AllZip (IsRowByColumn (with_cert parts file.cert)) xs filled.lines)
    (λ i. others (length ((are.island_is i).ids)) (are.source_is i)) filled.are) in
    let rows : AreTableRows footing.net.area footing.net.island router (map row_in filled.lines) = record {
      footing = on_table input router footing is parts are file computed;
      lines = filled.lines;
      lines_are = rows_of_table on nodes filled.lines zipped;
      in_numbers = refl;
    } in (
      map row_in filled.lines,
      (footing.net.island, is.island_is, subst (λ (a : AreaParts). AreTableRows a footing.net.island router (map row_in filled.lines)) is.area_is rows),
      filled.held,
    )

-- and a row by a column is one of the table
pub the_row : (input : Input) (router : ℕ) (footing : Footing) (is : IsFooting input router footing) (parts : Parts) → ArePartsOf footing parts
    → (file : CertFile) → IsComputedFile footing.net.island.graph footing.net.island.root file → (to : ℕ) (line : TableRow) (row : MrtRow)
    → IsRowByColumn (with_cert parts file.cert) to line → row ≡ row_in line
    → IsTheRow footing.net.area footing.net.island router to row
the_row input router footing is parts are file computed to line row by numbers = record {
  footing = on_table input router footing is parts are file computed;
  line = line;
  line_is = row_of_table (table_parts footing.net.area footing.net.island.graph footing.net.island.link_of file.cert footing.source footing.primaries.items) to line
      (subst (λ (p : TableParts). IsRowByColumn p to line) (same_parts input router footing is parts are file.cert) by);
  in_numbers = numbers;
}
