-- The certificate of the rows of all nodes and of the words on nodes and links.
use Rattle.std.proofs.Common.{◌≡◌, ◌≢◌, ◌∙◌, ◌<◌, ◌-◌, ◌*◌, ℕ, suc, List, [], ◌∷◌, Some, length, slice_get, refl, sym, ap, subst, arith}
use Rattle.std.proofs.lemmas.Option.{same_Some, slice_get_within}
use Rattle.std.specs.List.{AllByRecursion}
use Rattle.mrt_graph.specs.declared.cert.CertLink.{CertLink}
use Rattle.mrt_graph.specs.declared.cert.CertNode.{CertNode}
use Rattle.mrt_graph.specs.declared.cert.Row.{Row}
use Rattle.mrt_graph.specs.declared.node_id.NodeId.{NodeId}
use Rattle.mrt_graph.specs.Certificate.{IsCertificate, IsCertLink, IsCertNode, IsCertRow, certificate_of}
use Rattle.mrt_graph.specs.GraphInvariant.{IsLink}
use Rattle.mrt_graph.proofs.ListTests.{all_at, there}
use Rattle.link_direction.proofs.ClosedBlocks.{inside_of_link}
use Rattle.mrt_rows.specs.CertOf.{AreLinkWords, AreNodeWords, Tells, file_of, link_words, node_words}
use Rattle.mrt_rows.specs.steps.NearOf.{Apart}
use Rattle.mrt_rows.specs.steps.RowsOf.{AreAllRows, row_among}
use Rattle.mrt_rows.specs.RowsOf.{HasRow}
use Rattle.mrt_rows.proofs.AllRows.{row_is}
use Rattle.mrt_rows.proofs.OneRow.{Far, IsRowFor, Near, carrier_in, of_table}
use Rattle.mrt_rows.proofs.OrderedGraphs.{OrderedGraph, is_ordered}
use Rattle.mrt_rows.proofs.OtherLines.{near_links}
use Rattle.mrt_graph.proofs.RowPlaces.{placed}
use Rattle.mrt_rows.proofs.Carriers.{carrier_by}

-- what holds at each place holds of all
pub all_by_places : {X : Type 0} (P : X → Type 0) (xs : List X) → ((i : ℕ) (x : X) → slice_get xs i ≡ Some x → P x)
    → AllByRecursion P xs
all_by_places P [] each = tt
all_by_places P (x ∷ xs) each = (each 0 x refl, all_by_places P xs (λ i y is. each (suc i) y is))

module _ (og : OrderedGraph) where
  abbrev n : ℕ
  n = length og.g.ids

  -- the links of rows are in range
  range_for : (s t : ℕ) (row : Row) → s < n → t < n → s ≢ t → IsRowFor og s t row → IsCertRow (length og.g.links) row
  range_for s t row s_within t_within two (Near near) =
      let it = near_links og s t s_within t_within row near in record { blue = it.0.within; red = it.1.within }
  range_for s t row s_within t_within two (Far {row = x} (Apart apart) rest) =
      let to = carrier_in og s s_within t t_within two apart in
      let it = range_for s (carrier_by og.w og.root s t) x s_within to.0 to.1 rest in
      record { blue = it.blue; red = it.red }

  -- the certificate
  module _ (nodes : List CertNode) (links : List CertLink) (rows : List Row)
      (node_words_are : AreNodeWords og.g og.w nodes)
      (link_words_are : AreLinkWords og.g og.w links) (rows_are : AreAllRows og.g og.root og.w rows) where
    node_kept : (a : ℕ) (node : CertNode) → slice_get nodes a ≡ Some node → IsCertNode (length nodes) node
    node_kept a node is =
        let a_within : a < n = omega (arith, slice_get_within nodes a node is, node_words_are.one_each) in
        let id = there og.g.ids a a_within in
        let same = same_Some (node_words og.w a id.0) node (sym (node_words_are.each a id.0 id.1) ∙ is) in
        rw (node_words_are.one_each, ← same) (record {
          order_from_one = og.ordered.orders.from_one a a_within;
          order_to_n = og.ordered.orders.to_n a a_within;
          head = og.ordered.heads.head_within a a_within;
          block = og.ordered.heads.block_within a a_within;
        })

    link_kept : (e : ℕ) (words : CertLink) → slice_get links e ≡ Some words → IsCertLink (length nodes) words
    link_kept e words is =
        let e_within : e < length og.g.links = omega (arith, slice_get_within links e words is, link_words_are.one_each) in
        let link = there og.g.links e e_within in
        let it = all_at (IsLink og.g.ids) og.g.links e link.0 og.kept.links_kept link.1 in
        let same = same_Some (link_words og.w e link.0) words (sym (link_words_are.each e link.0 link.1) ∙ is) in
        let away = og.ordered.links.directed e e_within in
        let inside = inside_of_link og.g og.root og.w e (og.w.tail e) away.0 (is_ordered og) away.1 in
        let block : og.w.lies_in e < n = subst (λ (k : ℕ). k < n) inside.in_block (og.ordered.heads.block_within inside.m inside.within) in
        rw (node_words_are.one_each, ← same) (record { ascending = it.ascending; upper = it.upper; block = block })

    row_kept : (k : ℕ) (row : Row) → slice_get rows k ≡ Some row → IsCertRow (length links) row
    row_kept k row is =
        let k_within : k < n * (n - 1) = subst (λ (x : ℕ). k < x) rows_are.count (slice_get_within rows k row is) in
        let at = placed n k k_within in
        let s = at.source in
        let t = at.target in
        let it = of_table og s at.source_within (row_among n rows s) (λ u. rows_are.each s u at.source_within) t at.target_within at.two in
        let same = same_Some it.row row (sym it.is ∙ row_is n rows s t at.source_within at.target_within at.two ∙ ap (slice_get rows) at.place ∙ is) in
        rw (link_words_are.one_each, ← same) (range_for s t it.row at.source_within at.target_within at.two it.the)

    pub cert_kept : IsCertificate (certificate_of nodes links rows)
    cert_kept = record {
      some_node = omega (arith, node_words_are.one_each, og.kept.some_node);
      few_nodes = omega (arith, node_words_are.one_each, og.kept.few_nodes);
      few_links = omega (arith, link_words_are.one_each, og.kept.few_links);
      a_row_each = rows_are.count ∙ ap (λ (x : ℕ). x * (x - 1)) (sym node_words_are.one_each);
      nodes_kept = all_by_places (IsCertNode (length nodes)) nodes node_kept;
      links_kept = all_by_places (IsCertLink (length nodes)) links link_kept;
      rows_kept = all_by_places (IsCertRow (length links)) rows row_kept;
    }

    -- and its file
    pub cert_tells : (id : NodeId) → slice_get og.g.ids og.root ≡ Some id
        → Tells og.g og.root og.w (file_of id (certificate_of nodes links rows))
    cert_tells id is = record {
      version = refl;
      root_number = λ other at. ap (λ (x : NodeId). x.number) (same_Some id other (sym is ∙ at));
      nodes = node_words_are;
      links = link_words_are;
      row_count = rows_are.count;
      rows = λ s t s_within t_within two.
          subst (λ (k : ℕ). HasRow og.g og.root og.w s (row_among k rows s) t) (sym node_words_are.one_each)
          (rows_are.each s t s_within t_within two);
    }
