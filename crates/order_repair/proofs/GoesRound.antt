-- The walk of the color that is chosen by order reaches its end, and goes round what has failed.
use Rattle.std.proofs.Common.{◌≡◌, ◌≢◌, ◌∙◌, ◌<◌, ℕ, Some, length, sym, subst}
use Rattle.std.proofs.lemmas.Option.{same_Some}
use Rattle.mrt_graph.specs.declared.cert.CertFile.{CertFile}
use Rattle.mrt_graph.specs.declared.cert.Color.{Color}
use Rattle.mrt_graph.specs.declared.cert.Color.TheVariants.{Blue, Red}
use Rattle.mrt_graph.specs.declared.cert.Row.{Row}
use Rattle.mrt_graph.specs.declared.link.Element.{Element}
use Rattle.mrt_graph.specs.declared.link.Element.TheVariants as elements
use Rattle.mrt_graph.specs.Alternate.{UsesOn}
use Rattle.mrt_graph.specs.Certificate.{row_of}
use Rattle.mrt_graph.specs.DirectedLists.{DirectedLists}
use Rattle.mrt_graph.specs.GraphInvariant.{IsTopology}
use Rattle.mrt_graph.specs.Reaches.{Reaches}
use Rattle.mrt_graph.specs.Rows.{Rows}
use Rattle.mrt_graph.specs.Separates.{IsNeitherEnd}
use Rattle.mrt_graph.specs.Topology.{Topology}
use Rattle.mrt_graph.proofs.AcceptedSound.{accepted_sound}
use Rattle.link_direction.specs.Directions.{Directions, Says}
use Rattle.link_direction.specs.FromEars.{IsFromEars}
use Rattle.link_direction.specs.OrderedGadag.{IsOrderedGadag}
use Rattle.link_direction.proofs.Laws.{says_ordered}
use Rattle.link_direction.proofs.SameDirections.{ordered_too, said_alike}
use Rattle.mrt_rows.specs.CertOf.{IsCertOf, Tells}
use Rattle.mrt_rows.specs.DirectedFrom.{IsDirectedFrom}
use Rattle.mrt_rows.specs.RowsOf.{HasRow}
use Rattle.mrt_rows.proofs.OneCert.{one_cert_of}
use Rattle.mrt_rows.proofs.OneRow.{one_row}
use Rattle.mrt_rows.proofs.OrderedGraphs.{OrderedGraph}
use Rattle.mrt_rows.proofs.RulesHold.{accepted}
use Rattle.mrt_rows.proofs.WholeCert.{whole_file, whole_tells}
use Rattle.order_repair.specs.Failed.{LiesIn}
use Rattle.order_repair.specs.OrderChoice.{IsOrderChoice, LineFor}
use Rattle.order_repair.proofs.Round.{IsRound}
use Rattle.order_repair.proofs.RoundLinks.{link_round}
use Rattle.order_repair.proofs.RoundNodes.{node_round}
use Rattle.order_repair.proofs.RowWays.{RowWays, row_ways}
use Rattle.order_repair.proofs.SharedBlock.{SharedRing, node_lies, shared_ring}

module _ (og : OrderedGraph) (file : CertFile) (tells : Tells og.g og.root og.w file) (s t : ℕ) (s_within : s < length og.g.ids)
    (t_within : t < length og.g.ids) where
  abbrev rows : Rows
  rows = row_of file.cert

  tabled : (u : ℕ) → u < length og.g.ids → u ≢ t → HasRow og.g og.root og.w u (rows u) t
  tabled u within two = tells.rows u t within t_within two

  -- the row of s for t is that of the certificate
  its_row : (x : Element) (color : Color) → s ≢ t → (choice : IsOrderChoice og.g og.root og.w s t x color) → rows s t ≡ Some choice.row
  its_row x color two choice =
      sym (one_row og s s_within choice.its_row.rows (rows s) choice.its_row.by_table
      (λ u within apart. tells.rows s u s_within within apart) t t_within two)
      ∙ choice.its_row.is

  lines_round : (x : Element) (color : Color) (k h : ℕ) (it : SharedRing og s t k h) → LiesIn og.g og.w k h x → IsNeitherEnd x s t
      → (row : Row) → RowWays og it.m s t row.blue row.red row.tag → LineFor row.tag og.g og.w s t x color
      → IsRound og rows s t x color
  lines_round (elements.Link e) color k h it lies neither row ways line =
      link_round og it.m it.ring rows s t tabled e (lies.in_block ∙ it.block) row.blue row.red ways color line
  lines_round (elements.Node f) color k h it lies neither row ways line =
      subst (λ (c : Color). IsRound og rows s t (elements.Node f) c) (sym line.color_is)
      (node_round og it.m it.ring rows s t tabled s_within t_within f (node_lies og s t k h f it lies) neither.0 neither.1 row.blue row.red
      ways line.tests line.mean)

  pub goes_round : (x : Element) (color : Color) → IsOrderChoice og.g og.root og.w s t x color → IsRound og rows s t x color
  goes_round x color choice =
      let between = choice.between in
      let it = shared_ring og s t between.block between.head s_within t_within between.share in
      let row = tabled s s_within it.sharing.two in
      let same : row.row ≡ choice.row = same_Some row.row choice.row (sym row.is ∙ its_row x color it.sharing.two choice) in
      let ways = row_ways og it.m it.ring s t it.sharing row.row.tag (rows s) row.row row.line in
      lines_round x color between.block between.head it between.lies between.neither row.row ways
      (subst (λ (r : Row). LineFor r.tag og.g og.w s t x color) (sym same) choice.by_tag)

  -- each color reaches its end
  pub arrives : s ≢ t → (color : Color) → Reaches og.g.links (length og.g.ids) rows color s t
  arrives two color = go color
    where
      go : (c : Color) → Reaches og.g.links (length og.g.ids) rows c s t
      go Blue =
          (accepted_sound og.g og.root file (accepted og.g og.root og.w file og.kept og.ordered tells) s t s_within t_within
          two).blue
      go Red =
          (accepted_sound og.g og.root file (accepted og.g og.root og.w file og.kept og.ordered tells) s t s_within t_within
          two).red

abbrev pub graph_with : (g : Topology) (root : ℕ) (w : Directions) → IsTopology g → IsOrderedGadag g root w → OrderedGraph
graph_with g root w kept ordered = record { g = g; root = root; w = w; kept = kept; ordered = ordered }

-- so in the graph's certificate, for a color that is chosen by its directions
module _ (g : Topology) (root : ℕ) (d : DirectedLists) (w : Directions) (file : CertFile) (kept : IsTopology g)
    (within : root < length g.ids) (from : IsDirectedFrom g root d) (says : Says g d w) (is : IsCertOf g root file)
    (s t : ℕ) (x : Element) (color : Color) (choice : IsOrderChoice g root w s t x color) where
  ears : IsFromEars g root from.gadag
  ears = record { tree = from.tree; search = from.searched; is_gadag = from.by_ears }

  ordered : IsOrderedGadag g root w
  ordered =
      let laid = says_ordered g root from.gadag d kept within ears from.in_order in
      ordered_too g root laid.directions w kept (said_alike g d laid.directions w laid.says says) laid.ordered

  abbrev og : OrderedGraph
  og = graph_with g root w kept ordered

  -- the certificate tells the same
  tells : Tells g root w file
  tells = subst (λ (f : CertFile). Tells g root w f) (one_cert_of g root (whole_file og) file kept within made is) (whole_tells og)
    where
      made : IsCertOf g root (whole_file og)
      made = record {
        tree = from.tree;
        searched = from.searched;
        gadag = from.gadag;
        by_ears = from.by_ears;
        directed = d;
        in_order = from.in_order;
        words = w;
        says = says;
        tells = whole_tells og;
      }

  pub reaches_in_certificate : Reaches g.links (length g.ids) (row_of file.cert) color s t
  reaches_in_certificate = arrives og file tells s t choice.between.source choice.between.target choice.between.share.two color

  pub round_in_certificate : ¬ UsesOn g.links (length g.ids) (row_of file.cert) s t x color
  round_in_certificate = goes_round og file tells s t choice.between.source choice.between.target x color choice
