-- The certificate of a graph whose rows the columns are.
use Rattle.std.proofs.Common.{◌<◌, ℕ, List, length}
use Rattle.mrt_graph.specs.declared.cert.CertFile.{CertFile}
use Rattle.mrt_graph.specs.declared.tree.TreeNode.{TreeNode}
use Rattle.mrt_graph.specs.DirectedLists.{DirectedLists}
use Rattle.mrt_graph.specs.GadagLists.{GadagLists}
use Rattle.mrt_graph.specs.GraphInvariant.{IsTopology}
use Rattle.mrt_graph.specs.Topology.{Topology}
use Rattle.lowpoint_dfs.specs.SearchTree.{IsSearchTree}
use Rattle.gadag_ears.specs.Gadag.{IsGadag}
use Rattle.link_direction.specs.Directed.{IsDirected}
use Rattle.link_direction.specs.Directions.{Directions, Says}
use Rattle.link_direction.specs.FromEars.{IsFromEars}
use Rattle.link_direction.proofs.Laws.{says_ordered}
use Rattle.link_direction.proofs.SameDirections.{ordered_too, said_alike}
use Rattle.mrt_rows.specs.CertOf.{IsCertOf}
use Rattle.mrt_rows.specs.ColumnOf.{HasColumns}
use Rattle.mrt_rows.proofs.OrderedGraphs.{OrderedGraph}
use Rattle.mrt_rows.proofs.SoundColumns.{same_rows}
use Rattle.mrt_rows.proofs.WholeCert.{whole_file, whole_tells}

pub cert_of_columns : (g : Topology) (root : ℕ) (tree : List TreeNode) (gadag : GadagLists) (d : DirectedLists) (w : Directions) → IsTopology g
    → root < length g.ids → IsSearchTree g root tree → IsGadag g root tree gadag → IsDirected g root gadag d → Says g d w
    → (file : CertFile) × IsCertOf g root file × HasColumns g root w file.cert
cert_of_columns g root tree gadag d w kept within searched by_ears in_order says =
    let from : IsFromEars g root gadag = record { tree = tree; search = searched; is_gadag = by_ears } in
    let laid = says_ordered g root gadag d kept within from in_order in
    let og : OrderedGraph = record {
      g = g;
      root = root;
      w = w;
      kept = kept;
      ordered = ordered_too g root laid.directions w kept (said_alike g d laid.directions w laid.says says) laid.ordered;
    } in (
      whole_file og,
      record {
        tree = tree;
        searched = searched;
        gadag = gadag;
        by_ears = by_ears;
        directed = d;
        in_order = in_order;
        words = w;
        says = says;
        tells = whole_tells og;
      },
      record { each = λ t column t_within is. record { same = same_rows og t t_within column is } },
    )
