-- What each certificate of a graph tells.
use Rattle.std.proofs.Common.{ℕ, subst}
use Rattle.mrt_graph.specs.declared.cert.CertFile.{CertFile}
use Rattle.mrt_graph.specs.DirectedLists.{DirectedLists}
use Rattle.mrt_graph.specs.Topology.{Topology}
use Rattle.mrt_rows.specs.CertOf.{IsCertOf, Tells}
use Rattle.mrt_rows.specs.DirectedFrom.{IsDirectedFrom}
use Rattle.mrt_rows.specs.ListedDirections.{AreRooted, directions_of}
use Rattle.mrt_rows.proofs.OneCert.{one_cert_of}
use Rattle.mrt_rows.proofs.Rooting.{og_of}
use Rattle.mrt_rows.proofs.WholeCert.{whole_file, whole_tells}

-- each certificate of the graph and its root tells what the lists say
pub told_by : {g : Topology} {root : ℕ} {d : DirectedLists} → AreRooted g root d → IsDirectedFrom g root d → (file : CertFile) → IsCertOf g root file
    → Tells g root (directions_of g d) file
told_by {g} {root} {d} rooted made file is =
    let og = og_of rooted in
    let own : IsCertOf g root (whole_file og) = record {
      tree = made.tree;
      searched = made.searched;
      gadag = made.gadag;
      by_ears = made.by_ears;
      directed = d;
      in_order = made.in_order;
      words = directions_of g d;
      says = rooted.says;
      tells = whole_tells og;
    } in
    subst (λ (f : CertFile). Tells g root (directions_of g d) f)
    (one_cert_of g root (whole_file og) file rooted.kept rooted.ordered.root_within own is) (whole_tells og)
