-- A certificate's stream after some of its rows were found.
use Rattle.std.proofs.Common.{◌≡◌, ℕ, List, sym, subst}
use Rattle.mrt_graph.specs.declared.cert.CertLink.{CertLink}
use Rattle.mrt_graph.specs.declared.cert.CertNode.{CertNode}
use Rattle.mrt_graph.specs.Topology.{Topology}
use Rattle.mrt_rows.specs.CertOf.{IsCertOf}
use Rattle.mrt_rows.specs.RowMaker.{MakeRows}
use Rattle.mrt_rows.specs.RowsFound.{RowsFound}
use Rattle.cert_format.specs.Putting.{Writer}
use Rattle.cert_stream.specs.steps.Stream.{IsStream}

-- what makes the rows, from the same root, may have found other ones
pub still_stream : (g : Topology) (number : ℕ) (nodes : List CertNode) (links : List CertLink) (rows after : RowsFound) (writer : Writer)
    → IsStream g number nodes links rows writer → MakeRows g after → after.root ≡ rows.root → IsStream g number nodes links after writer
still_stream g number nodes links rows after writer is made same = record {
  made = made;
  some = (is.some.0, subst (λ (r : ℕ). IsCertOf g r is.some.0) (sym same) is.some.1);
  parts = λ file it. is.parts file (subst (λ (r : ℕ). IsCertOf g r file) same it);
  within = λ file it. is.within file (subst (λ (r : ℕ). IsCertOf g r file) same it);
  header = is.header;
}
