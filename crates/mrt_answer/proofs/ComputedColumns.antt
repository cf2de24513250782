-- Columns that are made from a root are of the certificate that is computed for it.
use Rattle.std.proofs.Common.{◌≡◌, ◌<◌, ◌∙◌, ℕ, List, Result, Ok, Err, length, sym, ap, subst}
use Rattle.std.specs.Prelude.{IfOk}
use Rattle.mrt_graph.specs.declared.cert.CertFile.{CertFile}
use Rattle.mrt_graph.specs.declared.cert.CertNode.{CertNode}
use Rattle.mrt_graph.specs.Accepted.{Accepted}
use Rattle.mrt_graph.specs.Certificate.{row_of}
use Rattle.mrt_graph.specs.GraphInvariant.{IsTopology}
use Rattle.mrt_graph.specs.Sound.{Sound}
use Rattle.mrt_graph.specs.Topology.{Topology}
use Rattle.mrt_rows.specs.CertOf.{IsCertOf}
use Rattle.mrt_rows.specs.declared.rooted.RootedColumns.{RootedColumns}
use Rattle.mrt_answer.specs.Made.{HasComputed}

-- the laws of the layers below
pub record AcceptedLaws : Type 0 where
  pub accept : (g : Topology) (root : ℕ) (file : CertFile) → IsTopology g → root < length g.ids → IsCertOf g root file → Accepted g root file
  pub sound : (g : Topology) (root : ℕ) (file : CertFile) → Accepted g root file → Sound g.links (length g.ids) (row_of file.cert)

module _ (laws : AcceptedLaws) (graph : Topology) (root : ℕ) (within : root < length graph.ids) where
  pub computed : {E : Type 0} (result : Result RootedColumns E) → IfOk result (λ columns. columns.root ≡ root)
      → IfOk result (λ _. (file : CertFile) × IsCertOf graph root file) → IfOk result (λ _. IsTopology graph) → IfOk result (HasComputed graph root)
  computed (Err error) at cert kept = tt
  computed (Ok columns) at cert kept =
      let accepted = laws.accept graph root cert.0 kept within cert.1 in
      record {
        file = cert.0;
        certificate = record { computed = cert.1; accepted = accepted; sound = laws.sound graph root cert.0 accepted };
        of_columns = subst (λ (r : ℕ). IsCertOf graph r cert.0) (sym at) cert.1;
      }

-- words on nodes are as many as nodes
pub as_many : (graph : Topology) (root : ℕ) (columns : RootedColumns) (own : HasComputed graph root columns) (nodes : List CertNode)
    → nodes ≡ own.file.cert.nodes → length nodes ≡ length graph.ids
as_many graph root columns own nodes same = ap (λ (xs : List CertNode). length xs) same ∙ own.of_columns.tells.nodes.one_each
