-- Certificates fit their files.
use Rattle.std.proofs.Common.{◌≡◌, ◌∙◌, ◌<◌, ◌^◌, ℕ, suc, List, [], ◌∷◌, Some, slice_get, refl, sym, subst, arith}
use Rattle.std.specs.List.{AllByRecursion}
use Rattle.std.proofs.lemmas.Option.{same_Some, slice_get_within}
use Rattle.cert_format.specs.Limits.{HasNumber, IsCertFile}
use Rattle.mrt_graph.specs.Topology.{Topology}
use Rattle.mrt_graph.specs.declared.cert.CertFile.{CertFile}
use Rattle.mrt_graph.specs.declared.node_id.NodeId.{NodeId}
use Rattle.mrt_graph.proofs.ListTests.{all_at, there}
use Rattle.mrt_rows.specs.CertOf.{node_words}
use Rattle.cert_stream.specs.OfGraph.{IsOfGraph}
use Rattle.cert_stream.proofs.Whole.{file_within}

-- what holds at each place holds of all
from_places : {X : Type 0} (P : X → Type 0) (xs : List X) → ((i : ℕ) (x : X) → slice_get xs i ≡ Some x → P x) → AllByRecursion P xs
from_places P [] each = tt
from_places P (x ∷ xs) each = (each 0 x refl, from_places P xs (λ i y is. each (suc i) y is))

module _ (file : CertFile) (of : IsOfGraph file) where
  abbrev g : Topology
  g = of.graph

  root_fits : file.root < 2 ^ 32
  root_fits =
      let id = there g.ids of.root of.within in
      subst (λ (n : ℕ). n < 2 ^ 32) (sym (of.certificate.tells.root_number id.0 id.1))
      (all_at (λ (id : NodeId). id.number < 2 ^ 32) g.ids of.root id.0 of.wide id.1)

  nodes_fit : AllByRecursion HasNumber file.cert.nodes
  nodes_fit = from_places HasNumber file.cert.nodes (λ a node at.
      let id = there g.ids a (omega (arith, slice_get_within file.cert.nodes a node at, of.certificate.tells.nodes.one_each)) in
      let same : node_words of.certificate.words a id.0 ≡ node =
      same_Some (node_words of.certificate.words a id.0) node (sym (of.certificate.tells.nodes.each a id.0 id.1) ∙ at) in
      subst HasNumber same (all_at (λ (id : NodeId). id.number < 2 ^ 32) g.ids a id.0 of.wide id.1))

  pub fits : IsCertFile file
  fits =
      file_within g of.root file of.kept of.within of.certificate file.root file.cert.nodes file.cert.links
      (record { of_root = refl; all_nodes = refl; all_links = refl }) root_fits nodes_fit
