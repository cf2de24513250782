-- The rows of a certificate that follow from its nodes and from the rows of related ones, which stand by themselves.
use Rattle.std.specs.Prelude.{◌≡◌, ◌≤◌, ℕ, true, List, [], length}
use Rattle.std.specs.List.{AllByRecursion}
use Rattle.mrt_graph.specs.declared.cert.CertLink.{CertLink}
use Rattle.mrt_graph.specs.declared.cert.CertNode.{CertNode}
use Rattle.mrt_graph.specs.declared.cert.Row.{Row}
use Rattle.mrt_graph.specs.Certificate.{IsCertLink, IsCertNode, IsCertRow, certificate_of}
use Rattle.mrt_graph.specs.Foldable.{IsLeastOwnHead, comes_to}
use Rattle.mrt_graph.specs.Places.{Each}
use Rattle.mrt_graph.specs.RelatedPairs.{related_pairs, set_marks}
use Rattle.mrt_graph.specs.Tags.{is_near}

-- rows of related nodes from which the others follow: the heads of the nodes lead to one top, there is a row for each
-- pair of related nodes, and none of them is Carried
pub record IsUnfoldable (nodes : List CertNode) (near : List Row) : Type 0 where
  pub few_nodes : length nodes ≤ 65535
  pub nodes_kept : AllByRecursion (IsCertNode (length nodes)) nodes
  pub rows_near : AllByRecursion (λ row. is_near row ≡ true) near
  pub a_row_each : length near ≡ set_marks (related_pairs (certificate_of nodes [] []))
  pub top : ℕ
  pub least : IsLeastOwnHead (certificate_of nodes [] []) top
  pub chains : Each (comes_to (certificate_of nodes [] []) top) (length nodes)

-- such rows of a certificate, and its links, with every number in range
pub record IsFolded (nodes : List CertNode) (links : List CertLink) (near : List Row) : Type 0 where
  pub unfolds : IsUnfoldable nodes near
  pub few_links : length links ≤ 65535
  pub links_kept : AllByRecursion (IsCertLink (length nodes)) links
  pub rows_kept : AllByRecursion (IsCertRow (length links)) near
