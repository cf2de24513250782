-- How the rows of unrelated nodes follow from those of related ones, and how a certificate is held so.
use Rattle.std.specs.Prelude.{◌≡◌, ℕ, zero, suc, List, [], Option, Some, None, length, slice_index_or, if◌then◌else◌}
use Rattle.std.specs.Option.{IfSome, option_and_then, option_map_or}
use Rattle.mrt_graph.specs.declared.cert.CertLink.{CertLink}
use Rattle.mrt_graph.specs.declared.cert.CertNode.{CertNode}
use Rattle.mrt_graph.specs.declared.cert.Row.{Row}
use Rattle.mrt_graph.specs.declared.cert.Tag.TheVariants.{Carried}
use Rattle.mrt_graph.specs.Certificate.{Certificate, IsCertificate, certificate_of}
use Rattle.mrt_graph.specs.CertFields.{head_of}
use Rattle.mrt_graph.specs.Kin.{Kin, kin_of}
use Rattle.mrt_graph.specs.Related.{are_unrelated}
use Rattle.mrt_graph.specs.steps.RelatedPairs.{by_pairs}
use Rattle.mrt_graph.specs.RelatedPairs.{place_of_near}
use Rattle.mrt_graph.specs.Tags.{carried}
use Rattle.mrt_graph.specs.FoldedRows.{IsFolded}

-- in the chain of heads of t, which is t, its head, the head of that and so on: the first node among so many that is
-- related to s; else the head of s
abbrev pub waypoint : Certificate → ℕ → ℕ → ℕ → Option ℕ
waypoint c s zero t = head_of c s
waypoint c s (suc nodes) t =
    if are_unrelated c s t then option_and_then (waypoint c s nodes) (head_of c t) else Some t

-- a row for no pair
abbrev pub no_row : Row
no_row = record { blue = 0; red = 0; tag = Carried }

-- the node for whose row s has the links that it has for t
abbrev pub way_of : Certificate → ℕ → ℕ → Option ℕ
way_of c s t = waypoint c s (suc (length c.nodes)) t

-- the row of s for the related node t, among the rows of related nodes
abbrev pub near_row_of : Certificate → List Row → ℕ → ℕ → Row
near_row_of c near s t = slice_index_or near (place_of_near c s t) no_row

-- the row of s for t, where the rows of related nodes are these: that of unrelated nodes has the links of the row for
-- their waypoint
abbrev pub unfolded_row : Certificate → List Row → ℕ → ℕ → Row
unfolded_row c near s t =
    if are_unrelated c s t
    then option_map_or (λ w. carried (near_row_of c near s w)) (way_of c s t) no_row
    else near_row_of c near s t

-- all rows, where those of related nodes are these
abbrev pub unfolded_rows : List CertNode → List Row → List Row
unfolded_rows nodes near = by_pairs (unfolded_row (certificate_of nodes [] []) near) (length nodes)

-- the certificate that is held so: with all its rows; or, with an index of its nodes' relatives, with those of related
-- nodes
abbrev pub held : List CertNode → List CertLink → List Row → Option Kin → Certificate
held nodes links rows None = certificate_of nodes links rows
held nodes links rows (Some kin) = certificate_of nodes links (unfolded_rows nodes rows)

-- what is held with an index keeps that, and the index is that of its nodes
pub record IsIndexed (nodes : List CertNode) (links : List CertLink) (near : List Row) (kin : Kin) : Type 0 where
  pub index : kin ≡ kin_of nodes
  pub folded : IsFolded nodes links near

-- what each certificate keeps that is held so
abbrev pub IsHeld : List CertNode → List CertLink → List Row → Option Kin → Type 0
IsHeld nodes links rows kin = IsCertificate (held nodes links rows kin) × IfSome kin (IsIndexed nodes links rows)
