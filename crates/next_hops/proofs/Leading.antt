-- By the column of a certificate a color goes on from each node.
use Rattle.std.proofs.Common.{◌≡◌, ◌≢◌, ◌∙◌, ◌<◌, ℕ, List, Option, Some, IsSome, Result, Ok, Err, IfOk, length, slice_get, sym, ap, subst}
use Rattle.std.specs.Option.{option_and_then, option_map_or}
use Rattle.mrt_graph.specs.NodeIds.{router}
use Rattle.mrt_graph.specs.declared.cert.CertFile.{CertFile}
use Rattle.mrt_graph.specs.declared.cert.Color.{Color}
use Rattle.mrt_graph.specs.declared.cert.Row.{Row}
use Rattle.mrt_graph.specs.declared.node_id.NodeId.{NodeId}
use Rattle.mrt_graph.specs.Accepted.{Accepted}
use Rattle.mrt_graph.specs.Certificate.{row_of}
use Rattle.mrt_graph.specs.GraphInvariant.{IsTopology}
use Rattle.mrt_graph.specs.Column.{rows_of_column}
use Rattle.mrt_graph.specs.Hop.{Hop, color_hop, hop_over}
use Rattle.mrt_graph.specs.Rows.{link_of_color}
use Rattle.mrt_graph.specs.Topology.{Topology}
use Rattle.mrt_rows.specs.CertOf.{IsCertOf}
use Rattle.mrt_rows.specs.ColumnOf.{HasRowsFor}

-- two nodes that are named for two different routers are two
two_nodes : (ids : List NodeId) (s t a b : ℕ) → slice_get ids s ≡ Some (router a) → slice_get ids t ≡ Some (router b)
    → a ≢ b → s ≢ t
two_nodes ids s t a b source target different same = different
    (ap (λ (id : Option NodeId). option_map_or (λ (i : NodeId). i.number) id 0)
    (sym source ∙ ap (slice_get ids) same ∙ target))

-- by the column for t of a graph's certificate each color goes on from s, where s and t are two routers
pub goes_on : (g : Topology) (root own s t a b : ℕ) (column : List (Option Row)) → IsTopology g → root < length g.ids
    → own ≡ root → (cert : (file : CertFile) × IsCertOf g root file)
    → ((file : CertFile) → IsCertOf g own file → HasRowsFor file.cert t column)
    → ((g : Topology) (root : ℕ) (file : CertFile) → IsTopology g → root < length g.ids → IsCertOf g root file → Accepted g root file)
    → ((g : Topology) (root : ℕ) (file : CertFile) → Accepted g root file → (color : Color) (s t : ℕ) → s < length g.ids
    → t < length g.ids → s ≢ t → IsSome (color_hop g.links (row_of file.cert) color t s))
    → s < length g.ids → t < length g.ids → slice_get g.ids s ≡ Some (router a) → slice_get g.ids t ≡ Some (router b) → a ≢ b
    → (color : Color) → IsSome (color_hop g.links (rows_of_column column) color t s)
goes_on g root own s t a b column kept within same cert rows accepted leads lt lt' source target different color =
    subst (λ (row : Option Row). IsSome (option_and_then (λ (r : Row). hop_over g.links s (link_of_color color r)) row))
    ((rows cert.0 (subst (λ (r : ℕ). IsCertOf g r cert.0) (sym same) cert.1)).same s)
    (leads g root cert.0 (accepted g root cert.0 kept within cert.1) color s t lt lt' (two_nodes g.ids s t a b source target different))

-- what the column says of a color the certificate says
pub in_certificate : (g : Topology) (root own s t : ℕ) (column : List (Option Row)) → own ≡ root
    → (cert : (file : CertFile) × IsCertOf g root file)
    → ((file : CertFile) → IsCertOf g own file → HasRowsFor file.cert t column) → (color : Color) (hop : Hop)
    → color_hop g.links (rows_of_column column) color t s ≡ Some hop → color_hop g.links (row_of cert.0.cert) color t s ≡ Some hop
in_certificate g root own s t column same cert rows color hop is =
    ap (λ (row : Option Row). option_and_then (λ (r : Row). hop_over g.links s (link_of_color color r)) row)
    ((rows cert.0 (subst (λ (r : ℕ). IsCertOf g r cert.0) (sym same) cert.1)).same s) ∙ is

-- what holds of the answer of a call holds of it in the words of its caller
pub in_words : (A B : Type 0) (P Q : A → Type 0) (result : Result A B) → ((x : A) → P x → Q x) → IfOk result P → IfOk result Q
in_words A B P Q (Ok x) words holds = words x holds
in_words A B P Q (Err e) words holds = tt
