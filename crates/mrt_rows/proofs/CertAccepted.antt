-- The certificate of a graph is accepted.
use Rattle.std.proofs.Common.{◌<◌, ℕ, length}
use Rattle.mrt_graph.specs.declared.cert.CertFile.{CertFile}
use Rattle.mrt_graph.specs.Accepted.{Accepted}
use Rattle.mrt_graph.specs.GraphInvariant.{IsTopology}
use Rattle.mrt_graph.specs.Topology.{Topology}
use Rattle.link_direction.specs.FromEars.{IsFromEars}
use Rattle.link_direction.specs.OrderedGadag.{IsOrderedGadag}
use Rattle.link_direction.proofs.Laws.{says_ordered}
use Rattle.link_direction.proofs.SameDirections.{ordered_too, said_alike}
use Rattle.mrt_rows.specs.CertOf.{IsCertOf}
use Rattle.mrt_rows.proofs.RulesHold.{accepted}

-- what it says of nodes and links is what holds of a GADAG with its order
pub ordered_words : (g : Topology) (root : ℕ) (file : CertFile) → IsTopology g → root < length g.ids
    → (is : IsCertOf g root file) → IsOrderedGadag g root is.words
ordered_words g root file kept within is =
    let from : IsFromEars g root is.gadag =
    record { tree = is.tree; search = is.searched; is_gadag = is.by_ears } in
    let laid = says_ordered g root is.gadag is.directed kept within from is.in_order in
    ordered_too g root laid.directions is.words kept
    (said_alike g is.directed laid.directions is.words laid.says is.says) laid.ordered

pub cert_accepted : (g : Topology) (root : ℕ) (file : CertFile) → IsTopology g → root < length g.ids
    → IsCertOf g root file → Accepted g root file
cert_accepted g root file kept within is =
    accepted g root is.words file kept (ordered_words g root file kept within is) is.tells
