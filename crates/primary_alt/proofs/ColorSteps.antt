-- Of an accepted certificate, each color leads on from each node.
use Rattle.std.proofs.Common.{◌≡◌, ◌≢◌, ◌<◌, ℕ, Some, length, subst}
use Rattle.std.specs.Prelude.{IsSome}
use Rattle.mrt_graph.specs.declared.cert.Color.{Color}
use Rattle.mrt_graph.specs.Certificate.{Certificate, row_of}
use Rattle.mrt_graph.specs.Hop.{color_hop}
use Rattle.mrt_graph.specs.Rules.{GraphRule}
use Rattle.mrt_graph.specs.SameGraph.{SameCounts}
use Rattle.mrt_graph.specs.Topology.{Topology}
use Rattle.mrt_graph.proofs.AcceptedBlocks.{blocks}
use Rattle.mrt_graph.proofs.AcceptedSound.{accepted_sound}
use Rattle.mrt_graph.proofs.Bridge.{color_leads}
use Rattle.mrt_graph.proofs.LeadsOn.{sound-hop}
use Rattle.mrt_graph.specs.AcceptedFor.{IsAcceptedFor}

-- it has the graph's counts
pub counts : (g : Topology) (c : Certificate) → IsAcceptedFor g c → SameCounts g c
counts g c a = (a.accepted GraphRule).counts

-- each color leads on
pub hop_there : (g : Topology) (c : Certificate) → IsAcceptedFor g c → (color : Color) (s t : ℕ) → s < length g.ids → t < length g.ids → s ≢ t
    → IsSome (color_hop g.links (row_of c) color t s)
hop_there g c a color s t from to other =
    sound-hop g.links (length g.ids) (row_of c) color s t other (accepted_sound g a.root _ a.accepted s t from to other)

-- to a node of the graph
pub hop_within : (g : Topology) (c : Certificate) → IsAcceptedFor g c → (color : Color) (s t e to : ℕ)
    → color_hop g.links (row_of c) color t s ≡ Some (record { link = e; to = to }) → to < length g.ids
hop_within g c a color s t e to is =
    subst (λ (n : ℕ). to < n) (counts g c a).nodes
    ((blocks g a.root _ a.accepted).to_within e s to (color_leads g.links (row_of c) color t s _ is))
