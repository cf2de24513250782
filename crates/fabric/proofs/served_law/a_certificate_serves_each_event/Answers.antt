use Rattle.std.proofs.Common.{refl}
use Rattle.area_graph.specs.Parts.{AreaParts}
use Rattle.fabric.specs.Served.{IsEventServed}
use Rattle.fabric.specs.Viewed.{parts_with}
use Rattle.fabric.specs.declared.event.Event.{Event}
use Rattle.fabric.specs.declared.event.Event.TheVariants.{Fail, Inject, Step}
use Rattle.fabric.proofs.served_law.a_certificate_serves_each_event.Goals as goal
use Rattle.mrt_graph.specs.AcceptedFor.{IsAcceptedFor}
use Rattle.mrt_graph.specs.Certificate.{Certificate, row_of}
use Rattle.mrt_graph.specs.Topology.{Topology}
use Rattle.primary_alt.specs.RouteLists.{RouteLists}
use Rattle.primary_alt.specs.RoutesMade.{AreMadeWith}

served : (area : AreaParts) (island : Topology) (cert : Certificate) (routes : RouteLists) → IsAcceptedFor island cert
    → AreMadeWith area island routes → (event : Event) → IsEventServed (parts_with area island (row_of cert) routes) routes event
served area island cert routes accepted made (Inject at to entry) = record {
  rows = λ d is. record { cert = cert; accepted = accepted; same = λ s. refl };
  primaries = made.all to;
}
served area island cert routes accepted made (Step p) = tt
served area island cert routes accepted made (Fail failed) = tt

pub returns : goal.returns
returns c = served
