-- Tests that tell whether a packet may enter, and whether an element is of the area.
use Rattle.std.proofs.Common.{◌==◌, ℕ, Bool, true, not, List, length, refl}
use Rattle.std.specs.Prelude.{◌↔◌, ◌&&◌, IsTrue, is_some, nat_lt}
use Rattle.std.proofs.lemmas.Bool.Decides.{Decides-and, Decides-eqb, Decides-like, Decides-ltb, Decides-not}
use Rattle.area_graph.specs.Parts.{AreaParts}
use Rattle.fabric.specs.Answers.{AreInside, HasElement, IsOpen, MayEnter}
use Rattle.fabric.specs.FabricParts.{node_in}
use Rattle.fabric.specs.declared.event.Failure.{Failure}
use Rattle.fabric.specs.declared.event.Failure.TheVariants as failures
use Rattle.fabric_script.specs.declared.entry.Entry.{Entry}
use Rattle.fabric_script.specs.declared.entry.Entry.TheVariants as entries
use Rattle.mrt_graph.specs.declared.node_id.NodeId.{NodeId}
use Rattle.mrt_graph.specs.Topology.{Topology}
use Rattle.primary_alt.specs.Offers.{is_network}
use Rattle.primary_alt.specs.Routers.{IsRouter}
use Rattle.primary_alt.proofs.ArcWalks.{network_by_test, test_of_network}
use Rattle.primary_alt.proofs.RouterFacts.{router_alone, router_from, router_within}

router_is : (ids : List NodeId) (n : ℕ) → IsTrue (nat_lt n (length ids) && not (is_network ids n)) ↔ IsRouter ids n
router_is ids n =
    Decides-like _ (λ is. router_from ids n is.0 is.1) (λ is. (router_within ids n is, router_alone ids n is))
    (Decides-and _ _ (Decides-ltb n (length ids)) (Decides-not (is_network ids n) (network_by_test ids n, test_of_network ids n)))

module _ (area : AreaParts) (island : Topology) where
  inside_is : (at to : ℕ) → IsTrue (is_some (node_in area island at) && is_some (node_in area island to)) ↔ AreInside area island at to
  inside_is at to =
      Decides-like _ (λ is. record { place = is.0; destination = is.1 }) (λ is. (is.place, is.destination)) (Decides-and _ _ (λ some. some, λ some. some) (λ some. some, λ some. some))

  open_is : (at to : ℕ) (entry : Entry) → (test : Bool) × (IsTrue test ↔ IsOpen area island at to entry)
  open_is at to entries.Blue = (_, inside_is at to)
  open_is at to entries.Red = (_, inside_is at to)
  open_is at to entries.Repair = (true, (λ holds. tt, λ anywhere. refl))

  pub may_is : (at to : ℕ) (entry : Entry) → (may : Bool) × (IsTrue may ↔ MayEnter area island at to entry)
  may_is at to entry = (
    _,
    Decides-like _ (λ is. record { router = is.0; destination = is.1.0; apart = is.1.1.0; is_open = is.1.1.1 }) (λ may. (may.router, (may.destination, (may.apart, may.is_open))))
        (Decides-and _ _ (router_is area.ids at)
        (Decides-and _ _ (Decides-ltb to (length area.ids)) (Decides-and _ _ (Decides-not (at == to) (Decides-eqb at to)) (open_is at to entry).1))),
  )

pub element_is : (area : AreaParts) (failed : Failure) → (has : Bool) × (IsTrue has ↔ HasElement area failed)
element_is area (failures.Node s) = (_, Decides-ltb s (length area.ids))
element_is area (failures.Bond b) = (_, Decides-ltb b (length area.bonds))
