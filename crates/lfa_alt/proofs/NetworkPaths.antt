-- What a path to a network offers for it: no distance from the network decides that.
use Rattle.std.proofs.Common.{◌≡◌, ◌≢◌, ◌∙◌, ℕ, true, [], Option, Some, None, refl, sym, ap, subst, arith}
use Rattle.std.specs.Prelude.{◌↔◌, ◌&&◌, is_none, is_some}
use Rattle.std.proofs.lemmas.Bool.{eqb-true}
use Rattle.area_graph.specs.AreaInvariant.{IsArea}
use Rattle.area_graph.specs.Parts.{AreaParts}
use Rattle.mrt_graph.specs.GraphInvariant.{IsNetwork}
use Rattle.primary_alt.specs.Distance.{IsDistance}
use Rattle.primary_alt.proofs.ArcWalks.{arc_kept, arc_moves, walk_costs}
use Rattle.lfa_alt.specs.declared.alternate.FreeCandidate.{FreeCandidate}
use Rattle.lfa_alt.specs.declared.destination.Destination.{Destination}
use Rattle.lfa_alt.specs.declared.neighbour_path.NeighbourPath.{NeighbourPath}
use Rattle.lfa_alt.specs.LoopFree.{IsNearerThanOver}
use Rattle.lfa_alt.specs.steps.Choosing.{IsDestination, Offers, offer}
use Rattle.lfa_alt.specs.steps.NeighbourPaths.{AcrossNetwork, IsPathOver, IsPathToNetwork, ToNetwork, ToRouter}
use Rattle.lfa_alt.proofs.Offered.{offer_is}

-- a path that the test takes
pub to_network_by_test : (area : AreaParts) (s number : ℕ) (path : NeighbourPath) → IsPathOver area s number path → (is_some path.network && is_none path.second) ≡ true → IsPathToNetwork area s path
to_network_by_test area s number path (ToRouter arc leaves router) is = cc
to_network_by_test area s number path (ToNetwork arc leaves network) is = record { number = number; arc = arc; leaves = leaves; network = network; is = refl }
to_network_by_test area s number path (AcrossNetwork second arc onward leaves network on further) is = cc

module _ (area : AreaParts) (kept : IsArea area) (s : ℕ) (path : NeighbourPath) (to : IsPathToNetwork area s path) where
  next_is : path.next ≡ to.arc.to
  next_is = ap (λ (w : NeighbourPath). w.next) to.is

  network : IsNetwork area.ids path.next
  network = subst (λ (v : ℕ). IsNetwork area.ids v) (sym next_is) to.network

  pub network_is : path.network ≡ Some path.next
  network_is = ap (λ (w : NeighbourPath). w.network) to.is ∙ ap (λ (v : ℕ). Some v) (sym next_is)

  pub second_is : path.second ≡ None
  second_is = ap (λ (w : NeighbourPath). w.second) to.is

  source_apart : s ≢ path.next
  source_apart same = arc_moves area to.arc kept (arc_kept area to.number to.arc kept to.leaves.there) (sym next_is ∙ sym same ∙ sym to.leaves.from)

  -- the network is at distance 0 from itself
  here : IsDistance area.arcs path.next path.next 0
  here = record { walk = []; leads = refl; costs = refl; least = λ other w. omega arith }

  -- and nearer than over any other node
  nearer : (x : ℕ) → x ≢ path.next → IsNearerThanOver area.arcs x path.next path.next
  nearer x apart = record {
    rest = 0;
    near = here;
    less = λ out back there from. omega (arith, walk_costs area from.walk x path.next kept network apart from.leads, from.costs);
  }

  -- for another node it offers nothing
  pub nothing_else : (t : ℕ) (destination : Option Destination) (choice : FreeCandidate) → t ≢ path.next → ¬ Offers area s t destination path choice
  nothing_else t None choice apart offers = offers
  nothing_else t (Some destination) choice apart offers = apart (sym (eqb-true path.next t (rw (network_is, second_is) at offers.0)))

  -- for it, what the table gives
  pub offer_there : (destination : Destination) → IsDestination area s path.next destination → (choice : FreeCandidate)
      → (offer path destination path.next (Some 0) None None ≡ Some choice) ↔ Offers area s path.next (Some destination) path choice
  offer_there destination is =
      offer_is area s path.next path destination is 0 None None here (λ holds. nearer s source_apart, λ holds. refl)
      (λ apart. (λ holds. nearer destination.primary.next apart, λ holds. refl))
