-- What leads to a neighbour for a destination are the paths that serve it.
use Rattle.std.proofs.Common.{◌≡◌, ◌<◌, ◌==◌, ℕ, not, Some, None, length, inl, inr, refl, sym, ap, subst}
use Rattle.std.specs.Prelude.{IsTrue}
use Rattle.std.proofs.lemmas.Bool.{cases_Bool, eq-eqb, eqb-false, eqb-true, ne_eqb, not-true}
use Rattle.area_graph.specs.declared.area_types.Arc.{Arc}
use Rattle.area_graph.specs.AreaInvariant.{IsArea}
use Rattle.area_graph.specs.Parts.{AreaParts}
use Rattle.mrt_graph.specs.GraphInvariant.{IsNetwork}
use Rattle.primary_alt.specs.Offers.{is_network}
use Rattle.primary_alt.specs.Routers.{IsRouter}
use Rattle.primary_alt.proofs.AreaArcs.{arcs_between}
use Rattle.primary_alt.proofs.ArcWalks.{arc_kept, network_by_test, no_network_by_test, to_network}
use Rattle.primary_alt.proofs.RouterFacts.{router_alone, router_from}
use Rattle.lfa_alt.specs.declared.neighbour_path.NeighbourPath.{NeighbourPath}
use Rattle.lfa_alt.specs.Candidates.{Across, Candidate, Leaves, Straight, ToNeighbour}
use Rattle.lfa_alt.specs.steps.NeighbourPaths.{AcrossNetwork, IsPathOver, ToNetwork, ToRouter, candidate_of, serves, path_across, path_over}

-- a path that serves t, and is told so
pub record IsServed (area : AreaParts) (s t : ℕ) (candidate : Candidate) : Type 0 where
  pub path : NeighbourPath
  pub number : ℕ
  pub over : IsPathOver area s number path
  pub fits : IsTrue (serves path.network path.second t)
  pub same : candidate_of path ≡ candidate

module _ (area : AreaParts) (kept : IsArea area) (s t : ℕ) where
  -- an arc of a network leads to a router
  from_network : (second : ℕ) (v : ℕ) (onward : Arc) → IsNetwork area.ids v → Leaves area v second onward → IsRouter area.ids onward.to
  from_network second v onward network on =
      router_from area.ids onward.to ((arcs_between area kept).tos second onward on.there)
      (λ net. to_network area onward kept (arc_kept area second onward kept on.there) net (subst (λ (u : ℕ). IsNetwork area.ids u) (sym on.from) network))

  pub served : (number : ℕ) (path : NeighbourPath) → IsPathOver area s number path → IsTrue (serves path.network path.second t) → ToNeighbour area s t (candidate_of path)
  served number path (ToRouter arc leaves router) fits =
      Straight number arc leaves (inl (router_from area.ids arc.to ((arcs_between area kept).tos number arc leaves.there) router))
  served number path (ToNetwork arc leaves network) fits = Straight number arc leaves (inr (eqb-true arc.to t fits))
  served number path (AcrossNetwork second arc onward leaves network on further) fits =
      Across number second arc onward leaves (record { network = network; other = eqb-false arc.to t (not-true (arc.to == t) fits) }) on (from_network second arc.to onward network on) further

  straight : (number : ℕ) (arc : Arc) → Leaves area s number arc → ¬ IsNetwork area.ids arc.to
      → IsServed area s t (record { first = number; second = None; next = arc.to; bond = arc.bond; metric = arc.metric })
  straight number arc leaves router = record { path = path_over number arc None; number = number; over = ToRouter arc leaves router; fits = refl; same = refl }

  pub serving : (candidate : Candidate) → ToNeighbour area s t candidate → IsServed area s t candidate
  serving candidate (Straight number arc leaves which) = elim (cases_Bool (is_network area.ids arc.to)) [
    | inl network ↦ elim which [
      | inl router ↦ straight number arc leaves (router_alone area.ids arc.to router)
      | inr here ↦ record {
        path = path_over number arc (Some arc.to);
        number = number;
        over = ToNetwork arc leaves (network_by_test area.ids arc.to network);
        fits = eq-eqb arc.to t here;
        same = refl;
      }
    ]
    | inr router ↦ straight number arc leaves (no_network_by_test area.ids arc.to router)
  ]
  serving candidate (Across number second arc onward leaves leads on router further) = record {
    path = path_across number arc (Some second) onward;
    number = number;
    over = AcrossNetwork second arc onward leaves leads.network on further;
    fits = ap not (ne_eqb arc.to t leads.other);
    same = refl;
  }

  -- a path leads to a node
  pub leads_within : (number : ℕ) (path : NeighbourPath) → IsPathOver area s number path → path.next < length area.ids
  leads_within number path (ToRouter arc leaves router) = (arcs_between area kept).tos number arc leaves.there
  leads_within number path (ToNetwork arc leaves network) = (arcs_between area kept).tos number arc leaves.there
  leads_within number path (AcrossNetwork second arc onward leaves network on further) = (arcs_between area kept).tos second onward on.there
