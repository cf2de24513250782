-- The loop-free alternates, by the best candidate for each node.
use Rattle.std.proofs.Common.{◌≡◌, ◌<◌, ◌+◌, ◌∙◌, ℕ, false, List, Option, Some, None, length, map, slice_get, refl, sym, ap, subst, arith}
use Rattle.std.specs.Option.{option_map}
use Rattle.std.specs.Ordering.{is_gt}
use Rattle.std.specs.Prelude.{◌↔◌, IsTrue}
use Rattle.std.proofs.lemmas.Cmp.{upto}
use Rattle.std.proofs.lemmas.List.{length-map}
use Rattle.std.proofs.lemmas.Option.{same_Some, slice_get-map, slice_get_within}
use Rattle.area_graph.specs.AreaInvariant.{IsArea}
use Rattle.area_graph.specs.Parts.{AreaParts}
use Rattle.primary_alt.specs.Distance.{IsDistance}
use Rattle.mrt_graph.proofs.ListPlaces.{contains_at, place_of}
use Rattle.mrt_graph.proofs.ListTests.{there}
use Rattle.lfa_alt.specs.declared.alternate.FreeCandidate.{FreeCandidate}
use Rattle.lfa_alt.specs.declared.alternate.Lfa.{Lfa}
use Rattle.lfa_alt.specs.declared.destination.Destination.{Destination}
use Rattle.lfa_alt.specs.declared.neighbour_path.NeighbourPath.{NeighbourPath}
use Rattle.lfa_alt.specs.steps.Choosing.{AreBest, AreDestinations, IsDestination, IsDestinationFor, IsOfferedBy}
use Rattle.lfa_alt.specs.Candidates.{Candidate}
use Rattle.lfa_alt.specs.LoopFree.{AreLfas, ByPrimary, IsBest, IsLfa, IsLoopFree, NoPrimary, NoneIs, Protects, TheBest, alternate_of, candidate_cmp, free_choice}
use Rattle.lfa_alt.specs.steps.NeighbourPaths.{ArePaths, NotLater, candidate_of, serves}
use Rattle.lfa_alt.proofs.Bettering.{candidate_total, not_after}
use Rattle.lfa_alt.proofs.Beyond.{part_of}
use Rattle.lfa_alt.proofs.CandidatePaths.{leads_within, served, serving}

-- the one serves what the other one serves
serves_alike : (network second second' : Option ℕ) (t : ℕ) → NotLater second second' → serves network second t ≡ serves network second' t
serves_alike None second second' t low = refl
serves_alike (Some network) None None t low = refl
serves_alike (Some network) (Some second) (Some second') t low = refl
serves_alike (Some network) None (Some second') t low = absurd low
serves_alike (Some network) (Some second) None t low = absurd low

module _ (area : AreaParts) (kept : IsArea area) (s : ℕ) (paths : List NeighbourPath) (are : ArePaths area s paths) where
  pub paths_within : (number : ℕ) (path : NeighbourPath) → slice_get paths number ≡ Some path → path.next < length area.ids
  paths_within number path at = let is = are.only path (contains_at paths number path at) in leads_within area kept s 0 is.0 path is.1

  module _ (t : ℕ) (destination : Destination) where
    -- what a path offers is loop-free
    free_by : (choice : FreeCandidate) → IsOfferedBy area s t (Some destination) paths (length paths) choice → IsLoopFree area s t destination.primary choice
    free_by choice is =
        let over = are.only is.path (contains_at paths is.number is.path is.there) in
        record { candidate = _; is = record { leads = served area kept s t over.0 is.path over.1 is.offers.0; other_bond = is.offers.1 }; loop_free = is.offers.2 }

    -- and where something is loop-free, a path offers what does not come after it
    record IsPreceded (choice : FreeCandidate) : Type 0 where
      offer : FreeCandidate
      is : IsOfferedBy area s t (Some destination) paths (length paths) offer
      upto : is_gt (candidate_cmp offer choice) ≡ false

    offered_by : (choice : FreeCandidate) → IsLoopFree area s t destination.primary choice → IsPreceded choice
    offered_by choice is =
        let by = serving area kept s t is.candidate is.is.leads in
        let has = are.all by.number by.path by.over in
        let path = has.path in
        let at = place_of paths path has.there in
        let free = is.loop_free in
        let left = free.loop_free in
        let next : path.next ≡ is.candidate.next = has.stands.next ∙ ap (λ (c : Candidate). c.next) by.same in
        let bond : path.bond ≡ is.candidate.bond = has.stands.bond ∙ ap (λ (c : Candidate). c.bond) by.same in
        let metric : is.candidate.metric ≡ path.metric = sym (has.stands.metric ∙ ap (λ (c : Candidate). c.metric) by.same) in
        record {
          offer = free_choice (candidate_of path) free.node left.rest;
          is = record {
            number = at.0;
            path = path;
            low = slice_get_within paths at.0 path at.1;
            there = at.1;
            offers = (
              ap (λ (o : Option ℕ). serves o path.second t) has.stands.network ∙ serves_alike by.path.network path.second by.path.second t has.stands.second ∙ by.fits,
              record { arc = is.is.other_bond.arc; there = is.is.other_bond.there; other = λ same. is.is.other_bond.other (sym bond ∙ same) },
              record {
                loop_free = record {
                  rest = left.rest;
                  near = subst (λ (n : ℕ). IsDistance area.arcs n t left.rest) (sym next) left.near;
                  less = λ out back to from. left.less out back (subst (λ (n : ℕ). IsDistance area.arcs n s out) next to) from;
                };
                node = free.node;
                node_is = subst (λ (n : ℕ). IsTrue free.node ↔ Protects area.arcs t destination.primary n) (sym next) free.node_is;
                is = refl;
              },
            );
          };
          upto = rw free.is (not_after (free_choice (candidate_of path) free.node left.rest) (free_choice is.candidate free.node left.rest) refl
              (ap (λ (m : ℕ). m + left.rest) (sym metric)) (has.stands.first ∙ ap (λ (c : Candidate). c.first) by.same)
              (subst (λ (c : Candidate). NotLater path.second c.second) by.same has.stands.second));
        }

    pub best_free : (best : Option FreeCandidate) → IsBest (IsOfferedBy area s t (Some destination) paths (length paths)) best → IsBest (IsLoopFree area s t destination.primary) best
    best_free None (NoneIs none) = NoneIs (λ choice free. let by = offered_by choice free in none by.offer by.is)
    best_free (Some same) (TheBest choice offered first) =
        TheBest choice (free_by choice offered) (λ other free. let by = offered_by other free in upto candidate_total choice by.offer other (first by.offer by.is) by.upto)

  best_for : (t : ℕ) (entry : Option Destination) → IsDestinationFor area s t entry → (best : Option FreeCandidate) → IsBest (IsOfferedBy area s t entry paths (length paths)) best
      → IsLfa area s t (option_map alternate_of best)
  best_for t None is None (NoneIs none) = NoPrimary is
  best_for t None is (Some same) (TheBest choice offered first) = absurd offered.offers
  best_for t (Some destination) is best by = ByPrimary destination.primary best is.primary (best_free t destination best by)

  pub are_lfas : (destinations : List (Option Destination)) (best : List (Option FreeCandidate)) (entries : List (Option Lfa)) → AreDestinations area s destinations
      → AreBest area s destinations paths (length paths) best → entries ≡ map (option_map alternate_of) best → AreLfas area s entries
  are_lfas destinations best entries all first told = record {
    one_each = ap length told ∙ length-map best (option_map alternate_of) ∙ first.one_each ∙ all.one_each;
    each = λ t entry at.
        let read = ap (λ (xs : List (Option Lfa)). slice_get xs t) (sym told) ∙ at in
        let low : t < length best = omega (arith, slice_get_within entries t entry at, ap length told, length-map best (option_map alternate_of)) in
        let choice = there best t low in
        let destination = there destinations t (omega (arith, low, first.one_each)) in
        let same : option_map alternate_of choice.0 ≡ entry =
        same_Some (option_map alternate_of choice.0) entry (sym (slice_get-map (option_map alternate_of) best t ∙ ap (option_map (option_map alternate_of)) choice.1) ∙ read) in
        subst (λ (e : Option Lfa). IsLfa area s t e) same (best_for t destination.0 (all.each t destination.0 destination.1) choice.0 (first.each t destination.0 choice.0 destination.1 choice.1));
  }

pub throughs : (area : AreaParts) → IsArea area → (s : ℕ) (destinations : List (Option Destination)) → AreDestinations area s destinations → (t : ℕ) (destination : Destination)
    → slice_get destinations t ≡ Some (Some destination) → destination.primary.next < length area.ids
throughs area kept s destinations all t destination at =
    let is : IsDestination area s t destination = all.each t (Some destination) at in
    (part_of area kept s t destination.primary is.primary).next
