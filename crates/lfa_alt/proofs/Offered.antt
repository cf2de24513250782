-- What a path offers for a destination: what the table gives is the candidate that the path is, if it is loop-free.
use Rattle.std.proofs.Common.{◌≡◌, ◌≢◌, ◌<◌, ◌+◌, ◌==◌, ◌∙◌, ℕ, not, List, Option, Some, None, length, slice_get, get_or, inl, inr, refl, sym, ap, subst, arith}
use Rattle.std.specs.Prelude.{◌↔◌, IsTrue}
use Rattle.std.proofs.lemmas.Bool.{both_ways, cases_Bool, cases_eq, eq-eqb, lt-ltb, ltb-true, ne_eqb}
use Rattle.std.proofs.lemmas.Bool.Decides.{Decides-and, Decides-eqb, Decides-like, Decides-not, same_from_decides}
use Rattle.std.proofs.lemmas.Option.{same_Some, slice_get-get_or}
use Rattle.area_graph.specs.declared.area_types.Arc.{Arc}
use Rattle.area_graph.specs.Parts.{AreaParts}
use Rattle.primary_alt.specs.ArcWalk.{ArcWalk}
use Rattle.primary_alt.specs.Distance.{IsDistance}
use Rattle.primary_alt.specs.DistancesFrom.{AreDistancesFrom}
use Rattle.primary_alt.proofs.ArcWalks.{one_distance}
use Rattle.lfa_alt.specs.declared.alternate.FreeCandidate.{FreeCandidate}
use Rattle.lfa_alt.specs.declared.destination.Destination.{Destination}
use Rattle.lfa_alt.specs.declared.neighbour_path.NeighbourPath.{NeighbourPath}
use Rattle.lfa_alt.specs.Candidates.{IsOtherBond}
use Rattle.lfa_alt.specs.LoopFree.{IsNearerThanOver, Protects, free_choice}
use Rattle.lfa_alt.specs.steps.Choosing.{IsDestination, Offers, is_nearer, may_serve, offer, protects}
use Rattle.lfa_alt.specs.steps.NeighbourPaths.{candidate_of, serves}

-- the distance from n to v, or that no walk leads there
abbrev pub IsTold : List Arc → ℕ → ℕ → Option ℕ → Type 0
IsTold arcs n v None = (walk : List Arc) → ¬ ArcWalk arcs n walk v
IsTold arcs n v (Some d) = IsDistance arcs n v d

-- what is read of the distances from n
pub told_at : (arcs : List Arc) (n : ℕ) (known : List (Option ℕ)) → AreDistancesFrom arcs n known → (place v : ℕ) → place ≡ v → v < length known → IsTold arcs n v (get_or known place None)
told_at arcs n known are place v here low =
    go (get_or known place None) (slice_get-get_or known v None low ∙ ap (λ (i : ℕ). Some (get_or known i None)) (sym here))
  where
    go : (o : Option ℕ) → slice_get known v ≡ Some o → IsTold arcs n v o
    go None at = are.none v at
    go (Some d) at = are.some v d at

-- the basic condition, by the distances from a candidate's next
nearer_is : (arcs : List Arc) (n t rest x back : ℕ) (out : Option ℕ) → IsDistance arcs n t rest → IsTold arcs n x out → IsDistance arcs x t back
    → IsTrue (is_nearer rest out back) ↔ IsNearerThanOver arcs x n t
nearer_is arcs n t rest x back None near none far =
    (λ holds. record { rest = rest; near = near; less = λ out back' to from. absurd (none to.walk to.leads) }, λ is. refl)
nearer_is arcs n t rest x back (Some out) near at far = (
  λ holds. record {
    rest = rest;
    near = near;
    less = λ out' back' to from. omega (arith, ltb-true rest (out + back) holds, one_distance arcs n x out out' at to, one_distance arcs x t back back' far from);
  },
  λ is. lt-ltb rest (out + back) (omega (arith, is.less out back at far, one_distance arcs n t is.rest rest is.near near)),
)

module _ (area : AreaParts) (s t : ℕ) (path : NeighbourPath) (destination : Destination) (is : IsDestination area s t destination) where
  other_is : IsTrue (not (path.bond == destination.bond)) ↔ IsOtherBond area.arcs destination.primary path.bond
  other_is =
      Decides-like (not (path.bond == destination.bond))
      (λ apart. record { arc = is.arc; there = is.there; other = λ same. apart (same ∙ sym is.bond) })
      (λ bond same. bond.other (same ∙ is.bond ∙ ap (λ (a : Arc). a.bond) (same_Some is.arc bond.arc (sym is.there ∙ bond.there))))
      (Decides-not (path.bond == destination.bond) (Decides-eqb path.bond destination.bond))

  module _ (rest : ℕ) (out through : Option ℕ) (near : IsDistance area.arcs path.next t rest)
      (nearer : IsTrue (is_nearer rest out destination.distance) ↔ IsNearerThanOver area.arcs s path.next t)
      (beyond : destination.primary.next ≢ t → IsTrue (is_nearer rest through destination.beyond) ↔ IsNearerThanOver area.arcs destination.primary.next path.next t) where
    protects_is : IsTrue (protects destination t rest through) ↔ Protects area.arcs t destination.primary path.next
    protects_is = elim (cases_eq destination.primary.next t) [
      | inl same ↦ rw (eq-eqb destination.primary.next t same) (λ holds. cc, λ by. absurd (by.further same))
      | inr apart ↦ rw (ne_eqb destination.primary.next t apart) (λ holds. record { further = apart; nearer = (beyond apart).0 holds }, λ by. (beyond apart).1 by.nearer)
    ]

    may_serve_is : IsTrue (may_serve path destination t rest out)
        ↔ (IsTrue (serves path.network path.second t) × (IsOtherBond area.arcs destination.primary path.bond × IsNearerThanOver area.arcs s path.next t))
    may_serve_is =
        Decides-and (serves path.network path.second t) _ (λ holds. holds, λ holds. holds)
        (Decides-and (not (path.bond == destination.bond)) (is_nearer rest out destination.distance) other_is nearer)

    pub offer_is : (choice : FreeCandidate) → (offer path destination t (Some rest) out through ≡ Some choice) ↔ Offers area s t (Some destination) path choice
    offer_is choice = elim (cases_Bool (may_serve path destination t rest out)) [
      | inr not ↦ rw not (λ same. cc, λ offers. absurd (both_ways _ not (may_serve_is.1 (offers.0, (offers.1, offers.2.loop_free)))))
      | inl serving ↦
          let fits = may_serve_is.0 serving in
          let node = protects destination t rest through in
          let left = one_distance area.arcs path.next t rest fits.1.1.rest near fits.1.1.near in
          rw serving (
            λ same.
                subst (λ (c : FreeCandidate). Offers area s t (Some destination) path c) (same_Some (free_choice (candidate_of path) node rest) choice same)
                (fits.0, fits.1.0, record { loop_free = fits.1.1; node = node; node_is = protects_is; is = ap (free_choice (candidate_of path) node) left }),
            λ offers.
                let by = offers.2 in
                let same_node = same_from_decides node by.node protects_is by.node_is in
                let same_rest = one_distance area.arcs path.next t rest by.loop_free.rest near by.loop_free.near in
                rw (same_node, same_rest) (ap (λ (c : FreeCandidate). Some c) (sym by.is)),
          )
    ]

  -- by the distances from its next
  pub offer_told : (rest out through : Option ℕ) → IsTold area.arcs path.next t rest → IsTold area.arcs path.next s out → IsTold area.arcs path.next destination.primary.next through
      → (choice : FreeCandidate) → (offer path destination t rest out through ≡ Some choice) ↔ Offers area s t (Some destination) path choice
  offer_told None out through none to_s to_next choice = (λ same. cc, λ offers. absurd (none offers.2.loop_free.near.walk offers.2.loop_free.near.leads))
  offer_told (Some rest) out through near to_s to_next choice =
      offer_is rest out through near (nearer_is area.arcs path.next t rest s destination.distance out near to_s is.far)
      (λ apart. nearer_is area.arcs path.next t rest destination.primary.next destination.beyond through near to_next is.beyond) choice
