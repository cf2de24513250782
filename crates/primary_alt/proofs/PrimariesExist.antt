-- Each router has its primary for each node, or there is none.
use Rattle.std.proofs.Common.{◌≡◌, ◌≢◌, ◌<◌, ◌≤◌, ◌+◌, ◌-◌, ◌∙◌, ◌⊎◌, ℕ, zero, suc, List, Option, Some, None, length, slice_get, inl, inr, refl, sym, subst, arith}
use Rattle.std.proofs.lemmas.Bool.{cases_Bool, cases_eq, cases_lt}
use Rattle.std.proofs.lemmas.List.Sums.{count_by-le-length}
use Rattle.std.proofs.lemmas.Option.{same_Some}
use Rattle.area_graph.specs.declared.area_types.Arc.{Arc}
use Rattle.area_graph.specs.AreaInvariant.{IsArea}
use Rattle.area_graph.specs.Parts.{AreaParts}
use Rattle.area_graph.specs.steps.Starts.{below}
use Rattle.area_graph.proofs.Slices.{fewer_below}
use Rattle.mrt_graph.proofs.ListPlaces.{place_of}
use Rattle.mrt_graph.proofs.ListTests.{there}
use Rattle.primary_alt.specs.declared.shortest.Primary.{Primary}
use Rattle.primary_alt.specs.steps.Attaining.{Attains, Does, IsFirstToAttain, NoneDoes}
use Rattle.primary_alt.specs.steps.Distances.{AreDistances}
use Rattle.primary_alt.specs.Distances.{HasDistance}
use Rattle.primary_alt.specs.steps.FirstArcs.{IsFirstFor}
use Rattle.primary_alt.specs.Offers.{is_network}
use Rattle.primary_alt.specs.Primaries.{Direct, IsFirstArc, IsPrimary, Itself, LeadsOver, NoWalk, Over}
use Rattle.primary_alt.specs.Routers.{IsRouter}
use Rattle.primary_alt.proofs.AreaArcs.{arcs_between}
use Rattle.primary_alt.proofs.ArcWalks.{network_by_test, no_network_by_test}
use Rattle.primary_alt.proofs.DistancesExist.{distances_exist}
use Rattle.primary_alt.proofs.FirstsByDistances.{first_by_distances}
use Rattle.primary_alt.proofs.RouterFacts.{router_within}

-- an arc attains the distance of its tail, or does not
attains_or_not : (known : List (Option ℕ)) (arc : Arc) → Attains known arc ⊎ (¬ Attains known arc)
attains_or_not known arc = go (slice_get known arc.to) refl (slice_get known arc.tail) refl
  where
    go : (far : Option (Option ℕ)) → slice_get known arc.to ≡ far → (near : Option (Option ℕ)) → slice_get known arc.tail ≡ near → Attains known arc ⊎ (¬ Attains known arc)
    go None at near at' = inr (λ a. let clash : ◌≡◌ {A = Option (Option ℕ)} None (Some (Some a.rest)) = sym at ∙ a.far in cc)
    go (Some None) at near at' = inr (λ a. let clash : ◌≡◌ {A = Option (Option ℕ)} (Some None) (Some (Some a.rest)) = sym at ∙ a.far in cc)
    go (Some (Some d)) at None at' = inr (λ a. let clash : ◌≡◌ {A = Option (Option ℕ)} None (Some (Some (arc.metric + a.rest))) = sym at' ∙ a.near in cc)
    go (Some (Some d)) at (Some None) at' = inr (λ a. let clash : ◌≡◌ {A = Option (Option ℕ)} (Some None) (Some (Some (arc.metric + a.rest))) = sym at' ∙ a.near in cc)
    go (Some (Some d)) at (Some (Some e)) at' = elim (cases_eq e (arc.metric + d)) [
      | inl same ↦ inl (record { rest = d; far = at; near = subst (λ (x : ℕ). HasDistance known arc.tail x) same at' })
      | inr other ↦ inr (λ a.
          let far : d ≡ a.rest = same_Some d a.rest (same_Some (Some d) (Some a.rest) (sym at ∙ a.far)) in
          let near : e ≡ arc.metric + a.rest = same_Some e (arc.metric + a.rest) (same_Some (Some e) (Some (arc.metric + a.rest)) (sym at' ∙ a.near)) in
          other (omega (arith, far, near)))
    ]

-- one of so many arcs is the first that does, or none does
first_from : (arcs : List Arc) (known : List (Option ℕ)) (low n : ℕ) → low + n ≤ length arcs → (first : Option ℕ) × IsFirstToAttain arcs low (low + n) known first
first_from arcs known low zero within = (None, NoneDoes (λ k arc from to. absurd (omega (arith, from, to))))
first_from arcs known low (suc n) within = let rest = first_from arcs known low n (omega (arith, within)) in more rest.0 rest.1
  where
    more : (first : Option ℕ) → IsFirstToAttain arcs low (low + n) known first → (first : Option ℕ) × IsFirstToAttain arcs low (low + suc n) known first
    more (Some same) (Does number arc from to at attains none) = (Some number, Does number arc from (omega (arith, to)) at attains none)
    more None (NoneDoes none) =
        let last = there arcs (low + n) (omega (arith, within)) in
        elim (attains_or_not known last.0) [
          | inl attains ↦ (Some (low + n), Does (low + n) last.0 (omega arith) (omega arith) last.1 attains none)
          | inr not ↦ (
            None,
            NoneDoes (λ k arc from to at. elim (cases_lt k (low + n)) [
              | inl early ↦ none k arc from early at
              | inr upto ↦
                  let here : k ≡ low + n = omega (arith, to, upto) in
                  let same : last.0 ≡ arc = same_Some last.0 arc (sym last.1 ∙ subst (λ (i : ℕ). slice_get arcs i ≡ Some arc) here at) in
                  subst (λ (a : Arc). ¬ Attains known a) same not
            ]),
          )
        ]

module _ (area : AreaParts) (kept : IsArea area) (t : ℕ) (known : List (Option ℕ)) (one_each : length known ≡ length area.ids)
    (are : AreDistances area.arcs t known) where
  -- the first arc of a node for t, or no walk leads there
  first_for : (x : ℕ) → x < length area.ids → x ≢ t → (first : Option ℕ) × IsFirstFor area.arcs x t first
  first_for x within apart =
      let low = below x area.arcs in
      let high = below (x + 1) area.arcs in
      let all : low + (high - low) ≡ high = omega (arith, fewer_below x area.arcs) in
      let most : high ≤ length area.arcs = count_by-le-length _ area.arcs in
      let is = first_from area.arcs known low (high - low) (omega (arith, all, most)) in
      (is.0, first_by_distances area kept t known one_each are x low high is.0 within apart refl refl (subst (λ (n : ℕ). IsFirstToAttain area.arcs low n known is.0) all is.1))

  -- over a network
  over_network : (s number : ℕ) (arc : Arc) → s ≢ t → IsFirstArc area.arcs s t number arc → LeadsOver area t arc → (second : Option ℕ) → IsFirstFor area.arcs arc.to t second
      → (entry : Option Primary) × IsPrimary area s t entry
  over_network s number arc apart first over None none = absurd (none first.shortest.far.walk first.shortest.far.leads)
  over_network s number arc apart first over (Some second) is = (_, Over number second arc is.0 apart first over is.1)

  by_first : (s : ℕ) → s ≢ t → (first : Option ℕ) → IsFirstFor area.arcs s t first → (entry : Option Primary) × IsPrimary area s t entry
  by_first s apart None none = (None, NoWalk none)
  by_first s apart (Some number) is =
      let arc = is.0 in
      elim (cases_eq arc.to t) [
        | inl here ↦ (_, Direct number arc apart is.1 (λ leads. leads.other here))
        | inr further ↦ elim (cases_Bool (is_network area.ids arc.to)) [
          | inl network ↦
              let second = first_for arc.to ((arcs_between area kept).tos number arc is.1.there) further in
              over_network s number arc apart is.1 (record { network = network_by_test area.ids arc.to network; other = further }) second.0 second.1
          | inr router ↦ (_, Direct number arc apart is.1 (λ leads. no_network_by_test area.ids arc.to router leads.network))
        ]
      ]

  by_distances : (s : ℕ) → s < length area.ids → (entry : Option Primary) × IsPrimary area s t entry
  by_distances s within = elim (cases_eq s t) [
    | inl same ↦ (None, Itself same)
    | inr apart ↦ let first = first_for s within apart in by_first s apart first.0 first.1
  ]

-- of each two nodes an entry
primary_exists : (area : AreaParts) → IsArea area → (s t : ℕ) → s < length area.ids → t < length area.ids → (entry : Option Primary) × IsPrimary area s t entry
primary_exists area kept s t from to =
    let known = distances_exist area.arcs t (length area.ids) (λ arc has. let at = place_of area.arcs arc has in (arcs_between area kept).tails at.0 arc at.1) to in
    by_distances area kept t known.0 known.1 known.2 s from

entry_exists : (area : AreaParts) → IsArea area → (s t : ℕ) → (entry : Option Primary) × (IsRouter area.ids s → t < length area.ids → IsPrimary area s t entry)
entry_exists area kept s t = elim (cases_lt s (length area.ids)) [
  | inr past ↦ (None, λ router low. absurd (omega (arith, past, router_within area.ids s router)))
  | inl from ↦ elim (cases_lt t (length area.ids)) [
    | inr past ↦ (None, λ router low. absurd (omega (arith, past, low)))
    | inl to ↦ let entry = primary_exists area kept s t from to in (entry.0, λ router low. entry.1)
  ]
]

pub primaries_exist : (area : AreaParts) → IsArea area
    → (entries : ℕ → ℕ → Option Primary) × ((s t : ℕ) → IsRouter area.ids s → t < length area.ids → IsPrimary area s t (entries s t))
primaries_exist area kept = (λ s t. (entry_exists area kept s t).0, λ s t. (entry_exists area kept s t).1)
