-- Shortest walks, and what they do not meet.
use Rattle.std.proofs.Common.{◌≡◌, ◌<◌, ◌≤◌, ◌+◌, ◌∙◌, ◌⊎◌, ◌++◌, ℕ, List, [], ◌∷◌, Some, length, slice_get, inl, inr, refl, sym, ap, arith}
use Rattle.std.proofs.lemmas.Option.{same_Some}
use Rattle.area_graph.specs.declared.area_types.Arc.{Arc}
use Rattle.area_graph.specs.declared.area_types.Bond.{Bond}
use Rattle.area_graph.specs.AreaInvariant.{IsArea}
use Rattle.area_graph.specs.Parts.{AreaParts}
use Rattle.mrt_graph.proofs.ListPlaces.{place_of}
use Rattle.primary_alt.specs.ArcWalk.{ArcWalk, cost_of}
use Rattle.primary_alt.specs.Distance.{IsDistance}
use Rattle.primary_alt.proofs.AreaArcs.{arcs_between}
use Rattle.primary_alt.proofs.ArcWalks.{arc_kept}
use Rattle.primary_alt.proofs.DistancesExist.{distances_exist}
use Rattle.primary_alt.proofs.FirstsByDistances.{distance_there}
use Rattle.lfa_alt.specs.HopWalks.{Meets, UsesBond}
use Rattle.lfa_alt.specs.LoopFree.{IsNearerThanOver}

-- a walk that meets x goes there and on
record IsSplit (arcs : List Arc) (n x t cost : ℕ) : Type 0 where
  out : List Arc
  back : List Arc
  there : ArcWalk arcs n out x
  on : ArcWalk arcs x back t
  costs : cost_of out + cost_of back ≡ cost

split : (arcs walk : List Arc) (n x t : ℕ) → ArcWalk arcs n walk t → Meets n walk x → IsSplit arcs n x t (cost_of walk)
split arcs [] n x t w meets = record { out = []; back = []; there = meets; on = sym meets ∙ w; costs = refl }
split arcs (arc ∷ more) n x t w meets = elim meets [
  | inl same ↦ record { out = []; back = arc ∷ more; there = same; on = (w.0, w.1 ∙ same, w.2); costs = omega arith }
  | inr later ↦
      let rest = split arcs more arc.to x t w.2 later in
      record { out = arc ∷ rest.out; back = rest.back; there = (w.0, w.1, rest.there); on = rest.on; costs = omega (arith, rest.costs) }
]

-- where a walk leads there is a distance
record IsWithin (arcs : List Arc) (n x cost : ℕ) : Type 0 where
  distance : ℕ
  is : IsDistance arcs n x distance
  low : distance ≤ cost

module _ (area : AreaParts) (kept : IsArea area) where
  distance_within : (walk : List Arc) (n x : ℕ) → n < length area.ids → x < length area.ids → ArcWalk area.arcs n walk x → IsWithin area.arcs n x (cost_of walk)
  distance_within walk n x from to w =
      let known = distances_exist area.arcs x (length area.ids) (λ arc has. let at = place_of area.arcs arc has in (arcs_between area kept).tails at.0 arc at.1) to in
      let has = distance_there area.arcs x n known.0 walk (omega (arith, from, known.1)) known.2 w in
      let is = known.2.some n has.0 has.1 in
      record { distance = has.0; is = is; low = is.least walk w }

  -- a shortest walk does not meet x, where that is shorter than over x
  pub goes_round : (walk : List Arc) (n x t back : ℕ) → n < length area.ids → x < length area.ids → IsDistance area.arcs x t back → IsNearerThanOver area.arcs x n t
      → ArcWalk area.arcs n walk t → IsDistance area.arcs n t (cost_of walk) → Meets n walk x → ⊥
  goes_round walk n x t back from to far nearer w least meets =
      let parts = split area.arcs walk n x t w meets in
      let out = distance_within parts.out n x from to parts.there in
      absurd (omega (arith, nearer.less out.distance back out.is far, out.low, far.least parts.back parts.on, parts.costs, least.least nearer.near.walk nearer.near.leads, nearer.near.costs))

  -- an arc of the bond of an arc of s leaves s or leads there
  pub touches : (j k s : ℕ) (arc other : Arc) → slice_get area.arcs j ≡ Some arc → slice_get area.arcs k ≡ Some other → arc.tail ≡ s → other.bond ≡ arc.bond
      → (other.tail ≡ s) ⊎ (other.to ≡ s)
  touches j k s arc other at there from same =
      let is = arc_kept area j arc kept at in
      let is' = arc_kept area k other kept there in
      let one : is'.bond ≡ is.bond = same_Some is'.bond is.bond (sym is'.there ∙ ap (λ (b : ℕ). slice_get area.bonds b) same ∙ is.there) in
      let a : is'.bond.a ≡ is.bond.a = ap (λ (b : Bond). b.a) one in
      let b : is'.bond.b ≡ is.bond.b = ap (λ (b : Bond). b.b) one in
      elim is.leads [
        | inl lead ↦ elim is'.leads [
          | inl lead' ↦ inl (lead'.tail ∙ a ∙ sym lead.tail ∙ from)
          | inr lead' ↦ inr (lead'.to ∙ a ∙ sym lead.tail ∙ from)
        ]
        | inr lead ↦ elim is'.leads [
          | inl lead' ↦ inr (lead'.to ∙ b ∙ sym lead.tail ∙ from)
          | inr lead' ↦ inl (lead'.tail ∙ b ∙ sym lead.tail ∙ from)
        ]
      ]

  meets_start : (walk : List Arc) (n x t : ℕ) → n ≡ x → Meets n walk x
  meets_start [] n x t same = same
  meets_start (arc ∷ more) n x t same = inl same

  -- so a walk that uses it meets s
  pub uses_meets : (walk : List Arc) (n t j s : ℕ) (arc : Arc) → slice_get area.arcs j ≡ Some arc → arc.tail ≡ s → ArcWalk area.arcs n walk t → UsesBond walk arc.bond → Meets n walk s
  uses_meets [] n t j s arc at from w uses = absurd uses
  uses_meets (other ∷ more) n t j s arc at from w uses = elim uses [
    | inl same ↦
        let there = place_of area.arcs other w.0 in
        elim (touches j there.0 s arc other at there.1 from same) [ inl tail ↦ inl (sym w.1 ∙ tail) | inr to ↦ inr (meets_start more other.to s t to) ]
    | inr later ↦ inr (uses_meets more other.to t j s arc at from w.2 later)
  ]

pub uses_either : (walk more : List Arc) (bond : ℕ) → UsesBond (walk ++ more) bond → UsesBond walk bond ⊎ UsesBond more bond
uses_either [] more bond uses = inr uses
uses_either (arc ∷ walk) more bond uses = elim uses [
  | inl same ↦ inl (inl same)
  | inr later ↦ elim (uses_either walk more bond later) [ inl first ↦ inl (inr first) | inr second ↦ inr second ]
]
