-- The walk that a packet takes along primaries.
use Rattle.std.specs.Prelude.{◌≡◌, ◌≢◌, ◌⊎◌, ◌++◌, ℕ, List, [], ◌∷◌, Option, Some, None, slice_get}
use Rattle.std.specs.Option.{option_and_then, option_map}
use Rattle.area_graph.specs.declared.area_types.Arc.{Arc}
use Rattle.primary_alt.specs.declared.shortest.Primary.{Primary}

-- the arcs of one hop: the first one, and the second one where there is one; none where one of them is not there
abbrev pub hop_arcs : List Arc → ℕ → Option ℕ → Option (List Arc)
hop_arcs arcs first None = option_map (λ arc. arc ∷ []) (slice_get arcs first)
hop_arcs arcs first (Some second) =
    option_and_then (λ arc. option_map (λ onward. arc ∷ onward ∷ []) (slice_get arcs second)) (slice_get arcs first)

abbrev pub AreHopArcs : List Arc → ℕ → Option ℕ → List Arc → Type 0
AreHopArcs arcs first second own = hop_arcs arcs first second ≡ Some own

-- by the entries that the nodes have for t, the walk from s to t, hop by hop
pub data HopWalk (arcs : List Arc) (entries : ℕ → Option Primary) (t : ℕ) : ℕ → List (List Arc) → Type 0 where
  Ended : (s : ℕ) → s ≡ t → HopWalk arcs entries t s []
  Hop : (s : ℕ) (primary : Primary) (hop : List Arc) (hops : List (List Arc)) → s ≢ t → entries s ≡ Some primary
      → AreHopArcs arcs primary.first primary.second hop → HopWalk arcs entries t primary.next hops
      → HopWalk arcs entries t s (hop ∷ hops)

-- a walk from s meets x: it begins there, or one of its arcs leads there
abbrev pub Meets : ℕ → List Arc → ℕ → Type 0
Meets s [] x = s ≡ x
Meets s (arc ∷ more) x = (s ≡ x) ⊎ Meets arc.to more x

-- one of the arcs is of the bond
abbrev pub UsesBond : List Arc → ℕ → Type 0
UsesBond [] bond = ⊥
UsesBond (arc ∷ more) bond = (arc.bond ≡ bond) ⊎ UsesBond more bond

-- the arcs of all hops, one after another
abbrev pub arcs_of : List (List Arc) → List Arc
arcs_of [] = []
arcs_of (hop ∷ hops) = hop ++ arcs_of hops
