-- How shortest paths begin gives the primaries.
use Rattle.std.proofs.Common.{◌≡◌, ◌≢◌, ◌<◌, ◌∙◌, ◌==◌, ℕ, true, false, List, Option, Some, None, get_or, length, slice_get, inl, inr, refl, sym, ap, subst, true≢false}
use Rattle.std.proofs.lemmas.Bool.{cases_eq, eq-eqb, ne_eqb}
use Rattle.std.proofs.lemmas.Option.{same_Some, slice_get-get_or, slice_get_read, slice_get_within}
use Rattle.area_graph.specs.declared.area_types.Arc.{Arc}
use Rattle.area_graph.specs.Parts.{AreaParts}
use Rattle.primary_alt.specs.declared.beginnings.Beginning.{Beginning}
use Rattle.primary_alt.specs.steps.Beginnings.{IsFirst}
use Rattle.primary_alt.specs.Primaries.{Direct, IsFirstArc, IsPrimary, LeadsOver, Over}

-- the arc of a first number
pub first_within : (area : AreaParts) (x t number : ℕ) → IsFirst area x t number → number < length area.arcs
first_within area x t number is = slice_get_within area.arcs number is.0 is.1.there

pub same_arc : (area : AreaParts) (x t number : ℕ) (arc : Arc) → (is : IsFirst area x t number) → slice_get area.arcs number ≡ Some arc → IsFirstArc area.arcs x t number arc
same_arc area x t number arc is at =
    subst (λ (a : Arc). IsFirstArc area.arcs x t number a) (same_Some is.0 arc (sym is.1.there ∙ at)) is.1

-- the primary over one arc, and over two
pub over_one : (area : AreaParts) (s t number : ℕ) (arc : Arc) → t ≢ s → IsFirst area s t number → slice_get area.arcs number ≡ Some arc → ¬ LeadsOver area t arc
    → IsPrimary area s t (Some (record { first = number; second = None; next = arc.to }))
over_one area s t number arc apart is at direct = Direct number arc (λ same. apart (sym same)) (same_arc area s t number arc is at) direct

pub over_two : (area : AreaParts) (s t number second : ℕ) (arc onward : Arc) → t ≢ s → IsFirst area s t number → slice_get area.arcs number ≡ Some arc
    → LeadsOver area t arc → IsFirst area arc.to t second → slice_get area.arcs second ≡ Some onward
    → IsPrimary area s t (Some (record { first = number; second = Some second; next = onward.to }))
over_two area s t number second arc onward apart is at leads is' at' =
    Over number second arc onward (λ e. apart (sym e)) (same_arc area s t number arc is at) leads (same_arc area arc.to t second onward is' at')

-- an arc that is read from the same list
pub at_own : (arcs own : List Arc) (place number : ℕ) (read : Arc) → own ≡ arcs → place ≡ number → place < length own → read ≡ get_or own place read
    → slice_get arcs number ≡ Some read
at_own arcs own place number read same here within is =
    subst (λ (n : ℕ). slice_get arcs n ≡ Some read) here
    (subst (λ (xs : List Arc). slice_get xs place ≡ Some read) same (slice_get_read own (length own) place read refl within is))

-- what a comparison of two nodes tells
pub apart_by : (a b : ℕ) → (a == b) ≡ false → a ≢ b
apart_by a b is same = true≢false (sym (eq-eqb a b same) ∙ is)

pub equal_by : (a b : ℕ) → (a == b) ≡ true → b ≡ a
equal_by a b is = elim (cases_eq a b) [
  | inl same ↦ sym same
  | inr other ↦ absurd (true≢false (sym is ∙ ne_eqb a b other))
]

-- what stands at a place that is read
pub standing : (begins : List (Option Beginning)) (place t : ℕ) (o d : Option Beginning) → place ≡ t → t < length begins → o ≡ get_or begins place d → slice_get begins t ≡ Some o
standing begins place t o d here low is =
    slice_get-get_or begins t d low ∙ ap (λ (x : Option Beginning). Some x) (sym (subst (λ (n : ℕ). o ≡ get_or begins n d) here is))
