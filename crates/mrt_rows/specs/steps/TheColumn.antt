-- The one column of a destination.
use Rattle.std.specs.Prelude.{◌≡◌, ℕ, List, Option}
use Rattle.std.specs.Coded.{Coded, Coded-set, Π_prop, ×_prop, coded_list, coded_option}
use mathlib.Core.HLevel.{Σ_prop_path}
use mathlib.Core.Logic.{∥∥₁_elim, ∥∥₁_prop}
use Rattle.mrt_graph.specs.contracts.cert.Row.{the_row}
use Rattle.mrt_graph.specs.declared.cert.Row.{Row}
use Rattle.mrt_graph.specs.Topology.{Topology}
use Rattle.link_direction.specs.Directions.{Directions}
use Rattle.mrt_rows.specs.ColumnOf.{IsColumnOf}

-- the column of t: there is one, and no other
abbrev pub TheColumn : Topology → ℕ → Directions → ℕ → Type 0
TheColumn g root w t = (column : List (Option Row))
    × (∥ IsColumnOf g root w t column ∥₁ × ((other : List (Option Row)) → IsColumnOf g root w t other → other ≡ column))

-- how columns are told apart
abbrev code : Coded (List (Option Row))
code = coded_list (coded_option the_row.coded)

-- so there is nothing to choose
pub no_choice : (g : Topology) (root : ℕ) (w : Directions) (t : ℕ) → IsProp (TheColumn g root w t)
no_choice g root w t = λ one other.
    Σ_prop_path (λ column. ×_prop ∥∥₁_prop (Π_prop (λ another. Π_prop (λ is. Coded-set code another column))))
    (∥∥₁_elim one.1.0 (Coded-set code one.0 other.0) (λ is. other.1.1 one.0 is))
