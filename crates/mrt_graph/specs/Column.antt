-- What a column holds: the rows of all nodes for one destination.
use Rattle.std.specs.Prelude.{◌≡◌, ◌≢◌, ◌<◌, ℕ, Bool, false, List, Option, Some, None, length, slice_get, if◌then◌else◌}
use Rattle.std.specs.Option.{is_none, option_and_then, option_map_or}
use Rattle.mrt_graph.specs.declared.cert.Row.{Row}
use Rattle.mrt_graph.specs.declared.link.Link.{Link}
use Rattle.mrt_graph.specs.Rows.{Rows}
use Rattle.mrt_graph.specs.Sound.{SoundFor}

-- at t no row stands, and at each other place one does
pub record IsColumnFor (column : List (Option Row)) (t : ℕ) : Type 0 where
  pub none_there : slice_get column t ≡ Some None
  pub there_alone : (s : ℕ) → slice_get column s ≡ Some None → s ≡ t

-- what each column keeps: at exactly one place no row stands, which is the destination's
abbrev pub IsColumn : List (Option Row) → Type 0
IsColumn column = (t : ℕ) × IsColumnFor column t

-- whether no row stands at t
abbrev pub is_none_at : List (Option Row) → ℕ → Bool
is_none_at column t = option_map_or (λ row. is_none row) (slice_get column t) false

-- the rows of a column, each for the column's destination; none for any other destination
abbrev pub rows_of_column : List (Option Row) → Rows
rows_of_column column s t = if is_none_at column t then option_and_then (λ row. row) (slice_get column s) else None

-- a column of n rows for t, on these links, is sound: from each other node both color walks reach t, and they share only
-- what separates it from t
pub record ColumnSound (links : List Link) (n : ℕ) (column : List (Option Row)) (t : ℕ) : Type 0 where
  pub a_place_each : length column ≡ n
  pub destination : IsColumnFor column t
  pub sound : (s : ℕ) → s < n → s ≢ t → SoundFor links n (rows_of_column column) s t
