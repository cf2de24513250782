-- What a table of a number for each key tells.
use Rattle.std.specs.Prelude.{ℕ, Bool, List, Option, slice_get}
use Rattle.std.specs.Option.{option_and_then}
use Rattle.mrt_graph.specs.BothThere.{are_equal}

-- the key and the number are there, and the table has that number for that key
abbrev pub has_number : List ℕ → Option ℕ → Option ℕ → Bool
has_number table key number = are_equal (option_and_then (slice_get table) key) number
