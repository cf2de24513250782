-- The distances of all nodes to one.
use Rattle.std.specs.Prelude.{◌≡◌, ℕ, List, Option, Some, slice_get}

-- node v has this distance in the list
abbrev pub HasDistance : List (Option ℕ) → ℕ → ℕ → Type 0
HasDistance distances v distance = slice_get distances v ≡ Some (Some distance)
