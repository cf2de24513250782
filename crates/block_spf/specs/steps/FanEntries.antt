-- How the entries of a fan lie.
use Rattle.std.specs.Prelude.{◌≡◌, ◌*◌, ℕ, List, length}
use Rattle.block_spf.specs.FanEntries.{FanEntries}

-- the entries of a fan, of these parts
abbrev pub fan_entries : ℕ → ℕ → List ℕ → List ℕ → FanEntries
fan_entries nodes width costs places = record { nodes = nodes; width = width; costs = costs; places = places }

-- there are as many entries as a fan has, and room for those of one node
pub record AreEntries (nodes width room : ℕ) (costs places : List ℕ) : Type 0 where
  pub one_cost_each : length costs ≡ nodes * width
  pub one_place_each : length places ≡ nodes * width
  pub one_source_each : room ≡ width
