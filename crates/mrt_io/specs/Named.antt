-- Files with their names.
use Rattle.std.specs.Prelude.{ℕ, List, map}
use Rattle.std.specs.Global.{Vec}

-- each file's name and its bytes
abbrev pub named : List (List ℕ × Vec ℕ) → List (List ℕ × List ℕ)
named files = map (λ file. (file.0, file.1.items)) files
