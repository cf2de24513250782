-- How many deliveries a script has.
use Rattle.std.specs.Prelude.{ℕ, Bool, true, false, List, length}
use Rattle.std.specs.List.{filter}
use Rattle.flood.specs.declared.script.FloodLine.{FloodLine}
use Rattle.flood.specs.declared.script.FloodLine.TheVariants.{Deliver, Same}

-- whether a line is a delivery
abbrev pub is_delivery : FloodLine → Bool
is_delivery (Deliver packet router) = true
is_delivery (Same one other router) = false

-- how many deliveries there are
abbrev pub deliveries_in : List FloodLine → ℕ
deliveries_in lines = length (filter is_delivery lines)
