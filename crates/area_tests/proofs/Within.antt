-- Rows are parts of the lists that they were taken from.
use Rattle.std.proofs.Common.{◌≡◌, ◌∙◌, ◌<◌, ℕ, Bool, List, length, ap, arith}
use Rattle.std.specs.List.{filter}
use Rattle.std.proofs.lemmas.List.Sums.{length-filter}
use Rattle.std.proofs.lemmas.Grind.{common_steps}

-- a place within what passes a test is within the whole
pub within_all : {X : Type 0} (p : X → Bool) (xs row : List X) (place : ℕ) → row ≡ filter p xs → place < length row → place < length xs
within_all p xs row place is within = grind (arith, common_steps, ap length is ∙ length-filter p xs, within)
