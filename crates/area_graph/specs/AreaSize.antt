-- Areas that are too large.
use Rattle.std.specs.Prelude.{◌≡◌, ◌<◌, ◌-◌, ◌^◌, ◌⊎◌, ℕ, min}
use Rattle.area_graph.specs.declared.area_error.AreaError.{AreaError}
use Rattle.area_graph.specs.declared.area_error.AreaError.TheVariants.{TooLarge}

-- more nodes or arcs than an area holds: 4,096 and 32,768
abbrev pub IsTooLarge : ℕ → ℕ → Type 0
IsTooLarge nodes arcs = (4096 < nodes) ⊎ (32768 < arcs)

-- the answer where they are too many: both counts, each told as a number of 32 bits, the greatest one where it is
-- greater
abbrev pub too_large : ℕ → ℕ → AreaError
too_large nodes arcs = TooLarge (min nodes (2 ^ 32 - 1)) (min arcs (2 ^ 32 - 1))

-- the error tells that they are too many, and both counts
abbrev pub TellsTooLarge : ℕ → ℕ → AreaError → Type 0
TellsTooLarge nodes arcs error = IsTooLarge nodes arcs × (error ≡ too_large nodes arcs)
