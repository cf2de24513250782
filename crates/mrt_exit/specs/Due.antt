-- Exits that say why there is no answer.
use Rattle.std.specs.Prelude.{◌≡◌, ◌⊎◌}
use Rattle.mrt_exit.specs.declared.exit.Exit.{Exit}
use Rattle.mrt_exit.specs.declared.exit.Exit.TheVariants.{NoMemory}

-- the exit is one that is called for, or there was no memory
abbrev pub IsDue : (Exit → Type 0) → Exit → Type 0
IsDue CalledFor exit = CalledFor exit ⊎ (exit ≡ NoMemory)
