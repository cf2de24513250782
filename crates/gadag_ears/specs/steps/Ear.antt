-- An ear, of its parts.
use Rattle.std.specs.Prelude.{ℕ, List}
use Rattle.gadag_ears.specs.declared.kind.EarKind.{EarKind}
use Rattle.gadag_ears.specs.Ear.{Ear}

-- an ear of these parts
abbrev pub ear_of : EarKind → ℕ → ℕ → ℕ → List ℕ → ℕ → Ear
ear_of kind start link first others stop =
    record { kind = kind; start = start; link = link; first = first; others = others; stop = stop }
