-- An arc, or none, told by one number.
use Rattle.std.specs.Prelude.{◌≡◌, ℕ, zero, suc, Option, Some, None, refl}
use Rattle.primary_alt.specs.declared.first_arc.FirstArc.TheInside.{Inside}

-- 0 stands for no arc, any other number for the arc that comes before it
abbrev pub arc_by : ℕ → Option ℕ
arc_by zero = None
arc_by (suc number) = Some number

abbrev pub by_arc : Option ℕ → ℕ
by_arc None = zero
by_arc (Some number) = suc number

-- what a number tells gives the number back
abbrev pub inside_of : Option ℕ → Inside
inside_of arc = record { 0 = by_arc arc }

pub told_again : (n : ℕ) → inside_of (arc_by n) ≡ record { 0 = n }
told_again zero = refl
told_again (suc number) = refl
