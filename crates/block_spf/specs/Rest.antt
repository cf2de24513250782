-- The cost that stands for none.
use Rattle.std.specs.Prelude.{ℕ}

-- a cost that stands for none: no path has it
abbrev pub far : ℕ
far = 2147483648
