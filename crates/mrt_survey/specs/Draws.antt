-- The numbers that a network is made with.
use Rattle.std.specs.Prelude.{ℕ, zero, suc, ◌+◌, ◌*◌, ◌/◌, ◌%◌, ◌^◌}

-- what x becomes with a draw
abbrev pub with_draw : ℕ → ℕ
with_draw x = (x * 1103515245 + 12345) % 2 ^ 31

-- what x becomes with so many draws
abbrev pub with_draws : ℕ → ℕ → ℕ
with_draws zero x = x
with_draws (suc count) x = with_draw (with_draws count x)

-- the draw from x after so many others
abbrev pub draw_after : ℕ → ℕ → ℕ
draw_after count x = with_draws (suc count) x / 65536
