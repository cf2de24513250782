-- Something said of each pair of nodes.
use Rattle.std.specs.Prelude.{◌==◌, ℕ, List, not, filter, map}
use Rattle.std.specs.List.{flat_map, range_with_len}

-- what f says of each node and each other one, by ascending first, then by ascending second
abbrev pub by_pairs : {X : Type 0} → (ℕ → ℕ → X) → ℕ → List X
by_pairs f n =
    flat_map (λ s. map (f s) (filter (λ t. not (t == s)) (range_with_len 0 n))) (range_with_len 0 n)
