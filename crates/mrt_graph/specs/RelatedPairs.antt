-- Which pairs of nodes are related, in the order of their rows.
use Rattle.std.specs.Prelude.{◌==◌, ℕ, Bool, List, not, filter, length, map, take}
use Rattle.std.specs.List.{flat_map, range_with_len}
use Rattle.mrt_graph.specs.Certificate.{Certificate}
use Rattle.mrt_graph.specs.Related.{are_unrelated}
use Rattle.mrt_graph.specs.RowPlace.{place_of_row}

-- of each node but s whether s is related to it, by ascending number
abbrev pub related_to : Certificate → ℕ → List Bool
related_to c s =
    map (λ t. not (are_unrelated c s t)) (filter (λ t. not (t == s)) (range_with_len 0 (length c.nodes)))

-- of each node and each other one whether they are related, by ascending source, then by ascending destination
abbrev pub related_pairs : Certificate → List Bool
related_pairs c = flat_map (related_to c) (range_with_len 0 (length c.nodes))

-- how many of the marks are set
abbrev pub set_marks : List Bool → ℕ
set_marks marks = length (filter (λ mark. mark) marks)

-- the place of the row of s for t among the rows of related nodes: how many related pairs there are before these two
abbrev pub place_of_near : Certificate → ℕ → ℕ → ℕ
place_of_near c s t = set_marks (take (place_of_row (length c.nodes) s t) (related_pairs c))
