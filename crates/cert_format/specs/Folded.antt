-- Which node's head is at fault.
use Rattle.std.specs.Prelude.{ℕ, zero, suc, Bool, Option, Some, None, not, length, if◌then◌else◌}
use Rattle.std.specs.Option.{option_map_or, option_or}
use Rattle.mrt_graph.specs.Certificate.{Certificate}
use Rattle.mrt_graph.specs.Foldable.{comes_to, is_own_head}

-- the least number below n that passes a test
abbrev pub least : (ℕ → Bool) → ℕ → Option ℕ
least test zero = None
least test (suc n) = option_or (least test n) (if test n then Some n else None)

-- the node whose head is at fault: where no node is its own head, node 0; else the least one whose chain of heads does
-- not come to the least of those; none where each one's does
abbrev pub head_fault : Certificate → Option ℕ
head_fault c =
    option_map_or (λ r. least (λ a. not (comes_to c r a)) (length c.nodes)) (least (is_own_head c) (length c.nodes)) (Some 0)
