-- What an index of relatives keeps.
use Rattle.std.specs.Prelude.{◌≡◌, ◌<◌, ◌≤◌, ◌+◌, ◌-◌, ℕ, zero, suc, Bool, List, Some, nat_lt, length, slice_get, slice_index_or, if◌then◌else◌}
use Rattle.mrt_graph.specs.Groups.{count_below, has_key}
use Rattle.mrt_graph.specs.Kin.{Kin, is_child, is_upper}

-- by the blocks of nodes: v lies in the block of s
abbrev pub is_member : List ℕ → ℕ → ℕ → Bool
is_member blocks s v = has_key blocks (slice_index_or blocks s 0) v

-- how many nodes below t are related to s, itself among them where it is one
abbrev pub kin_below : Kin → ℕ → ℕ → ℕ
kin_below kin s t = count_below (is_member kin.blocks s) t + (count_below (is_upper kin.heads s) t + count_below (is_child kin.heads s) t)

-- how many pairs of related nodes there are whose source is below s
abbrev pub kin_before : Kin → ℕ → ℕ
kin_before kin zero = 0
kin_before kin (suc s) = kin_before kin s + (kin_below kin s (length kin.blocks) - 1)

-- of each node, and the one after the last, how many pairs come before its own
pub record AreStarts (kin : Kin) (begins : List ℕ) : Type 0 where
  pub some : length begins ≡ length kin.blocks + 1
  pub each : (s : ℕ) → s ≤ length kin.blocks → slice_get begins s ≡ Some (kin_before kin s)

-- what an index of relatives keeps
pub record IsIndex (kin : Kin) (begins : List ℕ) : Type 0 where
  pub few : length kin.blocks ≤ 65535
  pub both : length kin.heads ≡ length kin.blocks
  pub starts : AreStarts kin begins

-- of the nodes that `IsUpper` asks of s there is one before t where a number is below t, and else none
abbrev pub IsUpperNumber : List ℕ → ℕ → ℕ → Type 0
IsUpperNumber heads s number = (t : ℕ) → t < length heads → count_below (is_upper heads s) t ≡ (if nat_lt number t then 1 else 0)
