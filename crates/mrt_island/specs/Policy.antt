-- What a profile says.
use Rattle.std.specs.Prelude.{ℕ, Bool, List}
use Rattle.mrt_island.specs.declared.setting.Setting.{Setting}
use Rattle.mrt_island.specs.Settings.{supports, is_eligible, priority_of}

-- which routers support the Default MRT Profile (RFC 7811, section 5), which link data of a router is eligible, and each router's GADAG
-- priority
pub record Policy : Type 0 where
  pub supports : ℕ → Bool
  pub eligible : ℕ → ℕ → Bool
  pub priority : ℕ → ℕ

-- what the settings of a profile say
abbrev pub policy_of : List Setting → Policy
policy_of settings = record { supports = supports settings; eligible = is_eligible settings; priority = priority_of settings }
