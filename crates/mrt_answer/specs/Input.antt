-- What a form is given.
use Rattle.std.specs.Prelude.{ℕ, List}
use Rattle.area_graph.specs.AreaOf.{area_of}
use Rattle.area_graph.specs.Parts.{AreaParts}
use Rattle.text_parts.specs.TextLines.{text_lines}
use Rattle.mrt_island.specs.ProfileFaults.{AreSettings}
use Rattle.mrt_island.specs.Policy.{Policy, policy_of}
use Rattle.mrt_island.specs.declared.setting.Setting.{Setting}
use Rattle.ospf_lsa.specs.declared.lsa.Lsa.{Lsa}

-- the bytes are a profile, no line of which has a fault, and this is what its lines say
abbrev pub IsProfile : List ℕ → List Setting → Type 0
IsProfile bytes settings = AreSettings (text_lines bytes) settings

-- the newest LSAs, and the settings of the profile
pub record Input : Type 0 where
  pub newest : List Lsa
  pub settings : List Setting

-- the area
abbrev pub area : Input → AreaParts
area input = area_of input.newest

-- what the profile says
abbrev pub policy : Input → Policy
policy input = policy_of input.settings
