-- The survey of a network that is made from a number.
use Rattle.std.specs.Prelude.{ℕ, List, [], Ok}
use Rattle.mrt_graph.specs.declared.cert.CertFile.{CertFile}
use Rattle.mrt_graph.specs.Topology.{Topology}
use Rattle.mrt_survey.specs.MadeLsas.{made_lsas}
use Rattle.mrt_survey.specs.SurveyText.{IsSurveyText}
use Rattle.mrt_args.specs.Form.{IsNetworkSize}
use Rattle.mrt_answer.specs.Input.{Input}
use Rattle.mrt_answer.specs.Islands.{island_in}
use Rattle.mrt_island.specs.declared.island.Island.{Island}
use Rattle.mrt_answer.specs.Texts.{IsComputedFile}

-- the LSAs of the network, under a profile that says nothing
abbrev pub made_input : ℕ → ℕ → Input
made_input number nodes = record { newest = made_lsas number nodes; settings = [] }

-- the text is the survey of a graph and of the certificate that is computed for it and its root
pub record IsSummedUp (number : ℕ) (graph : Topology) (root : ℕ) (text : List ℕ) : Type 0 where
  pub file : CertFile
  pub certificate : IsComputedFile graph root file
  pub spelled : IsSurveyText number graph root file.cert text

-- the text is the survey of the network of so many routers that is made from a number
pub record IsSurveyed (number nodes : ℕ) (text : List ℕ) : Type 0 where
  pub size : IsNetworkSize nodes
  pub island : Island
  pub island_is : island_in (made_input number nodes) 1 (Ok island)
  pub survey : IsSummedUp number island.graph island.root text
