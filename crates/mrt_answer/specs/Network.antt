-- Two routers of one network, each with a database of its own.
use Rattle.std.specs.Prelude.{◌≡◌, ℕ, List, Ok, Contains}
use Rattle.area_graph.specs.Parts.{AreaParts}
use Rattle.area_graph.specs.LiveLsas.{HoldTheSameLive}
use Rattle.lsdb.specs.Instances.{HoldTheSameButAge}
use Rattle.mrt_graph.specs.NodeIds.{router as router_node}
use Rattle.mrt_island.specs.declared.island.Island.{Island}
use Rattle.mrt_args.specs.CertSpelling.{IsSpellingOf}
use Rattle.mrt_args.specs.FileBytes.{FileBytes}
use Rattle.ospf_lsa.specs.declared.lsa.Lsa.{Lsa}
use Rattle.mrt_answer.specs.Input.{Input}
use Rattle.mrt_answer.specs.Islands.{island_in, own_place}
use Rattle.mrt_answer.specs.Reading.{input_of}
use Rattle.mrt_answer.specs.Texts.{IsTableOf}

-- what two routers read: a database each, in neither of which two newest instances contradict each other, and the newest ones of the
-- one stand so to those of the other; and one profile
pub record AreReadByTwo (Stand : List Lsa → List Lsa → Type 0) (one other : FileBytes) : Type 0 where
  pub input : Input
  pub held : input_of one.first one.profile (Ok input)
  pub other_input : Input
  pub other_held : input_of other.first other.profile (Ok other_input)
  pub databases : Stand input.newest other_input.newest
  pub profiles : one.profile ≡ other.profile

-- the two are routers of one network: their databases hold the same newest instances, each at an age of its own, but for those at
-- MaxAge, which either may have dropped
abbrev pub AreOfOneNetwork : FileBytes → FileBytes → Type 0
AreOfOneNetwork one other = AreReadByTwo HoldTheSameLive one other

-- the same, but an LSA may be at MaxAge in one of the databases and not in the other
abbrev pub AreOfOneNetworkButMaxAge : FileBytes → FileBytes → Type 0
AreOfOneNetworkButMaxAge one other = AreReadByTwo HoldTheSameButAge one other

-- a second router is in the island of a first one
pub record AreInOneIsland (input : Input) (router second : ℕ) : Type 0 where
  pub island : Island
  pub its : island_in input router (Ok island)
  pub inside : Contains island.graph.ids (router_node second)

-- the text is the table of a router of an island by the certificate that these bytes spell
pub record IsTableBy (certificate : List ℕ) (area : AreaParts) (island : Island) (router : ℕ) (text : List ℕ) : Type 0 where
  pub source : ℕ
  pub source_is : own_place island.graph.ids router (Ok source)
  pub spot : ℕ
  pub spot_is : own_place area.ids router (Ok spot)
  pub table : IsTableOf area island source spot text
  pub by : IsSpellingOf certificate table.file
