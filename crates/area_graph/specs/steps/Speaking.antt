-- How the code names LSAs.
use Rattle.std.specs.Prelude.{◌≡◌, List, Some, slice_get}
use Rattle.ospf_lsa.specs.declared.lsa.Lsa.{Lsa}
use Rattle.area_graph.specs.declared.speaker.Speaker.{Speaker}
use Rattle.area_graph.specs.Nodes.{node_of}

-- a speaker tells an LSA's place among all, its node, and its advertising router
pub record IsSpeakerOf (lsas : List Lsa) (speaker : Speaker) (lsa : Lsa) : Type 0 where
  pub there : slice_get lsas speaker.at ≡ Some lsa
  pub id : speaker.id ≡ node_of lsa
  pub router : speaker.router ≡ lsa.router
