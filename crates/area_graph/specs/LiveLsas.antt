-- Databases that hold the same live LSAs: what a router reads its area from (RFC 2328, section 16.1).
use Rattle.std.specs.Prelude.{List}
use Rattle.lsdb.specs.Instances.{HoldTheSameButAge}
use Rattle.ospf_lsa.specs.declared.lsa.Lsa.{Lsa}
use Rattle.area_graph.specs.Nodes.{live}

-- the LSAs of two lists that are not at MaxAge are the same but for their places and ages; one that is at MaxAge may stand in one list
-- alone
abbrev pub HoldTheSameLive : List Lsa → List Lsa → Type 0
HoldTheSameLive lsas others = HoldTheSameButAge (live lsas) (live others)
