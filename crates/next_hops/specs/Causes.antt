-- Why a router has no next hops for another one. That there was no memory needs no cause.
use Rattle.std.specs.Prelude.{ℕ, List, Contains, length}
use Rattle.area_graph.specs.AreaOf.{area_of}
use Rattle.area_graph.specs.AreaSize.{TellsTooLarge}
use Rattle.area_graph.specs.declared.area_error.AreaError.TheVariants as areas
use Rattle.lsdb.specs.Database.{HoldsLsas, IsDatabase, entering}
use Rattle.lsdb.specs.Disagreements.{IsFirstConflictOf}
use Rattle.mrt_graph.specs.NodeIds.{router}
use Rattle.mrt_graph.specs.Topology.{Topology}
use Rattle.next_hops.specs.NextHops.{HasIsland}
use Rattle.next_hops.specs.declared.failure.Failure.{Failure}
use Rattle.next_hops.specs.declared.failure.Failure.TheVariants.{Lsa, Conflict, TooLarge, NoIsland, NotThere, NoMemory}
use Rattle.ospf_lsa.specs.Outcome.{IsFirstLsaFault}
use Rattle.ospf_lsa.specs.declared.lsa.Lsa.{Lsa as Advertisement}

-- what the failure tells: the first record with a fault, and its first fault; the conflict with the least second place; that the area
-- is too large; that the router is none of its nodes; that the destination is none of the nodes of the router's island. Under the
-- defaults each router supports the profile
abbrev pub IsCause : List ℕ → ℕ → ℕ → Failure → Type 0
IsCause bytes number other (Lsa at kind) = IsFirstLsaFault bytes at kind
IsCause bytes number other (Conflict conflict) =
    (those : List Advertisement) × HoldsLsas bytes those × IsFirstConflictOf (entering those) conflict
IsCause bytes number other (TooLarge nodes arcs) =
    (newest : List Advertisement) × IsDatabase bytes newest
    × TellsTooLarge (length (area_of newest).ids) (length (area_of newest).arcs) (areas.TooLarge nodes arcs)
IsCause bytes number other NoIsland =
    (newest : List Advertisement) × IsDatabase bytes newest × (Contains (area_of newest).ids (router number) → ⊥)
IsCause bytes number other NotThere =
    (graph : Topology) × (root : ℕ) × HasIsland bytes number graph root × (Contains graph.ids (router other) → ⊥)
IsCause bytes number other NoMemory = Unit {0}
