-- The end at a place of a node's ends.
use Rattle.std.proofs.Common.{◌≡◌, ◌<◌, ℕ, List, get_or, length, refl}
use Rattle.std.proofs.lemmas.Option.{slice_get_read}
use Rattle.mrt_graph.specs.declared.link.End.{End}
use Rattle.mrt_graph.specs.GraphInvariant.{AreEnds, IsEnd}
use Rattle.mrt_graph.specs.Topology.{Topology}
use Rattle.mrt_graph.proofs.ListTests.{all_at}

pub end_is : (g : Topology) (x place : ℕ) (ends : List End) (end : End) → AreEnds (length g.ids) g.links x ends → place < length ends → end ≡ get_or ends place end
    → IsEnd (length g.ids) g.links x end
end_is g x place ends end kept below item =
    all_at (IsEnd (length g.ids) g.links x) ends place end kept.kept (slice_get_read ends (length ends) place end refl below item)
