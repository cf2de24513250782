use Rattle.std.proofs.Common.{inl, inr}
use Rattle.area_graph.proofs.size.check_size.Goals as goal

pub returns-then-nodes-gt-MAX_NODES-clause-refused : goal.returns-then-nodes-gt-MAX_NODES-clause-refused
returns-then-nodes-gt-MAX_NODES-clause-refused c =
    (elim c.then-nodes-gt-MAX_NODES.either [ inl nodes ↦ inl nodes | inr arcs ↦ inr arcs.1 ], cc)
