use Rattle.std.proofs.Common.{ℕ}
use Rattle.mrt_graph.specs.declared.link.Element.TheVariants as elements
use Rattle.mrt_graph.specs.Separates.{IsNeitherEnd, Separates}
use Rattle.mrt_plain.proofs.Shared.{SharedBelow}
use Rattle.mrt_plain.proofs.sharing.shared_nodes_separate.Given as goal

abbrev pub invariant-loop-v : goal.invariant-loop-v
invariant-loop-v l = SharedBelow (λ (v : ℕ). IsNeitherEnd (elements.Node v) l.pair.s l.pair.t → Separates l.pair.links.now (elements.Node v) l.pair.s l.pair.t) l.blue l.red l.v-index
