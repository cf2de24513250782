use Rattle.std.proofs.Common.{ℕ}
use Rattle.mrt_graph.specs.declared.link.Element.TheVariants as elements
use Rattle.mrt_graph.specs.Separates.{Separates}
use Rattle.mrt_plain.proofs.Shared.{SharedBelow}
use Rattle.mrt_plain.proofs.sharing.shared_links_separate.Given as goal

abbrev pub invariant-loop-e : goal.invariant-loop-e
invariant-loop-e l = SharedBelow (λ (e : ℕ). Separates l.pair.links.now (elements.Link e) l.pair.s l.pair.t) l.blue l.red l.e-index
