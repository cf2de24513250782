use Rattle.std.proofs.Common.{◌∙◌, List, Some, ap, sym}
use Rattle.mrt_graph.specs.declared.link.End.{End}
use Rattle.cert_stream.proofs.same.is_same_node.Goals as goal

pub returns-clause-ends : goal.returns-clause-ends
returns-clause-ends c = λ so.
    c.ends.ensures.value ∙ ap (λ (them : List End). Some them) (c.are_ends_same.ensures.0 so) ∙ sym c.ends-2.ensures.value
