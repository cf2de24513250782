use Rattle.cert_format.proofs.Parts.{node_read}
use Rattle.cert_format.proofs.part.node.Goals as goal

pub returns : goal.returns
returns c =
    rw (← c.from-nodes.ensures, c.new.ensures, c.new-2.ensures, c.kind_named.ensures)
    (node_read c.from-nodes.result _ _ _ _ _ _ _ _ _ _ _ c.in_ok-kind.ensures c.in_ok-number.ensures c.in_ok-order.ensures c.in_ok-head.ensures c.in_ok-block.ensures)
