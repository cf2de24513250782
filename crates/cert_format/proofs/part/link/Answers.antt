use Rattle.cert_format.proofs.Parts.{link_read}
use Rattle.cert_format.proofs.part.link.Goals as goal

pub returns : goal.returns
returns c =
    rw (← c.from-nodes.ensures, c.new.ensures, c.new-2.ensures, c.new-3.ensures, c.role_named.ensures)
    (link_read c.from-nodes.result _ _ _ _ _ _ _ _ _ c.in_ok-a.ensures (rw c.from.ensures at c.in_ok-b.ensures) c.in_ok-block.ensures c.in_ok-role.ensures)
