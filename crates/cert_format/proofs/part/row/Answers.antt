use Rattle.cert_format.proofs.Parts.{row_read}
use Rattle.cert_format.proofs.part.row.Goals as goal

pub returns : goal.returns
returns c =
    rw (← c.from-links.ensures, c.new.ensures, c.new-2.ensures, c.tag_named.ensures)
    (row_read c.args.tags c.from-links.result _ _ _ _ _ _ _ c.requires.tags c.in_ok-blue.ensures c.in_ok-red.ensures (rw c.from.ensures at c.in_ok-tag.ensures))
