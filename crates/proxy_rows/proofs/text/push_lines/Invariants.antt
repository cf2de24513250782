use Rattle.text_parts.specs.steps.Adds.{Adds}
use Rattle.text_parts.specs.Parts.{AreParts}
use Rattle.proxy_rows.specs.ProxyText.{IsLine}
use Rattle.proxy_rows.proofs.text.push_lines.Given as goal

abbrev pub invariant-loop-s : goal.invariant-loop-s
invariant-loop-s l = Adds (AreParts (IsLine l.g l.rows) l.s) l.fn.text.items l.text.items
