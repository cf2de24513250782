use Rattle.flood.proofs.OneText.{one_flood_text}
use Rattle.flood.proofs.text_law.one_text_each.Goals as goal

pub returns : goal.returns
returns g c = λ comparing. one_flood_text (g.C.Compare.says comparing)
