use Rattle.std.proofs.Common.{sym}
use Rattle.std.proofs.lemmas.List.{append-nil}
use Rattle.std.proofs.lemmas.Result.{on_ok_weaker}
use Rattle.lfa_alt.specs.LfaText.{Line, NoLine}
use Rattle.lfa_alt.proofs.Chosen.{arc_there, next_there}
use Rattle.lfa_alt.proofs.text.push_part.Goals as goal

pub push_line-requires-clause-there : goal.push_line-requires-clause-there
push_line-requires-clause-there c = arc_there c.args.area.now c.args.source c.args.t c.args.lfa c.requires.lfa

pub push_line-requires-clause-next : goal.push_line-requires-clause-next
push_line-requires-clause-next c = next_there c.args.area.now c.requires.kept c.args.source c.args.t c.args.lfa c.requires.lfa

pub returns-in-Some : goal.returns-in-Some
returns-in-Some c =
    on_ok_weaker c.push_line.result (λ adds. record { part = adds.part; is = Line c.in-Some.primary adds.part (rw c.in-Some.is at c.requires.primary) adds.is; added = adds.added }) c.push_line.ensures

pub returns-in-None : goal.returns-in-None
returns-in-None c = record { part = _; is = NoLine (rw c.in-None.is at c.requires.primary); added = sym (append-nil c.args.text.now.items) }
