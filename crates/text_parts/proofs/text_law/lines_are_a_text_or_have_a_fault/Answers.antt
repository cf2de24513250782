use Rattle.text_parts.proofs.LinesTaken.{either, never_both, one_fault, one_text}
use Rattle.text_parts.proofs.text_law.lines_are_a_text_or_have_a_fault.Goals as goal

pub returns-clause-either : goal.returns-clause-either
returns-clause-either g c = either g.T.TakesLines.rule

pub returns-clause-never_both : goal.returns-clause-never_both
returns-clause-never_both g c = never_both g.T.TakesLines.rule

pub returns-clause-one_text : goal.returns-clause-one_text
returns-clause-one_text g c = one_text g.T.TakesLines.rule

pub returns-clause-one_fault : goal.returns-clause-one_fault
returns-clause-one_fault g c = one_fault g.T.TakesLines.rule
