use Rattle.fabric.proofs.OneOutcome.{one_answer, one_run}
use Rattle.fabric.proofs.SomeAnswer.{answer_told, some_answer}
use Rattle.fabric.proofs.step_law.one_answer_each.Goals as goal

pub returns-clause-some : goal.returns-clause-some
returns-clause-some c parts are =
    let primaries = c.each_router_has_its_primaries.ensures parts.area are.area_kept in
    some_answer parts are primaries.0 primaries.1

pub returns-clause-told : goal.returns-clause-told
returns-clause-told c = answer_told

pub returns-clause-only_one : goal.returns-clause-only_one
returns-clause-only_one c = one_answer

pub returns-clause-one_run : goal.returns-clause-one_run
returns-clause-one_run c = one_run
