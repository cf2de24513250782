use Rattle.std.proofs.Common.{Ok, subst, arith}
use Rattle.mrt_answer.specs.Input.{Input}
use Rattle.mrt_answer.specs.Surveyed.{IsSurveyed, made_input}
use Rattle.mrt_answer.specs.steps.Surveyed.{summed_up_in}
use Rattle.mrt_answer.proofs.MadeNetworks.{memory_of_survey}
use Rattle.mrt_answer.proofs.TextSteps.{texts_of}
use Rattle.mrt_answer.proofs.TextsHeld.{answer_has_also}
use Rattle.mrt_answer.specs.TextBytes.{IsTextAnswer}
use Rattle.mrt_answer.proofs.survey.answer_of_survey.Goals as goal

-- what is said of the network's input
said : (c : goal.After-drop-given) → IsTextAnswer (summed_up_in c.args.number (made_input c.args.number c.args.nodes)) c.survey_of.result
said c = subst (λ (it : Input). IsTextAnswer (summed_up_in c.args.number it) c.survey_of.result) c.in_ok-given.ensures.input c.survey_of.ensures

pub returns-clause-surveyed : goal.returns-clause-surveyed
returns-clause-surveyed c =
    answer_has_also (λ text. summed_up_in c.args.number (made_input c.args.number c.args.nodes) (Ok text)) (IsSurveyed c.args.number c.args.nodes)
    (λ text made. record { size = c.requires; island = made.0; island_is = made.1; survey = made.2 }) c.survey_of.result
    (texts_of (summed_up_in c.args.number (made_input c.args.number c.args.nodes)) c.survey_of.result (said c))

pub returns-clause-none : goal.returns-clause-none
returns-clause-none c =
    memory_of_survey c.survey_of.result c.args.number (made_input c.args.number c.args.nodes)
    (c.made_networks_are_taken.ensures.island c.args.number c.args.nodes c.requires 1 (omega arith) (omega (arith, c.requires.0))) (said c)
