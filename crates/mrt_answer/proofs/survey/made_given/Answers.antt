use Rattle.mrt_answer.proofs.MadeNetworks.{made_input_is}
use Rattle.mrt_answer.proofs.survey.made_given.Goals as goal

pub returns-clause-input : goal.returns-clause-input
returns-clause-input c =
    made_input_is _ _ c.args.number c.args.nodes c.in_ok-database.ensures.newest c.empty-profile.ensures
