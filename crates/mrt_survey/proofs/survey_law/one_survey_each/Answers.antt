use Rattle.mrt_survey.proofs.OneSurvey.{one_survey}
use Rattle.mrt_survey.proofs.SurveyExists.{some_survey}
use Rattle.mrt_survey.proofs.survey_law.one_survey_each.Goals as goal

pub returns : goal.returns
returns c = record { some = some_survey; one = one_survey }
