use Rattle.mrt_cmd.proofs.OneExit.{AnswerLaws, one_exit, one_of_words}
use Rattle.mrt_cmd.proofs.run_law.one_exit_comes.Goals as goal

-- the laws of the layer below
laws : goal.After-one_answer_comes → AnswerLaws
laws c = record {
  task = c.one_answer_comes.ensures.task;
  flood = c.one_answer_comes.ensures.flood;
  survey = c.one_answer_comes.ensures.survey;
}

pub returns-clause-answer : goal.returns-clause-answer
returns-clause-answer c = λ files. one_of_words (laws c) files

pub returns-clause-exit : goal.returns-clause-exit
returns-clause-exit c = λ files. one_exit (laws c) files
