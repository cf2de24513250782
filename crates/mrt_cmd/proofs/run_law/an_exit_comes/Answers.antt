use Rattle.mrt_cmd.proofs.SomeExit.{ComingLaws, exit_comes, words_come}
use Rattle.mrt_cmd.proofs.run_law.an_exit_comes.Goals as goal

-- the laws of the layer below
laws : goal.After-an_answer_comes → ComingLaws
laws c = record {
  task = c.an_answer_comes.ensures.task;
  flood = c.an_answer_comes.ensures.flood;
  survey = c.an_answer_comes.ensures.survey;
}

pub returns-clause-answer : goal.returns-clause-answer
returns-clause-answer c = words_come (laws c)

pub returns-clause-exit : goal.returns-clause-exit
returns-clause-exit c = exit_comes (laws c)
