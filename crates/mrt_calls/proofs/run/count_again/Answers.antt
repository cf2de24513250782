use Rattle.std.proofs.Common.{Some}
use Rattle.mrt_cmd.specs.Comes.{of_words}
use Rattle.mrt_lent.specs.Lent.{held_in}
use Rattle.mrt_calls.specs.Runs.{words_in}
use Rattle.mrt_calls.proofs.Counting.{counted}
use Rattle.mrt_calls.proofs.run.count_again.Goals as goal

pub returns-clause-counted : goal.returns-clause-counted
returns-clause-counted c =
    counted (of_words (Some (held_in c.args.files.now)) (words_in c.args.words.now)) c.in_ok-answer.answer c.count_of.result
    c.in_ok-answer.ensures c.count_of.ensures
