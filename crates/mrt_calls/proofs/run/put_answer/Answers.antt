use Rattle.std.proofs.Common.{Some}
use Rattle.mrt_cmd.specs.Comes.{of_words}
use Rattle.mrt_lent.specs.Lent.{held_in}
use Rattle.mrt_args.proofs.HandedOn.{if_ok}
use Rattle.mrt_calls.specs.Runs.{words_in}
use Rattle.mrt_calls.proofs.Counting.{no_room, put_held}
use Rattle.mrt_calls.proofs.run.put_answer.Goals as goal

pub returns-in-Ok-clause-held : goal.returns-in-Ok-clause-held
returns-in-Ok-clause-held c =
    put_held (of_words (Some (held_in c.args.files.now)) (words_in c.args.words.now)) c.in_ok-answer.answer c.in-Ok.count _ c.in_ok-answer.ensures
    c.in-Ok.ensures.held

pub returns-in-Err-clause-held : goal.returns-in-Err-clause-held
returns-in-Err-clause-held c =
    if_ok c.count_again.result _ _ c.count_again.ensures.counted
    (λ count is.
    no_room (of_words (Some (held_in c.args.files.now)) (words_in c.args.words.now))
    (c.one_exit_comes.ensures.answer (held_in c.args.files.now) (words_in c.args.words.now)) c.in_ok-answer.answer c.args.text.now c.put_text.new.buffer count
    c.in_ok-answer.ensures c.put_text.ensures.room c.in-Err.ensures.no_room is)
