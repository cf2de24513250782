use Rattle.std.proofs.Common.{◌≡◌, ◌<◌, Some, inr, arith}
use Rattle.mrt_cmd.specs.Causes.{ShelfInCall}
use Rattle.mrt_io.specs.Counts.{last_count}
use Rattle.mrt_lent.specs.Lent.{held_in}
use Rattle.mrt_calls.proofs.TextFor.{text_for_answers}
use Rattle.mrt_calls.proofs.run.answer_to.Goals as goal

pub returns : goal.returns
returns c =
    let healthy : c.new-shelf.result.faults < last_count = omega (arith, c.new-shelf.ensures.faults) in
    let shelf : ShelfInCall = record {
      held = Some (held_in c.new-shelf.result.files.now);
      healthy = c.new-shelf.result.faults < last_count;
      faults = c.new-shelf.result.faults;
      faults_now = c.text_for.new.shelf.faults;
      untouched = c.text_for.new.shelf ≡ c.new-shelf.result;
    } in
    rw (← c.new-shelf.ensures.files)
    (text_for_answers (held_in c.new-shelf.result.files.now) c.args.words.now shelf c.text_for.result c.text_for.ensures.text c.text_for.ensures.cause
    (c.text_for.ensures.comes (inr healthy)))
