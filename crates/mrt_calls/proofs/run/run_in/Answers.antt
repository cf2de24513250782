use Rattle.std.proofs.Common.{◌∙◌, Ok, Err, refl}
use Rattle.mrt_calls.proofs.Puts.{puts_in}
use Rattle.mrt_calls.proofs.run.run_in.Goals as goal

pub returns-in-Ok : goal.returns-in-Ok
returns-in-Ok c =
    let held = c.in-Ok.ensures.held in
    record {
      same_room = c.put_answer.ensures.room;
      answer = Ok held.0;
      comes = held.1;
      run_in = (held.2.0, puts_in _ held.0 c.in-Ok.wanted _ c.exit_of.result held.2 refl c.exit_of.ensures);
    }

pub returns-in-Err : goal.returns-in-Err
returns-in-Err c = record {
  same_room = c.put_line.ensures.room ∙ c.put_answer.ensures.room;
  answer = Err c.in-Err.exit;
  comes = c.in-Err.ensures.none;
  run_in = (refl, c.put_line.ensures.line);
}
