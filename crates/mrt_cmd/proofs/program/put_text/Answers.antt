use Rattle.std.proofs.Common.{◌∙◌, sym}
use Rattle.mrt_answer.proofs.TextsHeld.{cut_short}
use Rattle.mrt_cmd.proofs.program.put_text.Goals as goal

pub returns-in-Err-clause-write_fault : goal.returns-in-Err-clause-write_fault
returns-in-Err-clause-write_fault g c = λ bytes is taken exit.
    cut_short (g.K.Sink.healthy_for c.args.out.now) _ _ _ _ bytes c.in-Err.fault taken (sym c.from.ensures ∙ exit)
    (c.in-Err.ensures.part bytes is) c.in-Err.ensures.cause (λ healthy. let ok = c.in-Err.ensures.succeeds bytes is healthy in cc)
