use Rattle.mrt_args.proofs.HandedOn.{if_ok}
use Rattle.mrt_calls.specs.Shapes.{certified_in}
use Rattle.mrt_calls.proofs.Counting.{no_room, put_held}
use Rattle.mrt_calls.proofs.certify.put_certificate.Goals as goal

pub returns-in-Ok-clause-held : goal.returns-in-Ok-clause-held
returns-in-Ok-clause-held c =
    put_held (certified_in c.args.area.now c.args.router) c.in_ok-text.text c.in-Ok.count _ c.in_ok-text.ensures c.in-Ok.ensures.held

pub returns-in-Err-clause-held : goal.returns-in-Err-clause-held
returns-in-Err-clause-held c =
    if_ok c.count_again.result _ _ c.count_again.ensures.counted
    (λ count is.
    no_room (certified_in c.args.area.now c.args.router) (c.one_answer_each.ensures.certificate c.args.area.now c.args.router) c.in_ok-text.text
    c.args.buffer.now c.put_text.new.buffer count c.in_ok-text.ensures c.put_text.ensures.room c.in-Err.ensures.no_room is)
