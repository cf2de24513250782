use Rattle.std.proofs.Common.{rules, ◌∙◌, ℕ, List, length, ap, arith}
use Rattle.mrt_calls.proofs.Lent.{fits_in, front_again, gained_front}
use Rattle.mrt_calls.proofs.putting.put_text.Goals as goal

pub returns-in-Ok-clause-held : goal.returns-in-Ok-clause-held
returns-in-Ok-clause-held c = λ bytes is.
    let told = gained_front _ _ _ _ _ _ _ bytes c.new-sink.ensures.count (c.in-Ok.ensures.gained bytes is) in
    let same = told.same in (
      c.count.ensures ∙ ap (λ (xs : List ℕ). length xs) told.holds,
      λ fits. front_again _ c.put.new.sink.buffer.now c.put.new.sink.count bytes (search (rules, same)) told.holds,
    )

pub returns-in-Ok-clause-fits : goal.returns-in-Ok-clause-fits
returns-in-Ok-clause-fits c = λ bytes is.
    let told = gained_front _ _ _ _ _ _ _ bytes c.new-sink.ensures.count (c.in-Ok.ensures.gained bytes is) in
    omega (arith, fits_in c.put.new.sink.count c.put.new.sink.buffer.now bytes told.holds, told.as_long, ap (λ (xs : List ℕ). length xs) c.new-sink.ensures.buffer)
