use Rattle.std.proofs.Common.{◌∙◌, sym, arith}
use Rattle.mrt_io.proofs.Places.{bytes_at_place, first_from}
use Rattle.mrt_io.proofs.mem_shelf.place_named.Goals as goal

pub returns-then-eq-clause-file : goal.returns-then-eq-clause-file
returns-then-eq-clause-file c =
    let files = c.args.files.now in
    let place = c.loop-place.place in
    let there = c.index-files-place.is in
    bytes_at_place files place _ (omega arith) there
    ∙ sym (first_from files place _ c.args.name.now (omega arith) there (grind (arith, c.eq.ensures))) ∙ c.loop-place.invariant
