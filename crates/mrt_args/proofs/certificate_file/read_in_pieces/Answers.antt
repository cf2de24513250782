use Rattle.std.proofs.Common.{◌∙◌, ◌+◌, [], ◌∷◌, inl, refl, subst, sym, arith}
use Rattle.std.proofs.lemmas.Grind.{common_steps}
use Rattle.std.proofs.lemmas.Result.{err_from_is_err_and}
use Rattle.mrt_exit.specs.declared.exit.Exit.TheVariants.{TooLarge}
use Rattle.mrt_args.specs.Files.{NamedFile, IsRefusedBy}
use Rattle.mrt_args.proofs.Pieces.{fed_first, fed_more, fed_too_long, fed_whole, still_told, stopped_calm, stopped_healthy, stopped_unread, told_left}
use Rattle.mrt_args.proofs.certificate_file.read_in_pieces.Goals as goal

pub loop-room-preserved : goal.loop-room-preserved
loop-room-preserved g c =
    let before = c.loop-room.invariant in
    record {
      opened = c.in_ok-count.ensures.still_open;
      so_far = fed_more _ _ _ _ _ _ _ _ before.so_far c.in_ok-count.ensures.fed
          (grind (arith, common_steps, c.in_ok-count.ensures.within, c.min-wanted.ensures));
      count = omega (arith, before.count, c.read_piece.ensures.count);
      unchanged = c.read_piece.ensures.unchanged ∙ before.unchanged;
      no_fault = λ healthy told.
          c.read_piece.ensures.no_fault (before.stays_healthy healthy told)
          (still_told _ _ _ before.so_far.taken told) ∙ before.no_fault healthy told;
      stays_healthy = λ healthy told.
          c.read_piece.ensures.stays_healthy (before.stays_healthy healthy told)
          (still_told _ _ _ before.so_far.taken told);
    }

pub returns : goal.returns
returns g c =
    let held = g.F.Shelf.held c.args.shelf.now in
    let before = c.loop-room.invariant in
    let long : IsRefusedBy held (c.args.file.now ∷ []) (TooLarge c.file.inside.what (c.file.inside.limit + 1)) =
    subst (λ (f : NamedFile). IsRefusedBy held (c.args.file.now ∷ []) (TooLarge f.what (f.limit + 1))) (sym c.file.view_is)
    (fed_too_long _ c.args.file.now _ _ _ _ c.requires.left before.so_far c.loop-room-test.false) in
    record {
      read = tt;
      refused = inl long;
      calm = λ calm. inl long;
      in_health = λ well. inl long;
      count = before.count;
      unchanged = before.unchanged;
      no_fault = λ well there. before.no_fault well (told_left held c.args.file.now.name _ c.requires.left there.0);
      stays_healthy = λ well there. before.stays_healthy well (told_left held c.args.file.now.name _ c.requires.left there.0);
    }

pub loop-room-init : goal.loop-room-init
loop-room-init g c = record {
  opened = c.requires.open;
  so_far = rw (← c.file.view_is) (fed_first _ _ _ (c.new-reader.ensures ∙ c.any_pieces.ensures.one []));
  count = omega arith;
  unchanged = refl;
  no_fault = λ healthy told. refl;
  stays_healthy = λ healthy told. healthy;
}

pub returns-then-count-eq0 : goal.returns-then-count-eq0
returns-then-count-eq0 g c =
    let held = g.F.Shelf.held c.args.shelf.now in
    let before = c.loop-room.invariant in
    record {
      read = fed_whole _ c.args.file.now _ _ _ _ _ _ c.requires.left before.so_far c.loop-room-test.true (rw c.if-count-eq0.true at c.in_ok-count.ensures.fed) (c.in_ok-count.ensures.end c.if-count-eq0.true);
      refused = tt;
      calm = λ calm. tt;
      in_health = λ well. tt;
      count = omega (arith, before.count, c.read_piece.ensures.count);
      unchanged = c.read_piece.ensures.unchanged ∙ before.unchanged;
      no_fault = λ well there.
          let told = told_left held c.args.file.now.name _ c.requires.left there.0 in
          c.read_piece.ensures.no_fault (before.stays_healthy well told) (still_told _ _ _ before.so_far.taken told) ∙ before.no_fault well told;
      stays_healthy = λ well there.
          let told = told_left held c.args.file.now.name _ c.requires.left there.0 in
          c.read_piece.ensures.stays_healthy (before.stays_healthy well told) (still_told _ _ _ before.so_far.taken told);
    }

pub returns-in_err-count : goal.returns-in_err-count
returns-in_err-count g c =
    let held = g.F.Shelf.held c.args.shelf.now in
    let before = c.loop-room.invariant in
    let exit = c.in_err-count.field-0.0 in
    let q = err_from_is_err_and c.from_residual.result c.from_residual.ensures.1 in
    rw (q.1, q.2) (record {
      read = tt;
      refused = stopped_unread held c.args.file.now _ _ _ exit before.count c.in_err-count.ensures.stopped;
      calm = λ calm. stopped_calm held c.args.file.now _ _ _ exit before.count calm c.in_err-count.ensures.stopped;
      in_health = λ well. stopped_healthy held c.args.file.now _ _ _ _ exit c.requires.left before.count (g.met.F.Shelf.healthy_below c.args.shelf.now well)
          (λ told. c.read_piece.ensures.no_fault (before.stays_healthy well told) (still_told _ _ _ before.so_far.taken told) ∙ before.no_fault well told) c.in_err-count.ensures.stopped;
      count = omega (arith, before.count, c.read_piece.ensures.count);
      unchanged = c.read_piece.ensures.unchanged ∙ before.unchanged;
      no_fault = λ well there.
          let told = told_left held c.args.file.now.name _ c.requires.left there.0 in
          c.read_piece.ensures.no_fault (before.stays_healthy well told) (still_told _ _ _ before.so_far.taken told) ∙ before.no_fault well told;
      stays_healthy = λ well there.
          let told = told_left held c.args.file.now.name _ c.requires.left there.0 in
          c.read_piece.ensures.stays_healthy (before.stays_healthy well told) (still_told _ _ _ before.so_far.taken told);
    })
