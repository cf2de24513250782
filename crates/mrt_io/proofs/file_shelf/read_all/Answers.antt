use Rattle.std.proofs.Common.{◌≡◌, ◌++◌, ℕ, List, length, ap, subst, sym, length-append, arith}
use Rattle.std.proofs.lemmas.List.{length-take}
use Rattle.std.specs.Io.KnownBytes.{Consumes}
use Rattle.mrt_io.proofs.Known.{consumed_fewer, ended_with, none_consumed, went_on}
use Rattle.mrt_io.proofs.file_shelf.read_all.Goals as goal

pub loop-init : goal.loop-init
loop-init g c = record {
  within = omega arith;
  room = omega (arith, c.in_ok-piece.ensures.length);
  first = subst (λ (xs : List ℕ). Consumes (g.F.Read.remaining c.args.file.now) (g.F.Read.remaining c.args.file.now) xs) (sym c.new-bytes.ensures.items)
      (none_consumed (g.F.Read.remaining c.args.file.now));
}

pub slice_bounds-read_on-end : goal.slice_bounds-read_on-end
slice_bounds-read_on-end g c =
    omega (arith, c.min-wanted.ensures, c.loop.invariant.room, c.deref_mut.ensures.len, length-take c.min-wanted.result c.deref_mut.result.now)

pub read_on-requires : goal.read_on-requires
read_on-requires g c = record {
  some = omega (arith, c.min-wanted.ensures, c.loop.invariant.within, c.loop.invariant.room, c.len.ensures, c.deref_mut.ensures.len, length-take c.min-wanted.result c.deref_mut.result.now);
}

pub returns-then-not-branch-clause-within : goal.returns-then-not-branch-clause-within
returns-then-not-branch-clause-within g c =
    let on = c.in_ok-read_on.ensures.on in
    let count : length c.read_on.new.bytes.items ≡ length (c.loop.bytes.items ++ on.taken) = ap (λ (l : List ℕ). length l) on.added in
    let none : length on.taken ≡ 0 = ap (λ (l : List ℕ). length l) (on.end c.if-not-branch.true).0 in
    omega (arith, count, none, c.loop.invariant.within, length-append c.loop.bytes.items on.taken)

pub returns-then-not-branch-clause-all : goal.returns-then-not-branch-clause-all
returns-then-not-branch-clause-all g c =
    let on = c.in_ok-read_on.ensures.on in
    let end = on.end c.if-not-branch.true in
    ended_with (g.F.Read.remaining c.args.file.now) (g.F.Read.remaining c.loop.file) (g.F.Read.remaining c.read_on.new.file) c.loop.bytes.items on.taken
    c.read_on.new.bytes.items on.added end.0 c.loop.invariant.first on.consumed end.1

pub returns-then-len-limit-clause-too_long : goal.returns-then-len-limit-clause-too_long
returns-then-len-limit-clause-too_long g c = λ is.
    let on = c.in_ok-read_on.ensures.on in
    consumed_fewer (g.F.Read.remaining c.args.file.now) (g.F.Read.remaining c.read_on.new.file) c.read_on.new.bytes.items c.args.limit
    (went_on (g.F.Read.remaining c.args.file.now) (g.F.Read.remaining c.loop.file) (g.F.Read.remaining c.read_on.new.file) c.loop.bytes.items on.taken
    c.read_on.new.bytes.items on.added c.loop.invariant.first on.consumed)
    (omega (arith, c.if-len-limit.true, c.len-in-loop.ensures))

pub loop-preserved : goal.loop-preserved
loop-preserved g c =
    let on = c.in_ok-read_on.ensures.on in
    record {
      within = omega (arith, c.if-len-limit.false, c.len-in-loop.ensures);
      room = c.loop.invariant.room;
      first = went_on (g.F.Read.remaining c.args.file.now) (g.F.Read.remaining c.loop.file) (g.F.Read.remaining c.read_on.new.file) c.loop.bytes.items
          on.taken c.read_on.new.bytes.items on.added c.loop.invariant.first on.consumed;
    }
