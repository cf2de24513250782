use Rattle.std.proofs.Common.{◌∙◌, ℕ, get_or, length, refl, ap, arith}
use Rattle.std.proofs.lemmas.Option.{slice_get_read}
use Rattle.mrt_calls.proofs.proxy.row_at.Goals as goal

pub bounds-entries-get : goal.bounds-entries-get
bounds-entries-get c = omega (arith, c.requires.source, c.requires.touch.one_each, c.get.ensures.value)

pub out_hop-requires-clause-touches : goal.out_hop-requires-clause-touches
out_hop-requires-clause-touches c =
    let read = c.index-entries-get.is ∙ ap (λ (k : ℕ). get_or c.args.entries.now k c.index-entries-get.result) c.get.ensures.value in
    c.requires.touch.blue c.args.at.now.source c.index-entries-get.result
    (slice_get_read c.args.entries.now (length c.args.entries.now) c.args.at.now.source c.index-entries-get.result refl (omega (arith, c.requires.source, c.requires.touch.one_each)) read)

pub out_hop-requires-2-clause-touches : goal.out_hop-requires-2-clause-touches
out_hop-requires-2-clause-touches c =
    let read = c.index-entries-get.is ∙ ap (λ (k : ℕ). get_or c.args.entries.now k c.index-entries-get.result) c.get.ensures.value in
    c.requires.touch.red c.args.at.now.source c.index-entries-get.result
    (slice_get_read c.args.entries.now (length c.args.entries.now) c.args.at.now.source c.index-entries-get.result refl (omega (arith, c.requires.source, c.requires.touch.one_each)) read)

pub returns-clause-hops : goal.returns-clause-hops
returns-clause-hops c =
    let read = c.index-entries-get.is ∙ ap (λ (k : ℕ). get_or c.args.entries.now k c.index-entries-get.result) c.get.ensures.value in (
      c.index-entries-get.result,
      slice_get_read c.args.entries.now (length c.args.entries.now) c.args.at.now.source c.index-entries-get.result refl (omega (arith, c.requires.source, c.requires.touch.one_each)) read,
      c.out_hop.ensures,
      c.out_hop-2.ensures,
    )
