use Rattle.std.proofs.Common.{◌<◌, ◌∙◌, ℕ, get_or, length, sym, ap, arith}
use Rattle.mrt_graph.specs.Kin.{Kin}
use Rattle.mrt_graph.proofs.HeldRows.{few_held, index_is, near_row_is, near_within}
use Rattle.mrt_graph.proofs.KinOf.{blocks_count}
use Rattle.mrt_graph.proofs.node_rows.row_by.Goals as goal

pub place-requires-clause-target : goal.place-requires-clause-target
place-requires-clause-target c =
    let cert = c.args.cert.now in
    let p = c.args.places.now in
    let index = index_is cert c.args.rows.now p.relatives.now c.requires.held in
    omega (arith, c.requires.target, ap (λ (k : Kin). length k.blocks) index, blocks_count cert.nodes)

pub bounds-rows-place : goal.bounds-rows-place
bounds-rows-place c =
    let cert = c.args.cert.now in
    let p = c.args.places.now in
    let index = index_is cert c.args.rows.now p.relatives.now c.requires.held in
    let s_in : p.node < length cert.nodes = omega (arith, c.requires.places.within, ap (λ (k : Kin). length k.blocks) index, blocks_count cert.nodes) in
    let at = c.in-Some.ensures.value cert (sym index) in
    omega (
      arith,
      at,
      near_within cert c.args.rows.now p.relatives.now c.requires.held p.node c.args.t s_in c.requires.target c.requires.different
          (c.in-Some.ensures.related cert (sym index)),
    )

pub offset_bounds-rows-place : goal.offset_bounds-rows-place
offset_bounds-rows-place c =
    let cert = c.args.cert.now in
    let p = c.args.places.now in
    let index = index_is cert c.args.rows.now p.relatives.now c.requires.held in
    let s_in : p.node < length cert.nodes = omega (arith, c.requires.places.within, ap (λ (k : Kin). length k.blocks) index, blocks_count cert.nodes) in
    let at = c.in-Some.ensures.value cert (sym index) in
    omega (
      arith,
      at,
      near_within cert c.args.rows.now p.relatives.now c.requires.held p.node c.args.t s_in c.requires.target c.requires.different
          (c.in-Some.ensures.related cert (sym index)),
      few_held cert c.args.rows.now p.relatives.now c.requires.held,
    )

pub returns-in-Some : goal.returns-in-Some
returns-in-Some c =
    let cert = c.args.cert.now in
    let p = c.args.places.now in
    let row = c.index-rows-place.result in
    let index = index_is cert c.args.rows.now p.relatives.now c.requires.held in
    let s_in : p.node < length cert.nodes = omega (arith, c.requires.places.within, ap (λ (k : Kin). length k.blocks) index, blocks_count cert.nodes) in
    let at = c.in-Some.ensures.value cert (sym index) in
    near_row_is cert c.args.rows.now p.relatives.now c.requires.held p.node c.args.t s_in c.requires.target c.requires.different
    (c.in-Some.ensures.related cert (sym index)) row (c.index-rows-place.is ∙ ap (λ (k : ℕ). get_or c.args.rows.now k row) at)

pub row-requires-clause-source : goal.row-requires-clause-source
row-requires-clause-source c =
    let cert = c.args.cert.now in
    let p = c.args.places.now in
    let index = index_is cert c.args.rows.now p.relatives.now c.requires.held in
    omega (arith, c.requires.places.within, ap (λ (k : Kin). length k.blocks) index, blocks_count cert.nodes)
