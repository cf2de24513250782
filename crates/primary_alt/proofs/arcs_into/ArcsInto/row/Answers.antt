use Rattle.std.proofs.Common.{◌+◌, ◌-◌, ℕ, List, ap, drop, length, subst, sym, take, arith}
use Rattle.area_graph.specs.declared.area_types.Arc.{Arc}
use Rattle.primary_alt.specs.steps.ArcsInto.{AreInto}
use Rattle.primary_alt.proofs.RowsInto.{row_into, start_read, starts_climb}
use Rattle.primary_alt.proofs.arcs_into.ArcsInto.row.Goals as goal

pub slice_bounds-result-count : goal.slice_bounds-result-count
slice_bounds-result-count c =
    starts_climb c.args.self.now.arcs.items c.args.v _ _
    (start_read c.args.self.now.arcs.items c.args.self.now.starts.items c.args.v c.get-place.result c.index-from.result.now c.requires.starts (omega arith) c.get-place.ensures.value c.index-from.ensures)
    (start_read c.args.self.now.arcs.items c.args.self.now.starts.items (c.args.v + 1) (c.get-place.result + 1) c.index-to.result.now c.requires.starts c.requires.node
    (ap (λ (n : ℕ). n + 1) c.get-place.ensures.value) c.index-to.ensures)

pub slice_bounds-result-start : goal.slice_bounds-result-start
slice_bounds-result-start c = slice_bounds-result-count c

pub slice_bounds-result-end : goal.slice_bounds-result-end
slice_bounds-result-end c =
    omega (
      arith,
      ap length c.deref.ensures.value,
      (start_read c.args.self.now.arcs.items c.args.self.now.starts.items (c.args.v + 1) (c.get-place.result + 1) c.index-to.result.now c.requires.starts c.requires.node
          (ap (λ (n : ℕ). n + 1) c.get-place.ensures.value) c.index-to.ensures).within,
    )

pub returns : goal.returns
returns c =
    let into = c.args.self.now in
    subst (λ (xs : List Arc). AreInto into.arcs.items c.args.v (take (c.index-to.result.now - c.index-from.result.now) (drop c.index-from.result.now xs))) (sym c.deref.ensures.value)
    (row_into into.arcs.items c.args.v c.index-from.result.now c.index-to.result.now
    (start_read into.arcs.items into.starts.items c.args.v c.get-place.result c.index-from.result.now c.requires.starts (omega arith) c.get-place.ensures.value c.index-from.ensures)
    (start_read into.arcs.items into.starts.items (c.args.v + 1) (c.get-place.result + 1) c.index-to.result.now c.requires.starts c.requires.node
    (ap (λ (n : ℕ). n + 1) c.get-place.ensures.value) c.index-to.ensures))

pub index-from-requires : goal.index-from-requires
index-from-requires c = omega (arith, c.get-place.ensures.value, c.requires.node, c.args.self.now.starts.ok.0)

pub index-to-requires : goal.index-to-requires
index-to-requires c = omega (arith, c.get-place.ensures.value, c.requires.node, c.args.self.now.starts.ok.0)
