use Rattle.std.proofs.Common.{◌≡◌, ◌<◌, ◌∙◌, ◌++◌, ◌∷◌, [], ℕ, List, Option, Some, length, slice_get, take, sym, ap, subst, arith}
use Rattle.std.proofs.lemmas.List.{take_all, take_more}
use Rattle.std.proofs.lemmas.Option.{get_or_from_slice_get}
use Rattle.mrt_graph.specs.declared.cert.Row.{Row}
use Rattle.mrt_graph.specs.Column.{IsColumnFor}
use Rattle.mrt_rows.proofs.Rooting.{og_of}
use Rattle.mrt_rows.proofs.TheColumns.{is_for, one_each}
use Rattle.mrt_rows.proofs.column_view.ColumnView.held.Goals as goal

pub loop-n-init : goal.loop-n-init
loop-n-init c =
    let it = c.self.invariant in
    let v = c.self.inside in
    record {
      count = c.node_count-count.ensures.count
          ∙ sym (one_each (og_of it.rooted) v.to.node it.within v.column)
          ∙ ap (λ (column : List (Option Row)). length column) c.self.view_is;
      made = c.in_ok-rows.ensures.items;
      room = omega (arith, c.in_ok-rows.ensures.capacity);
    }

pub row-requires : goal.row-requires
row-requires c = omega (arith, c.new.ensures, c.loop-n-test.true, c.loop-n.invariant.count)

pub loop-n-preserved : goal.loop-n-preserved
loop-n-preserved c =
    let column = c.args.self.now in
    let n = c.loop-n.n in
    let row = c.row.result in
    let within : n < length column = omega (arith, c.loop-n-test.true, c.loop-n.invariant.count) in
    let at = subst (λ (s : ℕ). slice_get column s ≡ Some row) c.new.ensures c.row.ensures in
    record {
      count = c.loop-n.invariant.count;
      made = c.push_reserved.ensures.items ∙ ap (λ (xs : List (Option Row)). xs ++ row ∷ []) c.loop-n.invariant.made
          ∙ ap (λ (o : Option Row). take n column ++ o ∷ []) (sym (get_or_from_slice_get column n row row at))
          ∙ sym (take_more column n row within);
      room = omega (arith, c.loop-n.invariant.room, c.push_reserved.ensures.capacity);
    }

pub new-requires-2 : goal.new-requires-2
new-requires-2 c =
    let it = c.self.invariant in
    let v = c.self.inside in
    let all = c.loop-n.invariant.made ∙ take_all c.loop-n.n c.args.self.now (omega (arith, c.loop-n-test.false, c.loop-n.invariant.count)) in (
      v.to.node,
      subst (λ (column : List (Option Row)). IsColumnFor column v.to.node) (c.self.view_is ∙ sym all)
          (is_for (og_of it.rooted) v.to.node it.within v.column),
    )

pub returns : goal.returns
returns c =
    c.new-2.ensures ∙ c.loop-n.invariant.made
    ∙ take_all c.loop-n.n c.args.self.now (omega (arith, c.loop-n-test.false, c.loop-n.invariant.count))
