use Rattle.std.proofs.Common.{rules, ◌≡◌, ◌≢◌, ◌∙◌, ◌<◌, ◌≤◌, ◌-◌, ◌*◌, ℕ, List, Option, Some, None, length, slice_get, inl, inr, sym, ap, subst, arith}
use Rattle.std.proofs.lemmas.Bool.{cases_eq}
use Rattle.std.proofs.lemmas.List.{with_items_is}
use Rattle.std.proofs.lemmas.Nat.{mul-le}
use Rattle.mrt_graph.specs.declared.cert.Row.{Row}
use Rattle.mrt_rows.specs.ColumnOf.{IsColumnOf}
use Rattle.mrt_rows.specs.steps.ColumnOf.{IsRowIn}
use Rattle.mrt_rows.specs.steps.RowsOf.{row_among}
use Rattle.mrt_rows.specs.steps.ListedDirections.{directions_by}
use Rattle.mrt_rows.proofs.Rooting.{og_of}
use Rattle.mrt_rows.proofs.RowsOfColumns.{all_of_columns, row_in_column}
use Rattle.mrt_rows.proofs.certificate.all_rows.Goals as goal

pub loop-n-init : goal.loop-n-init
loop-n-init c =
    let count = c.node_count-count.result in
    let made : length c.in_ok-rows.rows.items ≡ count * (count - 1) = search rules in
    record {
      room = made ∙ ap (λ (n : ℕ). n * (n - 1)) c.node_count-count.ensures.count;
      held = c.in_ok-columns.ensures;
      done = λ s t s_within t_within below. absurd (omega (arith, below));
    }

pub put_column-requires-clause-one_each : goal.put_column-requires-clause-one_each
put_column-requires-clause-one_each c = c.new-column.ensures.one_each ∙ sym c.node_count-count.ensures.count

pub put_column-requires-clause-none : goal.put_column-requires-clause-none
put_column-requires-clause-none c =
    subst (λ (t : ℕ). slice_get c.new-column.result t ≡ Some None) c.aim-aimed.ensures.node c.new-column.ensures.at_destination

pub loop-n-preserved : goal.loop-n-preserved
loop-n-preserved c =
    let rooted = c.args.rooted.now in
    let g = rooted.graph.now in
    let root = rooted.root in
    let w = directions_by rooted in
    let og = og_of c.requires in
    let count_is : c.node_count-count.result ≡ length g.ids = c.node_count-count.ensures.count in
    let n = c.loop-n.n in
    let to = c.new-to.result in
    let named : to ≡ n = c.new-to.ensures in
    let before = c.loop-n.rows.items in
    let column = c.new-column.result in
    let put = c.put_column.new.rows in
    let read : c.deref_mut.result.now ≡ before = c.deref_mut.ensures.value in
    let same = with_items_is c.loop-n.rows put (c.put_column.ensures.room ∙ c.deref_mut.ensures.len) in
    record {
      room = ap (λ (xs : List Row). length xs) same ∙ c.put_column.ensures.room ∙ ap (λ (xs : List Row). length xs) read ∙ c.loop-n.invariant.room;
      held = c.aim-aimed.ensures.aimed.held;
      done = λ s t s_within t_within below two.
          subst (λ (xs : List Row). IsRowIn g root w s t (row_among (length g.ids) xs s t)) (sym same)
          (elim (cases_eq t n) [
            | inl here ↦
                let t_is : to ≡ t = named ∙ sym here in
                let two_to : s ≢ to = λ back. two (back ∙ t_is) in
                let is = subst (λ (v : ℕ). IsColumnOf g root w v column) c.aim-aimed.ensures.node c.new-column.ensures in
                let it = row_in_column og s to column s_within (subst (λ (v : ℕ). v < length g.ids) (sym t_is) t_within) two_to is in
                let found : row_among (length g.ids) put s to ≡ Some it.row =
                subst (λ (k : ℕ). row_among k put s to ≡ Some it.row) count_is
                (c.put_column.ensures.there s it.row (omega (arith, s_within, count_is)) two_to it.there) in
                subst (λ (v : ℕ). IsRowIn g root w s v (row_among (length g.ids) put s v)) t_is
                (record { row = it.row; is = found; each = it.each })
            | inr other ↦
                let kept : row_among (length g.ids) put s t ≡ row_among (length g.ids) before s t =
                subst (λ (k : ℕ). row_among k put s t ≡ row_among k c.deref_mut.result.now s t) count_is
                (c.put_column.ensures.elsewhere s t (λ back. other (back ∙ named)))
                ∙ ap (λ (xs : List Row). row_among (length g.ids) xs s t) read in
                subst (λ (o : Option Row). IsRowIn g root w s t o) (sym kept)
                (c.loop-n.invariant.done s t s_within t_within (omega (arith, below, other)) two)
          ]);
    }

pub returns : goal.returns
returns c =
    all_of_columns (og_of c.requires) c.loop-n.rows.items c.loop-n.invariant.room
    (λ s t s_within t_within two.
    c.loop-n.invariant.done s t s_within t_within (omega (arith, t_within, c.node_count-count.ensures.count, c.loop-n-test.false)) two)

pub overflow_mul-size : goal.overflow_mul-size
overflow_mul-size c =
    let few : c.node_count-count.result ≤ 4096 = omega (arith, c.node_count-count.ensures.count, c.requires.kept.few_nodes) in
    omega (arith, mul-le c.node_count-count.result (c.node_count-count.result - 1) 4096 4096 few (omega (arith, few)))

pub aim-aimed-requires : goal.aim-aimed-requires
aim-aimed-requires c = record {
  rooted = c.requires;
  to = omega (arith, c.new-to.ensures, c.loop-n-test.true, c.node_count-count.ensures.count);
  marks = tt;
  held = c.loop-n.invariant.held;
}

pub new-column-requires : goal.new-column-requires
new-column-requires c = c.aim-aimed.ensures.aimed
