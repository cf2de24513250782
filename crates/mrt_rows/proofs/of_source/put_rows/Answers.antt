use Rattle.std.proofs.Common.{◌≡◌, ◌≢◌, ◌∙◌, ◌<◌, ◌≤◌, ℕ, List, Option, Some, get_or, length, set, slice_get, unwrap_or, refl, sym, ap, subst, arith}
use Rattle.std.proofs.lemmas.List.{length-set}
use Rattle.std.proofs.lemmas.Option.{slice_get_read}
use Rattle.std.specs.Option.{option_map}
use Rattle.mrt_graph.specs.declared.cert.Row.{Row}
use Rattle.mrt_graph.specs.Tags.{carried}
use Rattle.mrt_graph.proofs.ListPlaces.{set_there}
use Rattle.mrt_rows.specs.steps.RowMaker.{IsOpenFor}
use Rattle.mrt_rows.specs.steps.NearOf.{IsNearRow}
use Rattle.mrt_rows.specs.steps.ListedDirections.{directions_by}
use Rattle.mrt_rows.proofs.Filling.{filled, filling_home, filling_on, filling_past}
use Rattle.mrt_rows.proofs.NearFound.{differ_by, same_by}
use Rattle.mrt_rows.proofs.Rooting.{og_of}
use Rattle.mrt_rows.proofs.of_source.put_rows.Goals as goal
use Rattle.mrt_rows.proofs.of_source.put_rows.Goals.{then-ne, else-ne}

-- the node that has this turn
turn_at : (nodes items : List ℕ) (i t : ℕ) → items ≡ nodes → i < length items → t ≡ get_or items i t → slice_get nodes i ≡ Some t
turn_at nodes items i t same within is = ap (λ (xs : List ℕ). slice_get xs i) (sym same) ∙ slice_get_read items (length items) i t refl within is

pub bounds-rows-home : goal.bounds-rows-home
bounds-rows-home c =
    let by = c.source-source.ensures.source in
    omega (arith, c.get-home.ensures.value, by.place.head, c.requires.rooted.ordered.heads.head_within c.source-source.result.node by.within, c.requires.one_each)

pub carried_to-from-requires-clause-target : goal.carried_to-from-requires-clause-target
carried_to-from-requires-clause-target c =
    c.requires.made.common.by_order.within c.loop-t.t-index c.t-item.result
    (turn_at c.args.maker.now.common.by_order.items c.deref-t-items.result.now c.loop-t.t-index c.t-item.result c.deref-t-items.ensures.value
    c.loop-t-test.true c.t-item.is)

pub carried_to-from-requires-clause-source : goal.carried_to-from-requires-clause-source
carried_to-from-requires-clause-source c = c.source-source.ensures.source.place

pub carried_to-from-requires-clause-node : goal.carried_to-from-requires-clause-node
carried_to-from-requires-clause-node c = c.source-source.ensures.source.within

pub row-near-requires-clause-target : goal.row-near-requires-clause-target
row-near-requires-clause-target c =
    c.requires.made.common.by_order.within c.loop-t.t-index c.t-item.result
    (turn_at c.args.maker.now.common.by_order.items c.deref-t-items.result.now c.loop-t.t-index c.t-item.result c.deref-t-items.ensures.value
    c.loop-t-test.true c.t-item.is)

pub row-near-requires-clause-open : goal.row-near-requires-clause-open
row-near-requires-clause-open c =
    subst (λ (v : ℕ). IsOpenFor c.args.rooted.now.graph.now (directions_by c.args.rooted.now) c.args.maker.now v) (sym c.source-source.ensures.node)
    c.requires.open

pub row-near-requires-clause-two : goal.row-near-requires-clause-two
row-near-requires-clause-two c = λ same.
    differ_by c.t-item.result c.args.s c.ne.result c.ne.ensures c.if-ne.true (sym same ∙ c.source-source.ensures.node)

pub bounds-rows-get : goal.bounds-rows-get
bounds-rows-get c =
    let within = c.requires.made.common.by_order.within c.loop-t.t-index c.t-item.result
    (turn_at c.args.maker.now.common.by_order.items c.deref-t-items.result.now c.loop-t.t-index c.t-item.result c.deref-t-items.ensures.value
    c.loop-t-test.true c.t-item.is) in
    omega (arith, within, c.get.ensures.value, c.loop-t.invariant.one_each)

pub loop-t-init : goal.loop-t-init
loop-t-init c =
    let g = c.args.rooted.now.graph.now in
    let root = c.args.rooted.now.root in
    let w = directions_by c.args.rooted.now in
    let s = c.args.s in
    let by = c.source-source.ensures.source in
    let node = c.source-source.ensures.node in
    let row = c.row_home.result in
    let rows = set c.args.rows.now c.get-home.result row in
    record {
      one_each = length-set c.args.rows.now c.get-home.result row ∙ c.requires.one_each;
      filling = λ rooted within.
          let put : slice_get rows (w.head s) ≡ Some row = subst (λ (i : ℕ). slice_get rows i ≡ Some row)
          (c.get-home.ensures.value ∙ by.place.head ∙ ap w.head node)
          (set_there c.args.rows.now c.get-home.result row (omega (
            arith,
            c.get-home.ensures.value,
            by.place.head,
            rooted.ordered.heads.head_within c.source-source.result.node by.within,
            c.requires.one_each,
          ))) in
          filling_home (og_of rooted) s within c.args.maker.now.common.by_order.items rows (λ other.
          subst (λ (o : Option Row). IsNearRow g root w s (w.head s) o) (sym put)
          (subst (λ (v : ℕ). IsNearRow g root w v (w.head v) (Some row)) node
          (c.row_home.ensures g root w rooted.kept rooted.ordered by (λ same. other (sym node ∙ same)))));
    }

pub loop-t-preserved : goal.loop-t-preserved
loop-t-preserved c = elim c.if-ne.branch [
  | then-ne b ↦
      let g = c.args.rooted.now.graph.now in
      let root = c.args.rooted.now.root in
      let w = directions_by c.args.rooted.now in
      let s = c.args.s in
      let nodes = c.args.maker.now.common.by_order.items in
      let t = c.t-item.result in
      let rows = c.loop-t.rows in
      let row : Row = unwrap_or b.row-near.result b.carried_to-from.result in
      let rows_is : c.if-ne.rows ≡ set rows t row =
      b.rows-is ∙ ap (λ (i : ℕ). set rows i b.unwrap_or.result) b.get.ensures.value ∙ ap (λ (r : Row). set rows t r) b.unwrap_or.ensures in
      let two : s ≢ t = λ same. differ_by t s c.ne.result c.ne.ensures b.if-ne.true (sym same) in
      rw rows_is (record {
        one_each = length-set rows t row ∙ c.loop-t.invariant.one_each;
        filling = λ rooted within.
            let at = turn_at nodes c.deref-t-items.result.now c.loop-t.t-index t c.deref-t-items.ensures.value c.loop-t-test.true c.t-item.is in
            let node = c.source-source.ensures.node in
            filling_on (og_of rooted) s within nodes c.requires.made.common.by_order c.loop-t.t-index t at rows (c.loop-t.invariant.filling rooted within) two
            b.carried_to-from.result b.row-near.result
            (subst (λ (v : ℕ). IsNearRow g root w v t b.row-near.result) node b.row-near.ensures)
            b.carried_to-from.ensures.to_other
            (λ same. b.carried_to-from.ensures.to_root same ∙ ap (λ (v : ℕ). option_map carried (slice_get rows (w.head v))) node)
            c.loop-t.invariant.one_each;
      })
  | else-ne b ↦
      rw b.rows-is (record {
        one_each = c.loop-t.invariant.one_each;
        filling = λ rooted within.
            let s = c.args.s in
            let nodes = c.args.maker.now.common.by_order.items in
            let t = c.t-item.result in
            let at = turn_at nodes c.deref-t-items.result.now c.loop-t.t-index t c.deref-t-items.ensures.value c.loop-t-test.true c.t-item.is in
            filling_past (og_of rooted) s within nodes c.requires.made.common.by_order c.loop-t.t-index t at c.loop-t.rows
            (c.loop-t.invariant.filling rooted within) (sym (same_by t s c.ne.result c.ne.ensures b.if-ne.false));
      })
]

pub returns-clause-rows : goal.returns-clause-rows
returns-clause-rows c = λ t t_within two.
    filled (og_of c.requires.rooted) c.args.s c.requires.node c.args.maker.now.common.by_order.items c.requires.made.common.by_order
    c.loop-t.t-index c.loop-t.rows (subst (λ (xs : List ℕ). length xs ≤ c.loop-t.t-index) c.deref-t-items.ensures.value c.loop-t-test.false)
    (c.loop-t.invariant.filling c.requires.rooted c.requires.node) t t_within two
