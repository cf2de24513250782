use Rattle.std.proofs.Common.{◌≡◌, ◌≢◌, ◌∙◌, ◌<◌, ◌+◌, ℕ, Option, length, length-set, set, take, sym, subst, arith}
use Rattle.mrt_graph.specs.declared.cert.Row.{Row}
use Rattle.mrt_rows.specs.steps.RowMaker.{IsOpenFor}
use Rattle.mrt_rows.specs.steps.NearOf.{IsNearRow, near_first}
use Rattle.mrt_rows.specs.steps.ListedDirections.{directions_by}
use Rattle.mrt_rows.proofs.NearFound.{differ_by, none_found, own_found, same_by, some_found}
use Rattle.mrt_rows.proofs.Rooting.{og_of}
use Rattle.mrt_rows.proofs.of_source.RowMaker.put_near_rows.Goals as goal
use Rattle.mrt_rows.proofs.of_source.RowMaker.put_near_rows.Goals.{then-ne+in-Some, then-ne+in_default, else-ne}

pub row-requires-clause-open : goal.row-requires-clause-open
row-requires-clause-open c =
    subst (λ (v : ℕ). IsOpenFor c.args.rooted.now.graph.now (directions_by c.args.rooted.now) c.args.self.now v) (sym c.source-source.ensures.node)
    c.requires.open

pub row-requires-clause-two : goal.row-requires-clause-two
row-requires-clause-two c = λ same.
    differ_by c.new-t.result c.args.s c.ne.result c.ne.ensures c.if-ne.true (sym same ∙ c.source-source.ensures.node)

pub loop-n-preserved : goal.loop-n-preserved
loop-n-preserved c =
    let rooted = c.args.rooted.now in
    let g = rooted.graph.now in
    let root = rooted.root in
    let w = directions_by rooted in
    let og = og_of c.requires.rooted in
    let s = c.args.s in
    let n = c.loop-n.n in
    let node = c.new-t.result in
    let node_is : node ≡ n = c.new-t.ensures in
    let n_within : n < length g.ids = omega (arith, c.loop-n-test.true, c.node_count-n-end.ensures.count) in
    let node_within : node < length g.ids = omega (arith, node_is, n_within) in
    let found = c.loop-n.found in
    let room = c.loop-n.room in
    let within : found < length room = omega (arith, c.loop-n.invariant.few, c.loop-n.invariant.room, c.requires.room, n_within) in
    elim c.if-ne.branch [
      | then-ne+in-Some t ↦
          let two : s ≢ node = λ same. differ_by node s c.ne.result c.ne.ensures t.if-ne.true (sym same) in
          let near : IsNearRow g root w s node t.row.result = subst (λ (v : ℕ). IsNearRow g root w v node t.row.result) c.source-source.ensures.node t.row.ensures in
          rw (t.room-is, t.found-is) (record {
            room = length-set room found t.in-Some.row ∙ c.loop-n.invariant.room;
            few = omega (arith, c.loop-n.invariant.few);
            rows = λ rows has none.
                subst (λ (i : ℕ). take (found + 1) (set room found t.in-Some.row) ≡ near_first rows (i + 1)) node_is
                (some_found og s c.requires.node rows has room found node t.in-Some.row within node_within two
                (subst (λ (o : Option Row). IsNearRow g root w s node o) t.in-Some.is near)
                (subst (λ (i : ℕ). take found room ≡ near_first rows i) (sym node_is) (c.loop-n.invariant.rows rows has none)));
          })
      | then-ne+in_default t ↦
          let two : s ≢ node = λ same. differ_by node s c.ne.result c.ne.ensures t.if-ne.true (sym same) in
          let near : IsNearRow g root w s node t.row.result = subst (λ (v : ℕ). IsNearRow g root w v node t.row.result) c.source-source.ensures.node t.row.ensures in
          rw (t.room-is, t.found-is) (record {
            room = c.loop-n.invariant.room;
            few = omega (arith, c.loop-n.invariant.few);
            rows = λ rows has none.
                subst (λ (i : ℕ). take found room ≡ near_first rows (i + 1)) node_is
                (none_found og s c.requires.node rows has room found node node_within two
                (subst (λ (o : Option Row). IsNearRow g root w s node o) t.in_default.is near)
                (subst (λ (i : ℕ). take found room ≡ near_first rows i) (sym node_is) (c.loop-n.invariant.rows rows has none)));
          })
      | else-ne t ↦
          let same : node ≡ s = same_by node s c.ne.result c.ne.ensures t.if-ne.false in
          rw (t.room-is, t.found-is) (record {
            room = c.loop-n.invariant.room;
            few = omega (arith, c.loop-n.invariant.few);
            rows = λ rows has none. own_found s rows room found n (sym node_is ∙ same) none (c.loop-n.invariant.rows rows has none);
          })
    ]

pub returns-clause-rows : goal.returns-clause-rows
returns-clause-rows c = λ rows has none.
    let all : c.loop-n.n ≡ length c.args.rooted.now.graph.now.ids =
    omega (arith, c.loop-n-test.false, c.loop-n.auto.n-end, c.node_count-n-end.ensures.count) in
    subst (λ (i : ℕ). take c.loop-n.found c.loop-n.room ≡ near_first rows i) all (c.loop-n.invariant.rows rows has none)
