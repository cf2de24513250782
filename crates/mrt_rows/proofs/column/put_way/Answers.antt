use Rattle.std.proofs.Common.{◌≡◌, ◌∙◌, ◌<◌, ◌+◌, ◌*◌, ℕ, true, Some, length, set, slice_get, refl, sym, ap, subst, arith}
use Rattle.std.proofs.lemmas.List.{length-set}
use Rattle.block_spf.specs.BlockAims.{aim_at}
use Rattle.block_spf.proofs.SideBySide.{row_within}
use Rattle.mrt_rows.specs.steps.ListedDirections.{directions_by}
use Rattle.mrt_rows.proofs.NearFound.{differ_by, same_by}
use Rattle.mrt_rows.proofs.Rooting.{og_of}
use Rattle.mrt_rows.proofs.SoleRows.{none_of_more, sole_at}
use Rattle.mrt_rows.proofs.WayAims.{IsGone, aim_beside, aim_elsewhere, aim_there, all_gone, none_gone, one_gone}
use Rattle.mrt_rows.proofs.column.put_way.Goals as goal

pub loop-to-init : goal.loop-to-init
loop-to-init c = record {
  room = refl;
  a_mark_each = c.requires.a_mark_each;
  within = c.requires.to;
  gone = λ heads. none_gone c.args.rooted.now.graph.now c.args.rooted.now.root (directions_by c.args.rooted.now) c.args.to.node
      (aim_at c.args.aims.now c.args.width c.args.to.at) c.args.marks.now heads;
  others = λ i k below other. refl;
  stay = λ k at. at;
}

pub loop-to-smaller : goal.loop-to-smaller
loop-to-smaller c =
    let w = directions_by c.args.rooted.now in
    let at = c.loop-to.c in
    let other = differ_by at c.args.rooted.now.root c.ne.result c.ne.ensures c.loop-to-test.true in
    omega (arith, ap w.order c.place-place.ensures.head, c.requires.rooted.ordered.heads.lower at c.loop-to.invariant.within other)

pub overflow_mul-at : goal.overflow_mul-at
overflow_mul-at c =
    let g = c.args.rooted.now.graph.now in
    let block_within = c.requires.rooted.ordered.heads.block_within c.loop-to.c c.loop-to.invariant.within in
    let own_within : c.get.result < length g.ids = omega (arith, c.get.ensures.value, c.place-place.ensures.block, block_within) in
    omega (arith, row_within c.get.result (length g.ids) c.args.width (length c.loop-to.aims) (c.loop-to.invariant.room ∙ c.requires.room) own_within)

pub overflow_add-at : goal.overflow_add-at
overflow_add-at c =
    let g = c.args.rooted.now.graph.now in
    let block_within = c.requires.rooted.ordered.heads.block_within c.loop-to.c c.loop-to.invariant.within in
    let own_within : c.get.result < length g.ids = omega (arith, c.get.ensures.value, c.place-place.ensures.block, block_within) in
    omega (arith, row_within c.get.result (length g.ids) c.args.width (length c.loop-to.aims) (c.loop-to.invariant.room ∙ c.requires.room) own_within, c.requires.place)

pub offset_bounds-aims-at : goal.offset_bounds-aims-at
offset_bounds-aims-at c =
    let g = c.args.rooted.now.graph.now in
    let block_within = c.requires.rooted.ordered.heads.block_within c.loop-to.c c.loop-to.invariant.within in
    let own_within : c.get.result < length g.ids = omega (arith, c.get.ensures.value, c.place-place.ensures.block, block_within) in
    omega (arith, row_within c.get.result (length g.ids) c.args.width (length c.loop-to.aims) (c.loop-to.invariant.room ∙ c.requires.room) own_within, c.requires.place)

pub bounds-aims-at : goal.bounds-aims-at
bounds-aims-at c =
    let g = c.args.rooted.now.graph.now in
    let aims = c.loop-to.aims in
    let block_within = c.requires.rooted.ordered.heads.block_within c.loop-to.c c.loop-to.invariant.within in
    let own_within : c.get.result < length g.ids = omega (arith, c.get.ensures.value, c.place-place.ensures.block, block_within) in
    omega (
      arith,
      row_within c.get.result (length g.ids) c.args.width (length aims) (c.loop-to.invariant.room ∙ c.requires.room) own_within,
      c.requires.place,
    )

pub mark-requires : goal.mark-requires
mark-requires c =
    omega (
      arith,
      c.place-place.ensures.block,
      c.requires.rooted.ordered.heads.block_within c.loop-to.c c.loop-to.invariant.within,
      c.loop-to.invariant.a_mark_each,
    )

pub loop-to-preserved : goal.loop-to-preserved
loop-to-preserved c =
    let rooted = c.args.rooted.now in
    let g = rooted.graph.now in
    let w = directions_by rooted in
    let at = c.loop-to.c in
    let aims = c.loop-to.aims in
    let j = c.args.to.at in
    let width = c.args.width in
    let within = c.loop-to.invariant.within in
    let heads = c.requires.rooted.ordered.heads in
    let j_below : j < width = omega (arith, c.requires.place) in
    let long : length aims ≡ length g.ids * width = c.loop-to.invariant.room ∙ c.requires.room in
    let block_is : c.get.result ≡ w.block at = c.get.ensures.value ∙ c.place-place.ensures.block in
    let block_within = heads.block_within at within in
    let own_within : c.get.result < length g.ids = omega (arith, block_is, block_within) in
    let own_room : c.get.result * width + j < length aims =
    omega (arith, row_within c.get.result (length g.ids) width (length aims) long own_within, j_below) in
    record {
      room = length-set aims (c.get.result * width + j) at ∙ c.loop-to.invariant.room;
      a_mark_each = c.mark.ensures.one_each ∙ c.loop-to.invariant.a_mark_each;
      within = subst (λ (v : ℕ). v < length g.ids) (sym c.place-place.ensures.head) (heads.head_within at within);
      gone = λ home.
          let other = differ_by at rooted.root c.ne.result c.ne.ensures c.loop-to-test.true in
          let room : w.block at * width + j < length aims = subst (λ (b : ℕ). b * width + j < length aims) block_is own_room in
          let sole = sole_at g w c.args.soles.now c.get-in-loop-to.result at c.index-soles-get.result c.requires.soles c.get-in-loop-to.ensures.value within c.index-soles-get.is in
          subst (λ (v : ℕ). IsGone g rooted.root w c.args.to.node v (aim_at (set aims (c.get.result * width + j) at) width j) c.mark.new.marks)
          (sym c.place-place.ensures.head)
          (subst (λ (b : ℕ). IsGone g rooted.root w c.args.to.node (w.head at) (aim_at (set aims (b * width + j) at) width j) c.mark.new.marks) (sym block_is)
          (one_gone (og_of c.requires.rooted) c.args.to.node at c.requires.to (aim_at aims width j) c.loop-to.marks (c.loop-to.invariant.gone home) within other
          (aim_at (set aims (w.block at * width + j) at) width j) (aim_there aims width (w.block at) j at j_below room)
          (λ k apart. aim_elsewhere aims width (w.block at) j at j_below room k apart) c.mark.new.marks
          (λ more. subst (λ (b : ℕ). slice_get c.mark.new.marks b ≡ Some true) c.place-place.ensures.block
          (c.mark.ensures.marked (none_of_more g w at c.index-soles-get.result sole more)))
          c.mark.ensures.stay));
      others = λ i k below other. aim_beside aims width c.get.result j at j_below own_room i k below other ∙ c.loop-to.invariant.others i k below other;
      stay = λ k is. c.mark.ensures.stay k (c.loop-to.invariant.stay k is);
    }

pub returns-clause-way : goal.returns-clause-way
returns-clause-way c = λ heads.
    all_gone (og_of c.requires.rooted) c.args.to.node c.loop-to.c c.requires.to (aim_at c.loop-to.aims c.args.width c.args.to.at) c.loop-to.marks
    (c.loop-to.invariant.gone heads) (same_by c.loop-to.c c.args.rooted.now.root c.ne.result c.ne.ensures c.loop-to-test.false)
