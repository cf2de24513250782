use Rattle.std.proofs.Common.{◌≡◌, ◌<◌, ◌≤◌, ◌+◌, ◌*◌, ◌∙◌, Bool, not, true, false, length, inl, inr, refl, sym, ap, arith}
use Rattle.std.specs.List.{slice_range}
use Rattle.std.proofs.lemmas.Bool.{cases_Bool}
use Rattle.std.proofs.lemmas.Grind.{get_or_default_zero}
use Rattle.std.proofs.lemmas.Option.{get_or_from_slice_get, slice_get_within}
use Rattle.block_spf.specs.BlockAims.{aim_at}
use Rattle.block_spf.proofs.SideBySide.{range_index, range_length, row_within}
use Rattle.mrt_rows.proofs.SharedAims.{one_shared}
use Rattle.mrt_rows.proofs.tiles.take_shared.Goals as goal
use Rattle.mrt_rows.proofs.tiles.take_shared.Goals.{else-wanted-k, else-wanted-k-2, then-wanted-k, then-wanted-k-2}

pub loop-k-init : goal.loop-k-init
loop-k-init c = record {
  one_each = refl;
  one_first_each = c.requires.one_first_each;
  a_mark_each = c.requires.a_mark_each;
  first = λ i below. absurd (omega (arith, below));
  alike = λ j i within below at. absurd (omega (arith, below));
  marked = λ i below at. absurd (omega (arith, below));
  ahead = λ i above. refl;
}

pub overflow_mul-of_block : goal.overflow_mul-of_block
overflow_mul-of_block c =
    let below : c.loop-k.k < length c.args.wanted.now = omega (arith, c.loop-k-test.true, c.loop-k.invariant.one_each) in
    omega (arith, row_within c.loop-k.k (length c.args.wanted.now) c.args.width (length c.args.aims.now) c.requires.room below)

pub overflow_mul-of_block-in-loop-k : goal.overflow_mul-of_block-in-loop-k
overflow_mul-of_block-in-loop-k c =
    let below : c.loop-k.k < length c.args.wanted.now = omega (arith, c.loop-k-test.true, c.loop-k.invariant.one_each) in
    omega (arith, row_within c.loop-k.k (length c.args.wanted.now) c.args.width (length c.args.aims.now) c.requires.room below)

pub overflow_add-of_block : goal.overflow_add-of_block
overflow_add-of_block c =
    let below : c.loop-k.k < length c.args.wanted.now = omega (arith, c.loop-k-test.true, c.loop-k.invariant.one_each) in
    omega (arith, row_within c.loop-k.k (length c.args.wanted.now) c.args.width (length c.args.aims.now) c.requires.room below)

pub slice_bounds-of_block-start : goal.slice_bounds-of_block-start
slice_bounds-of_block-start c =
    let below : c.loop-k.k < length c.args.wanted.now = omega (arith, c.loop-k-test.true, c.loop-k.invariant.one_each) in
    omega (arith, row_within c.loop-k.k (length c.args.wanted.now) c.args.width (length c.args.aims.now) c.requires.room below)

pub slice_bounds-of_block-end : goal.slice_bounds-of_block-end
slice_bounds-of_block-end c =
    let below : c.loop-k.k < length c.args.wanted.now = omega (arith, c.loop-k-test.true, c.loop-k.invariant.one_each) in
    omega (arith, row_within c.loop-k.k (length c.args.wanted.now) c.args.width (length c.args.aims.now) c.requires.room below)

pub loop-k-preserved : goal.loop-k-preserved
loop-k-preserved c =
    let aims = c.args.aims.now in
    let width = c.args.width in
    let k = c.loop-k.k in
    let first = c.index-of_block-0.result in
    let below : k < length c.args.wanted.now = omega (arith, c.loop-k-test.true, c.loop-k.invariant.one_each) in
    let room : k * width + width ≤ length aims = row_within k (length c.args.wanted.now) width (length aims) c.requires.room below in
    let row = slice_range aims (k * width) (k * width + width) in
    let long = range_length aims (k * width) width room in
    let zero_read = get_or_default_zero row 0 first (omega (arith, long, c.requires.some)) in
    let is : first ≡ aim_at aims width 0 k = c.index-of_block-0.is ∙ zero_read ∙ range_index aims (k * width) width 0 room c.requires.some in
    one_shared (length c.args.wanted.now) width aims c.args.wanted.now c.loop-k.wanted c.loop-k.firsts c.loop-k.shared k first c.if-wanted-k.is_shared
    c.if-wanted-k-2.wanted c.loop-k.invariant below is
    (λ taken j j_below. elim c.if-wanted-k.branch [
      | then-wanted-k t ↦
          sym (range_index aims (k * width) width j room j_below)
          ∙ t.are_one-is_shared.ensures (sym t.is_shared-is ∙ taken) j (omega (arith, long, j_below))
          ∙ sym (c.index-of_block-0.is ∙ zero_read)
      | else-wanted-k t ↦ let no : false ≡ true = sym t.if-wanted-k.false ∙ sym t.is_shared-is ∙ taken in (cc)
    ])
    (λ at. elim c.if-wanted-k-2.branch [
      | then-wanted-k-2 t ↦ elim (cases_Bool c.if-wanted-k.is_shared) [
        | inl taken ↦ inr taken
        | inr left ↦ inl (t.wanted-is ∙ ap (λ (b : Bool). not b) left)
      ]
      | else-wanted-k-2 t ↦ let no : false ≡ true = sym t.if-wanted-k-2.false ∙ get_or_from_slice_get c.loop-k.wanted k true false at in (cc)
    ])

pub returns : goal.returns
returns c =
    let all : length c.args.wanted.now ≤ c.loop-k.k = omega (arith, c.loop-k-test.false, c.loop-k.invariant.one_each) in
    record {
      first = λ i below. c.loop-k.invariant.first i (omega (arith, all, below));
      alike = λ j i within at. c.loop-k.invariant.alike j i within
          (omega (arith, all, slice_get_within c.loop-k.shared i true at, c.loop-k.invariant.a_mark_each)) at;
      marked = λ i at. c.loop-k.invariant.marked i (omega (arith, all, slice_get_within c.args.wanted.now i true at)) at;
    }

pub offset_bounds-aims-k : goal.offset_bounds-aims-k
offset_bounds-aims-k c =
    let below : c.loop-k.k < length c.args.wanted.now = omega (arith, c.loop-k-test.true, c.loop-k.invariant.one_each) in
    omega (arith, row_within c.loop-k.k (length c.args.wanted.now) c.args.width (length c.args.aims.now) c.requires.room below)

pub are_one-is_shared-requires : goal.are_one-is_shared-requires
are_one-is_shared-requires c =
    let below : c.loop-k.k < length c.args.wanted.now = omega (arith, c.loop-k-test.true, c.loop-k.invariant.one_each) in
    let room = row_within c.loop-k.k (length c.args.wanted.now) c.args.width (length c.args.aims.now) c.requires.room below in
    omega (arith, range_length c.args.aims.now (c.loop-k.k * c.args.width) c.args.width room, c.requires.some)
