use Rattle.std.proofs.Common.{◌≡◌, ◌∙◌, ◌<◌, ℕ, length, slice_get, inl, inr, refl, sym, ap, subst, arith}
use Rattle.std.proofs.lemmas.Bool.{cases_eq}
use Rattle.std.proofs.lemmas.Option.{same_Some, slice_get_read, slice_get_within}
use Rattle.block_spf.specs.BlockAims.{aim_at}
use Rattle.mrt_rows.specs.Chain.{AreWayAims}
use Rattle.mrt_rows.specs.steps.ListedDirections.{directions_by}
use Rattle.mrt_rows.proofs.Rooting.{are_directions, has_directions}
use Rattle.mrt_rows.proofs.WayAims.{way_aims_too}
use Rattle.mrt_rows.proofs.column.put_ways.Goals as goal

pub put_heads-requires-clause-directed : goal.put_heads-requires-clause-directed
put_heads-requires-clause-directed c = has_directions c.requires.rooted

pub loop-at-init : goal.loop-at-init
loop-at-init c = record {
  room = refl;
  a_mark_each = c.fill.ensures.len ∙ c.requires.a_mark_each;
  done = λ i t below. absurd (omega (arith, below));
  ahead = λ i y low high y_within.
      (c.put_heads.ensures.heads c.args.rooted.now.root (directions_by c.args.rooted.now) (are_directions c.requires.rooted)).each i y high y_within;
}

pub put_way-requires-clause-to : goal.put_way-requires-clause-to
put_way-requires-clause-to c =
    c.requires.within c.loop-at.at c.index-targets-at.result (slice_get_read c.args.targets.now (length c.args.targets.now) c.loop-at.at
    c.index-targets-at.result refl c.loop-at-test.true c.index-targets-at.is)

pub put_way-requires-clause-room : goal.put_way-requires-clause-room
put_way-requires-clause-room c = c.loop-at.invariant.room ∙ c.put_heads.ensures.room ∙ c.requires.room

pub loop-at-preserved : goal.loop-at-preserved
loop-at-preserved c =
    let rooted = c.args.rooted.now in
    let g = rooted.graph.now in
    let w = directions_by rooted in
    let j = c.loop-at.at in
    let width = length c.args.targets.now in
    let after = c.put_way.new.aims in
    let marks = c.put_way.new.marks in
    let j_below : j < width = c.loop-at-test.true in
    record {
      room = c.put_way.ensures.room ∙ c.loop-at.invariant.room;
      a_mark_each = c.put_way.ensures.a_mark_each;
      done = λ i t below there. elim (cases_eq i j) [
        | inl same ↦
            let at_j = slice_get_read c.args.targets.now width j c.index-targets-at.result refl j_below c.index-targets-at.is in
            let is : c.index-targets-at.result ≡ t =
            same_Some c.index-targets-at.result t (sym at_j ∙ ap (λ (k : ℕ). slice_get c.args.targets.now k) (sym same) ∙ there) in
            subst (λ (k : ℕ). AreWayAims g rooted.root w t (aim_at after width k) marks) (sym same)
            (subst (λ (v : ℕ). AreWayAims g rooted.root w v (aim_at after width j) marks) is
            (c.put_way.ensures.way (λ y y_within. c.loop-at.invariant.ahead j y (omega arith) j_below y_within)))
        | inr other ↦
            way_aims_too g rooted.root w t (aim_at c.loop-at.aims width i) (aim_at after width i) c.loop-at.marks marks
            (λ k. c.put_way.ensures.others i k (omega (arith, below, j_below)) other) c.put_way.ensures.stay
            (c.loop-at.invariant.done i t (omega (arith, below, other)) there)
      ];
      ahead = λ i y low high y_within.
          c.put_way.ensures.others i (w.block y) high (λ same. omega (arith, low, same))
          ∙ c.loop-at.invariant.ahead i y (omega (arith, low)) high y_within;
    }

pub returns-clause-aims : goal.returns-clause-aims
returns-clause-aims c = record {
  each = λ j t there. c.loop-at.invariant.done j t (omega (arith, slice_get_within c.args.targets.now j t there, c.loop-at-test.false)) there;
}

pub offset_bounds-targets-at : goal.offset_bounds-targets-at
offset_bounds-targets-at c = omega (arith, c.loop-at-test.true)

pub bounds-targets-at : goal.bounds-targets-at
bounds-targets-at c = c.loop-at-test.true
