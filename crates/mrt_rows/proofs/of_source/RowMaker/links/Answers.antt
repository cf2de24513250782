use Rattle.std.proofs.Common.{◌≡◌, ◌<◌, ◌≤◌, ◌+◌, ℕ, sym, subst, arith}
use Rattle.std.proofs.lemmas.Bool.{both_ways}
use Rattle.block_spf.specs.declared.reach.Dir.TheVariants.{Down, Up}
use Rattle.block_spf.specs.Fan.{IsOpen}
use Rattle.mrt_rows.specs.steps.ListedDirections.{directions_by}
use Rattle.mrt_rows.proofs.of_source.RowMaker.links.Goals as goal

among : (s first at places width : ℕ) → first ≡ at → places ≡ width → s < at + width → s < first + places
among s first at places width same wide below = omega arith

pub returns-then-not-is_open_from : goal.returns-then-not-is_open_from
returns-then-not-is_open_from c = record {
  up = λ shares. absurd (both_ways _ c.if-not-is_open_from.true (c.is_open_from.ensures.1 (c.requires.open.each c.args.t c.requires.target shares)));
  down = λ shares. absurd (both_ways _ c.if-not-is_open_from.true (c.is_open_from.ensures.1 (c.requires.open.each c.args.t c.requires.target shares)));
}

pub link-requires-clause-from : goal.link-requires-clause-from
link-requires-clause-from c = omega (arith, (c.is_open_from.ensures.0 c.if-not-is_open_from.false).0, c.new-first.ensures)

pub link-requires-clause-among : goal.link-requires-clause-among
link-requires-clause-among c =
    omega (arith, (c.is_open_from.ensures.0 c.if-not-is_open_from.false).1, c.new-first.ensures, c.requires.made.up.width)

pub link-requires-2-clause-from : goal.link-requires-2-clause-from
link-requires-2-clause-from c =
    subst (λ (first : ℕ). first ≤ c.args.s) (sym c.new-first.ensures) (c.is_open_from.ensures.0 c.if-not-is_open_from.false).0

pub link-requires-2-clause-among : goal.link-requires-2-clause-among
link-requires-2-clause-among c =
    among c.args.s _ _ _ _ c.new-first.ensures c.requires.made.down.width (c.is_open_from.ensures.0 c.if-not-is_open_from.false).1

pub returns : goal.returns
returns c =
    let g = c.args.rooted.now.graph.now in
    let w = directions_by c.args.rooted.now in
    let maker = c.args.self.now in
    record {
      up = λ shares.
          c.link.ensures w Up (subst (λ (first : ℕ). IsOpen g w Up first maker.up) (sym c.new-first.ensures) c.requires.made.up_open) c.requires.two;
      down = λ shares.
          c.link-2.ensures w Down (subst (λ (first : ℕ). IsOpen g w Down first maker.down) (sym c.new-first.ensures) c.requires.made.down_open)
          c.requires.two;
    }
