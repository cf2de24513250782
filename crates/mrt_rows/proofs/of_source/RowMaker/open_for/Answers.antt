use Rattle.std.proofs.Common.{◌∙◌, ℕ, List, sym, subst, arith}
use Rattle.std.proofs.Math.Nat.{mod-lt}
use Rattle.block_spf.specs.declared.reach.Dir.TheVariants.{Down, Up}
use Rattle.block_spf.specs.Fan.{IsOpen}
use Rattle.block_spf.specs.Turns.{AreTurns}
use Rattle.mrt_rows.specs.steps.ListedDirections.{directions_by}
use Rattle.mrt_rows.proofs.Rooting.{are_directions, has_directions, turns_too}
use Rattle.mrt_rows.proofs.of_source.RowMaker.open_for.Goals.{then-is_open_from-via-then-is_open_from, then-is_open_from-via-else-is_open_from+then-not-is_among_more}
use Rattle.mrt_rows.proofs.of_source.RowMaker.open_for.Goals as goal

pub open-requires-clause-directed : goal.open-requires-clause-directed
open-requires-clause-directed c = has_directions c.requires.rooted

pub open-requires-clause-turns : goal.open-requires-clause-turns
open-requires-clause-turns c = λ from w are.
    subst (λ (turns : List ℕ). AreTurns c.args.rooted.now.graph.now w Up turns) (sym c.deref.ensures.value)
    (turns_too c.requires.rooted w are.says Up c.args.self.now.common.by_order.items c.requires.made.common.by_order)

pub open-requires-clause-first : goal.open-requires-clause-first
open-requires-clause-first c = omega (arith, c.new-at.ensures, c.get.ensures.value, c.requires.node)

pub open-requires-2-clause-directed : goal.open-requires-2-clause-directed
open-requires-2-clause-directed c = has_directions c.requires.rooted

pub open-requires-2-clause-turns : goal.open-requires-2-clause-turns
open-requires-2-clause-turns c = λ from w are.
    subst (λ (turns : List ℕ). AreTurns c.args.rooted.now.graph.now w Down turns) (sym c.deref-2.ensures.value)
    (turns_too c.requires.rooted w are.says Down c.args.self.now.common.against_order.items c.requires.made.common.against_order)

pub open-requires-2-clause-first : goal.open-requires-2-clause-first
open-requires-2-clause-first c = omega (arith, c.new-at.ensures, c.get.ensures.value, c.requires.node)

pub returns-clause-made : goal.returns-clause-made
returns-clause-made c =
    let rooted = c.args.rooted.now in
    let g = rooted.graph.now in
    let w = directions_by rooted in
    let made = c.requires.made in
    let are = are_directions c.requires.rooted in
    record {
      common = made.common;
      some = made.some;
      up = record { nodes = c.open.ensures.nodes ∙ made.up.nodes; width = c.open.ensures.width ∙ made.up.width };
      down = record { nodes = c.open-2.ensures.nodes ∙ made.down.nodes; width = c.open-2.ensures.width ∙ made.down.width };
      up_open = subst (λ (first : ℕ). IsOpen g w Up first c.open.new.self) c.new-at.ensures (c.open.ensures.open rooted.root w are);
      down_open = subst (λ (first : ℕ). IsOpen g w Down first c.open-2.new.self) c.new-at.ensures (c.open-2.ensures.open rooted.root w are);
    }

pub returns-clause-open : goal.returns-clause-open
returns-clause-open c =
    let below = mod-lt c.get-2.result {m = c.args.self.now.width} c.requires.made.some in
    record {
      each = λ t within shares. (
        omega (arith, c.get.ensures.value, c.get-2.ensures.value),
        omega (arith, below, c.get.ensures.value, c.get-2.ensures.value),
      );
    }

pub returns-then-is_open_from-clause-open : goal.returns-then-is_open_from-clause-open
returns-then-is_open_from-clause-open c = elim c.then-is_open_from.branch [
  | then-is_open_from-via-then-is_open_from b ↦ record { each = λ t within shares. c.is_open_from.ensures.0 b.if-is_open_from.true }
  | then-is_open_from-via-else-is_open_from+then-not-is_among_more b ↦
      record { each = λ t within shares. absurd (b.is_among_more.ensures b.if-not-is_among_more.true t within shares) }
]
