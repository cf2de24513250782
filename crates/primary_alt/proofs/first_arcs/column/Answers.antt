use Rattle.std.proofs.Common.{◌+◌, ◌∷◌, [], ◌∙◌, ℕ, List, Option, ap, length, sym, subst, arith}
use Rattle.std.specs.Prelude.{nat_lt}
use Rattle.std.proofs.lemmas.List.{length-append}
use Rattle.std.proofs.lemmas.List.Sums.{count_by-le-length}
use Rattle.area_graph.specs.declared.area_types.Arc.{Arc}
use Rattle.primary_alt.specs.steps.Attaining.{AreFirstToAttain}
use Rattle.primary_alt.proofs.FirstColumns.{AreFirstsTo, firsts_more}
use Rattle.primary_alt.proofs.first_arcs.column.Goals as goal

pub first_arc-requires-clause-within : goal.first_arc-requires-clause-within
first_arc-requires-clause-within c =
    let next = c.loop-x.x + 1 in
    omega (
      arith,
      c.requires.starts.lower next (omega (arith, c.loop-x-test.true)),
      count_by-le-length (λ (arc : Arc). nat_lt arc.tail next) c.args.arcs.now,
    )

pub loop-x-preserved : goal.loop-x-preserved
loop-x-preserved c = record {
  firsts = subst (λ (xs : List (Option ℕ)). AreFirstsTo c.args.arcs.now c.args.starts.now c.args.known.now xs (c.loop-x.x + 1)) (sym c.push_reserved.ensures.items)
      (firsts_more c.args.arcs.now c.args.starts.now c.args.known.now c.loop-x.firsts.items c.loop-x.x c.first_arc.result c.loop-x.invariant.held c.loop-x.invariant.firsts c.first_arc.ensures);
  many = omega (arith, c.push_reserved.ensures.len, c.loop-x.invariant.many);
  held = ap length c.push_reserved.ensures.items ∙ length-append c.loop-x.firsts.items (c.first_arc.result ∷ []) ∙ omega (arith, c.loop-x.invariant.held);
  room = omega (arith, c.push_reserved.ensures.capacity, c.loop-x.invariant.room);
}

pub push_reserved-requires : goal.push_reserved-requires
push_reserved-requires c = omega (arith, c.loop-x.invariant.many, c.loop-x.invariant.room, c.loop-x-test.true)

pub loop-x-init : goal.loop-x-init
loop-x-init c = record {
  firsts = λ x low. absurd (omega (arith, low));
  many = c.in_ok-firsts.ensures.len;
  held = ap length c.in_ok-firsts.ensures.items;
  room = c.in_ok-firsts.ensures.capacity;
}

pub returns : goal.returns
returns c =
    subst (λ (xs : List (Option ℕ)). AreFirstToAttain c.args.arcs.now c.args.starts.now c.args.known.now xs) (sym c.new.ensures)
    (record {
      one_each = omega (arith, c.loop-x.invariant.held, c.loop-x-test.false, c.loop-x.auto.x-end);
      each = λ x low. c.loop-x.invariant.firsts x (omega (arith, low, c.loop-x-test.false));
    })
