use Rattle.std.proofs.Common.{◌≡◌, ◌+◌, ◌==◌, ◌++◌, ◌∙◌, ◌∷◌, [], ℕ, suc, List, length, sym, ap, arith}
use Rattle.std.specs.Prelude.{nat_lt}
use Rattle.std.specs.List.{filter}
use Rattle.std.proofs.lemmas.List.Sums.{count_by-le-length}
use Rattle.area_graph.specs.declared.area_types.Arc.{Arc}
use Rattle.area_graph.specs.steps.Starts.{below, starts_to}
use Rattle.area_graph.proofs.Slices.{are_starts}
use Rattle.primary_alt.proofs.ArcStarts.{starts_at_zero, starts_on}
use Rattle.primary_alt.proofs.arc_starts.arc_starts.Goals as goal

one_more : (n : ℕ) → suc n ≡ n + 1
one_more n = omega arith

pub loop-s-init : goal.loop-s-init
loop-s-init c = record {
  count = c.count-count.ensures.count;
  filled = c.push_reserved.ensures.items ∙ ap (λ (xs : List ℕ). xs ++ 0 ∷ []) c.in_ok-starts.ensures.items
      ∙ ap (λ (n : ℕ). n ∷ []) (sym (starts_at_zero c.args.area.now.arcs));
  many = omega (arith, c.push_reserved.ensures.len, c.in_ok-starts.ensures.len);
  room = omega (arith, c.push_reserved.ensures.capacity, c.in_ok-starts.ensures.capacity);
  at = sym (starts_at_zero c.args.area.now.arcs);
}

pub overflow_add-at : goal.overflow_add-at
overflow_add-at c =
    let arcs = c.args.area.now.arcs in
    let row : c.arcs.result.now ≡ filter (λ (arc : Arc). arc.tail == c.loop-s.s) arcs =
    c.arcs.ensures.value ∙ ap (λ (n : ℕ). filter (λ (arc : Arc). arc.tail == n) arcs) c.new.ensures in
    omega (
      arith,
      c.loop-s.invariant.at,
      ap (λ (xs : List Arc). length xs) row,
      starts_on c.loop-s.s arcs,
      count_by-le-length (λ (arc : Arc). nat_lt arc.tail (c.loop-s.s + 1)) arcs,
      c.count-count.ensures.kept.few_arcs,
    )

pub loop-s-preserved : goal.loop-s-preserved
loop-s-preserved c =
    let arcs = c.args.area.now.arcs in
    let row : c.arcs.result.now ≡ filter (λ (arc : Arc). arc.tail == c.loop-s.s) arcs =
    c.arcs.ensures.value ∙ ap (λ (n : ℕ). filter (λ (arc : Arc). arc.tail == n) arcs) c.new.ensures in
    let next : c.loop-s.at + length c.arcs.result.now ≡ below (c.loop-s.s + 1) arcs =
    omega (arith, c.loop-s.invariant.at, ap (λ (xs : List Arc). length xs) row, starts_on c.loop-s.s arcs) in
    record {
      count = c.loop-s.invariant.count;
      filled = c.push_reserved-in-loop-s.ensures.items
          ∙ ap (λ (at : ℕ). c.loop-s.starts.items ++ at ∷ []) next
          ∙ ap (λ (done : List ℕ). done ++ below (c.loop-s.s + 1) arcs ∷ []) c.loop-s.invariant.filled
          ∙ ap (λ (n : ℕ). starts_to n arcs) (one_more (c.loop-s.s + 1));
      many = omega (arith, c.push_reserved-in-loop-s.ensures.len, c.loop-s.invariant.many);
      room = omega (arith, c.loop-s.invariant.room, c.push_reserved-in-loop-s.ensures.capacity);
      at = next;
    }

pub returns : goal.returns
returns c =
    let all : c.loop-s.s + 1 ≡ length c.args.area.now.ids + 1 = omega (arith, c.loop-s-test.false, c.loop-s.auto.s-end, c.loop-s.invariant.count) in
    are_starts (length c.args.area.now.ids) c.args.area.now.arcs c.loop-s.starts.items
    (c.loop-s.invariant.filled ∙ ap (λ (n : ℕ). starts_to n c.args.area.now.arcs) all)
