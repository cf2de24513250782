use Rattle.std.proofs.Common.{◌≡◌, ◌+◌, ◌++◌, ◌∙◌, ◌∷◌, [], ℕ, suc, List, ap, arith}
use Rattle.area_graph.specs.steps.Starts.{below, starts_to}
use Rattle.area_graph.proofs.Slices.{are_starts, fewer_below}
use Rattle.area_graph.proofs.starts.starts.Goals as goal

one_more : (n : ℕ) → suc n ≡ n + 1
one_more n = omega arith

pub loop-s-preserved : goal.loop-s-preserved
loop-s-preserved c = record {
  filled = c.push_reserved.ensures.items
      ∙ ap (λ (at : ℕ). c.loop-s.starts.items ++ at ∷ []) c.first_from-at.ensures
      ∙ ap (λ (done : List ℕ). done ++ below c.loop-s.s c.args.arcs.now ∷ []) c.loop-s.invariant.filled
      ∙ ap (λ (n : ℕ). starts_to n c.args.arcs.now) (one_more c.loop-s.s);
  many = c.push_reserved.ensures.len ∙ omega (arith, c.loop-s.invariant.many);
  room = omega (arith, c.loop-s.invariant.room, c.push_reserved.ensures.capacity);
  at = omega (arith, c.first_from-at.ensures, fewer_below c.loop-s.s c.args.arcs.now);
}

pub returns-clause-starts : goal.returns-clause-starts
returns-clause-starts c =
    let all : c.loop-s.s ≡ c.args.count + 1 = omega (arith, c.loop-s-test.false, c.loop-s.auto.s-end) in
    are_starts c.args.count c.args.arcs.now c.loop-s.starts.items (c.loop-s.invariant.filled ∙ ap (λ (n : ℕ). starts_to n c.args.arcs.now) all)
