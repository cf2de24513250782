use Rattle.std.proofs.Common.{◌<◌, ◌+◌, ◌∙◌, ◌∷◌, [], ℕ, List, get_or, length, sym, ap, subst, arith}
use Rattle.std.proofs.lemmas.List.{length-append}
use Rattle.primary_alt.specs.steps.ArcsInto.{IsStartInto}
use Rattle.primary_alt.proofs.RowsInto.{start_pushed}
use Rattle.primary_alt.proofs.arcs_into.starts_into.Goals as goal

pub loop-v-preserved : goal.loop-v-preserved
loop-v-preserved c = record {
  many = omega (arith, c.push_reserved.ensures.len, c.loop-v.invariant.many);
  held = ap length c.push_reserved.ensures.items ∙ length-append c.loop-v.starts.items (c.start_into.result ∷ []) ∙ omega (arith, c.loop-v.invariant.held);
  room = omega (arith, c.push_reserved.ensures.capacity, c.loop-v.invariant.room);
  starts = subst (λ (xs : List ℕ). (u : ℕ) → u < c.loop-v.v + 1 → IsStartInto c.args.arcs.now u (get_or xs u 0)) (sym c.push_reserved.ensures.items)
      (start_pushed c.args.arcs.now c.loop-v.starts.items c.loop-v.v c.start_into.result c.loop-v.invariant.held c.loop-v.invariant.starts c.start_into.ensures);
}
