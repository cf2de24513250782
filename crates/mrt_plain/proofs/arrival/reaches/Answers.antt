use Rattle.std.proofs.Common.{true≢false, sym, ◌∙◌, List, ℕ, subst}
use Rattle.mrt_graph.specs.Walk.{Walk}
use Rattle.mrt_plain.proofs.Answering.{reaches_told}
use Rattle.mrt_plain.proofs.Avoiding.{agree, differ}
use Rattle.mrt_graph.proofs.Walks.{walk_end}
use Rattle.mrt_plain.proofs.arrival.reaches.Goals as goal

pub returns-then-ne : goal.returns-then-ne
returns-then-ne c = (
  (λ never. absurd (true≢false (sym never))),
  (λ reaches. absurd (differ c.in_ok-course.course.end c.args.t (sym c.ne.ensures ∙ c.if-ne.true)
      (walk_end c.args.links.now _ c.args.s _ _ c.in_ok-course.ensures.end
      (subst (λ (w : List ℕ). Walk c.args.links.now c.args.s w c.args.t) (sym c.in_ok-course.ensures.links) reaches.ends_at_t)))),
)

pub returns : goal.returns
returns c =
    reaches_told c.args.links.now _ _ c.args.color c.args.s c.args.t c.in_ok-course.course.links.items c.deref.result.now c.in_ok-course.course.end _
    c.in_ok-course.ensures.links (c.deref.ensures.value ∙ c.in_ok-course.ensures.nodes) c.in_ok-course.ensures.end
    (agree _ _ (sym c.ne.ensures ∙ c.if-ne.false)) c.are_different.ensures
