use Rattle.std.proofs.Common.{◌≡◌, ◌≤◌, ◌+◌, ◌∙◌, ℕ, List, Some, get_or, slice_get, inl, inr, sym, ap, subst, arith}
use Rattle.std.proofs.lemmas.Bool.{cases_lt, ltb-true, ltb-false}
use Rattle.std.proofs.lemmas.Option.{same_Some, slice_get-get_or}
use Rattle.mrt_graph.specs.declared.link.End.{End}
use Rattle.mrt_graph.specs.declared.tree.TreeNode.{TreeNode}
use Rattle.mrt_graph.specs.TreeFields.{search_number}
use Rattle.lowpoint_dfs.specs.steps.Finding.{LeadToFound}
use Rattle.lowpoint_dfs.proofs.finding.first_outside.Goals as goal

-- one end more that leads to a found node
passed : (nodes : List TreeNode) (ends : List End) (from place : ℕ) (end : End) → slice_get ends place ≡ Some end → LeadToFound nodes ends from place
    → 1 ≤ search_number nodes end.to → LeadToFound nodes ends from (place + 1)
passed nodes ends from place end at before found k other low high there = elim (cases_lt k place) [
  | inl early ↦ before k other low early there
  | inr last ↦
      let same : place ≡ k = omega (arith, high, last) in
      let is : end ≡ other = same_Some end other (sym at ∙ ap (λ (i : ℕ). slice_get ends i) same ∙ there) in
      subst (λ (e : End). 1 ≤ search_number nodes e.to) is found
]

pub loop-place-preserved : goal.loop-place-preserved
loop-place-preserved c =
    let end = get_or c.args.ends.now c.loop-place.place c.index-ends-place.result in
    let at = slice_get-get_or c.args.ends.now c.loop-place.place c.index-ends-place.result c.loop-place-test.true in
    passed c.args.nodes.now c.args.ends.now c.args.from c.loop-place.place end at c.loop-place.invariant
    (ltb-true 0 (search_number c.args.nodes.now end.to) (sym c.is_found.ensures ∙ c.if-not-is_found.false))

pub returns-then-not-is_found-clause-outside : goal.returns-then-not-is_found-clause-outside
returns-then-not-is_found-clause-outside c = λ other there.
    let end = get_or c.args.ends.now c.loop-place.place c.index-ends-place.result in
    let at = slice_get-get_or c.args.ends.now c.loop-place.place c.index-ends-place.result c.loop-place-test.true in
    let none = ltb-false 0 (search_number c.args.nodes.now end.to) (sym c.is_found.ensures ∙ c.if-not-is_found.true) in
    omega (arith, none, ap (λ (e : End). search_number c.args.nodes.now e.to) (same_Some end other (sym at ∙ there)))
