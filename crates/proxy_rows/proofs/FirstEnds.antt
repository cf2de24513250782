-- The first end of a node that has what is asked for.
use Rattle.std.proofs.Common.{◌≡◌, ◌<◌, ◌≤◌, ◌+◌, ◌∙◌, ℕ, List, Some, length, slice_get, inl, inr, sym, subst, arith}
use Rattle.std.proofs.lemmas.Bool.{cases_lt}
use Rattle.std.proofs.lemmas.Option.{same_Some, slice_get_within}
use Rattle.mrt_graph.specs.declared.link.End.{End}
use Rattle.mrt_graph.specs.Certificate.{Certificate}
use Rattle.mrt_graph.specs.GraphInvariant.{IsEnd}
use Rattle.mrt_graph.specs.Topology.{Topology}
use Rattle.mrt_graph.proofs.ListTests.{all_at}
use Rattle.proxy_rows.specs.declared.attachment.Attachment.{Attachment}
use Rattle.proxy_rows.specs.steps.Steps.{HasNoEnd, NoneBefore}
use Rattle.proxy_rows.specs.steps.LabelledGraph.{IsGround}
use Rattle.proxy_rows.proofs.Grounds.{counts}

-- one end more that does not have it
pub none_more : (Asked : End → Type 0) (ends : List End) (place : ℕ) (end : End) → slice_get ends place ≡ Some end → (Asked end → ⊥)
    → NoneBefore Asked ends place → NoneBefore Asked ends (place + 1)
none_more Asked ends place end at_place not_asked before k other less at_k = elim (cases_lt k place) [
  | inl early ↦ before k other early at_k
  | inr late ↦
      let last : k ≡ place = omega (arith, late, less) in
      let same : end ≡ other = same_Some _ _ (sym at_place ∙ subst (λ (i : ℕ). slice_get ends i ≡ Some other) last at_k) in
      λ asked. not_asked (subst Asked (sym same) asked)
]

-- where none of its ends has it, the node has no such end
pub none_at_all : (g : Topology) (Asked : End → Type 0) (v place : ℕ) (ends : List End) → slice_get g.ends v ≡ Some ends → length ends ≤ place → NoneBefore Asked ends place
    → HasNoEnd g Asked v
none_at_all g Asked v place ends list all before others k end list' at_k =
    let same : others ≡ ends = same_Some _ _ (sym list' ∙ list) in
    let here : slice_get ends k ≡ Some end = subst (λ (es : List End). slice_get es k ≡ Some end) same at_k in
    before k end (omega (arith, slice_get_within ends k end here, all)) here

-- an end is over a link of the certificate, to a node of it
pub end_within : (g : Topology) (c : Certificate) (at : Attachment) → IsGround g c at → (v k : ℕ) (ends : List End) (end : End) → slice_get g.ends v ≡ Some ends
    → slice_get ends k ≡ Some end → (end.link < length c.links) × (end.to < length c.nodes)
end_within g c at ground v k ends end list at_k =
    let same = counts g c at ground in
    let kept : IsEnd (length g.ids) g.links v end = all_at (IsEnd (length g.ids) g.links v) ends k end (ground.kept.ends_kept v ends list).kept at_k in
    (omega (arith, kept.link, same.links), omega (arith, kept.to, same.nodes))
