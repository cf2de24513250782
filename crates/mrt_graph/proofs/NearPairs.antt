-- The claim on each two related nodes.
use Rattle.std.proofs.Common.{◌≡◌, ◌≢◌, ◌⊎◌, refl, subst, inl, inr}
use Rattle.mrt_graph.specs.declared.cert.Tag.{Tag}
use Rattle.mrt_graph.specs.declared.cert.Tag.TheVariants as tags
use Rattle.mrt_graph.proofs.Blocks.{Words, Blocks}
use Rattle.mrt_graph.proofs.Claims.{NearClaim}
use Rattle.mrt_graph.proofs.InBlock.{paired}
use Rattle.mrt_graph.proofs.Lone.{lone_near}
use Rattle.mrt_graph.proofs.RelatedPairs.{mixed_near}
use Rattle.mrt_graph.proofs.RowFacts.{Says, SoleRow, Rows}

-- a tag is Sole, or it is not
pub sole_or_not : (T : Tag) → (T ≡ tags.Sole) ⊎ (T ≢ tags.Sole)
sole_or_not tags.Sole = inl refl
sole_or_not _ = inr (λ same. cc)

-- what the rules say makes the claim
pub near_claim : (w : Words) → Blocks w → Rows w → NearClaim w
near_claim w b r s t s_within t_within differ related =
    let pair = paired w b s t s_within t_within differ related in
    let row = r.near s t s_within t_within differ related in
    elim (sole_or_not (w.tag s t)) [
      | inl sole ↦
          let says : SoleRow w s t row.blue row.red = subst (λ T. Says w T s t row.blue row.red) sole row.says in
          lone_near w b r s t differ s_within t_within row says
      | inr other ↦ mixed_near w b r pair.m t pair.member pair.target s pair.source differ other
    ]
