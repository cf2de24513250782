-- Of two related nodes, a walk goes round each third one: the two colors share no node but the ends.
use Rattle.std.proofs.Common.{◌≢◌, ◌⊎◌, ◌∙◌, ◌<◌, ℕ, List, [], ◌∷◌, sym, subst, inl, inr}
use Rattle.std.proofs.lemmas.Bool.{cases_eq}
use Rattle.mrt_graph.specs.declared.cert.Tag.TheVariants as tags
use Rattle.mrt_graph.specs.declared.link.Element.TheVariants as elements
use Rattle.mrt_graph.proofs.Blocks.{Words, Member, At, Blocks, Related}
use Rattle.mrt_graph.proofs.Hops.{Round, follows_trail}
use Rattle.mrt_graph.proofs.InBlock.{paired}
use Rattle.mrt_graph.proofs.Members.{Has}
use Rattle.mrt_graph.proofs.NearPairs.{sole_or_not}
use Rattle.mrt_graph.proofs.RelatedPairs.{mixed_passage}
use Rattle.mrt_graph.proofs.RowFacts.{Says, SoleRow, Rows}
use Rattle.mrt_graph.proofs.Trails.{nodes_on}

pub has_or_not : (xs : List ℕ) (x : ℕ) → Has xs x ⊎ (Has xs x → ⊥)
has_or_not [] x = inr (λ h. h)
has_or_not (y ∷ ys) x = elim (cases_eq y x) [
  | inl same ↦ inl (inl same)
  | inr other ↦ elim (has_or_not ys x) [
    | inl later ↦ inl (inr later)
    | inr never ↦ inr (λ h. elim h [ inl same ↦ other same | inr later ↦ never later ])
  ]
]

-- where the row is not Sole, one of the two ways goes round a third node
mixed_round : (w : Words) (b : Blocks w) (r : Rows w) (m t : ℕ) (member : Member w m) (target : At w m t) (s : ℕ) → At w m s → s ≢ t → w.tag s t ≢ tags.Sole
    → (x : ℕ) → x ≢ s → x ≢ t → Round w.links x s t
mixed_round w b r m t member target s source differ not_sole x not_s not_t =
    let both = mixed_passage w b r m t member target s source differ not_sole in
    elim (has_or_not (nodes_on s both.blue.hops) x) [
      | inr without ↦ record { hops = both.blue.hops; trail = follows_trail w.links (w.blue t) (r.blue_leads t) t s both.blue.hops both.blue.follows; without = without }
      | inl on_blue ↦ elim (has_or_not (nodes_on s both.red.hops) x) [
        | inr without ↦ record { hops = both.red.hops; trail = follows_trail w.links (w.red t) (r.red_leads t) t s both.red.hops both.red.follows; without = without }
        | inl on_red ↦ absurd (both.apart (elements.Node x) (not_s, not_t) on_blue on_red)
      ]
    ]

-- from a node to a related one a walk goes round a third
pub near_round : (w : Words) → Blocks w → Rows w → (s t x : ℕ) → s < w.count → t < w.count → s ≢ t → Related w s t
    → x ≢ s → x ≢ t → Round w.links x s t
near_round w b r s t x s_within t_within differ related not_s not_t =
    let pair = paired w b s t s_within t_within differ related in
    let row = r.near s t s_within t_within differ related in
    elim (sole_or_not (w.tag s t)) [
      | inl sole ↦
          let says : SoleRow w s t row.blue row.red = subst (λ T. Says w T s t row.blue row.red) sole row.says in
          record {
            hops = row.blue ∷ [];
            trail = (r.blue_leads t s row.blue row.blue_is, says.there);
            without = λ h. elim h [
              | inl same ↦ not_s (sym same)
              | inr later ↦ elim later [ inl same ↦ not_t (sym same ∙ says.there) | inr none ↦ none ]
            ];
          }
      | inr other ↦ mixed_round w b r pair.m t pair.member pair.target s pair.source differ other x not_s not_t
    ]
