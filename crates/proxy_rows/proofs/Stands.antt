-- What it tells where a node stands, and that it stands in one place.
use Rattle.std.specs.Bool.{Decides}
use Rattle.std.proofs.Common.{◌≡◌, ◌∙◌, ℕ, Bool, true, false, List, inl, inr, refl, sym, ap, subst}
use Rattle.std.proofs.lemmas.Bool.{false_from_ne_true}
use Rattle.std.proofs.lemmas.Bool.Decides.{not_from_Decides, same_from_decides}
use Rattle.mrt_graph.specs.declared.link.Link.{Link}
use Rattle.mrt_graph.specs.Certificate.{Certificate}
use Rattle.mrt_graph.specs.Topology.{Topology}
use Rattle.proxy_rows.specs.declared.attachment.Attachment.{Attachment}
use Rattle.proxy_rows.specs.declared.side.Side.TheVariants.{Low, High}
use Rattle.proxy_rows.specs.declared.standing.Standing.{Standing}
use Rattle.proxy_rows.specs.declared.standing.Standing.TheVariants as places
use Rattle.proxy_rows.specs.steps.LabelledGraph.{IsGround}
use Rattle.proxy_rows.specs.ProxyRows.{BelongsTo}
use Rattle.proxy_rows.specs.Sides.{IsIn, IsMember}
use Rattle.proxy_rows.specs.Standing.{IsStanding, standing_by}
use Rattle.proxy_rows.proofs.BlockRows.{low_not_high, side_member}
use Rattle.proxy_rows.proofs.Grounds.{head_no_member}

abbrev pub Tells : List Link → Certificate → Attachment → ℕ → Standing → Type 0
Tells links c at s places.Head = s ≡ at.head
Tells links c at s places.OnLow = IsIn links c at Low s
Tells links c at s places.OnHigh = IsIn links c at High s
Tells links c at s places.Other = IsMember c at s × (IsIn links c at Low s → ⊥) × (IsIn links c at High s → ⊥)
Tells links c at s places.Outside = BelongsTo c at s → ⊥

pub tells : (links : List Link) (c : Certificate) (at : Attachment) (s : ℕ) (p : Standing) → IsStanding links c at s p → Tells links c at s p
tells links c at s p is = subst (Tells links c at s) (sym is.standing_is) (go is.head is.low is.high is.member is.is_head is.is_low is.is_high is.is_member)
  where
    go : (head low high member : Bool) → Decides head (s ≡ at.head) → Decides low (IsIn links c at Low s) → Decides high (IsIn links c at High s)
        → Decides member (IsMember c at s) → Tells links c at s (standing_by head low high member)
    go true low high member a b c d = a.0 refl
    go false true high member a b c d = b.0 refl
    go false false true member a b c d = c.0 refl
    go false false false true a b c d = (d.0 refl, not_from_Decides false b refl, not_from_Decides false c refl)
    go false false false false a b c d =
        λ belongs. elim belongs [ inl is ↦ not_from_Decides false d refl is | inr same ↦ not_from_Decides false a refl same ]

pub one_standing : (links : List Link) (c : Certificate) (at : Attachment) (s : ℕ) (p q : Standing) → IsStanding links c at s p → IsStanding links c at s q
    → p ≡ q
one_standing links c at s p q one other =
    one.standing_is
    ∙ (λ i. standing_by (same_from_decides one.head other.head one.is_head other.is_head i) (same_from_decides one.low other.low one.is_low other.is_low i)
    (same_from_decides one.high other.high one.is_high other.is_high i) (same_from_decides one.member other.member one.is_member other.is_member i))
    ∙ sym other.standing_is

-- the head, and a node of a side
pub head_stands : (links : List Link) (c : Certificate) (at : Attachment) (s : ℕ) (p : Standing) → IsStanding links c at s p → s ≡ at.head → p ≡ places.Head
head_stands links c at s p is same = is.standing_is ∙ ap (λ (b : Bool). standing_by b is.low is.high is.member) (is.is_head.1 same)

module _ (g : Topology) (c : Certificate) (at : Attachment) (ground : IsGround g c at) (s : ℕ) (p : Standing) (is : IsStanding g.links c at s p) where
  no_head : IsMember c at s → is.head ≡ false
  no_head member = false_from_ne_true is.head (λ yes. head_no_member g c at ground (subst (IsMember c at) (is.is_head.0 yes) member))

  pub low_stands : IsIn g.links c at Low s → p ≡ places.OnLow
  low_stands low =
      is.standing_is ∙ ap (λ (b : Bool). standing_by b is.low is.high is.member) (no_head (side_member g c at ground Low s low))
      ∙ ap (λ (b : Bool). standing_by false b is.high is.member) (is.is_low.1 low)

  pub high_stands : IsIn g.links c at High s → p ≡ places.OnHigh
  high_stands high =
      is.standing_is ∙ ap (λ (b : Bool). standing_by b is.low is.high is.member) (no_head (side_member g c at ground High s high))
      ∙ ap (λ (b : Bool). standing_by false b is.high is.member) (false_from_ne_true is.low (λ yes. low_not_high g c at ground s (is.is_low.0 yes) high))
      ∙ ap (λ (b : Bool). standing_by false false b is.member) (is.is_high.1 high)
