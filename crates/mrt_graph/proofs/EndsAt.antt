-- The links of a node and its ends: one end for each link that touches it.
use Rattle.std.proofs.Common.{◌≡◌, ◌<◌, ◌==◌, ◌∙◌, ℕ, List, Some, length, slice_get, sym, subst, arith}
use Rattle.std.proofs.lemmas.Bool.{eqb-true}
use Rattle.mrt_graph.specs.declared.link.End.{End}
use Rattle.mrt_graph.specs.GraphInvariant.{IsEnd, IsTopology}
use Rattle.mrt_graph.specs.Leads.{leads}
use Rattle.mrt_graph.specs.Topology.{Topology}
use Rattle.mrt_graph.proofs.ListTests.{all_at, there}
use Rattle.mrt_graph.proofs.Tallies.{IsFound, counted_at}

-- an end at a place of node n's list leads where its link does
pub end_leads : (g : Topology) (n k : ℕ) (ends : List End) (end : End) → IsTopology g → slice_get g.ends n ≡ Some ends
    → slice_get ends k ≡ Some end → leads g.links end.link n ≡ Some end.to
end_leads g n k ends end kept list at =
    (all_at (IsEnd (length g.ids) g.links n) ends k end (kept.ends_kept n ends list).kept at).leads_on

-- an end of a list that is on a link and leads to a node
pub record IsEndOver (ends : List End) (e v : ℕ) : Type 0 where
  pub place : ℕ
  pub end : End
  pub at : slice_get ends place ≡ Some end
  pub over : end.link ≡ e
  pub to : end.to ≡ v

same_some : (a b : ℕ) → Some a ≡ Some b → a ≡ b
same_some a b same = cc

-- a link that leads from node n to v has an end in n's list
pub leads_end : (g : Topology) (n e v : ℕ) (ends : List End) → IsTopology g → slice_get g.ends n ≡ Some ends
    → leads g.links e n ≡ Some v → IsEndOver ends e v
leads_end g n e v ends kept list touches =
    let are = kept.ends_kept n ends list in
    let found : IsFound (λ end. end.link == e) ends = counted_at (λ end. end.link == e) ends (omega (arith, are.one_each e v touches)) in
    let over : found.item.link ≡ e = eqb-true found.item.link e found.passes in
    let onward : leads g.links e n ≡ Some found.item.to =
    subst (λ (link : ℕ). leads g.links link n ≡ Some found.item.to) over (end_leads g n found.place ends found.item kept list found.there) in
    record { place = found.place; end = found.item; at = found.there; over = over; to = same_some found.item.to v (sym onward ∙ touches) }

-- each node of a graph has a list of ends
pub list_of_ends : (g : Topology) (n : ℕ) → IsTopology g → n < length g.ids → (ends : List End) × (slice_get g.ends n ≡ Some ends)
list_of_ends g n kept within = there g.ends n (omega (arith, within, kept.a_list_each))
