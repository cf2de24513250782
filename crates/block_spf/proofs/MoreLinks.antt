-- Blocks of more than one link, and the nodes that lie in them.
use Rattle.std.proofs.Common.{◌≡◌, ◌≢◌, ◌⊎◌, ◌<◌, ◌∙◌, ℕ, List, [], ◌∷◌, Some, length, inl, inr, refl, sym, subst}
use Rattle.mrt_graph.specs.declared.cert.Role.TheVariants.{Sole}
use Rattle.mrt_graph.specs.declared.link.End.{End}
use Rattle.mrt_graph.specs.Leads.{leads}
use Rattle.mrt_graph.specs.Topology.{Topology}
use Rattle.link_direction.specs.CommonBlock.{HaveCommonBlock, Peers, ToHead, FromHead}
use Rattle.link_direction.specs.Directions.{Directions}
use Rattle.block_spf.specs.declared.reach.Dir.{Dir}
use Rattle.block_spf.specs.LeastPath.{HasMoreLinks, HaveCommonBlockOfMoreLinks}
use Rattle.block_spf.specs.Path.{IsStep, Path}
use Rattle.link_direction.proofs.ClosedBlocks.{IsClosed, IsOrdered, closed_of_link, head_of_member, inside_of_link}
use Rattle.link_direction.proofs.LinkNodes.{link_within}

-- s and v lie in block k, which has a closing link and whose head is h: each is one of its nodes, or the head
pub record AreIn (g : Topology) (root : ℕ) (w : Directions) (s k h v : ℕ) : Type 0 where
  pub closed : IsClosed g root w k h
  pub source : (w.block s ≡ k) ⊎ (s ≡ h)
  pub source_within : s < length g.ids
  pub target : (w.block v ≡ k) ⊎ (v ≡ h)
  pub target_within : v < length g.ids

-- a block with a closing link has more than one link
pub more_links : (g : Topology) (root : ℕ) (w : Directions) (k h : ℕ) → IsOrdered g root w → IsClosed g root w k h → HasMoreLinks g w k
more_links g root w k h is closed = record {
  one = closed.closing.link;
  other = closed.closing.another;
  one_within = link_within g closed.closing.link closed.closing.greatest (w.head closed.m) is.kept closed.closing.over.leads_on;
  other_within = closed.closing.another_within;
  one_in_block = closed.closing.over.in_block ∙ closed.in_block;
  other_in_block = closed.closing.another_in_block ∙ closed.in_block;
  differ = λ same. closed.closing.another_link (sym same);
}

-- two nodes that lie in it share it
pub share_it : (g : Topology) (root : ℕ) (w : Directions) (s k h t : ℕ) → IsOrdered g root w → AreIn g root w s k h t → s ≢ t → HaveCommonBlockOfMoreLinks g w s t k h
share_it g root w s k h t is are two = record { two = two; common = common; more = more_links g root w k h is are.closed }
  where
    common : HaveCommonBlock w s t k h
    common = elim are.source [
      | inl s_inside ↦ elim are.target [
        | inl t_inside ↦ Peers s_inside t_inside (head_of_member g root w k h s is are.closed are.source_within s_inside)
        | inr t_head ↦ ToHead s_inside (head_of_member g root w k h s is are.closed are.source_within s_inside ∙ sym t_head) t_head
      ]
      | inr s_head ↦ elim are.target [
        | inl t_inside ↦ FromHead t_inside (head_of_member g root w k h t is are.closed are.target_within t_inside ∙ sym s_head) s_head
        | inr t_head ↦ absurd (two (s_head ∙ sym t_head))
      ]
    ]

-- a block of more than one link has a closing link
pub closed_of_more : (g : Topology) (root : ℕ) (w : Directions) (k : ℕ) → IsOrdered g root w → HasMoreLinks g w k → (h : ℕ) × IsClosed g root w k h
closed_of_more g root w k is more =
    let to = is.ordered.links.directed more.one more.one_within in
    let it = inside_of_link g root w more.one (w.tail more.one) to.0 is to.1 in
    let member : w.block it.m ≡ k = it.in_block ∙ more.one_in_block in
    elim (is.ordered.blocks it.m it.within it.not_root) [
      | inl one ↦
          absurd (more.differ (one.no_other_link more.one more.one_within (more.one_in_block ∙ sym member)
          ∙ sym (one.no_other_link more.other more.other_within (more.other_in_block ∙ sym member))))
      | inr closing ↦ (w.head it.m, record { m = it.m; within = it.within; not_root = it.not_root; in_block = member; has_head = refl; closing = closing })
    ]

-- so has the block of a link that is not sole; and no link of a block of more is
pub has_more : (g : Topology) (root : ℕ) (w : Directions) (e u v : ℕ) → IsOrdered g root w → leads g.links e u ≡ Some v → w.role e ≢ Sole → HasMoreLinks g w (w.lies_in e)
has_more g root w e u v is onward not_sole = let closed = closed_of_link g root w e u v is onward not_sole in more_links g root w (w.lies_in e) closed.0 is closed.1

pub more_not_sole : (g : Topology) (root : ℕ) (w : Directions) (e : ℕ) → IsOrdered g root w → HasMoreLinks g w (w.lies_in e) → e < length g.links → w.role e ≢ Sole
more_not_sole g root w e is more within =
    let closed = closed_of_more g root w (w.lies_in e) is more in closed.1.closing.none_sole e within (sym closed.1.in_block)

-- two nodes that share a block lie in it
pub are_in : (g : Topology) (root : ℕ) (w : Directions) (s k h t : ℕ) → IsOrdered g root w → s < length g.ids → t < length g.ids → HaveCommonBlockOfMoreLinks g w s t k h
    → AreIn g root w s k h t
are_in g root w s k h t is s_within t_within share =
    let closed = closed_of_more g root w k is share.more in go closed.0 closed.1 share.common
  where
    named : (top : ℕ) → IsClosed g root w k top → top ≡ h → IsClosed g root w k h
    named top closed same = subst (λ (y : ℕ). IsClosed g root w k y) same closed

    go : (top : ℕ) → IsClosed g root w k top → HaveCommonBlock w s t k h → AreIn g root w s k h t
    go top closed (Peers at_s at_t head) = record {
      closed = named top closed (sym (head_of_member g root w k top s is closed s_within at_s) ∙ head);
      source = inl at_s;
      source_within = s_within;
      target = inl at_t;
      target_within = t_within;
    }
    go top closed (ToHead at_s head is_head) = record {
      closed = named top closed (sym (head_of_member g root w k top s is closed s_within at_s) ∙ head ∙ is_head);
      source = inl at_s;
      source_within = s_within;
      target = inr is_head;
      target_within = t_within;
    }
    go top closed (FromHead at_t head is_head) = record {
      closed = named top closed (sym (head_of_member g root w k top t is closed t_within at_t) ∙ head ∙ is_head);
      source = inr is_head;
      source_within = s_within;
      target = inl at_t;
      target_within = t_within;
    }

-- a path begins with a step
pub first_step : (g : Topology) (w : Directions) (dir : Dir) (k h s t : ℕ) (end : End) (others : List End) → Path g w dir k h s (end ∷ others) t → IsStep g w dir k s end
first_step g w dir k h s t end [] path = path.0
first_step g w dir k h s t end (next ∷ more) path = path.0
