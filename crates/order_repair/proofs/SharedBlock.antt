-- The block of more than one link that two nodes have in common.
use Rattle.std.proofs.Common.{◌≡◌, ◌≢◌, ◌∙◌, ◌<◌, ℕ, length, sym, subst}
use Rattle.link_direction.specs.CommonBlock.{FromHead, HaveCommonBlock, Peers, ToHead}
use Rattle.block_spf.specs.LeastPath.{HasMoreLinks, HaveCommonBlockOfMoreLinks}
use Rattle.mrt_rows.proofs.LinesHold.{has_head}
use Rattle.mrt_rows.proofs.OrderedGraphs.{OrderedGraph, not_root_of_peers}
use Rattle.mrt_rows.proofs.Ways.{Ring}
use Rattle.mrt_rows.proofs.WaysBegun.{Sharing, ring_of}
use Rattle.order_repair.specs.Failed.{IsNodeOf}

-- it is that of a node m
pub record SharedRing (og : OrderedGraph) (s t k h : ℕ) : Type 0 where
  pub m : ℕ
  pub ring : Ring og m
  pub sharing : Sharing og m s t
  pub block : k ≡ og.w.block m
  pub head : h ≡ og.w.head m

pub shared_ring : (og : OrderedGraph) (s t k h : ℕ) → s < length og.g.ids → t < length og.g.ids
    → HaveCommonBlockOfMoreLinks og.g og.w s t k h → SharedRing og s t k h
shared_ring og s t k h s_within t_within shares = go shares.common
  where
    made : (m : ℕ) → m < length og.g.ids → m ≢ og.root → og.w.block m ≡ k → h ≡ og.w.head m → SharedRing og s t k h
    made m within other block head = record {
      m = m;
      ring = ring_of og m within other (subst (λ (x : ℕ). HasMoreLinks og.g og.w x) (sym block) shares.more);
      sharing = record {
        source = s_within;
        target = t_within;
        two = shares.two;
        common = subst (λ (x : ℕ). HaveCommonBlock og.w s t (og.w.block m) x) head
            (subst (λ (x : ℕ). HaveCommonBlock og.w s t x h) (sym block) shares.common);
      };
      block = sym block;
      head = head;
    }

    go : HaveCommonBlock og.w s t k h → SharedRing og s t k h
    go (Peers a b c) =
        made s s_within (not_root_of_peers og t s t_within s_within (λ same. shares.two (sym same)) (b ∙ sym a)) a (sym c)
    go (ToHead a b c) = made s s_within (has_head og s t shares.two b) a (sym c ∙ sym b)
    go (FromHead a b c) = made t t_within (has_head og t s (λ same. shares.two (sym same)) b) a (sym c ∙ sym b)

pub node_lies : (og : OrderedGraph) (s t k h f : ℕ) (it : SharedRing og s t k h) → IsNodeOf og.g og.w k h f
    → IsNodeOf og.g og.w (og.w.block it.m) (og.w.head it.m) f
node_lies og s t k h f it lies =
    subst (λ (x : ℕ). IsNodeOf og.g og.w (og.w.block it.m) x f) it.head
    (subst (λ (x : ℕ). IsNodeOf og.g og.w x h f) it.block lies)
