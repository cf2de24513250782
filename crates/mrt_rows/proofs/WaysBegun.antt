-- What the links of rows begin: paths of a block of more than one link.
use Rattle.std.proofs.Common.{◌≡◌, ◌≢◌, ◌∙◌, ◌<◌, ℕ, List, ◌∷◌, Some, length, refl, sym, subst, inl, inr}
use Rattle.mrt_graph.specs.declared.link.End.{End}
use Rattle.mrt_graph.specs.Leads.{leads}
use Rattle.link_direction.specs.CommonBlock.{HaveCommonBlock, Peers}
use Rattle.block_spf.specs.declared.reach.Dir.{Dir}
use Rattle.block_spf.specs.declared.reach.Hop.{Hop}
use Rattle.block_spf.specs.LeastPath.{BeginsPath, HasMoreLinks, IsHop, IsLeastPath, NotReached, Reached, HaveCommonBlockOfMoreLinks}
use Rattle.block_spf.specs.Path.{Path}
use Rattle.mrt_rows.specs.RowLines.{AreMembers, BeginsOver, NoWay}
use Rattle.mrt_rows.proofs.OrderedGraphs.{OrderedGraph, not_root_of_peers, one_common, step_leads, within}
use Rattle.mrt_rows.proofs.Ways.{Inside, Ring, Way, begun, inside_itself}

-- a path of m's block from s to t, whose first end is over this link
pub record WayOver (og : OrderedGraph) (m : ℕ) (dir : Dir) (s t link : ℕ) : Type 0 where
  pub end : End
  pub others : List End
  pub is : Path og.g og.w dir (og.w.block m) (og.w.head m) s (end ∷ others) t
  pub over : link ≡ end.link

-- what is to be known of two nodes that have m's block in common
pub record Sharing (og : OrderedGraph) (m s t : ℕ) : Type 0 where
  pub source : s < length og.g.ids
  pub target : t < length og.g.ids
  pub two : s ≢ t
  pub common : HaveCommonBlock og.w s t (og.w.block m) (og.w.head m)

module _ (og : OrderedGraph) where
  abbrev n : ℕ
  n = length og.g.ids

  -- a node whose block has more than one link
  pub ring_of : (m : ℕ) → m < n → m ≢ og.root → HasMoreLinks og.g og.w (og.w.block m) → Ring og m
  ring_of m inside other more = elim (og.ordered.blocks m inside other) [
    | inl sole ↦
        absurd (more.differ (sole.no_other_link more.one more.one_within more.one_in_block
        ∙ sym (sole.no_other_link more.other more.other_within more.other_in_block)))
    | inr closed ↦ record { inside = inside; other = other; closed = closed }
  ]

  pub more_of : (m : ℕ) → Ring og m → HasMoreLinks og.g og.w (og.w.block m)
  more_of m ring = record {
    one = ring.closed.another;
    other = ring.closed.link;
    one_within = ring.closed.another_within;
    other_within = (within og.g ring.closed.link ring.closed.greatest
        (og.w.head m) og.kept ring.closed.over.leads_on).link;
    one_in_block = ring.closed.another_in_block;
    other_in_block = ring.closed.over.in_block;
    differ = ring.closed.another_link;
  }

  pub share : (m s t : ℕ) → Ring og m → Sharing og m s t → HaveCommonBlockOfMoreLinks og.g og.w s t (og.w.block m) (og.w.head m)
  share m s t ring sharing = record { two = sharing.two; common = sharing.common; more = more_of m ring }

  -- two nodes of the block share it
  pub peers : (m s t : ℕ) → Ring og m → Inside og m s → Inside og m t → s ≢ t → Sharing og m s t
  peers m s t ring s_inside t_inside two = record {
    source = s_inside.within;
    target = t_inside.within;
    two = two;
    common = Peers s_inside.block t_inside.block
        (og.ordered.heads.one_head s m s_inside.within ring.inside s_inside.block);
  }

  -- a least path is a path
  in_block : (m : ℕ) (dir : Dir) (s t link : ℕ) (k h : ℕ) (hop : Hop) → k ≡ og.w.block m → h ≡ og.w.head m
      → link ≡ hop.link → IsLeastPath og.g og.w dir k h s t hop → WayOver og m dir s t link
  in_block m dir s t link k h hop same_block same_head over least =
      let first : BeginsPath og.g og.w dir k h s t hop.cost least.end = least.first.asked in
      record {
        end = least.end;
        others = first.others;
        is = subst (λ (x : ℕ). Path og.g og.w dir (og.w.block m) x s (least.end ∷ first.others) t) same_head
            (subst (λ (x : ℕ). Path og.g og.w dir x h s (least.end ∷ first.others) t) same_block first.is_path);
        over = over ∙ least.over;
      }

  pub way_over : (m : ℕ) (dir : Dir) (s t link : ℕ) → Sharing og m s t → BeginsOver og.g og.w dir s t link
      → WayOver og m dir s t link
  way_over m dir s t link sharing begins = go begins.hop begins.over begins.reached
    where
      go : (hop : Hop) → link ≡ hop.link → IsHop og.g og.w dir s t (Some hop) → WayOver og m dir s t link
      go hop over (Reached k h hop' shares least) =
          let same =
          one_common og s t k h (og.w.block m) (og.w.head m) sharing.source sharing.target sharing.two shares.common
          sharing.common in
          in_block m dir s t link k h hop same.0 same.1 over least

  pub no_way : (m : ℕ) (dir : Dir) (s t : ℕ) → HaveCommonBlockOfMoreLinks og.g og.w s t (og.w.block m) (og.w.head m)
      → NoWay og.g og.w dir s t → Way og m dir s t → ⊥
  no_way m dir s t shares (NotReached none) way = none (og.w.block m) (og.w.head m) way.path shares way.is

  -- where a row's link leads from s
  pub over_leads : (m : ℕ) (dir : Dir) (s t link : ℕ) (way : WayOver og m dir s t link)
      → leads og.g.links link s ≡ Some way.end.to
  over_leads m dir s t link way =
      subst (λ (e : ℕ). leads og.g.links e s ≡ Some way.end.to) (sym way.over)
      (step_leads og dir (og.w.block m) s way.end (begun og m dir s way.end way.others t way.is).step)

  -- the block of two nodes has more than one link
  pub peer_ring : (s t : ℕ) → s < n → t < n → s ≢ t → og.w.block s ≡ og.w.block t → Ring og s
  peer_ring s t s_within t_within two same =
      let other = not_root_of_peers og t s t_within s_within (λ back. two (sym back)) (sym same) in
      elim (og.ordered.blocks s s_within other) [
        | inl sole ↦ absurd (two (sym (sole.no_other_node t t_within (sym same))))
        | inr closed ↦ record { inside = s_within; other = other; closed = closed }
      ]

  pub peers_are : (s t : ℕ) → s < n → t < n → s ≢ t → og.w.block s ≡ og.w.block t → AreMembers og.g og.w s t (og.w.block s) (og.w.head s)
  peers_are s t s_within t_within two same =
      let ring = peer_ring s t s_within t_within two same in
      let target : Inside og s t = record { within = t_within; block = sym same } in
      record { share = share s s t ring (peers s s t ring (inside_itself og s ring) target two); source = refl; target = sym same }

  -- two nodes of one block of more than one link: the block is that of s
  pub record Members (s t k h : ℕ) : Type 0 where
    pub ring : Ring og s
    pub target : Inside og s t
    pub block : k ≡ og.w.block s
    pub head : h ≡ og.w.head s

  pub members : (s t k h : ℕ) → s < n → t < n → AreMembers og.g og.w s t k h → Members s t k h
  members s t k h s_within t_within are =
      let same : og.w.block s ≡ og.w.block t = are.source ∙ sym are.target in
      let one =
      one_common og s t k h (og.w.block s) (og.w.head s) s_within t_within are.share.two are.share.common (Peers refl (sym same) refl) in
      record {
        ring = peer_ring s t s_within t_within are.share.two same;
        target = record { within = t_within; block = sym same };
        block = one.0;
        head = one.1;
      }
