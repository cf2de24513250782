-- The way that a color's link begins at a node, by the ways that there are between the node and the destination.
use Rattle.std.proofs.Common.{◌≡◌, ◌∙◌, ◌<◌, ℕ, length, sym, subst}
use Rattle.mrt_graph.specs.declared.cert.Color.{Color}
use Rattle.mrt_graph.specs.declared.cert.Color.TheVariants.{Blue, Red}
use Rattle.mrt_graph.specs.declared.cert.Row.{Row}
use Rattle.mrt_graph.specs.declared.cert.Tag.{Tag}
use Rattle.mrt_graph.specs.Rows.{link_of_color}
use Rattle.link_direction.specs.CommonBlock.{FromHead, ToHead}
use Rattle.block_spf.specs.declared.reach.Dir.{Dir}
use Rattle.block_spf.specs.declared.reach.Dir.TheVariants.{Down, Up}
use Rattle.block_spf.specs.Against.{against}
use Rattle.mrt_rows.proofs.OrderedGraphs.{OrderedGraph}
use Rattle.mrt_rows.proofs.Ways.{Inside, Ring, Way, inside_head, not_head, one_way}
use Rattle.mrt_rows.proofs.WaysBegun.{Sharing, WayOver}
use Rattle.order_repair.proofs.RowWays.{AboveRow, BelowRow, HeadRow, RowWays, TopRow, UnorderedRow, way_of}

-- the direction of a color: blue goes up, and red down, but for Unordered rows on their way to the head
abbrev pub dir_of : Color → Dir
dir_of Blue = Up
dir_of Red = Down

module _ (og : OrderedGraph) (m : ℕ) (ring : Ring og m) (t : ℕ) where
  abbrev h : ℕ
  h = og.w.head m

  -- a node under the head, and the head over a node
  pub under : (u : ℕ) → Inside og m u → t ≡ h → Sharing og m u t
  under u inside home = record {
    source = inside.within;
    target = subst (λ (x : ℕ). x < length og.g.ids) (sym home) (og.ordered.heads.head_within m ring.inside);
    two = λ same. not_head og m ring u inside (same ∙ home);
    common = ToHead inside.block (inside_head og m ring u inside ∙ sym home) home;
  }

  pub over : (u : ℕ) → u ≡ h → Inside og m t → Sharing og m u t
  over u home inside = record {
    source = subst (λ (x : ℕ). x < length og.g.ids) (sym home) (og.ordered.heads.head_within m ring.inside);
    target = inside.within;
    two = λ same. not_head og m ring t inside (sym same ∙ home);
    common = FromHead inside.block (inside_head og m ring t inside ∙ sym home) home;
  }

  module _ (row : Row) (u : ℕ) where
    -- to the head
    pub head_way : (color : Color) {tag : Tag} → RowWays og m u t row.blue row.red tag → Inside og m u → t ≡ h
        → WayOver og m (dir_of color) u h (link_of_color color row)
    head_way Blue (HeadRow a b blue red) inside home = blue
    head_way Red (HeadRow a b blue red) inside home = red
    head_way color (TopRow a b blue red) inside home = absurd (not_head og m ring u inside a)
    head_way color (BelowRow a b blue red) inside home = absurd (not_head og m ring t b home)
    head_way color (AboveRow a b blue red) inside home = absurd (not_head og m ring t b home)
    head_way color (UnorderedRow a b none_up none_down blue red) inside home = absurd (not_head og m ring t b home)

    -- from the head
    pub out_way : (color : Color) {tag : Tag} → RowWays og m u t row.blue row.red tag → u ≡ h → Inside og m t
        → WayOver og m (dir_of color) h t (link_of_color color row)
    out_way Blue (TopRow a b blue red) home target = blue
    out_way Red (TopRow a b blue red) home target = red
    out_way color (HeadRow a b blue red) home target = absurd (not_head og m ring u a home)
    out_way color (BelowRow a b blue red) home target = absurd (not_head og m ring u a home)
    out_way color (AboveRow a b blue red) home target = absurd (not_head og m ring u a home)
    out_way color (UnorderedRow a b none_up none_down blue red) home target = absurd (not_head og m ring u a home)

    -- to another node of the block: a way leads to it in the color's direction, or against it, or none does
    pub data PeerRow (color : Color) : Type 0 where
      Along : WayOver og m (dir_of color) u t (link_of_color color row) → PeerRow color
      Past : Way og m (against (dir_of color)) u t → WayOver og m (dir_of color) u h (link_of_color color row) → PeerRow color
      Aside : (Way og m (dir_of color) u t → ⊥) → (Way og m (against (dir_of color)) u t → ⊥)
          → WayOver og m (against (dir_of color)) u h (link_of_color color row) → PeerRow color

    module _ (source : Inside og m u) (target : Inside og m t) where
      pub peer_row : (color : Color) {tag : Tag} → RowWays og m u t row.blue row.red tag → PeerRow color
      peer_row color (HeadRow a b blue red) = absurd (not_head og m ring t target b)
      peer_row color (TopRow a b blue red) = absurd (not_head og m ring u source a)
      peer_row Blue (BelowRow a b blue red) = Along blue
      peer_row Red (BelowRow a b blue red) = Past (way_of og m Up u t row.blue blue) red
      peer_row Blue (AboveRow a b blue red) = Past (way_of og m Down u t row.red red) blue
      peer_row Red (AboveRow a b blue red) = Along red
      peer_row Blue (UnorderedRow a b none_up none_down blue red) = Aside none_up none_down blue
      peer_row Red (UnorderedRow a b none_up none_down blue red) = Aside none_down none_up red

      pub peer_way : (color : Color) → PeerRow color → Way og m (dir_of color) u t → WayOver og m (dir_of color) u t (link_of_color color row)
      peer_way color (Along over) way = over
      peer_way color (Past back home) way = absurd (one_way og m ring (dir_of color) u t source target way back)
      peer_way color (Aside none_on none_back home) way = absurd (none_on way)

      pub past_way : (color : Color) → PeerRow color → Way og m (against (dir_of color)) u t → WayOver og m (dir_of color) u h (link_of_color color row)
      past_way color (Along over) way =
          absurd (one_way og m ring (dir_of color) u t source target (way_of og m (dir_of color) u t (link_of_color color row) over) way)
      past_way color (Past back home) way = home
      past_way color (Aside none_on none_back home) way = absurd (none_back way)

      pub aside_way : (color : Color) → PeerRow color → (Way og m (dir_of color) u t → ⊥) → (Way og m (against (dir_of color)) u t → ⊥)
          → WayOver og m (against (dir_of color)) u h (link_of_color color row)
      aside_way color (Along over) none_on none_back = absurd (none_on (way_of og m (dir_of color) u t (link_of_color color row) over))
      aside_way color (Past back home) none_on none_back = absurd (none_back back)
      aside_way color (Aside also_on also_back home) none_on none_back = home
