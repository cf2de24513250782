-- The paths of a block of more than one link that the links of a row begin, by its tag.
use Rattle.std.proofs.Common.{◌≡◌, ◌∙◌, ℕ, Option, subst}
use Rattle.mrt_graph.specs.declared.cert.Row.{Row}
use Rattle.mrt_graph.specs.declared.cert.Tag.{Tag}
use Rattle.mrt_graph.specs.declared.cert.Tag.TheVariants as tags
use Rattle.link_direction.specs.CommonBlock.{FromHead, HaveCommonBlock, Peers, ToHead}
use Rattle.block_spf.specs.declared.reach.Dir.{Dir}
use Rattle.block_spf.specs.declared.reach.Dir.TheVariants.{Down, Up}
use Rattle.mrt_rows.specs.RowLines.{AreMembers, BeginsOver, LineOf, SoleLine}
use Rattle.mrt_rows.proofs.LinesHold.{with_head}
use Rattle.mrt_rows.proofs.OrderedGraphs.{OrderedGraph, one_common}
pub use Rattle.mrt_rows.proofs.RowTags.{way_of}
use Rattle.mrt_rows.proofs.Sharing.{none_of_share}
use Rattle.mrt_rows.proofs.Ways.{Inside, Ring, Way, not_head}
use Rattle.mrt_rows.proofs.WaysBegun.{Sharing, WayOver, no_way, share, way_over}
use Rattle.order_repair.specs.ColorTable.{IsOfTable}

-- of two nodes with m's block in common, both are of it, or the one or the other is its head
pub data Standing (og : OrderedGraph) (m u t : ℕ) : Type 0 where
  Beside : Inside og m u → Inside og m t → Standing og m u t
  Under : Inside og m u → t ≡ og.w.head m → Standing og m u t
  Over : u ≡ og.w.head m → Inside og m t → Standing og m u t

-- the paths that the blue and the red link of the row of u for t begin
pub data RowWays (og : OrderedGraph) (m u t blue red : ℕ) : Tag → Type 0 where
  HeadRow : Inside og m u → t ≡ og.w.head m → WayOver og m Up u (og.w.head m) blue → WayOver og m Down u (og.w.head m) red
      → RowWays og m u t blue red tags.Head
  TopRow : u ≡ og.w.head m → Inside og m t → WayOver og m Up (og.w.head m) t blue → WayOver og m Down (og.w.head m) t red
      → RowWays og m u t blue red tags.Top
  BelowRow : Inside og m u → Inside og m t → WayOver og m Up u t blue → WayOver og m Down u (og.w.head m) red
      → RowWays og m u t blue red tags.Below
  AboveRow : Inside og m u → Inside og m t → WayOver og m Up u (og.w.head m) blue → WayOver og m Down u t red
      → RowWays og m u t blue red tags.Above
  UnorderedRow : Inside og m u → Inside og m t → (Way og m Up u t → ⊥) → (Way og m Down u t → ⊥)
      → WayOver og m Down u (og.w.head m) blue → WayOver og m Up u (og.w.head m) red
      → RowWays og m u t blue red tags.Unordered

module _ (og : OrderedGraph) (m : ℕ) (ring : Ring og m) (u t : ℕ) (sharing : Sharing og m u t) where
  pub standing : Standing og m u t
  standing = go sharing.common
    where
      go : HaveCommonBlock og.w u t (og.w.block m) (og.w.head m) → Standing og m u t
      go (Peers a b c) = Beside (record { within = sharing.source; block = a }) (record { within = sharing.target; block = b })
      go (ToHead a b c) = Under (record { within = sharing.source; block = a }) c
      go (FromHead a b c) = Over c (record { within = sharing.target; block = a })

  same : (k h : ℕ) → HaveCommonBlock og.w u t k h → (k ≡ og.w.block m) × (h ≡ og.w.head m)
  same k h common =
      one_common og u t k h (og.w.block m) (og.w.head m) sharing.source sharing.target sharing.two common sharing.common

  not_sole : (row : Row) → SoleLine og.g og.w u t row → ⊥
  not_sole row line =
      none_of_share og u t sharing.source sharing.target sharing.two (og.w.block m) (og.w.head m) (share og m u t ring sharing) line.block line.head
      row.blue line.common line.one_link

  -- the way over a row's link to t, and to the head
  to_target : (dir : Dir) (link : ℕ) → BeginsOver og.g og.w dir u t link → WayOver og m dir u t link
  to_target dir link begins = way_over og m dir u t link sharing begins

  to_home : (dir : Dir) (k h link : ℕ) → AreMembers og.g og.w u t k h → Inside og m u → BeginsOver og.g og.w dir u h link
      → WayOver og m dir u (og.w.head m) link
  to_home dir k h link are inside begins =
      way_over og m dir u (og.w.head m) link (with_head og m u ring inside)
      (subst (λ (x : ℕ). BeginsOver og.g og.w dir u x link) (same k h are.share.common).1 begins)

  -- both are nodes of the block
  both_inside : (k h : ℕ) → AreMembers og.g og.w u t k h → Inside og m u × Inside og m t
  both_inside k h are =
      let block = (same k h are.share.common).0 in (
        record { within = sharing.source; block = are.source ∙ block },
        record { within = sharing.target; block = are.target ∙ block },
      )

  pub row_ways : (tag : Tag) (rows : ℕ → Option Row) (row : Row) → LineOf tag og.g og.root og.w u rows t row
      → RowWays og m u t row.blue row.red tag
  row_ways tags.Sole rows row line = absurd (not_sole row line)
  row_ways tags.Head rows row line = go standing
    where
      home : t ≡ og.w.head m
      home = line.at_head ∙ (same line.block line.head line.share.common).1

      go : Standing og m u t → RowWays og m u t row.blue row.red tags.Head
      go (Beside a b) = absurd (not_head og m ring t b home)
      go (Over a b) = absurd (not_head og m ring t b home)
      go (Under a b) =
          HeadRow a b (subst (λ (x : ℕ). WayOver og m Up u x row.blue) b (to_target Up row.blue line.blue))
          (subst (λ (x : ℕ). WayOver og m Down u x row.red) b (to_target Down row.red line.red))
  row_ways tags.Top rows row line = go standing
    where
      home : u ≡ og.w.head m
      home = line.at_head ∙ (same line.block line.head line.share.common).1

      go : Standing og m u t → RowWays og m u t row.blue row.red tags.Top
      go (Beside a b) = absurd (not_head og m ring u a home)
      go (Under a b) = absurd (not_head og m ring u a home)
      go (Over a b) =
          TopRow a b (subst (λ (x : ℕ). WayOver og m Up x t row.blue) a (to_target Up row.blue line.blue))
          (subst (λ (x : ℕ). WayOver og m Down x t row.red) a (to_target Down row.red line.red))
  row_ways tags.Below rows row line =
      let both = both_inside line.block line.head line.members in
      BelowRow both.0 both.1 (to_target Up row.blue line.blue)
      (to_home Down line.block line.head row.red line.members both.0 line.red)
  row_ways tags.Above rows row line =
      let both = both_inside line.block line.head line.members in
      AboveRow both.0 both.1 (to_home Up line.block line.head row.blue line.members both.0 line.blue)
      (to_target Down row.red line.red)
  row_ways tags.Unordered rows row line =
      let both = both_inside line.block line.head line.members in
      let shares = share og m u t ring sharing in
      UnorderedRow both.0 both.1 (no_way og m Up u t shares line.none_up) (no_way og m Down u t shares line.none_down)
      (to_home Down line.block line.head row.blue line.members both.0 line.blue)
      (to_home Up line.block line.head row.red line.members both.0 line.red)
  row_ways tags.Carried rows row line = absurd (line.apart (og.w.block m) (og.w.head m) sharing.common)

  -- so its tag is one of the table of colors
  pub row_of_table : (tag : Tag) (rows : ℕ → Option Row) (row : Row) → LineOf tag og.g og.root og.w u rows t row → IsOfTable tag
  row_of_table tags.Sole rows row line = not_sole row line
  row_of_table tags.Carried rows row line = line.apart (og.w.block m) (og.w.head m) sharing.common
  row_of_table tags.Head rows row line = tt
  row_of_table tags.Top rows row line = tt
  row_of_table tags.Below rows row line = tt
  row_of_table tags.Above rows row line = tt
  row_of_table tags.Unordered rows row line = tt
