-- The tag of a row of a node for another one of its block: by the paths between the two.
use Rattle.std.proofs.Common.{◌≡◌, ◌≢◌, ◌⊎◌, ◌∙◌, ℕ, ◌∷◌, Option, refl, inl, inr}
use Rattle.mrt_graph.specs.declared.cert.Row.{Row}
use Rattle.mrt_graph.specs.declared.cert.Tag.{Tag}
use Rattle.mrt_graph.specs.declared.cert.Tag.TheVariants as tags
use Rattle.block_spf.specs.declared.reach.Dir.{Dir}
use Rattle.block_spf.specs.declared.reach.Dir.TheVariants.{Down, Up}
use Rattle.block_spf.specs.Against.{against}
use Rattle.block_spf.specs.LeastPath.{HaveCommonBlockOfMoreLinks}
use Rattle.mrt_rows.specs.RowLines.{LineOf, SoleLine}
use Rattle.mrt_rows.proofs.OrderedGraphs.{OrderedGraph, one_common}
use Rattle.mrt_rows.proofs.Sharing.{none_of_share}
use Rattle.mrt_rows.proofs.Ways.{Inside, Ring, Way, not_head, one_way}
use Rattle.mrt_rows.proofs.WaysBegun.{Sharing, WayOver, no_way, peers, share, way_over}

-- the tag of a row for a node to which ways lead in a direction
abbrev pub way_tag : Dir → Tag
way_tag Up = tags.Below
way_tag Down = tags.Above

-- what a tag tells: a way in a direction; or no way at all
pub data PeerTag (og : OrderedGraph) (m s t : ℕ) (tag : Tag) : Type 0 where
  HasWay : (dir : Dir) → tag ≡ way_tag dir → Way og m dir s t → PeerTag og m s t tag
  IsUnordered : tag ≡ tags.Unordered → ((dir : Dir) → Way og m dir s t → ⊥) → PeerTag og m s t tag

pub way_of : (og : OrderedGraph) (m : ℕ) (dir : Dir) (s t link : ℕ) → WayOver og m dir s t link → Way og m dir s t
way_of og m dir s t link way = record { path = way.end ∷ way.others; is = way.is }

module _ (og : OrderedGraph) (m : ℕ) (ring : Ring og m) (s t : ℕ) (source : Inside og m s) (target : Inside og m t)
    (two : s ≢ t) where
  sharing : Sharing og m s t
  sharing = peers og m s t ring source target two

  shared : HaveCommonBlockOfMoreLinks og.g og.w s t (og.w.block m) (og.w.head m)
  shared = share og m s t ring sharing

  not_sole : (row : Row) → SoleLine og.g og.w s t row → ⊥
  not_sole row line =
      none_of_share og s t source.within target.within two (og.w.block m) (og.w.head m) shared line.block line.head row.blue line.common line.one_link

  same_head : (k h : ℕ) → HaveCommonBlockOfMoreLinks og.g og.w s t k h → h ≡ og.w.head m
  same_head k h shares =
      (one_common og s t k h (og.w.block m) (og.w.head m) source.within target.within two shares.common
      sharing.common).1

  pub peer_tag : (tag : Tag) (rows : ℕ → Option Row) (row : Row) → LineOf tag og.g og.root og.w s rows t row
      → PeerTag og m s t tag
  peer_tag tags.Sole rows row line = absurd (not_sole row line)
  peer_tag tags.Head rows row line =
      absurd (not_head og m ring t target (line.at_head ∙ same_head line.block line.head line.share))
  peer_tag tags.Top rows row line =
      absurd (not_head og m ring s source (line.at_head ∙ same_head line.block line.head line.share))
  peer_tag tags.Below rows row line = HasWay Up refl (way_of og m Up s t row.blue (way_over og m Up s t row.blue sharing line.blue))
  peer_tag tags.Above rows row line = HasWay Down refl (way_of og m Down s t row.red (way_over og m Down s t row.red sharing line.red))
  peer_tag tags.Unordered rows row line = IsUnordered refl none
    where
      none : (dir : Dir) → Way og m dir s t → ⊥
      none Up = no_way og m Up s t shared line.none_up
      none Down = no_way og m Down s t shared line.none_down
  peer_tag tags.Carried rows row line = absurd (line.apart (og.w.block m) (og.w.head m) sharing.common)

  -- with a way the tag is that of its direction
  pub way_here : (dir : Dir) (tag : Tag) → PeerTag og m s t tag → Way og m dir s t → tag ≡ way_tag dir
  way_here Up tag (HasWay Up is way) on = is
  way_here Up tag (HasWay Down is way) on = absurd (one_way og m ring Up s t source target on way)
  way_here Down tag (HasWay Down is way) on = is
  way_here Down tag (HasWay Up is way) on = absurd (one_way og m ring Down s t source target on way)
  way_here dir tag (IsUnordered is none) on = absurd (none dir on)

  -- without one it is Unordered, or that of the other direction
  pub without : (dir : Dir) (tag : Tag) → PeerTag og m s t tag → (Way og m dir s t → ⊥) → (tag ≡ tags.Unordered) ⊎ (tag ≡ way_tag (against dir))
  without Up tag (HasWay Up is way) never = absurd (never way)
  without Up tag (HasWay Down is way) never = inr is
  without Down tag (HasWay Down is way) never = absurd (never way)
  without Down tag (HasWay Up is way) never = inr is
  without dir tag (IsUnordered is none) never = inl is
