-- The tag by which a color is chosen.
use Rattle.std.specs.Prelude.{◌≡◌, ℕ, Option, Some, None}
use Rattle.mrt_graph.specs.declared.cert.Row.{Row}
use Rattle.mrt_graph.specs.declared.cert.Tag.{Tag}
use Rattle.mrt_graph.specs.declared.cert.Tag.TheVariants.{Above, Below, Head, Top, Unordered}
use Rattle.mrt_graph.specs.declared.related.Relation.{Relation}
use Rattle.mrt_graph.specs.declared.related.Relation.TheVariants.{Apart, FromHead, OneBlock, ToHead}
use Rattle.mrt_graph.specs.Topology.{Topology}
use Rattle.link_direction.specs.Directions.{Directions}
use Rattle.block_spf.specs.declared.reach.Hop.{Hop}
use Rattle.block_spf.specs.LeastPath.{HaveCommonBlockOfMoreLinks}
use Rattle.order_repair.specs.ColorTable.{IsOfTable}
use Rattle.order_repair.specs.OrderChoice.{IsRowFor}

-- s and t have block k of more than one link in common, whose head is h, and this is the tag of the row of s for t
pub record IsPair (g : Topology) (root : ℕ) (w : Directions) (s t : ℕ) (tag : Tag) (k h : ℕ) : Type 0 where
  pub share : HaveCommonBlockOfMoreLinks g w s t k h
  pub row : Row
  pub its_row : IsRowFor g root w s t row
  pub tag_is : row.tag ≡ tag
  pub of_table : IsOfTable tag

-- this is that tag; or they have no such block in common
abbrev pub IsTagFor : Topology → ℕ → Directions → ℕ → ℕ → Option Tag → Type 0
IsTagFor g root w s t (Some tag) = (k : ℕ) × (h : ℕ) × IsPair g root w s t tag k h
IsTagFor g root w s t None = (k h : ℕ) → ¬ HaveCommonBlockOfMoreLinks g w s t k h

-- that tag by what s is to t, and by the hops of s up and down to t
abbrev pub tag_by : Relation → Option Hop → Option Hop → Option Tag
tag_by OneBlock (Some up) down = Some Below
tag_by OneBlock None (Some down) = Some Above
tag_by OneBlock None None = Some Unordered
tag_by ToHead (Some up) down = Some Head
tag_by ToHead None down = None
tag_by FromHead (Some up) down = Some Top
tag_by FromHead None down = None
tag_by Apart up down = None
