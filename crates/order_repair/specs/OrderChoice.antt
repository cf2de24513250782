-- The color that repairs a failure, by the order of the GADAG and the paths of the source alone.
use Rattle.std.specs.Bool.{Decides}
use Rattle.std.specs.Prelude.{◌≡◌, ◌≢◌, ◌<◌, ◌⊎◌, ℕ, Option, Some, length}
use Rattle.mrt_graph.specs.declared.cert.Color.{Color}
use Rattle.mrt_graph.specs.declared.cert.Role.TheVariants.{Closing, Plain}
use Rattle.mrt_graph.specs.declared.cert.Row.{Row}
use Rattle.mrt_graph.specs.declared.cert.Tag.{Tag}
use Rattle.mrt_graph.specs.declared.link.Element.{Element}
use Rattle.mrt_graph.specs.declared.link.Element.TheVariants as elements
use Rattle.mrt_graph.specs.Leads.{leads}
use Rattle.mrt_graph.specs.Topology.{Topology}
use Rattle.link_direction.specs.Directions.{Directions}
use Rattle.block_spf.specs.declared.reach.Dir.{Dir}
use Rattle.block_spf.specs.declared.reach.Dir.TheVariants.{Down, Up}
use Rattle.block_spf.specs.declared.reach.Hop.{Hop}
use Rattle.block_spf.specs.LeastPath.{IsHop}
use Rattle.mrt_rows.specs.RowsOf.{HasRow}
use Rattle.order_repair.specs.declared.order_tests.OrderTests.{OrderTests}
use Rattle.order_repair.specs.ColorTable.{IsOfTable, closing_color, node_color, plain_color}
use Rattle.order_repair.specs.Failed.{IsBetween}

-- a path of their block leads from s to x in this direction
pub record LeadsTo (g : Topology) (w : Directions) (dir : Dir) (s x : ℕ) : Type 0 where
  pub hop : Hop
  pub reached : IsHop g w dir s x (Some hop)

-- these are the order numbers of s, of t, and of nodes u and v
pub record AreNumbers (w : Directions) (s t u v : ℕ) (x : OrderTests) : Type 0 where
  pub source : x.source ≡ w.order s
  pub to : x.to ≡ w.order t
  pub from : x.from ≡ w.order u
  pub onto : x.onto ≡ w.order v

-- what each test means: these numbers; and what has failed is under s, or over s, exactly where this holds
pub record AreTests (w : Directions) (s t u v : ℕ) (Under Over : Type 0) (x : OrderTests) : Type 0 where
  pub numbers : AreNumbers w s t u v x
  pub under : Decides x.under Under
  pub over : Decides x.over Over

-- a node f is under s where it is the head of s or a path leads down to it; over s where one leads up. The table looks at them
-- only where s is no head; the head of the block is then that of s
abbrev pub IsUnderNode : Topology → Directions → ℕ → ℕ → Type 0
IsUnderNode g w s f = (f ≡ w.head s) ⊎ LeadsTo g w Down s f

abbrev pub AreNodeTests : Topology → Directions → ℕ → ℕ → ℕ → OrderTests → Type 0
AreNodeTests g w s t f x = AreTests w s t f f (IsUnderNode g w s f) (LeadsTo g w Up s f) x

-- a plain link from u to v is under s where v is s or a path leads down to v; over s where u is s, or a member of the block to
-- which a path leads up
abbrev pub IsUnderLink : Topology → Directions → ℕ → ℕ → Type 0
IsUnderLink g w s v = (v ≡ s) ⊎ LeadsTo g w Down s v

abbrev pub IsOverLink : Topology → Directions → ℕ → ℕ → Type 0
IsOverLink g w s u = (u ≡ s) ⊎ ((w.block u ≡ w.block s) × LeadsTo g w Up s u)

abbrev pub AreLinkTests : Topology → Directions → ℕ → ℕ → ℕ → ℕ → OrderTests → Type 0
AreLinkTests g w s t u v x = AreTests w s t u v (IsUnderLink g w s v) (IsOverLink g w s u) x

-- the color that a table has for tests that mean this
pub record ByTests (Mean : OrderTests → Type 0) (table : OrderTests → Color) (color : Color) : Type 0 where
  pub tests : OrderTests
  pub mean : Mean tests
  pub color_is : color ≡ table tests

-- by the tag of the row of s for t, where a link e of their block has failed
pub data LinkLine (tag : Tag) (g : Topology) (w : Directions) (s t e : ℕ) (color : Color) : Type 0 where
  IsPlain : (v : ℕ) → w.role e ≡ Plain → leads g.links e (w.tail e) ≡ Some v
      → ByTests (AreLinkTests g w s t (w.tail e) v) (plain_color tag) color → LinkLine tag g w s t e color
  IsClosing : w.role e ≡ Closing → color ≡ closing_color tag → LinkLine tag g w s t e color

-- where that, or a node f of it, has failed
abbrev pub LineFor : Tag → Topology → Directions → ℕ → ℕ → Element → Color → Type 0
LineFor tag g w s t (elements.Link e) color = LinkLine tag g w s t e color
LineFor tag g w s t (elements.Node f) color = ByTests (AreNodeTests g w s t f) (node_color tag) color

-- the row of s for t: that for t among its rows by the table
pub record IsRowFor (g : Topology) (root : ℕ) (w : Directions) (s t : ℕ) (row : Row) : Type 0 where
  pub rows : ℕ → Option Row
  pub by_table : (u : ℕ) → u < length g.ids → s ≢ u → HasRow g root w s rows u
  pub is : rows t ≡ Some row

-- the color of s for t, where x has failed: by the tag of the row of s for t. There is none where x does not lie between
-- the two
pub record IsOrderChoice (g : Topology) (root : ℕ) (w : Directions) (s t : ℕ) (x : Element) (color : Color) : Type 0 where
  pub between : IsBetween g w s t x
  pub row : Row
  pub its_row : IsRowFor g root w s t row
  pub of_table : IsOfTable row.tag
  pub by_tag : LineFor row.tag g w s t x color
