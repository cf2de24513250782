-- The table of rows, a record a line: what the row of a node s for another node t is. In each line the block is the one
-- that s and t have in common.
use Rattle.std.specs.Prelude.{◌≡◌, ◌≢◌, ◌<◌, ℕ, Option, Some, None, length}
use Rattle.mrt_graph.specs.declared.cert.Row.{Row}
use Rattle.mrt_graph.specs.declared.cert.Tag.{Tag}
use Rattle.mrt_graph.specs.declared.cert.Tag.TheVariants.{Sole, Head, Top, Below, Above, Unordered, Carried}
use Rattle.mrt_graph.specs.Topology.{Topology}
use Rattle.link_direction.specs.CommonBlock.{HaveCommonBlock}
use Rattle.link_direction.specs.Directions.{Directions}
use Rattle.block_spf.specs.declared.reach.Dir.{Dir}
use Rattle.block_spf.specs.declared.reach.Dir.TheVariants.{Down, Up}
use Rattle.block_spf.specs.declared.reach.Hop.{Hop}
use Rattle.block_spf.specs.LeastPath.{IsHop, HaveCommonBlockOfMoreLinks}

-- block k has this link, and no other
pub record HasOneLink (g : Topology) (w : Directions) (k link : ℕ) : Type 0 where
  pub within : link < length g.links
  pub in_block : w.lies_in link ≡ k
  pub no_other : (e : ℕ) → e < length g.links → w.lies_in e ≡ k → e ≡ link

-- a path of their block leads from s to t in this direction, and the least one begins over this link
pub record BeginsOver (g : Topology) (w : Directions) (dir : Dir) (s t link : ℕ) : Type 0 where
  pub hop : Hop
  pub reached : IsHop g w dir s t (Some hop)
  pub over : link ≡ hop.link

-- no path of their block leads from s to t in this direction
abbrev pub NoWay : Topology → Directions → Dir → ℕ → ℕ → Type 0
NoWay g w dir s t = IsHop g w dir s t None

-- s and t are members of a block of more than one link, whose head is h
pub record AreMembers (g : Topology) (w : Directions) (s t k h : ℕ) : Type 0 where
  pub share : HaveCommonBlockOfMoreLinks g w s t k h
  pub source : w.block s ≡ k
  pub target : w.block t ≡ k

-- the row has the links of another row of s, its row for node u
pub record HasLinksFor (rows : ℕ → Option Row) (u : ℕ) (row : Row) : Type 0 where
  pub other : Row
  pub is : rows u ≡ Some other
  pub blue : row.blue ≡ other.blue
  pub red : row.red ≡ other.red

-- Sole: the block has one link. Blue and red are that link
pub record SoleLine (g : Topology) (w : Directions) (s t : ℕ) (row : Row) : Type 0 where
  pub block : ℕ
  pub head : ℕ
  pub common : HaveCommonBlock w s t block head
  pub one_link : HasOneLink g w block row.blue
  pub red : row.red ≡ row.blue

-- Head: t is the block's head. Blue goes up to t, red goes down to t
pub record HeadLine (g : Topology) (w : Directions) (s t : ℕ) (row : Row) : Type 0 where
  pub block : ℕ
  pub head : ℕ
  pub share : HaveCommonBlockOfMoreLinks g w s t block head
  pub at_head : t ≡ head
  pub blue : BeginsOver g w Up s t row.blue
  pub red : BeginsOver g w Down s t row.red

-- Top: s is the block's head. Blue goes up to t, red goes down to t
pub record TopLine (g : Topology) (w : Directions) (s t : ℕ) (row : Row) : Type 0 where
  pub block : ℕ
  pub head : ℕ
  pub share : HaveCommonBlockOfMoreLinks g w s t block head
  pub at_head : s ≡ head
  pub blue : BeginsOver g w Up s t row.blue
  pub red : BeginsOver g w Down s t row.red

-- Below: both are members, and a path goes up from s to t. Blue goes up to t, red goes down to the head
pub record BelowLine (g : Topology) (w : Directions) (s t : ℕ) (row : Row) : Type 0 where
  pub block : ℕ
  pub head : ℕ
  pub members : AreMembers g w s t block head
  pub blue : BeginsOver g w Up s t row.blue
  pub red : BeginsOver g w Down s head row.red

-- Above: both are members, no path goes up from s to t, and one goes down. Blue goes up to the head, red goes down to t
pub record AboveLine (g : Topology) (w : Directions) (s t : ℕ) (row : Row) : Type 0 where
  pub block : ℕ
  pub head : ℕ
  pub members : AreMembers g w s t block head
  pub none_up : NoWay g w Up s t
  pub blue : BeginsOver g w Up s head row.blue
  pub red : BeginsOver g w Down s t row.red

-- Unordered: both are members, and no path goes up or down from s to t. Blue goes down to the head, red goes up to the
-- head
pub record UnorderedLine (g : Topology) (w : Directions) (s t : ℕ) (row : Row) : Type 0 where
  pub block : ℕ
  pub head : ℕ
  pub members : AreMembers g w s t block head
  pub none_up : NoWay g w Up s t
  pub none_down : NoWay g w Down s t
  pub blue : BeginsOver g w Down s head row.blue
  pub red : BeginsOver g w Up s head row.red

-- Carried: they have no block in common. Blue and red are those of the row of s for the head of t or, where t is the root,
-- of the row of s for the head of s
pub record CarriedLine (root : ℕ) (w : Directions) (s : ℕ) (rows : ℕ → Option Row) (t : ℕ) (row : Row) : Type 0 where
  pub apart : (k h : ℕ) → ¬ HaveCommonBlock w s t k h
  pub to_other : t ≢ root → HasLinksFor rows (w.head t) row
  pub to_root : t ≡ root → HasLinksFor rows (w.head s) row

-- the line of a tag, for the row of s for t among these rows of s
abbrev pub LineOf : Tag → Topology → ℕ → Directions → ℕ → (ℕ → Option Row) → ℕ → Row → Type 0
LineOf Sole g root w s rows t row = SoleLine g w s t row
LineOf Head g root w s rows t row = HeadLine g w s t row
LineOf Top g root w s rows t row = TopLine g w s t row
LineOf Below g root w s rows t row = BelowLine g w s t row
LineOf Above g root w s rows t row = AboveLine g w s t row
LineOf Unordered g root w s rows t row = UnorderedLine g w s t row
LineOf Carried g root w s rows t row = CarriedLine root w s rows t row
