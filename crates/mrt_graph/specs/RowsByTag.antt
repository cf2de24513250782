-- Rules seven to thirteen: what a row keeps, by its tag. The two links of a row of s for t that is not Carried, blue and red, lead from
-- s to the nodes blue_to and red_to.
use Rattle.std.specs.Prelude.{◌≡◌, ◌⊎◌, ℕ, List, Some, IsTrue}
use Rattle.std.specs.Option.{option_and_then}
use Rattle.mrt_graph.specs.declared.cert.Row.{Row}
use Rattle.mrt_graph.specs.declared.cert.Tag.{Tag}
use Rattle.mrt_graph.specs.declared.cert.Tag.TheVariants.{Sole, Head, Top, Below, Above, Unordered, Carried}
use Rattle.mrt_graph.specs.declared.link.Link.{Link}
use Rattle.mrt_graph.specs.BothThere.{are_equal, is_less}
use Rattle.mrt_graph.specs.Certificate.{Certificate, row_of}
use Rattle.mrt_graph.specs.CertFields.{order_of, head_of, block_of, has_role, tagged}
use Rattle.mrt_graph.specs.Leads.{leads}
use Rattle.mrt_graph.specs.Related.{are_unrelated, carrier}
use Rattle.mrt_graph.specs.Roles.{is_plain, is_sole, is_closing}
use Rattle.mrt_graph.specs.RowRules.{closing_to_head, higher_beside, higher_tagged, lower_beside, lower_tagged, plain_to_head}

-- Sole: blue and red are one link, its role is sole, and it leads to t
pub record SoleRow (c : Certificate) (t : ℕ) (row : Row) (blue_to : ℕ) : Type 0 where
  pub one_link : row.blue ≡ row.red
  pub role : IsTrue (has_role is_sole c row.blue)
  pub goes : blue_to ≡ t

-- Head: the head of s is t; blue goes to a node of the block of s with a greater order, or is closing and goes to t; red goes to a
-- node of the block of s with a smaller order, or is plain and goes to t
pub record HeadRow (c : Certificate) (s t : ℕ) (row : Row) (blue_to red_to : ℕ) : Type 0 where
  pub head : IsTrue (are_equal (head_of c s) (Some t))
  pub blue : IsTrue (higher_beside c s blue_to) ⊎ (IsTrue (has_role is_closing c row.blue) × (blue_to ≡ t))
  pub red : IsTrue (lower_beside c s red_to) ⊎ (IsTrue (has_role is_plain c row.red) × (red_to ≡ t))

-- Top: the head of t is s; blue is plain, and goes to t or to a node whose row for t is Below; red is closing, and goes to t or to a
-- node whose row for t is Above
pub record TopRow (c : Certificate) (s t : ℕ) (row : Row) (blue_to red_to : ℕ) : Type 0 where
  pub head : IsTrue (are_equal (head_of c t) (Some s))
  pub blue_role : IsTrue (has_role is_plain c row.blue)
  pub blue : (blue_to ≡ t) ⊎ IsTrue (tagged c blue_to t Below)
  pub red_role : IsTrue (has_role is_closing c row.red)
  pub red : (red_to ≡ t) ⊎ IsTrue (tagged c red_to t Above)

-- Below: s and t have one block, s has the smaller order; blue goes to t, or to a node of greater order whose row for t is Below; red
-- goes to a node of smaller order whose row for t is Below, or is plain and goes to the head of s
pub record BelowRow (c : Certificate) (s t : ℕ) (row : Row) (blue_to red_to : ℕ) : Type 0 where
  pub block : IsTrue (are_equal (block_of c s) (block_of c t))
  pub order : IsTrue (is_less (order_of c s) (order_of c t))
  pub blue : (blue_to ≡ t) ⊎ IsTrue (higher_tagged c s t Below blue_to)
  pub red : IsTrue (lower_tagged c s t Below red_to) ⊎ IsTrue (plain_to_head c row.red s red_to)

-- Above: s and t have one block, s has the greater order; blue goes to a node of greater order whose row for t is Above, or is closing
-- and goes to the head of s; red goes to t, or to a node of smaller order whose row for t is Above
pub record AboveRow (c : Certificate) (s t : ℕ) (row : Row) (blue_to red_to : ℕ) : Type 0 where
  pub block : IsTrue (are_equal (block_of c s) (block_of c t))
  pub order : IsTrue (is_less (order_of c t) (order_of c s))
  pub blue : IsTrue (higher_tagged c s t Above blue_to) ⊎ IsTrue (closing_to_head c row.blue s blue_to)
  pub red : (red_to ≡ t) ⊎ IsTrue (lower_tagged c s t Above red_to)

-- Unordered: s and t have one block; blue goes to a node of smaller order whose row for t is Unordered or Below, or is plain and goes
-- to the head of s; red goes to a node of greater order whose row for t is Unordered or Above; t has no row for itself, so where
-- rule three holds neither goes straight to t
pub record UnorderedRow (c : Certificate) (s t : ℕ) (row : Row) (blue_to red_to : ℕ) : Type 0 where
  pub block : IsTrue (are_equal (block_of c s) (block_of c t))
  pub blue : (IsTrue (lower_tagged c s t Unordered blue_to) ⊎ IsTrue (lower_tagged c s t Below blue_to))
      ⊎ IsTrue (plain_to_head c row.blue s blue_to)
  pub red : IsTrue (higher_tagged c s t Unordered red_to) ⊎ IsTrue (higher_tagged c s t Above red_to)

-- these by the tag; a Carried row is none of them
abbrev pub GoesBy : Tag → Certificate → ℕ → ℕ → Row → ℕ → ℕ → Type 0
GoesBy Sole c s t row blue_to red_to = SoleRow c t row blue_to
GoesBy Head c s t row blue_to red_to = HeadRow c s t row blue_to red_to
GoesBy Top c s t row blue_to red_to = TopRow c s t row blue_to red_to
GoesBy Below c s t row blue_to red_to = BelowRow c s t row blue_to red_to
GoesBy Above c s t row blue_to red_to = AboveRow c s t row blue_to red_to
GoesBy Unordered c s t row blue_to red_to = UnorderedRow c s t row blue_to red_to
GoesBy Carried c s t row blue_to red_to = ⊥

-- a row that is not Carried: both its links lead from s, and go where its tag asks
pub record NearRow (tag : Tag) (links : List Link) (c : Certificate) (s t : ℕ) (row : Row) : Type 0 where
  pub blue_to : ℕ
  pub red_to : ℕ
  pub blue_leads : leads links row.blue s ≡ Some blue_to
  pub red_leads : leads links row.red s ≡ Some red_to
  pub goes : GoesBy tag c s t row blue_to red_to

-- Carried: s and t are not related; blue and red are those of the row of s for the carrier
pub record CarriedRow (c : Certificate) (root s t : ℕ) (row : Row) : Type 0 where
  pub apart : IsTrue (are_unrelated c s t)
  pub other : Row
  pub other_is : option_and_then (row_of c s) (carrier c root s t) ≡ Some other
  pub blue : row.blue ≡ other.blue
  pub red : row.red ≡ other.red

-- what a row with this tag keeps
abbrev pub Keeps : Tag → List Link → Certificate → ℕ → ℕ → ℕ → Row → Type 0
Keeps Carried links c root s t row = CarriedRow c root s t row
Keeps tag links c root s t row = NearRow tag links c s t row

-- s has a row for t, and if it has this tag, it keeps what the tag asks
pub record HasRowBy (tag : Tag) (links : List Link) (c : Certificate) (root s t : ℕ) : Type 0 where
  pub row : Row
  pub there : row_of c s t ≡ Some row
  pub keeps : row.tag ≡ tag → Keeps tag links c root s t row

-- rules seven to thirteen, at s and t: that is so, unless s is t
abbrev pub KeepsTag : Tag → List Link → Certificate → ℕ → ℕ → ℕ → Type 0
KeepsTag tag links c root s t = (s ≡ t) ⊎ HasRowBy tag links c root s t
