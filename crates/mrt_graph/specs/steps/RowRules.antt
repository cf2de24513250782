-- What a row keeps by its tag, as tests.
use Rattle.std.specs.Prelude.{◌==◌, ◌&&◌, ◌||◌, ℕ, Bool, false, List, Some, not}
use Rattle.std.specs.Option.{option_and_then, option_map_or}
use Rattle.mrt_graph.specs.declared.cert.Row.{Row}
use Rattle.mrt_graph.specs.declared.cert.Tag.{Tag}
use Rattle.mrt_graph.specs.declared.cert.Tag.TheVariants.{Sole, Head, Top, Below, Above, Unordered, Carried}
use Rattle.mrt_graph.specs.declared.link.Link.{Link}
use Rattle.mrt_graph.specs.BothThere.{are_equal, both, is_less}
use Rattle.mrt_graph.specs.Certificate.{Certificate, row_of}
use Rattle.mrt_graph.specs.CertFields.{order_of, head_of, block_of, has_role, tagged}
use Rattle.mrt_graph.specs.Leads.{leads}
use Rattle.mrt_graph.specs.Related.{are_unrelated, carrier}
use Rattle.mrt_graph.specs.Roles.{is_plain, is_sole, is_closing}
use Rattle.mrt_graph.specs.Tags.{same_tag}
use Rattle.mrt_graph.specs.RowRules.{closing_to_head, higher_beside, higher_tagged, lower_beside, lower_tagged, plain_to_head, same_links}

-- Sole: blue and red are one link, its role is sole, and it leads to t
abbrev pub sole_row : Certificate → ℕ → Row → ℕ → Bool
sole_row c t row blue_to = (row.blue == row.red) && (has_role is_sole c row.blue && (blue_to == t))

-- Head: the head of s is t; blue leads to a node of the block of s with a greater order, or is closing and leads to t;
-- red leads to a node of the block of s with a smaller order, or is plain and leads to t
abbrev pub head_row : Certificate → ℕ → ℕ → Row → ℕ → ℕ → Bool
head_row c s t row blue_to red_to =
    are_equal (head_of c s) (Some t)
    && ((higher_beside c s blue_to || (has_role is_closing c row.blue && (blue_to == t)))
    && (lower_beside c s red_to || (has_role is_plain c row.red && (red_to == t))))

-- Top: the head of t is s; blue is plain, and leads to t or to a node whose row for t is Below; red is closing, and
-- leads to t or to a node whose row for t is Above
abbrev pub top_row : Certificate → ℕ → ℕ → Row → ℕ → ℕ → Bool
top_row c s t row blue_to red_to =
    are_equal (head_of c t) (Some s)
    && ((has_role is_plain c row.blue && ((blue_to == t) || tagged c blue_to t Below))
    && (has_role is_closing c row.red && ((red_to == t) || tagged c red_to t Above)))

-- Below: s and t have one block, s has the smaller order; blue leads to t, or to a node of greater order whose row for
-- t is Below; red leads to a node of smaller order whose row for t is Below, or is plain and leads to the head of s
abbrev pub below_row : Certificate → ℕ → ℕ → Row → ℕ → ℕ → Bool
below_row c s t row blue_to red_to =
    are_equal (block_of c s) (block_of c t) && (is_less (order_of c s) (order_of c t)
    && (((blue_to == t) || higher_tagged c s t Below blue_to)
    && (lower_tagged c s t Below red_to || plain_to_head c row.red s red_to)))

-- Above: s and t have one block, s has the greater order; blue leads to a node of greater order whose row for t is
-- Above, or is closing and leads to the head of s; red leads to t, or to a node of smaller order whose row for t is
-- Above
abbrev pub above_row : Certificate → ℕ → ℕ → Row → ℕ → ℕ → Bool
above_row c s t row blue_to red_to =
    are_equal (block_of c s) (block_of c t) && (is_less (order_of c t) (order_of c s)
    && ((higher_tagged c s t Above blue_to || closing_to_head c row.blue s blue_to)
    && ((red_to == t) || lower_tagged c s t Above red_to)))

-- Unordered: s and t have one block; blue leads to a node of smaller order whose row for t is Unordered or Below, or is
-- plain and leads to the head of s; red leads to a node of greater order whose row for t is Unordered or Above; t has no
-- row for itself, so where rule three holds neither leads straight to t
abbrev pub unordered_row : Certificate → ℕ → ℕ → Row → ℕ → ℕ → Bool
unordered_row c s t row blue_to red_to =
    are_equal (block_of c s) (block_of c t)
    && (((lower_tagged c s t Unordered blue_to || lower_tagged c s t Below blue_to)
    || plain_to_head c row.blue s blue_to)
    && (higher_tagged c s t Unordered red_to || higher_tagged c s t Above red_to))

-- these by the tag; a Carried row is none of them
abbrev pub near_row : Tag → Certificate → ℕ → ℕ → Row → ℕ → ℕ → Bool
near_row Sole c s t row blue_to red_to = sole_row c t row blue_to
near_row Head c s t row blue_to red_to = head_row c s t row blue_to red_to
near_row Top c s t row blue_to red_to = top_row c s t row blue_to red_to
near_row Below c s t row blue_to red_to = below_row c s t row blue_to red_to
near_row Above c s t row blue_to red_to = above_row c s t row blue_to red_to
near_row Unordered c s t row blue_to red_to = unordered_row c s t row blue_to red_to
near_row Carried c s t row blue_to red_to = false

-- Carried: s and t are not related; blue and red are those of the row of s for the carrier
abbrev pub carried_row : Certificate → ℕ → ℕ → ℕ → Row → Bool
carried_row c root s t row =
    are_unrelated c s t
    && option_map_or (same_links row) (option_and_then (row_of c s) (carrier c root s t)) false

-- what a row with this tag keeps: unless it is Carried, both its links lead from s, and where its tag asks
abbrev pub row_rule : Tag → List Link → Certificate → ℕ → ℕ → ℕ → Row → Bool
row_rule Carried links c root s t row = carried_row c root s t row
row_rule tag links c root s t row = both (near_row tag c s t row) (leads links row.blue s) (leads links row.red s)

-- rules seven to thirteen, at s and t: s has a row for t, unless it is t, and if it has this tag, it keeps what the tag
-- asks
abbrev pub rows_tagged : Tag → List Link → Certificate → ℕ → ℕ → ℕ → Bool
rows_tagged tag links c root s t =
    (s == t)
    || option_map_or (λ row. not (same_tag row.tag tag) || row_rule tag links c root s t row) (row_of c s t) false
