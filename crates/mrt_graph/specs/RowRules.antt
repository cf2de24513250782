-- What the rules on rows ask of nodes and links, and the fourteenth rule.
use Rattle.std.specs.Prelude.{◌==◌, ◌&&◌, ◌||◌, ℕ, Bool, false, Some}
use Rattle.std.specs.Option.{option_map_or}
use Rattle.mrt_graph.specs.declared.cert.Row.{Row}
use Rattle.mrt_graph.specs.declared.cert.Tag.{Tag}
use Rattle.mrt_graph.specs.declared.cert.Tag.TheVariants.{Carried}
use Rattle.mrt_graph.specs.BothThere.{are_equal, is_less}
use Rattle.mrt_graph.specs.Certificate.{Certificate, row_of}
use Rattle.mrt_graph.specs.CertFields.{order_of, head_of, block_of, link_block, has_role, tagged}
use Rattle.mrt_graph.specs.Related.{is_common_block}
use Rattle.mrt_graph.specs.Roles.{is_plain, is_closing}
use Rattle.mrt_graph.specs.Tags.{same_tag}

-- v has a greater order than s, and its row for t has this tag
abbrev pub higher_tagged : Certificate → ℕ → ℕ → Tag → ℕ → Bool
higher_tagged c s t tag v = is_less (order_of c s) (order_of c v) && tagged c v t tag

-- v has a smaller order than s, and its row for t has this tag
abbrev pub lower_tagged : Certificate → ℕ → ℕ → Tag → ℕ → Bool
lower_tagged c s t tag v = is_less (order_of c v) (order_of c s) && tagged c v t tag

-- v is a node of the block of s with a greater order
abbrev pub higher_beside : Certificate → ℕ → ℕ → Bool
higher_beside c s v = are_equal (block_of c v) (block_of c s) && is_less (order_of c s) (order_of c v)

-- v is a node of the block of s with a smaller order
abbrev pub lower_beside : Certificate → ℕ → ℕ → Bool
lower_beside c s v = are_equal (block_of c v) (block_of c s) && is_less (order_of c v) (order_of c s)

-- the link is plain, and v is the head of s
abbrev pub plain_to_head : Certificate → ℕ → ℕ → ℕ → Bool
plain_to_head c e s v = has_role is_plain c e && are_equal (head_of c s) (Some v)

-- the link is closing, and v is the head of s
abbrev pub closing_to_head : Certificate → ℕ → ℕ → ℕ → Bool
closing_to_head c e s v = has_role is_closing c e && are_equal (head_of c s) (Some v)

-- blue and red are those of another row
abbrev pub same_links : Row → Row → Bool
same_links row other = (row.blue == other.blue) && (row.red == other.red)

-- both links of the row lie in the common block of s and t
abbrev pub lies_in_block : Certificate → ℕ → ℕ → Row → Bool
lies_in_block c s t row =
    is_common_block c s t (link_block c row.blue) && is_common_block c s t (link_block c row.red)

-- the fourteenth rule, at s and t: s has a row for t, unless it is t, and unless it is Carried, both its links lie in
-- the common block of s and t. It follows from rules 1, 3, 4 and 7 to 13, so it is never the first to fail
abbrev pub rows_in_block : Certificate → ℕ → ℕ → Bool
rows_in_block c s t =
    (s == t)
    || option_map_or (λ row. same_tag row.tag Carried || lies_in_block c s t row) (row_of c s t) false
