-- When a certificate's rows for unrelated nodes follow from its other rows.
use Rattle.std.specs.Prelude.{◌==◌, ◌&&◌, ◌||◌, ℕ, zero, suc, Bool, false, Option, Some, not, length, if◌then◌else◌}
use Rattle.std.specs.Option.{option_and_then, option_map_or}
use Rattle.mrt_graph.specs.declared.cert.Row.{Row}
use Rattle.mrt_graph.specs.declared.cert.Tag.TheVariants.{Carried}
use Rattle.mrt_graph.specs.BothThere.{are_equal}
use Rattle.mrt_graph.specs.Certificate.{Certificate, row_of}
use Rattle.mrt_graph.specs.CertFields.{head_of}
use Rattle.mrt_graph.specs.Places.{Each, EachPair, IsFirst}
use Rattle.mrt_graph.specs.Related.{are_unrelated, carrier}
use Rattle.mrt_graph.specs.RowRules.{same_links}
use Rattle.mrt_graph.specs.Tags.{same_tag}

-- a node is its own head
abbrev pub is_own_head : Certificate → ℕ → Bool
is_own_head c a = are_equal (head_of c a) (Some a)

-- r is the least node that is its own head
abbrev pub IsLeastOwnHead : Certificate → ℕ → Type 0
IsLeastOwnHead c r = IsFirst (λ a. not (is_own_head c a)) (length c.nodes) r

-- in the chain of heads of a node, which is the node, its head, the head of that and so on: the one after so many steps
abbrev pub in_chain : Certificate → ℕ → ℕ → Option ℕ
in_chain c zero a = Some a
in_chain c (suc steps) a = option_and_then (head_of c) (in_chain c steps a)

-- the chain of heads of a node, followed as many steps as there are nodes, comes to r
abbrev pub comes_to : Certificate → ℕ → ℕ → Bool
comes_to c r a = are_equal (in_chain c (length c.nodes) a) (Some r)

-- a row of two unrelated nodes is Carried, and has the links of the row for the carrier; any other is not Carried
abbrev pub is_folded : Certificate → ℕ → ℕ → ℕ → Row → Bool
is_folded c r s t row =
    if are_unrelated c s t
    then same_tag row.tag Carried
    && option_map_or (same_links row) (option_and_then (row_of c s) (carrier c r s t)) false
    else not (same_tag row.tag Carried)

-- s has such a row for t, unless it is t
abbrev pub rows_folded : Certificate → ℕ → ℕ → ℕ → Bool
rows_folded c r s t = (s == t) || option_map_or (is_folded c r s t) (row_of c s t) false

-- some node is its own head, each node's chain of heads comes to the least of these, and the rows are so
pub record IsFoldable (c : Certificate) : Type 0 where
  pub top : ℕ
  pub least : IsLeastOwnHead c top
  pub chains : Each (comes_to c top) (length c.nodes)
  pub rows : EachPair (rows_folded c top) (length c.nodes)
