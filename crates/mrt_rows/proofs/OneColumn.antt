-- There is exactly one column of rows for a node.
use Rattle.std.proofs.Common.{◌≡◌, ◌∙◌, ◌<◌, ◌==◌, ℕ, List, Option, None, length, if◌then◌else◌, refl, sym, inl, inr, arith}
use Rattle.std.proofs.lemmas.Bool.{cases_eq, eq-eqb, ne_eqb}
use Rattle.mrt_graph.specs.declared.cert.Row.{Row}
use Rattle.mrt_graph.specs.declared.node_id.NodeId.{NodeId}
use Rattle.mrt_graph.proofs.ListTests.{there}
use Rattle.mrt_rows.specs.ColumnOf.{IsColumnOf}
use Rattle.mrt_rows.proofs.OneCert.{same_slices}
use Rattle.mrt_rows.proofs.OrderedGraphs.{OrderedGraph}
use Rattle.mrt_rows.proofs.RowsExist.{each_has, each_row}
use Rattle.mrt_rows.proofs.SoundColumns.{stands}
use Rattle.mrt_rows.proofs.WholeCert.{as_many, numbered, numbered_at}

-- what stands at the place of s
abbrev entry : OrderedGraph → ℕ → ℕ → NodeId → Option Row
entry og t s id = if s == t then None else each_row og s t

pub some_column : (og : OrderedGraph) (t : ℕ) → t < length og.g.ids → (column : List (Option Row)) × IsColumnOf og.g og.root og.w t column
some_column og t t_within = (
  numbered (entry og t) og.g.ids,
  record {
    one_each = as_many (entry og t) og.g.ids;
    at_destination = let id = there og.g.ids t t_within in numbered_at (entry og t) og.g.ids t id.0 id.1 ∙ rw (eq-eqb t t refl) refl;
    each = λ s s_within two. let id = there og.g.ids s s_within in record {
      rows = each_row og s;
      by_table = λ u within apart. each_has og s u s_within within apart;
      stands = numbered_at (entry og t) og.g.ids s id.0 id.1 ∙ rw (ne_eqb s t two) refl;
    };
  },
)

pub one_column : (og : OrderedGraph) (t : ℕ) → t < length og.g.ids → (column other : List (Option Row)) → IsColumnOf og.g og.root og.w t column
    → IsColumnOf og.g og.root og.w t other → column ≡ other
one_column og t t_within column other is other_is = same_slices column other (is.one_each ∙ sym other_is.one_each) (λ s within. elim (cases_eq s t) [
  | inl same ↦ rw same (is.at_destination ∙ sym other_is.at_destination)
  | inr two ↦
      let s_within : s < length og.g.ids = omega (arith, within, is.one_each) in
      stands og t t_within column is s s_within two ∙ sym (stands og t t_within other other_is s s_within two)
])
