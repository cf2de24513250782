-- There is one table.
use Rattle.std.proofs.Common.{◌≡◌, ◌∙◌, ◌++◌, ℕ, List, [], ◌∷◌, Some, length, slice_get, refl, sym, ap, subst}
use Rattle.std.specs.List.{AllZip, concat}
use Rattle.std.proofs.lemmas.Option.{same_Some}
use Rattle.area_graph.specs.AreaInvariant.{IsArea}
use Rattle.mrt_graph.specs.GraphInvariant.{IsTopology}
use Rattle.mrt_graph.specs.Topology.{Topology}
use Rattle.mrt_graph.specs.declared.node_id.NodeId.{NodeId}
use Rattle.mrt_graph.proofs.NodeIds.{one_place}
use Rattle.primary_alt.specs.declared.shortest.Primary.{Primary}
use Rattle.mrt_report.specs.Lines.{IsLine}
use Rattle.mrt_report.specs.Rows.{IsRow}
use Rattle.mrt_report.specs.TableParts.{IsPrimaryFor, TableParts, parts_of_lines}
use Rattle.mrt_report.specs.TableText.{IsHead, IsTableLine, IsTableRow, IsTableText, head_line, others}
use Rattle.mrt_report.specs.declared.row.TableRow.{TableRow}
use Rattle.mrt_report.proofs.OneLine.{OneAlternate, one_line, one_row}

pub one_zip : {A B : Type 0} (R : A → B → Type 0) → ((x : A) (y z : B) → R x y → R x z → y ≡ z) → (xs : List A) (ys zs : List B) → AllZip R xs ys → AllZip R xs zs → ys ≡ zs
one_zip R one [] [] [] a b = refl
one_zip R one [] [] (z ∷ zs) a b = absurd b
one_zip R one [] (y ∷ ys) zs a b = absurd a
one_zip R one (x ∷ xs) [] zs a b = absurd a
one_zip R one (x ∷ xs) (y ∷ ys) [] a b = absurd b
one_zip R one (x ∷ xs) (y ∷ ys) (z ∷ zs) a b =
    let first : y ≡ z = one x y z a.0 b.0 in
    let rest : ys ≡ zs = one_zip R one xs ys zs a.1 b.1 in
    λ i. first i ∷ rest i

one_head : (g : Topology) (root source : ℕ) (one other : List ℕ) → IsHead g root source one → IsHead g root source other → one ≡ other
one_head g root source one other a b =
    let router : a.router ≡ b.router = same_Some a.router b.router (sym a.router_is ∙ b.router_is) in
    let root_id : a.root_id ≡ b.root_id = same_Some a.root_id b.root_id (sym a.root_is ∙ b.root_is) in
    a.spelled ∙ (λ i. head_line (router i) (root_id i) (length g.ids) (length g.links)) ∙ sym b.spelled

one_primary : (parts : TableParts) → IsArea parts.area → (to : ℕ) (one other : Primary) → IsPrimaryFor parts.area parts.island parts.primaries to one
    → IsPrimaryFor parts.area parts.island parts.primaries to other → one ≡ other
one_primary parts kept to one other a b =
    let id : a.node.id ≡ b.node.id = same_Some a.node.id b.node.id (sym a.node.in_island ∙ b.node.in_island) in
    let spot : a.spot ≡ b.spot = one_place parts.area.ids a.spot b.spot b.node.id kept.ids_ascend
    (subst (λ (x : NodeId). slice_get parts.area.ids a.spot ≡ Some x) id a.node.in_area) b.node.in_area in
    same_Some one other (same_Some (Some one) (Some other) (sym a.entry ∙ ap (λ (k : ℕ). slice_get parts.primaries k) spot ∙ b.entry))

-- a router has one row on each destination, and so one line
pub one_table_row : OneAlternate → (parts : TableParts) → IsArea parts.area → IsTopology parts.island → (to : ℕ) (one other : TableRow)
    → IsTableRow parts to one → IsTableRow parts to other → one ≡ other
one_table_row alternate parts area_kept kept to one other a b =
    let primary : a.primary ≡ b.primary = one_primary parts area_kept to a.primary b.primary a.primary_is b.primary_is in
    one_row alternate (parts_of_lines parts) to b.primary one other kept (subst (λ (x : Primary). IsRow (parts_of_lines parts) to x one) primary a.row_is) b.row_is

one_table_line : OneAlternate → (parts : TableParts) → IsArea parts.area → IsTopology parts.island → (to : ℕ) (one other : List ℕ)
    → IsTableLine parts to one → IsTableLine parts to other → one ≡ other
one_table_line alternate parts area_kept kept to one other a b =
    let primary : a.primary ≡ b.primary = one_primary parts area_kept to a.primary b.primary a.primary_is b.primary_is in
    one_line alternate (parts_of_lines parts) to b.primary one other kept (subst (λ (x : Primary). IsLine (parts_of_lines parts) to x one) primary a.line) b.line

pub one_table : OneAlternate → (parts : TableParts) (root : ℕ) (one other : List ℕ) → IsArea parts.area → IsTopology parts.island
    → IsTableText parts root one → IsTableText parts root other → one ≡ other
one_table alternate parts root one other area_kept kept a b =
    let head : a.head ≡ b.head = one_head parts.island root parts.source a.head b.head a.head_is b.head_is in
    let lines : a.lines ≡ b.lines = one_zip (IsTableLine parts) (one_table_line alternate parts area_kept kept) (others (length parts.island.ids) parts.source)
    a.lines b.lines a.lines_are b.lines_are in
    a.spelled ∙ (λ i. head i ++ concat (lines i)) ∙ sym b.spelled
