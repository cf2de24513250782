-- Rows of a table that are carried, and rows that are near.
use Rattle.std.proofs.Common.{◌≡◌, ◌≢◌, ◌∙◌, ◌<◌, ℕ, Option, Some, length, refl, ap, inl, inr}
use Rattle.mrt_graph.specs.declared.cert.Row.{Row}
use Rattle.mrt_graph.specs.declared.cert.Tag.{Tag}
use Rattle.mrt_graph.specs.declared.cert.Tag.TheVariants as tags
use Rattle.link_direction.specs.CommonBlock.{HaveCommonBlock}
use Rattle.mrt_rows.specs.RowLines.{LineOf}
use Rattle.mrt_rows.specs.RowsOf.{HasRow}
use Rattle.mrt_rows.proofs.OneRow.{Near, of_table, one_for, seen}
use Rattle.mrt_rows.proofs.OrderedGraphs.{OrderedGraph}

module _ (og : OrderedGraph) (s : ℕ) (s_within : s < length og.g.ids) (rows : ℕ → Option Row)
    (has : (t : ℕ) → t < length og.g.ids → s ≢ t → HasRow og.g og.root og.w s rows t) where
  -- where the two have no block in common, the row is carried
  pub carried_tag : (t : ℕ) (row : Row) (T : Tag) → LineOf T og.g og.root og.w s rows t row → ((k h : ℕ) → HaveCommonBlock og.w s t k h → ⊥) → T ≡ tags.Carried
  carried_tag t row tags.Carried line apart = refl
  carried_tag t row tags.Sole line apart = absurd (apart line.block line.head line.common)
  carried_tag t row tags.Head line apart = absurd (apart line.block line.head line.share.common)
  carried_tag t row tags.Top line apart = absurd (apart line.block line.head line.share.common)
  carried_tag t row _ line apart = absurd (apart line.block line.head line.members.share.common)

  -- and that for a node with a common block is what the table says of the two
  pub row_near : (t k h : ℕ) (row : Row) → t < length og.g.ids → (apart : s ≢ t) → HaveCommonBlock og.w s t k h
      → LineOf row.tag og.g og.root og.w s rows t row → rows t ≡ Some row
  row_near t k h row t_within apart common line =
      let by = of_table og s s_within rows has t t_within apart in
      by.is ∙ ap (λ (r : Row). Some r) (elim (seen og s t rows row row.tag refl line) [
        | inl near ↦ one_for og s s_within t by.row row t_within apart by.the (Near near)
        | inr far ↦ absurd (far.1.apart k h common)
      ])
