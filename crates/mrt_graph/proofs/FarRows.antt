-- The rows of unrelated nodes of a foldable certificate keep the rules on rows.
use Rattle.std.proofs.Common.{◌≡◌, ◌∙◌, ◌<◌, ◌&&◌, ◌||◌, ℕ, Bool, true, false, not, List, Option, Some, inl, inr, length, sym, ap, subst}
use Rattle.std.specs.Option.{option_and_then, option_map_or}
use Rattle.std.proofs.lemmas.Bool.{and_parts, cases_eq, eq-eqb, ne_eqb}
use Rattle.std.proofs.lemmas.Option.{same_Some}
use Rattle.mrt_graph.specs.declared.cert.Row.{Row}
use Rattle.mrt_graph.specs.declared.cert.Tag.{Tag}
use Rattle.mrt_graph.specs.declared.cert.Tag.TheVariants as tags
use Rattle.mrt_graph.specs.declared.link.Link.{Link}
use Rattle.mrt_graph.specs.Certificate.{Certificate, row_of}
use Rattle.mrt_graph.specs.CertFields.{head_of}
use Rattle.mrt_graph.specs.Foldable.{IsFoldable}
use Rattle.mrt_graph.specs.Related.{are_unrelated, carrier}
use Rattle.mrt_graph.specs.steps.RowRules.{carried_row, row_rule, rows_tagged}
use Rattle.mrt_graph.specs.RowRules.{same_links}
use Rattle.mrt_graph.specs.Tags.{same_tag}
use Rattle.mrt_graph.proofs.OneUnfolding.{carried_tag, chain_ends, folded_at}
use Rattle.mrt_graph.proofs.Unfolding.{stays}

-- a node that is its own head is the one to which all chains come
pub one_top : (c : Certificate) (f : IsFoldable c) (root : ℕ) → root < length c.nodes → head_of c root ≡ Some root → root ≡ f.top
one_top c f root within own =
    same_Some root f.top (sym (stays c (length c.nodes) root own) ∙ chain_ends c f.top root (f.chains root within))

-- each rule on a tag holds there
pub far_rows : (links : List Link) (c : Certificate) (root : ℕ) → IsFoldable c → root < length c.nodes → head_of c root ≡ Some root
    → (tag : Tag) (s t : ℕ) → s < length c.nodes → t < length c.nodes → are_unrelated c s t ≡ true → rows_tagged tag links c root s t ≡ true
far_rows links c root f root_within own tag s t s_within t_within far = elim (cases_eq s t) [
  | inl same ↦ ap (λ (b : Bool). b || option_map_or rule (row_of c s t) false) (eq-eqb s t same)
  | inr two ↦
      let it = folded_at c f s t s_within t_within two in
      let is_carried = carried_tag c f.top s t it.row it.folds far in
      let tests = rw far at it.folds in
      let links_same = (and_parts (same_tag it.row.tag tags.Carried) _ tests).1 in
      let home : f.top ≡ root = sym (one_top c f root root_within own) in
      let linked : option_map_or (same_links it.row) (option_and_then (row_of c s) (carrier c root s t)) false ≡ true =
      subst (λ (r : ℕ). option_map_or (same_links it.row) (option_and_then (row_of c s) (carrier c r s t)) false ≡ true) home links_same in
      let keeps : carried_row c root s t it.row ≡ true =
      ap (λ (b : Bool). b && option_map_or (same_links it.row) (option_and_then (row_of c s) (carrier c root s t)) false) far ∙ linked in
      ap (λ (b : Bool). b || option_map_or rule (row_of c s t) false) (ne_eqb s t two)
      ∙ ap (λ (o : Option Row). option_map_or rule o false) it.is ∙ by_tag tag it.row is_carried keeps
]
  where
    rule : Row → Bool
    rule row = not (same_tag row.tag tag) || row_rule tag links c root s t row

    by_tag : (T : Tag) (row : Row) → row.tag ≡ tags.Carried → carried_row c root s t row ≡ true → (not (same_tag row.tag T) || row_rule T links c root s t row) ≡ true
    by_tag tags.Sole row is keeps = ap (λ (x : Tag). not (same_tag x tags.Sole) || row_rule tags.Sole links c root s t row) is
    by_tag tags.Head row is keeps = ap (λ (x : Tag). not (same_tag x tags.Head) || row_rule tags.Head links c root s t row) is
    by_tag tags.Top row is keeps = ap (λ (x : Tag). not (same_tag x tags.Top) || row_rule tags.Top links c root s t row) is
    by_tag tags.Below row is keeps = ap (λ (x : Tag). not (same_tag x tags.Below) || row_rule tags.Below links c root s t row) is
    by_tag tags.Above row is keeps = ap (λ (x : Tag). not (same_tag x tags.Above) || row_rule tags.Above links c root s t row) is
    by_tag tags.Unordered row is keeps = ap (λ (x : Tag). not (same_tag x tags.Unordered) || row_rule tags.Unordered links c root s t row) is
    by_tag tags.Carried row is keeps = ap (λ (x : Tag). not (same_tag x tags.Carried) || row_rule tags.Carried links c root s t row) is ∙ keeps
