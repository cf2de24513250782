-- All fourteen rules hold of a file that tells of a graph.
use Rattle.std.proofs.Common.{◌≡◌, ◌≢◌, ◌∙◌, ◌==◌, ◌||◌, ◌<◌, ℕ, Bool, true, false, Option, not, length, refl, ap, subst, inl, inr, arith}
use Rattle.std.proofs.lemmas.Bool.{cases_Bool, cases_eq, eq-eqb, or_left, or_right}
use Rattle.std.specs.Option.{option_map_or}
use Rattle.mrt_graph.specs.declared.cert.CertFile.{CertFile}
use Rattle.mrt_graph.specs.declared.cert.Row.{Row}
use Rattle.mrt_graph.specs.declared.cert.Tag.{Tag}
use Rattle.mrt_graph.specs.declared.cert.Tag.TheVariants as tags
use Rattle.mrt_graph.specs.Accepted.{Accepted}
use Rattle.mrt_graph.specs.BothThere.{both}
use Rattle.mrt_graph.specs.Certificate.{Certificate, row_of}
use Rattle.mrt_graph.specs.GraphInvariant.{IsTopology}
use Rattle.mrt_graph.specs.Leads.{leads}
use Rattle.mrt_graph.specs.Places.{EachPair}
use Rattle.mrt_graph.specs.RowRules.{lies_in_block, rows_in_block}
use Rattle.mrt_graph.specs.steps.RowRules.{near_row, row_rule, rows_tagged}
use Rattle.mrt_graph.specs.Rules.{Rule, Holds, BlockRule, ClosedRule, GraphRule, HeadRule, LinkRule, LoneRule, OrderRule, TagRule}
use Rattle.mrt_graph.specs.Tags.{same_tag}
use Rattle.mrt_graph.specs.Topology.{Topology}
use Rattle.mrt_graph.proofs.RowsByTag.{by_tag}
use Rattle.mrt_graph.proofs.TestFacts.{tag_is, tag_itself}
use Rattle.link_direction.specs.Directions.{Directions}
use Rattle.link_direction.specs.OrderedGadag.{IsOrderedGadag}
use Rattle.mrt_rows.specs.CertOf.{Tells}
use Rattle.mrt_rows.specs.RowLines.{LineOf}
use Rattle.mrt_rows.proofs.BlocksHold.{closed_blocks, heads_hold, links_placed, lone_blocks, ordered, same_graph}
use Rattle.mrt_rows.proofs.LinesHold.{Passes, above_passes, below_passes, head_passes, top_passes, unordered_passes}
use Rattle.mrt_rows.proofs.OneRow.{seen}
use Rattle.mrt_rows.proofs.OrderedGraphs.{OrderedGraph}
use Rattle.mrt_rows.proofs.OtherLines.{carried_passes, near_in_block, sole_passes}

module _ (og : OrderedGraph) (file : CertFile) (tells : Tells og.g og.root og.w file) where
  abbrev n : ℕ
  n = length og.g.ids

  abbrev c : Certificate
  c = file.cert

  -- a test of rows holds at each two nodes where it holds of each row as its line says
  by_row : (test : ℕ → ℕ → Row → Bool)
      → ((s t : ℕ) (row : Row) → s < n → t < n → s ≢ t → LineOf row.tag og.g og.root og.w s (row_of c s) t row
      → test s t row ≡ true)
      → EachPair (λ s t. (s == t) || option_map_or (test s t) (row_of c s t) false) (length c.nodes)
  by_row test holds s t s_below t_below = elim (cases_eq s t) [
    | inl same ↦ or_left _ _ (eq-eqb s t same)
    | inr two ↦
        let s_within : s < n = omega (arith, s_below, tells.nodes.one_each) in
        let t_within : t < n = omega (arith, t_below, tells.nodes.one_each) in
        let it = tells.rows s t s_within t_within two in
        or_right _ _ (ap (λ (o : Option Row). option_map_or (test s t) o false) it.is
        ∙ holds s t it.row s_within t_within two it.line)
  ]

  module _ (s t : ℕ) (row : Row) (s_within : s < n) (t_within : t < n) (two : s ≢ t) where
    both_lead : (tag : Tag) → Passes og file tag s t row → both (near_row tag c s t row) (leads og.g.links row.blue s) (leads og.g.links row.red s) ≡ true
    both_lead tag it = rw (it.blue_leads, it.red_leads) it.holds

    rule_of : (tag : Tag) → LineOf tag og.g og.root og.w s (row_of c s) t row → row_rule tag og.g.links c og.root s t row ≡ true
    rule_of tags.Sole line = both_lead tags.Sole (sole_passes og file tells s t s_within t_within two row line)
    rule_of tags.Head line = both_lead tags.Head (head_passes og file tells s t s_within t_within two row line)
    rule_of tags.Top line = both_lead tags.Top (top_passes og file tells s t s_within t_within two row line)
    rule_of tags.Below line = both_lead tags.Below (below_passes og file tells s t s_within t_within two row line)
    rule_of tags.Above line = both_lead tags.Above (above_passes og file tells s t s_within t_within two row line)
    rule_of tags.Unordered line = both_lead tags.Unordered (unordered_passes og file tells s t s_within t_within two row line)
    rule_of tags.Carried line = carried_passes og file tells s t s_within t_within two row line

  tag_rule : (tag : Tag) → EachPair (rows_tagged tag og.g.links c og.root) (length c.nodes)
  tag_rule tag = by_row (λ s t row. not (same_tag row.tag tag) || row_rule tag og.g.links c og.root s t row)
      (λ s t row s_within t_within two line. elim (cases_Bool (same_tag row.tag tag)) [
        | inl same ↦
            or_right _ _ (rule_of s t row s_within t_within two tag
            (subst (λ (x : Tag). LineOf x og.g og.root og.w s (row_of c s) t row) (tag_is row.tag tag same) line))
        | inr differ ↦ or_left _ _ (ap not differ)
      ])

  block_rule : EachPair (rows_in_block c) (length c.nodes)
  block_rule = by_row (λ s t row. same_tag row.tag tags.Carried || lies_in_block c s t row)
      (λ s t row s_within t_within two line. elim (seen og s t (row_of c s) row row.tag refl line) [
        | inl near ↦ or_right _ _ (near_in_block og file tells s t s_within t_within two row near)
        | inr far ↦ or_left _ _ (ap (λ (x : Tag). same_tag x tags.Carried) far.0 ∙ tag_itself tags.Carried)
      ])

  rules_hold : (rule : Rule) → Holds og.g og.root file rule
  rules_hold GraphRule = same_graph og file tells
  rules_hold OrderRule = ordered og file tells
  rules_hold HeadRule = heads_hold og file tells
  rules_hold LinkRule = links_placed og file tells
  rules_hold LoneRule = lone_blocks og file tells
  rules_hold ClosedRule = closed_blocks og file tells
  rules_hold (TagRule tag) = λ s t first second. by_tag og.g.links c og.root tag s t (tag_rule tag s t first second)
  rules_hold BlockRule = block_rule

pub accepted : (g : Topology) (root : ℕ) (w : Directions) (file : CertFile) → IsTopology g → IsOrderedGadag g root w
    → Tells g root w file → Accepted g root file
accepted g root w file kept gadag tells =
    rules_hold (record { g = g; root = root; w = w; kept = kept; ordered = gadag }) file tells
