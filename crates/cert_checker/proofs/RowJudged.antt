-- What the tests of one row say of the rules on rows.
use Rattle.std.proofs.Common.{◌≡◌, ◌≢◌, ◌<◌, ◌+◌, ◌∙◌, ◌||◌, ℕ, Bool, true, false, not, Option, Some, refl, sym, ap, subst, inl, inr, arith}
use Rattle.std.proofs.lemmas.Bool.{cases_Bool, ne_eqb}
use Rattle.std.specs.Option.{option_map_or}
use Rattle.cert_checker.specs.steps.KnownNode.{rule_by}
use Rattle.cert_checker.specs.steps.RowFaults.{FailsFirst, row_test}
use Rattle.mrt_graph.specs.declared.cert.Row.{Row}
use Rattle.mrt_graph.specs.declared.cert.Tag.{Tag}
use Rattle.mrt_graph.specs.declared.cert.Tag.TheVariants.{Sole, Head, Top, Below, Above, Unordered, Carried}
use Rattle.mrt_graph.specs.Certificate.{Certificate, row_of}
use Rattle.mrt_graph.specs.Leads.{leads}
use Rattle.mrt_graph.specs.steps.RowRules.{row_rule, rows_tagged}
use Rattle.mrt_graph.specs.Rules.{Rule, TagRule, rule_number}
use Rattle.mrt_graph.specs.Tags.{same_tag, tag_number}
use Rattle.mrt_graph.specs.Topology.{Topology}
use Rattle.mrt_graph.proofs.TestFacts.{tag_is, tag_itself}

module _ (g : Topology) (root : ℕ) (c : Certificate) (s t : ℕ) (row : Row) (differ : s ≢ t)
    (there : row_of c s t ≡ Some row) where
  -- what is asked of the row
  tagged_is : (T : Tag)
      → rows_tagged T g.links c root s t ≡ (not (same_tag row.tag T) || row_rule T g.links c root s t row)
  tagged_is T =
      ap (λ (same : Bool). same || option_map_or (λ r. not (same_tag r.tag T) || row_rule T g.links c root s t r)
      (row_of c s t) false) (ne_eqb s t differ)
      ∙ ap (λ (o : Option Row). option_map_or (λ r. not (same_tag r.tag T) || row_rule T g.links c root s t r) o
      false) there

  other_tag : (T : Tag) → same_tag row.tag T ≡ false → rows_tagged T g.links c root s t ≡ true
  other_tag T other = tagged_is T ∙ rw other refl

  own_tag : rows_tagged row.tag g.links c root s t ≡ row_rule row.tag g.links c root s t row
  own_tag = tagged_is row.tag ∙ rw (tag_itself row.tag) refl

  each_tag : row_rule row.tag g.links c root s t row ≡ true → (T : Tag) → rows_tagged T g.links c root s t ≡ true
  each_tag keeps T = elim (cases_Bool (same_tag row.tag T)) [
    | inl same ↦ subst (λ U. rows_tagged U g.links c root s t ≡ true) (tag_is row.tag T same) (own_tag ∙ keeps)
    | inr other ↦ other_tag T other
  ]

  -- the row breaks the rule of its tag, which alone asks anything of it
  pub breaks_tag : (number : ℕ) → number ≡ tag_number row.tag
      → (blue red : Option ℕ) → blue ≡ leads g.links row.blue s → red ≡ leads g.links row.red s → rule_by row.tag c root s t row blue red ≡ false
      → FailsFirst (λ rule. row_test g root c rule s t) (7 + number)
  breaks_tag number is blue red blue_leads red_leads breaks = record {
    rule = TagRule row.tag;
    numbered = ap (λ (k : ℕ). 7 + k) (sym is);
    fails = own_tag ∙ sym (by_leads row.tag) ∙ sym (ap (λ (o : Option ℕ). rule_by row.tag c root s t row o (leads g.links row.red s)) blue_leads)
        ∙ sym (ap (λ (o : Option ℕ). rule_by row.tag c root s t row blue o) red_leads) ∙ breaks;
    earlier = go;
  }
    where
      by_leads : (T : Tag) → rule_by T c root s t row (leads g.links row.blue s) (leads g.links row.red s) ≡ row_rule T g.links c root s t row
      by_leads Sole = refl
      by_leads Head = refl
      by_leads Top = refl
      by_leads Below = refl
      by_leads Above = refl
      by_leads Unordered = refl
      by_leads Carried = refl

      go : (other : Rule) → rule_number other < 7 + number → row_test g root c other s t ≡ true
      go (TagRule T) less =
          other_tag T (ne_eqb (tag_number row.tag) (tag_number T) (λ same. omega (arith, less, same, is)))
      go _ less = refl

  -- the row keeps that rule, and so each
  pub keeps_tag : row_rule row.tag g.links c root s t row ≡ true → (rule : Rule) → row_test g root c rule s t ≡ true
  keeps_tag keeps (TagRule T) = each_tag keeps T
  keeps_tag keeps _ = refl
