-- From what each search found to the verdict.
use Rattle.std.proofs.Common.{◌≡◌, ◌<◌, ◌≤◌, ◌↔◌, ℕ, true, length, inl, inr, refl, subst, arith}
use Rattle.std.proofs.lemmas.Bool.{true≢false}
use Rattle.cert_checker.proofs.BlockRuleHolds.{block_rule_holds}
use Rattle.cert_checker.specs.declared.fault.Fault.{Fault}
use Rattle.cert_checker.specs.declared.verdict.Verdict.{Verdict}
use Rattle.cert_checker.specs.declared.verdict.Verdict.TheVariants.{Yes, No}
use Rattle.cert_checker.specs.steps.Found.{Judged}
use Rattle.cert_checker.specs.steps.RowFaults.{Before, FirstRead, row_test}
use Rattle.mrt_graph.specs.declared.cert.CertFile.{CertFile}
use Rattle.mrt_graph.specs.declared.cert.Tag.{Tag}
use Rattle.mrt_graph.specs.declared.cert.Tag.TheVariants.{Sole, Head, Top, Below, Above, Unordered, Carried}
use Rattle.mrt_graph.specs.Accepted.{Accepted}
use Rattle.mrt_graph.specs.FirstFault.{FirstFault}
use Rattle.mrt_graph.specs.Places.{IsFirstPair}
use Rattle.mrt_graph.specs.Rules.{Rule, GraphRule, OrderRule, HeadRule, LinkRule, LoneRule, ClosedRule, TagRule, BlockRule, rule_number, FailsAt, Holds}
use Rattle.mrt_graph.specs.Tags.{tag_number}
use Rattle.mrt_graph.specs.Topology.{Topology}
use Rattle.mrt_graph.proofs.RowsByTag.{by_tag, first_two}
use Rattle.mrt_graph.proofs.RuleFaults.{HoldBefore}

few_tags : (tag : Tag) → tag_number tag ≤ 6
few_tags Sole = omega arith
few_tags Head = omega arith
few_tags Top = omega arith
few_tags Below = omega arith
few_tags Above = omega arith
few_tags Unordered = omega arith
few_tags Carried = omega arith

module _ (g : Topology) (root : ℕ) (file : CertFile) where
  -- all six rules hold, and all on rows
  pub all_hold : HoldBefore g root file 7
      → ((rule : Rule) (a b : ℕ) → Before file.cert (length file.cert.nodes) a b → row_test g root file.cert rule a b ≡ true)
      → Accepted g root file
  all_hold before held (TagRule T) = λ a b first second. by_tag g.links file.cert root T a b (held (TagRule T) a b (first, second))
  all_hold before held BlockRule = block_rule_holds g root file.cert (record {
    same_graph = before GraphRule (omega arith);
    heads = before HeadRule (omega arith);
    links = before LinkRule (omega arith);
    rows = λ tag a b first second. held (TagRule tag) a b (first, second);
  })
  all_hold before held GraphRule = before GraphRule (omega arith)
  all_hold before held OrderRule = before OrderRule (omega arith)
  all_hold before held HeadRule = before HeadRule (omega arith)
  all_hold before held LinkRule = before LinkRule (omega arith)
  all_hold before held LoneRule = before LoneRule (omega arith)
  all_hold before held ClosedRule = before ClosedRule (omega arith)

  -- all six rules hold, and one on rows fails
  pub row_fails : HoldBefore g root file 7 → (fault : Fault)
      → FirstRead (row_test g root file.cert) (length file.cert.nodes) (Before file.cert (length file.cert.nodes)) fault
      → FirstFault g root file fault.rule fault.a fault.b
  row_fails before fault known = record {
    rule = known.rule;
    numbered = known.numbered;
    fails = fails known.rule here;
    earlier = earlier;
  }
    where
      here : IsFirstPair (row_test g root file.cert known.rule) (length file.cert.nodes) fault.a fault.b
      here = record {
        first_within = known.source;
        second_within = known.target;
        fails = known.fails;
        before_first = λ x y below within. known.before x y (omega (arith, below, known.source), within) (inl below);
        before_second = λ y below. known.before fault.a y (known.source, omega (arith, below, known.target)) (inr (refl, below));
      }

      fails : (rule : Rule) → IsFirstPair (row_test g root file.cert rule) (length file.cert.nodes) fault.a fault.b
          → FailsAt g root file rule fault.a fault.b
      fails (TagRule T) here = first_two g.links file.cert root T (length file.cert.nodes) fault.a fault.b here
      fails _ here = absurd (true≢false here.fails)

      -- it is one of those on tags
      of_tag : (rule : Rule) → IsFirstPair (row_test g root file.cert rule) (length file.cert.nodes) fault.a fault.b
          → rule_number rule ≤ 13
      of_tag (TagRule T) here = omega (arith, few_tags T)
      of_tag _ here = absurd (true≢false here.fails)

      earlier : (other : Rule) → rule_number other < fault.rule → Holds g root file other
      earlier (TagRule T) less = λ a b first second. by_tag g.links file.cert root T a b (known.earlier (TagRule T) less a b (first, second))
      earlier BlockRule less = absurd (omega (arith, less, known.numbered, of_tag known.rule here))
      earlier GraphRule less = before GraphRule (omega arith)
      earlier OrderRule less = before OrderRule (omega arith)
      earlier HeadRule less = before HeadRule (omega arith)
      earlier LinkRule less = before LinkRule (omega arith)
      earlier LoneRule less = before LoneRule (omega arith)
      earlier ClosedRule less = before ClosedRule (omega arith)

  -- what a verdict says, where no file is accepted and faulty, and each has one first fault
  module _ (never_both : (rule a b : ℕ) → Accepted g root file → FirstFault g root file rule a b → ⊥)
      (one : (rule a b number x y : ℕ) → FirstFault g root file rule a b → FirstFault g root file number x y
      → (rule ≡ number) × (a ≡ x) × (b ≡ y)) where
    pub yes_exactly : (verdict : Verdict) → Judged g root file verdict → (verdict ≡ Yes) ↔ Accepted g root file
    yes_exactly verdict judged = (λ is. subst (λ (v : Verdict). Judged g root file v) is judged, only verdict judged)
      where
        only : (verdict : Verdict) → Judged g root file verdict → Accepted g root file → verdict ≡ Yes
        only Yes judged held = refl
        only (No rule a b) fault held = absurd (never_both rule a b held fault)

    pub no_exactly : (verdict : Verdict) → Judged g root file verdict
        → (rule a b : ℕ) → (verdict ≡ No rule a b) ↔ FirstFault g root file rule a b
    no_exactly verdict judged rule a b =
        (λ is. subst (λ (v : Verdict). Judged g root file v) is judged, only verdict judged)
      where
        only : (verdict : Verdict) → Judged g root file verdict → FirstFault g root file rule a b
            → verdict ≡ No rule a b
        only Yes held fault = absurd (never_both rule a b held fault)
        only (No number x y) found fault =
            let same = one number x y rule a b found fault in
            let s0 = same.0 in let s1 = same.1 in let s2 = same.2 in cc
