-- Each rule holds or fails at one place, and so a file is accepted or has one first fault.
use Rattle.std.proofs.Common.{◌≡◌, ◌<◌, ◌≤◌, ◌⊎◌, ◌+◌, ◌∙◌, inl, inr, ℕ, Bool, List, length, refl, sym, ap, subst, arith}
use Rattle.std.proofs.lemmas.Bool.{both_ways, cases_Bool, cases_eq, cases_order, eq-eqb}
use Rattle.mrt_graph.specs.declared.cert.CertFile.{CertFile}
use Rattle.mrt_graph.specs.declared.cert.Tag.{Tag}
use Rattle.mrt_graph.specs.declared.link.Link.{Link}
use Rattle.mrt_graph.specs.declared.cert.Tag.TheVariants.{Sole, Head, Top, Below, Above, Unordered, Carried}
use Rattle.mrt_graph.specs.Accepted.{Accepted}
use Rattle.mrt_graph.specs.Certificate.{Certificate}
use Rattle.mrt_graph.specs.FirstFault.{FirstFault}
use Rattle.mrt_graph.specs.HeadsAndBlocks.{HeadHoldsAt, HeadFails, Alone, Beside, HeadsHold, HeadFault, closed_block, link_placed, lone_block, placed, one_head}
use Rattle.mrt_graph.specs.Places.{Each, EachPair, EachTwo, IsFirst, IsFirstPair, IsFirstTwo}
use Rattle.mrt_graph.specs.RootAndOrders.{RootAndOrders, OrderFault, AtRoot, EqualOrders, root_stands, orders_differ}
use Rattle.mrt_graph.specs.RowRules.{rows_in_block}
use Rattle.mrt_graph.specs.steps.RowRules.{rows_tagged}
use Rattle.mrt_graph.specs.RowsByTag.{KeepsTag}
use Rattle.mrt_graph.specs.Rules.{Rule, GraphRule, OrderRule, HeadRule, LinkRule, LoneRule, ClosedRule, TagRule, BlockRule, FailsAt, Holds, rule_number}
use Rattle.mrt_graph.specs.SameGraph.{SameCounts, SameGraph, GraphFault, OtherCounts, OtherNode, OtherLink, same_node, same_link}
use Rattle.mrt_graph.specs.Tags.{tag_number}
use Rattle.mrt_graph.specs.Topology.{Topology}
use Rattle.mrt_graph.proofs.FirstPlaces.{each_first, each_or_first, each_or_pair, first_of, one_first, one_pair, pairs_first}
use Rattle.mrt_graph.proofs.RowsByTag.{by_tag, first_pair, first_two}
use Rattle.mrt_graph.proofs.TestFacts.{tag_is}

-- what is known of each rule: it holds or fails, never both, and fails at one place
pub record IsTold (Held : Type 0) (Fails : ℕ → ℕ → Type 0) : Type 0 where
  pub either : Held ⊎ ((a : ℕ) × ((b : ℕ) × Fails a b))
  pub never_both : (a b : ℕ) → Held → Fails a b → ⊥
  pub one_place : (a b x y : ℕ) → Fails a b → Fails x y → (a ≡ x) × (b ≡ y)

each_told : (test : ℕ → Bool) (n : ℕ) → IsTold (Each test n) (λ a b. IsFirst test n a × (b ≡ 0))
each_told test n = record {
  either = elim (each_first test n) [ inl each ↦ inl each | inr found ↦ inr (found.0, (0, (found.1, refl))) ];
  never_both = λ a b each first. each_or_first test n a each first.0;
  one_place = λ a b x y first other. (one_first test n a x first.0 other.0, first.1 ∙ sym other.1);
}

pairs_told : (test : ℕ → ℕ → Bool) (n : ℕ) → IsTold (EachPair test n) (IsFirstPair test n)
pairs_told test n =
    record { either = pairs_first test n; never_both = each_or_pair test n; one_place = one_pair test n }

tag_told : (links : List Link) (c : Certificate) (root : ℕ) (tag : Tag) (n : ℕ)
    → IsTold (EachTwo (KeepsTag tag links c root) n) (IsFirstTwo (KeepsTag tag links c root) n)
tag_told links c root tag n = record {
  either = elim (pairs_first (rows_tagged tag links c root) n) [
    | inl each ↦ inl (λ a b first second. by_tag links c root tag a b (each a b first second))
    | inr found ↦ inr (found.0, (found.1.0, first_two links c root tag n found.0 found.1.0 found.1.1))
  ];
  never_both = λ a b each first. first.fails (each a b first.first_within first.second_within);
  one_place = λ a b x y first other.
      one_pair (rows_tagged tag links c root) n a b x y (first_pair links c root tag n a b first) (first_pair links c root tag n x y other);
}

-- ---- the first rule

same_counts : (g : Topology) (c : Certificate) → SameCounts g c ⊎ (SameCounts g c → ⊥)
same_counts g c = elim (cases_eq (length c.nodes) (length g.ids)) [
  | inl nodes ↦ elim (cases_eq (length c.links) (length g.links)) [
    | inl links ↦ inl (record { nodes = nodes; links = links })
    | inr other ↦ inr (λ same. other same.links)
  ]
  | inr other ↦ inr (λ same. other same.nodes)
]

graph_either : (g : Topology) (c : Certificate) → SameGraph g c ⊎ ((a : ℕ) × ((b : ℕ) × GraphFault g c a b))
graph_either g c = elim (same_counts g c) [
  | inr other ↦ inr (0, (2, OtherCounts other))
  | inl counts ↦ elim (each_first (same_node g c) (length c.nodes)) [
    | inr found ↦ inr (found.0, (0, OtherNode found.0 counts found.1))
    | inl nodes ↦ elim (each_first (same_link g c) (length c.links)) [
      | inr found ↦ inr (found.0, (1, OtherLink found.0 counts nodes found.1))
      | inl links ↦ inl (record { counts = counts; nodes = nodes; links = links })
    ]
  ]
]

graph_never : (g : Topology) (c : Certificate) (a b : ℕ) → SameGraph g c → GraphFault g c a b → ⊥
graph_never g c a b same (OtherCounts other) = other same.counts
graph_never g c a b same (OtherNode x counts first) = each_or_first _ _ _ same.nodes first
graph_never g c a b same (OtherLink x counts nodes first) = each_or_first _ _ _ same.links first

graph_one : (g : Topology) (c : Certificate) (a b x y : ℕ) → GraphFault g c a b → GraphFault g c x y → (a ≡ x) × (b ≡ y)
graph_one g c a b x y (OtherCounts other) (OtherCounts another) = (refl, refl)
graph_one g c a b x y (OtherCounts other) (OtherNode v counts first) = absurd (other counts)
graph_one g c a b x y (OtherCounts other) (OtherLink e counts nodes first) = absurd (other counts)
graph_one g c a b x y (OtherNode u counts first) (OtherCounts other) = absurd (other counts)
graph_one g c a b x y (OtherNode u counts first) (OtherNode v same second) = (one_first _ _ _ _ first second, refl)
graph_one g c a b x y (OtherNode u counts first) (OtherLink e same nodes second) =
    absurd (each_or_first _ _ _ nodes first)
graph_one g c a b x y (OtherLink d counts nodes first) (OtherCounts other) = absurd (other counts)
graph_one g c a b x y (OtherLink d counts nodes first) (OtherNode v same second) =
    absurd (each_or_first _ _ _ nodes second)
graph_one g c a b x y (OtherLink d counts nodes first) (OtherLink e same others second) =
    (one_first _ _ _ _ first second, refl)

-- ---- the second rule

orders_either : (g : Topology) (root : ℕ) (file : CertFile)
    → RootAndOrders g root file ⊎ ((a : ℕ) × ((b : ℕ) × OrderFault g root file a b))
orders_either g root file = elim (cases_Bool (root_stands g root file)) [
  | inr fails ↦ inr (root, (root, AtRoot fails))
  | inl stands ↦ elim (pairs_first (orders_differ file.cert) (length file.cert.nodes)) [
    | inr found ↦ inr (found.0, (found.1.0, EqualOrders found.0 found.1.0 stands found.1.1))
    | inl orders ↦ inl (record { root_first = stands; orders = orders })
  ]
]

orders_never : (g : Topology) (root : ℕ) (file : CertFile) (a b : ℕ) → RootAndOrders g root file
    → OrderFault g root file a b → ⊥
orders_never g root file a b hold (AtRoot fails) = both_ways _ fails hold.root_first
orders_never g root file a b hold (EqualOrders x y stands first) = each_or_pair _ _ _ _ hold.orders first

orders_one : (g : Topology) (root : ℕ) (file : CertFile) (a b x y : ℕ) → OrderFault g root file a b
    → OrderFault g root file x y → (a ≡ x) × (b ≡ y)
orders_one g root file a b x y (AtRoot fails) (AtRoot again) = (refl, refl)
orders_one g root file a b x y (AtRoot fails) (EqualOrders u v stands first) = absurd (both_ways _ fails stands)
orders_one g root file a b x y (EqualOrders u v stands first) (AtRoot fails) = absurd (both_ways _ fails stands)
orders_one g root file a b x y (EqualOrders d e stands first) (EqualOrders u v again second) =
    one_pair _ _ _ _ _ _ first second

-- ---- the third rule

head_either : (c : Certificate) (root a : ℕ) → HeadHoldsAt c root a ⊎ ((b : ℕ) × HeadFails c root a b)
head_either c root a = elim (cases_Bool (placed c root a)) [
  | inr fails ↦ inr (0, Alone fails)
  | inl alone ↦ elim (each_first (one_head c a) (length c.nodes)) [
    | inr found ↦ inr (found.0, Beside found.0 alone found.1)
    | inl beside ↦ inl (record { alone = alone; beside = beside })
  ]
]

head_never : (c : Certificate) (root a b : ℕ) → HeadHoldsAt c root a → HeadFails c root a b → ⊥
head_never c root a b holds (Alone fails) = both_ways _ fails holds.alone
head_never c root a b holds (Beside x alone first) = each_or_first _ _ _ holds.beside first

head_one : (c : Certificate) (root a b y : ℕ) → HeadFails c root a b → HeadFails c root a y → b ≡ y
head_one c root a b y (Alone fails) (Alone again) = refl
head_one c root a b y (Alone fails) (Beside v alone first) = absurd (both_ways _ fails alone)
head_one c root a b y (Beside u alone first) (Alone fails) = absurd (both_ways _ fails alone)
head_one c root a b y (Beside u alone first) (Beside v again second) = one_first _ _ _ _ first second

heads_either : (c : Certificate) (root : ℕ) → HeadsHold c root ⊎ ((a : ℕ) × ((b : ℕ) × HeadFault c root a b))
heads_either c root =
    elim (first_of (HeadHoldsAt c root) (λ a. (b : ℕ) × HeadFails c root a b) (length c.nodes)
    (λ a within. head_either c root a)) [
      | inl hold ↦ inl hold
      | inr found ↦
          let fails = found.1.1.0 in
          inr (found.0, (fails.0, record { within = found.1.0; fails = fails.1; before = found.1.1.1 }))
    ]

heads_never : (c : Certificate) (root a b : ℕ) → HeadsHold c root → HeadFault c root a b → ⊥
heads_never c root a b hold fault = head_never c root a b (hold a fault.within) fault.fails

heads_one : (c : Certificate) (root a b x y : ℕ) → HeadFault c root a b → HeadFault c root x y → (a ≡ x) × (b ≡ y)
heads_one c root a b x y fault other = elim (cases_order a x) [
  | inl same ↦ (
    same,
    head_one c root a b y fault.fails
        (subst (λ (z : ℕ). HeadFails c root z y) (sym same) other.fails),
  )
  | inr (inl less) ↦ absurd (head_never c root a b (other.before a less) fault.fails)
  | inr (inr less) ↦ absurd (head_never c root x y (fault.before x less) other.fails)
]

-- ---- all rules

pub rule_told : (g : Topology) (root : ℕ) (file : CertFile) (rule : Rule) → IsTold (Holds g root file rule) (FailsAt g root file rule)
rule_told g root file GraphRule =
    record {
      either = graph_either g file.cert;
      never_both = graph_never g file.cert;
      one_place = graph_one g file.cert;
    }
rule_told g root file OrderRule =
    record {
      either = orders_either g root file;
      never_both = orders_never g root file;
      one_place = orders_one g root file;
    }
rule_told g root file HeadRule =
    record {
      either = heads_either file.cert root;
      never_both = heads_never file.cert root;
      one_place = heads_one file.cert root;
    }
rule_told g root file LinkRule = each_told (link_placed file.cert) (length file.cert.links)
rule_told g root file LoneRule = each_told (lone_block file.cert root) (length file.cert.nodes)
rule_told g root file ClosedRule = each_told (closed_block file.cert root) (length file.cert.nodes)
rule_told g root file (TagRule tag) = tag_told g.links file.cert root tag (length file.cert.nodes)
rule_told g root file BlockRule = pairs_told (rows_in_block file.cert) (length file.cert.nodes)

tag_few : (T : Tag) → tag_number T < 7
tag_few Sole = omega arith
tag_few Head = omega arith
tag_few Top = omega arith
tag_few Below = omega arith
tag_few Above = omega arith
tag_few Unordered = omega arith
tag_few Carried = omega arith

-- a number is that of one rule
pub one_rule : (rule other : Rule) → rule_number rule ≡ rule_number other → rule ≡ other
one_rule GraphRule GraphRule same = refl
one_rule OrderRule OrderRule same = refl
one_rule HeadRule HeadRule same = refl
one_rule LinkRule LinkRule same = refl
one_rule LoneRule LoneRule same = refl
one_rule ClosedRule ClosedRule same = refl
one_rule BlockRule BlockRule same = refl
one_rule (TagRule T) (TagRule U) same = ap TagRule (tag_is T U (eq-eqb _ _ (omega (arith, same))))
one_rule (TagRule T) BlockRule same = absurd (omega (arith, same, tag_few T))
one_rule BlockRule (TagRule T) same = absurd (omega (arith, same, tag_few T))
one_rule (TagRule T) _ same = absurd (omega (arith, same))
one_rule _ (TagRule T) same = absurd (omega (arith, same))
one_rule _ _ same = absurd (omega (arith, same))

from_one : (rule : Rule) → 1 ≤ rule_number rule
from_one (TagRule T) = omega arith
from_one _ = omega arith

to_fourteen : (rule : Rule) → rule_number rule < 15
to_fourteen (TagRule T) = omega (arith, tag_few T)
to_fourteen _ = omega arith

-- all rules before that number hold
abbrev pub HoldBefore : Topology → ℕ → CertFile → ℕ → Type 0
HoldBefore g root file number = (rule : Rule) → rule_number rule < number → Holds g root file rule

module _ (g : Topology) (root : ℕ) (file : CertFile) where
  pub hold_none : HoldBefore g root file 1
  hold_none = λ rule less. absurd (omega (arith, less, from_one rule))

  -- and one rule more
  pub hold_more : (rule : Rule) → HoldBefore g root file (rule_number rule) → Holds g root file rule
      → HoldBefore g root file (rule_number rule + 1)
  hold_more rule before holds = λ other less. elim (cases_eq (rule_number other) (rule_number rule)) [
    | inl same ↦ subst (λ r. Holds g root file r) (one_rule rule other (sym same)) holds
    | inr apart ↦ before other (omega (arith, less, apart))
  ]

  record Fault : Type 0 where
    number : ℕ
    a : ℕ
    b : ℕ
    fault : FirstFault g root file number a b

  and_then : (rule : Rule) → HoldBefore g root file (rule_number rule) ⊎ Fault
      → HoldBefore g root file (rule_number rule + 1) ⊎ Fault
  and_then rule (inr fault) = inr fault
  and_then rule (inl before) = elim (rule_told g root file rule).either [
    | inr found ↦ inr (record {
      number = rule_number rule;
      a = found.0;
      b = found.1.0;
      fault = record { rule = rule; numbered = refl; fails = found.1.1; earlier = before };
    })
    | inl holds ↦ inl (hold_more rule before holds)
  ]

  all_or_fault : HoldBefore g root file 15 ⊎ Fault
  all_or_fault =
      and_then BlockRule (and_then (TagRule Carried) (and_then (TagRule Unordered) (and_then (TagRule Above)
      (and_then (TagRule Below) (and_then (TagRule Top) (and_then (TagRule Head) (and_then (TagRule Sole)
      (and_then ClosedRule (and_then LoneRule (and_then LinkRule (and_then HeadRule (and_then OrderRule
      (and_then GraphRule (inl hold_none))))))))))))))

  pub accepted_or_faulty : Accepted g root file ⊎ ((rule a b : ℕ) × FirstFault g root file rule a b)
  accepted_or_faulty = elim all_or_fault [
    | inl all ↦ inl (λ rule. all rule (to_fourteen rule))
    | inr fault ↦ inr (fault.number, fault.a, fault.b, fault.fault)
  ]

  pub never_both : (rule a b : ℕ) → Accepted g root file → FirstFault g root file rule a b → ⊥
  never_both rule a b accepted fault =
      (rule_told g root file fault.rule).never_both a b (accepted fault.rule) fault.fails

  not_earlier : (rule a b number x y : ℕ) → FirstFault g root file rule a b → FirstFault g root file number x y
      → rule < number → ⊥
  not_earlier rule a b number x y fault other less =
      (rule_told g root file fault.rule).never_both a b
      (other.earlier fault.rule (omega (arith, less, fault.numbered))) fault.fails

  pub one_fault : (rule a b number x y : ℕ) → FirstFault g root file rule a b → FirstFault g root file number x y
      → (rule ≡ number) × (a ≡ x) × (b ≡ y)
  one_fault rule a b number x y fault other = elim (cases_order rule number) [
    | inl same ↦
        let one = one_rule other.rule fault.rule (other.numbered ∙ sym same ∙ sym fault.numbered) in
        let place = (rule_told g root file fault.rule).one_place a b x y fault.fails
        (subst (λ r. FailsAt g root file r x y) one other.fails) in
        (same, place.0, place.1)
    | inr (inl less) ↦ absurd (not_earlier rule a b number x y fault other less)
    | inr (inr less) ↦ absurd (not_earlier number x y rule a b other fault less)
  ]
