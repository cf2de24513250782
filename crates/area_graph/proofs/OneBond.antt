-- Each arc is of exactly one bond: of one pair where it has a partner, else of one single arc.
use Rattle.std.proofs.Common.{◌≡◌, ◌∙◌, ◌<◌, ◌&&◌, ◌⊎◌, ◌≢◌, true, false, List, Option, Some, None, inl, inr, refl, sym, ap, subst, arith}
use Rattle.std.specs.Prelude.{nat_lt}
use Rattle.std.specs.List.{AllByRecursion}
use Rattle.std.specs.Option.{is_none, is_some, option_map_or}
use Rattle.std.proofs.lemmas.Bool.{cases_order, and_parts, and_from, or_cases, or_left, or_right, lt-ltb, ltb-true, false_from_ne_true}
use Rattle.std.proofs.lemmas.Option.{same_Some}
use Rattle.mrt_graph.specs.InOrder.{in_order}
use Rattle.mrt_graph.proofs.Members.{Has, all_append, all_from_has, has_filter, same_tests}
use Rattle.mrt_graph.proofs.Tallies.{tally, tally_alike, tally_append, tally_filter, tally_none}
use Rattle.area_graph.specs.declared.entry.NumberedEntry.{NumberedEntry as Entry}
use Rattle.area_graph.specs.steps.NumberedArcs.{arc_cmp}
use Rattle.area_graph.specs.steps.NumberedBonds.{partner, tells_pair, is_single, pairs, singles, bonds, same_entry, is_of}
use Rattle.area_graph.proofs.Apart.{Once, count_itself, one_member, same_itself}
use Rattle.area_graph.proofs.OrderedMembers.{has_in_order, tally_in_order}
use Rattle.area_graph.proofs.Partners.{partner_back, partner_is}

some_by : (o : Option Entry) → is_some o ≡ true → (back : Entry) × (o ≡ Some back)
some_by None is = absurd cc
some_by (Some back) is = (back, refl)

none_by : (o : Option Entry) → is_none o ≡ true → o ≡ None
none_by None is = refl
none_by (Some x) is = absurd cc

pub not_both : (o : Option Entry) (back : Entry) → o ≡ None → o ≡ Some back → ⊥
not_both o back none some = cc

-- an arc that tells a pair
pub record TellsPair (arcs : List Entry) (one : Entry) : Type 0 where
  pub lower : one.tail < one.far
  pub back : Entry
  pub partners : partner arcs one ≡ Some back

pub tells : (arcs : List Entry) (one : Entry) → tells_pair arcs one ≡ true → TellsPair arcs one
tells arcs one passes =
    let parts = and_parts (nat_lt one.tail one.far) (is_some (partner arcs one)) passes in
    let some = some_by (partner arcs one) parts.1 in
    record { lower = ltb-true one.tail one.far parts.0; back = some.0; partners = some.1 }

pub from_tells : (arcs : List Entry) (one back : Entry) → one.tail < one.far → partner arcs one ≡ Some back → tells_pair arcs one ≡ true
from_tells arcs one back lower partners =
    and_from (nat_lt one.tail one.far) (is_some (partner arcs one)) (lt-ltb one.tail one.far lower) (ap is_some partners)

pub single : (arcs : List Entry) (one : Entry) → is_single arcs one ≡ true → partner arcs one ≡ None
single arcs one passes = none_by (partner arcs one) passes

-- an arc is of the bond that it tells, and of the one that its partner tells
pub of_itself : (arcs : List Entry) (arc : Entry) → is_of arcs arc arc ≡ true
of_itself arcs arc = or_left (same_entry arc arc) (option_map_or (same_entry arc) (partner arcs arc) false) (same_itself arc)

pub of_partner : (arcs : List Entry) (arc one : Entry) → partner arcs one ≡ Some arc → is_of arcs arc one ≡ true
of_partner arcs arc one partners =
    or_right (same_entry arc one) (option_map_or (same_entry arc) (partner arcs one) false)
    (ap (λ o. option_map_or (same_entry arc) o false) partners ∙ same_itself arc)

-- and of no other
other_by : (arcs : List Entry) (arc one : Entry) (o : Option Entry) → partner arcs one ≡ o → Once arcs → Has arcs arc
    → option_map_or (same_entry arc) o false ≡ true → partner arcs one ≡ Some arc
other_by arcs arc one None is once has passes = absurd cc
other_by arcs arc one (Some back) is once has passes =
    is ∙ ap (λ z. Some z) (sym (one_member arcs arc back once has (partner_is arcs one back is).there passes))

pub of_either : (arcs : List Entry) (arc one : Entry) → Once arcs → Has arcs arc → Has arcs one → is_of arcs arc one ≡ true → (arc ≡ one) ⊎ (partner arcs one ≡ Some arc)
of_either arcs arc one once has has_one passes =
    elim (or_cases (same_entry arc one) (option_map_or (same_entry arc) (partner arcs one) false) passes) [
      | inl first ↦ inl (one_member arcs arc one once has has_one first)
      | inr second ↦ inr (other_by arcs arc one (partner arcs one) refl once has second)
    ]

-- what is known of an arc that tells a bond: it leaves the lower node where it has a partner
abbrev pub IsLower : Entry → Option Entry → Type 0
IsLower one None = Unit {0}
IsLower one (Some back) = one.tail < one.far

pub record IsTeller (arcs : List Entry) (one : Entry) : Type 0 where
  pub there : Has arcs one
  pub lower : IsLower one (partner arcs one)

pub all_tell : (arcs : List Entry) → AllByRecursion (IsTeller arcs) (bonds arcs)
all_tell arcs =
    all_append (IsTeller arcs) (pairs arcs) (singles arcs)
    (all_from_has (IsTeller arcs) (pairs arcs) (λ one has.
    let kept = has_filter (tells_pair arcs) arcs one has in
    let pair = tells arcs one kept.1 in
    record { there = kept.0; lower = subst (IsLower one) (sym pair.partners) pair.lower }))
    (all_from_has (IsTeller arcs) (singles arcs) (λ one has.
    let kept = has_filter (is_single arcs) (in_order arc_cmp arcs) one has in
    record { there = has_in_order arc_cmp arcs one kept.0; lower = subst (IsLower one) (sym (single arcs one kept.1)) tt }))

-- how many bonds an arc is of
count_pairs : (arcs : List Entry) (arc : Entry) → tally (is_of arcs arc) (pairs arcs) ≡ tally (λ one. tells_pair arcs one && is_of arcs arc one) arcs
count_pairs arcs arc = tally_filter (is_of arcs arc) (tells_pair arcs) arcs

count_singles : (arcs : List Entry) (arc : Entry) → tally (is_of arcs arc) (singles arcs) ≡ tally (λ one. is_single arcs one && is_of arcs arc one) arcs
count_singles arcs arc =
    tally_filter (is_of arcs arc) (is_single arcs) (in_order arc_cmp arcs) ∙ tally_in_order arc_cmp (λ one. is_single arcs one && is_of arcs arc one) arcs

module _ (arcs : List Entry) (arc : Entry) (once : Once arcs) (has : Has arcs arc) where
  -- an arc without a partner
  pub of_no_pair : partner arcs arc ≡ None → tally (is_of arcs arc) (pairs arcs) ≡ 0
  of_no_pair none = count_pairs arcs arc ∙ tally_none (λ one. tells_pair arcs one && is_of arcs arc one) arcs (λ one has_one.
      false_from_ne_true (tells_pair arcs one && is_of arcs arc one) (λ passes.
      let parts = and_parts (tells_pair arcs one) (is_of arcs arc one) passes in
      let pair = tells arcs one parts.0 in
      elim (of_either arcs arc one once has has_one parts.1) [
        | inl same ↦ not_both (partner arcs arc) pair.back none (ap (partner arcs) same ∙ pair.partners)
        | inr other ↦ not_both (partner arcs arc) one none (partner_back arcs one arc once has_one other)
      ]))

  of_one_single : partner arcs arc ≡ None → tally (is_of arcs arc) (singles arcs) ≡ 1
  of_one_single none =
      count_singles arcs arc
      ∙ tally_alike (λ one. is_single arcs one && is_of arcs arc one) (same_entry arc) arcs (λ one has_one.
      same_tests (is_single arcs one && is_of arcs arc one) (same_entry arc one)
      (λ passes.
      let parts = and_parts (is_single arcs one) (is_of arcs arc one) passes in
      elim (of_either arcs arc one once has has_one parts.1) [
        | inl same ↦ subst (λ e. same_entry arc e ≡ true) same (same_itself arc)
        | inr other ↦ absurd (not_both (partner arcs one) arc (single arcs one parts.0) other)
      ])
      (λ same.
      subst (λ e. (is_single arcs e && is_of arcs arc e) ≡ true) (one_member arcs arc one once has has_one same)
      (and_from (is_single arcs arc) (is_of arcs arc arc) (ap is_none none) (of_itself arcs arc))))
      ∙ count_itself arcs arc once has

  -- an arc with a partner
  module _ (back : Entry) (is : partner arcs arc ≡ Some back) where
    of_no_single : tally (is_of arcs arc) (singles arcs) ≡ 0
    of_no_single = count_singles arcs arc ∙ tally_none (λ one. is_single arcs one && is_of arcs arc one) arcs (λ one has_one.
        false_from_ne_true (is_single arcs one && is_of arcs arc one) (λ passes.
        let parts = and_parts (is_single arcs one) (is_of arcs arc one) passes in
        let alone = single arcs one parts.0 in
        elim (of_either arcs arc one once has has_one parts.1) [
          | inl same ↦ not_both (partner arcs arc) back (ap (partner arcs) same ∙ alone) is
          | inr other ↦ not_both (partner arcs one) arc alone other
        ]))

    lower_pair : arc.tail < arc.far → tally (λ one. tells_pair arcs one && is_of arcs arc one) arcs ≡ tally (same_entry arc) arcs
    lower_pair lower = tally_alike (λ one. tells_pair arcs one && is_of arcs arc one) (same_entry arc) arcs (λ one has_one.
        same_tests (tells_pair arcs one && is_of arcs arc one) (same_entry arc one)
        (λ passes.
        let parts = and_parts (tells_pair arcs one) (is_of arcs arc one) passes in
        let pair = tells arcs one parts.0 in
        elim (of_either arcs arc one once has has_one parts.1) [
          | inl same ↦ subst (λ e. same_entry arc e ≡ true) same (same_itself arc)
          | inr other ↦ let ends = partner_is arcs one arc other in absurd (omega (arith, lower, pair.lower, ends.tail, ends.far))
        ])
        (λ same.
        subst (λ e. (tells_pair arcs e && is_of arcs arc e) ≡ true) (one_member arcs arc one once has has_one same)
        (and_from (tells_pair arcs arc) (is_of arcs arc arc) (from_tells arcs arc back lower is) (of_itself arcs arc))))

    upper_pair : arc.far < arc.tail → tally (λ one. tells_pair arcs one && is_of arcs arc one) arcs ≡ tally (same_entry back) arcs
    upper_pair upper =
        let ends = partner_is arcs arc back is in
        let again : partner arcs back ≡ Some arc = partner_back arcs arc back once has is in
        let lower : back.tail < back.far = omega (arith, upper, ends.tail, ends.far) in
        tally_alike (λ one. tells_pair arcs one && is_of arcs arc one) (same_entry back) arcs (λ one has_one.
        same_tests (tells_pair arcs one && is_of arcs arc one) (same_entry back one)
        (λ passes.
        let parts = and_parts (tells_pair arcs one) (is_of arcs arc one) passes in
        let pair = tells arcs one parts.0 in
        elim (of_either arcs arc one once has has_one parts.1) [
          | inl same ↦
              let tail : arc.tail ≡ one.tail = ap (λ (e : Entry). e.tail) same in
              let far : arc.far ≡ one.far = ap (λ (e : Entry). e.far) same in
              absurd (omega (arith, upper, pair.lower, tail, far))
          | inr other ↦
              let there : partner arcs arc ≡ Some one = partner_back arcs one arc once has_one other in
              subst (λ e. same_entry back e ≡ true) (same_Some back one (sym is ∙ there)) (same_itself back)
        ])
        (λ same.
        subst (λ e. (tells_pair arcs e && is_of arcs arc e) ≡ true) (one_member arcs back one once ends.there has_one same)
        (and_from (tells_pair arcs back) (is_of arcs arc back) (from_tells arcs back arc lower again) (of_partner arcs arc back again))))

    pub of_one_pair : arc.tail ≢ arc.far → tally (is_of arcs arc) (pairs arcs) ≡ 1
    of_one_pair different = count_pairs arcs arc ∙ elim (cases_order arc.tail arc.far) [
      | inl same ↦ absurd (different same)
      | inr (inl lower) ↦ lower_pair lower ∙ count_itself arcs arc once has
      | inr (inr upper) ↦ upper_pair upper ∙ count_itself arcs back once (partner_is arcs arc back is).there
    ]

  one_by : (o : Option Entry) → partner arcs arc ≡ o → arc.tail ≢ arc.far → tally (is_of arcs arc) (bonds arcs) ≡ 1
  one_by None is different = tally_append (is_of arcs arc) (pairs arcs) (singles arcs) ∙ omega (arith, of_no_pair is, of_one_single is)
  one_by (Some back) is different = tally_append (is_of arcs arc) (pairs arcs) (singles arcs) ∙ omega (arith, of_one_pair back is different, of_no_single back is)

  pub of_one_bond : arc.tail ≢ arc.far → tally (is_of arcs arc) (bonds arcs) ≡ 1
  of_one_bond different = one_by (partner arcs arc) refl different
