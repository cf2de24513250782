use Rattle.std.proofs.Common.{◌≡◌, ◌≢◌, ◌<◌, ◌∙◌, ℕ, List, Option, None, Some, get_or, length, slice_get, refl, sym, ap, subst, arith}
use Rattle.std.proofs.lemmas.Option.{same_Some}
use Rattle.area_graph.specs.declared.area_types.Arc.{Arc}
use Rattle.primary_alt.specs.declared.beginnings.Beginning.{Beginning}
use Rattle.primary_alt.specs.steps.Beginnings.{HasBeginning}
use Rattle.primary_alt.specs.steps.LeastBeginnings.{GoesOn, Later, Own, Second}
use Rattle.primary_alt.proofs.Beginning.{apart_by, at_own, equal_by, standing}
use Rattle.primary_alt.proofs.BeginningsPassed.{later_alone, none_goes_on, own_alone, second_alone}
use Rattle.primary_alt.proofs.beginnings.begin_over.Goals as goal

-- the first arc of a beginning that stands, where it is read
first_of : (arcs : List Arc) (begins : List (Option Beginning)) (t place : ℕ) (before : Beginning) (head : Arc)
    → ((v : ℕ) (begin : Beginning) → HasBeginning begins v begin → begin.first < length arcs) → HasBeginning begins t before
    → place ≡ before.first → head ≡ get_or arcs place head → slice_get arcs before.first ≡ Some head
first_of arcs begins t place before head firsts has here is = at_own arcs arcs place before.first head refl here (omega (arith, here, firsts t before has)) is

is_none : (o : Option Beginning) (begin : Beginning) → o ≡ None → o ≡ Some begin → ⊥
is_none o begin none is = let clash : None ≡ Some begin = sym none ∙ is in cc

pub returns-then-eq : goal.returns-then-eq
returns-then-eq c = λ begin.
    let own : c.args.arc.now.tail ≡ c.args.source = sym (equal_by c.args.arc.now.tail c.args.source (sym c.eq.ensures ∙ c.if-eq.true)) in (
      λ same. subst (λ (b : Beginning). GoesOn c.args.arcs.now c.args.source c.args.begins.now c.args.number c.args.arc.now b) (same_Some _ begin same) (Own own),
      λ goes. ap (λ (b : Beginning). Some b) (own_alone c.args.arcs.now c.args.source c.args.begins.now c.args.number c.args.arc.now begin own goes),
    )

pub returns-in_err-before : goal.returns-in_err-before
returns-in_err-before c = λ begin.
    let arc = c.args.arc.now in
    let at = standing c.args.begins.now c.get.result arc.tail None _ c.get.ensures.value c.requires.tail (sym c.in_err-before.was ∙ c.index-begins-get.is) in
    let apart = apart_by arc.tail c.args.source (sym c.eq.ensures ∙ c.if-eq.false) in (
      λ is. absurd (is_none c.from_residual.result begin c.from_residual.ensures is),
      λ goes. absurd (none_goes_on c.args.arcs.now c.args.source c.args.begins.now c.args.number arc begin apart
          (λ before has. let clash : ◌≡◌ {A = Option (Option Beginning)} (Some None) (Some (Some before)) = sym at ∙ has in cc) goes),
    )

pub bounds-arcs-get : goal.bounds-arcs-get
bounds-arcs-get c =
    let arc = c.args.arc.now in
    let before = c.in_ok-before.before in
    let has = standing c.args.begins.now c.get.result arc.tail (Some before) _ c.get.ensures.value c.requires.tail (sym c.in_ok-before.was ∙ c.index-begins-get.is) in
    omega (arith, c.get-2.ensures.value, c.requires.firsts arc.tail before has)

pub returns-then-eq-2 : goal.returns-then-eq-2
returns-then-eq-2 c = λ begin.
    let arc = c.args.arc.now in
    let before = c.in_ok-before.before in
    let has = standing c.args.begins.now c.get.result arc.tail (Some before) _ c.get.ensures.value c.requires.tail (sym c.in_ok-before.was ∙ c.index-begins-get.is) in
    let there = first_of c.args.arcs.now c.args.begins.now arc.tail c.get-2.result before c.index-arcs-get.result c.requires.firsts has c.get-2.ensures.value c.index-arcs-get.is in
    let apart = apart_by arc.tail c.args.source (sym c.eq.ensures ∙ c.if-eq.false) in
    let to : c.index-arcs-get.result.to ≡ arc.tail = ap (λ (a : Arc). a.to) c.index-arcs-get.is ∙ sym (equal_by _ _ (sym c.eq-2.ensures ∙ c.if-eq-2.true)) in (
      λ same. subst (λ (b : Beginning). GoesOn c.args.arcs.now c.args.source c.args.begins.now c.args.number arc b) (same_Some _ begin same) (Second before c.index-arcs-get.result apart has there to),
      λ goes. ap (λ (b : Beginning). Some b) (second_alone c.args.arcs.now c.args.source c.args.begins.now c.args.number arc begin before c.index-arcs-get.result apart has there to goes),
    )

pub returns : goal.returns
returns c = λ begin.
    let arc = c.args.arc.now in
    let before = c.in_ok-before.before in
    let has = standing c.args.begins.now c.get.result arc.tail (Some before) _ c.get.ensures.value c.requires.tail (sym c.in_ok-before.was ∙ c.index-begins-get.is) in
    let there = first_of c.args.arcs.now c.args.begins.now arc.tail c.get-2.result before c.index-arcs-get.result c.requires.firsts has c.get-2.ensures.value c.index-arcs-get.is in
    let apart = apart_by arc.tail c.args.source (sym c.eq.ensures ∙ c.if-eq.false) in
    let other : c.index-arcs-get.result.to ≢ arc.tail = λ to. apart_by _ _ (sym c.eq-2.ensures ∙ c.if-eq-2.false) (sym (ap (λ (a : Arc). a.to) c.index-arcs-get.is) ∙ to) in (
      λ same. subst (λ (b : Beginning). GoesOn c.args.arcs.now c.args.source c.args.begins.now c.args.number arc b) (same_Some before begin same) (Later before c.index-arcs-get.result apart has there other),
      λ goes. ap (λ (b : Beginning). Some b) (later_alone c.args.arcs.now c.args.source c.args.begins.now c.args.number arc begin before c.index-arcs-get.result apart has there other goes),
    )
