use Rattle.std.proofs.Common.{◌≡◌, ◌∙◌, ◌<◌, ℕ, List, Option, None, Some, get_or, length, replicate, refl, sym, ap, subst, arith, rules}
use Rattle.std.proofs.lemmas.List.{get_or-replicate, length-replicate}
use Rattle.std.proofs.lemmas.Option.{get_or_from_slice_get, slice_get_read, slice_get_within}
use Rattle.mrt_graph.proofs.ListPlaces.{contains_at}
use Rattle.primary_alt.specs.declared.beginnings.Beginning.{Beginning}
use Rattle.primary_alt.specs.steps.Attaining.{AreBetween}
use Rattle.primary_alt.specs.steps.Beginnings.{HasBeginning}
use Rattle.primary_alt.proofs.BeginningsPassed.{all_passed, one_passed}
use Rattle.primary_alt.proofs.beginnings.least_beginnings.Goals as goal

no_beginning : (begins : List (Option Beginning)) (n v : ℕ) (begin : Beginning) → begins ≡ replicate n None → ¬ HasBeginning begins v begin
no_beginning begins n v begin is has =
    let within : v < n = omega (arith, slice_get_within begins v (Some begin) has, ap length is, length-replicate {A = Option Beginning} n None) in
    let clash : None ≡ Some begin = sym (ap (λ (xs : List (Option Beginning)). get_or xs v None) is ∙ get_or-replicate n v None None within)
    ∙ get_or_from_slice_get begins v (Some begin) None has in
    cc

pub pass_on-requires-clause-number : goal.pass_on-requires-clause-number
pass_on-requires-clause-number c =
    let onward = c.in_ok-onward.onward.items in
    let next = c.index.result.now in
    let low : c.loop-place.place < length onward = omega (arith, c.loop-place-test.true, c.len-place-end.ensures, c.in_ok-onward.onward.ok.0) in
    let at = slice_get_read onward (length onward) c.loop-place.place next refl low c.index.ensures in
    let is = c.in_ok-onward.ensures.are.only next (contains_at onward c.loop-place.place next at) in
    slice_get_within c.args.arcs.now next.number is.0 is.1

pub pass_on-requires-clause-firsts : goal.pass_on-requires-clause-firsts
pass_on-requires-clause-firsts c = λ v begin has.
    let is = c.loop-place.invariant.passed.sound v begin has in
    slice_get_within c.args.arcs.now begin.first is.head is.there

pub loop-place-preserved : goal.loop-place-preserved
loop-place-preserved c =
    let arcs = c.args.arcs.now in
    let onward = c.in_ok-onward.onward.items in
    let next = c.index.result.now in
    let low : c.loop-place.place < length onward = omega (arith, c.loop-place-test.true, c.len-place-end.ensures, c.in_ok-onward.onward.ok.0) in
    let at = slice_get_read onward (length onward) c.loop-place.place next refl low c.index.ensures in
    let is = c.in_ok-onward.ensures.are.only next (contains_at onward c.loop-place.place next at) in
    record {
      one_each = c.pass_on.ensures.one_each ∙ c.loop-place.invariant.one_each;
      passed = one_passed arcs c.args.source c.args.distances.now onward c.requires.here c.requires.costs c.in_ok-onward.ensures.ascend c.in_ok-onward.ensures.are
          c.loop-place.place next is.0 c.loop-place.begins.items c.pass_on.new.begins.items at is.1 (c.pass_on.ensures.passed is.0 is.1) c.loop-place.invariant.passed;
    }

pub returns-clause-least : goal.returns-clause-least
returns-clause-least c =
    all_passed c.args.arcs.now c.args.source c.args.distances.now c.in_ok-onward.onward.items c.requires.here c.requires.costs c.in_ok-onward.ensures.ascend c.in_ok-onward.ensures.are
    c.loop-place.place c.loop-place.begins.items (omega (arith, c.loop-place-test.false, c.len-place-end.ensures, c.in_ok-onward.onward.ok.0)) c.loop-place.invariant.passed

pub onward_arcs-requires : goal.onward_arcs-requires
onward_arcs-requires c = record { few = c.requires.few; between = c.requires.between }

pub loop-place-init : goal.loop-place-init
loop-place-init c = record {
  one_each = omega (arith, c.in_ok-begins.ensures.len, c.in_ok-begins.begins.ok.0);
  passed = record {
    sound = λ v begin has. absurd (no_beginning c.in_ok-begins.begins.items (length c.args.distances.now) v begin (c.in_ok-begins.ensures.items_if_clones_equal (search rules)) has);
    least = λ i next arc begin low. absurd (omega (arith, low));
  };
}

pub index-requires : goal.index-requires
index-requires c = omega (arith, c.loop-place-test.true, c.len-place-end.ensures)

pub pass_on-requires-clause-between : goal.pass_on-requires-clause-between
pass_on-requires-clause-between c = subst (λ (n : ℕ). AreBetween n c.args.arcs.now) (sym c.loop-place.invariant.one_each) c.requires.between

pub returns-clause-one_each : goal.returns-clause-one_each
returns-clause-one_each c = c.loop-place.invariant.one_each
