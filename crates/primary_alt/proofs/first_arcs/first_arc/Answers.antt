use Rattle.std.proofs.Common.{◌≡◌, ◌<◌, ◌≤◌, ◌+◌, ◌∙◌, ℕ, List, Option, Some, length, slice_get, inl, inr, refl, sym, ap, subst, arith, true≢false}
use Rattle.std.proofs.lemmas.Bool.{cases_lt}
use Rattle.std.proofs.lemmas.Option.{same_Some, slice_get_read}
use Rattle.area_graph.specs.declared.area_types.Arc.{Arc}
use Rattle.primary_alt.specs.steps.Attaining.{Attains, Does, IsFirstToAttain, NoneDoes}
use Rattle.primary_alt.proofs.first_arcs.first_arc.Goals as goal

-- one arc more that does not
passed : (arcs : List Arc) (known : List (Option ℕ)) (from number : ℕ) (arc : Arc) → slice_get arcs number ≡ Some arc
    → ((k : ℕ) (other : Arc) → from ≤ k → k < number → slice_get arcs k ≡ Some other → ¬ Attains known other) → ¬ Attains known arc
    → (k : ℕ) (other : Arc) → from ≤ k → k < number + 1 → slice_get arcs k ≡ Some other → ¬ Attains known other
passed arcs known from number arc at none not k other low high there attains = elim (cases_lt k number) [
  | inl early ↦ none k other low early there attains
  | inr last ↦
      let same : k ≡ number = omega (arith, high, last) in
      let is : other ≡ arc = same_Some other arc (sym there ∙ ap (λ (i : ℕ). slice_get arcs i) same ∙ at) in
      not (subst (λ (a : Arc). Attains known a) is attains)
]

pub returns-then-attains : goal.returns-then-attains
returns-then-attains c =
    let arcs = c.args.arcs.now in
    let known = c.args.known.now in
    let number = c.loop-number.number in
    let at = slice_get_read arcs (length arcs) number c.index-arcs-number.result refl (omega (arith, c.loop-number-test.true, c.requires.within)) c.index-arcs-number.is in
    let is = c.some.ensures ∙ ap (λ (n : ℕ). Some n) c.new.ensures in
    subst (λ (o : Option ℕ). IsFirstToAttain arcs c.args.from c.args.to known o) (sym is)
    (Does number c.index-arcs-number.result c.loop-number.auto.number c.loop-number-test.true at (c.attains.ensures.0 c.if-attains.true) c.loop-number.invariant)

pub loop-number-preserved : goal.loop-number-preserved
loop-number-preserved c =
    let arcs = c.args.arcs.now in
    let number = c.loop-number.number in
    let at = slice_get_read arcs (length arcs) number c.index-arcs-number.result refl (omega (arith, c.loop-number-test.true, c.requires.within)) c.index-arcs-number.is in
    passed arcs c.args.known.now c.args.from number c.index-arcs-number.result at c.loop-number.invariant
    (λ attains. true≢false (sym (c.attains.ensures.1 attains) ∙ c.if-attains.false))

pub returns : goal.returns
returns c =
    subst (λ (o : Option ℕ). IsFirstToAttain c.args.arcs.now c.args.from c.args.to c.args.known.now o) (sym c.none.ensures)
    (NoneDoes (λ k arc low high. c.loop-number.invariant k arc low (omega (arith, high, c.loop-number-test.false))))

pub attains-requires : goal.attains-requires
attains-requires c =
    let at = slice_get_read c.args.arcs.now (length c.args.arcs.now) c.loop-number.number c.index-arcs-number.result refl (omega (arith, c.loop-number-test.true, c.requires.within)) c.index-arcs-number.is in
    record {
      tail = c.requires.between.tails c.loop-number.number c.index-arcs-number.result at;
      to = c.requires.between.tos c.loop-number.number c.index-arcs-number.result at;
    }

pub loop-number-init : goal.loop-number-init
loop-number-init c = λ k arc low high. absurd (omega (arith, low, high))
