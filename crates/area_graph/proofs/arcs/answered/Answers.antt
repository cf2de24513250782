use Rattle.std.proofs.Common.{◌≡◌, ◌≤◌, ◌+◌, ◌<◌, ◌++◌, ◌∙◌, ◌⊎◌, ℕ, Bool, true, false, cond, List, [], ◌∷◌, length, length-append, get_or, take, refl, sym, ap, subst, inl, inr, arith}
use Rattle.std.specs.List.{filter}
use Rattle.std.proofs.lemmas.Bool.{cases_lt}
use Rattle.std.proofs.lemmas.List.{append-nil, get_or_default, take_all}
use Rattle.std.proofs.lemmas.List.Elements.{filter_more}
use Rattle.area_graph.specs.AreaSize.{IsTooLarge, TellsTooLarge}
use Rattle.area_graph.specs.declared.area_error.AreaError.{AreaError}
use Rattle.area_graph.specs.declared.area_error.AreaError.TheVariants.{NoMemory}
use Rattle.area_graph.specs.declared.entry.NumberedEntry.{NumberedEntry as Entry}
use Rattle.area_graph.specs.steps.NumberedArcs.{is_arc}
use Rattle.area_graph.proofs.Built.{handed_on}
use Rattle.area_graph.proofs.arcs.answered.Goals as goal
use Rattle.area_graph.proofs.arcs.answered.Goals.{then-is_answered+in_ok-keep, else-is_answered}

abbrev nothing : Entry
nothing = record { tail = 0; far = 0; metric = 0; link_data = 0; place = 0 }

pub is_answered-requires-clause-there : goal.is_answered-requires-clause-there
is_answered-requires-clause-there c =
    get_or_default c.args.entries.now c.loop-place.place (get_or c.args.entries.now c.loop-place.place nothing) nothing c.loop-place-test.true

pub loop-place-init : goal.loop-place-init
loop-place-init c = record { counted = refl; few = omega arith; kept = λ few. c.in_ok-arcs.ensures.items; marks = c.in_ok-marks.ensures.marks }

abbrev arcs_to : List Entry → ℕ → List Entry
arcs_to entries k = filter (is_arc entries) (take k entries)

-- one entry more
one_more : (entries : List Entry) (k : ℕ) (told : Bool) → k < length entries → told ≡ is_arc entries (get_or entries k nothing)
    → arcs_to entries (k + 1) ≡ arcs_to entries k ++ cond told (get_or entries k nothing ∷ []) []
one_more entries k told within is =
    filter_more (is_arc entries) entries k nothing within ∙ ap (λ (b : Bool). arcs_to entries k ++ cond b (get_or entries k nothing ∷ []) []) (sym is)

pub loop-place-preserved : goal.loop-place-preserved
loop-place-preserved c =
    let entries : List Entry = c.args.entries.now in
    let k : ℕ = c.loop-place.place in
    let entry : Entry = get_or entries k nothing in
    let told = c.is_answered.ensures.answered in
    let invariant = c.loop-place.invariant in
    elim c.if-is_answered.branch [
      | then-is_answered+in_ok-keep w ↦
          let more : arcs_to entries (k + 1) ≡ arcs_to entries k ++ entry ∷ [] = one_more entries k true c.loop-place-test.true (sym w.if-is_answered.true ∙ told) in
          record {
            counted = omega (arith, w.count-is, invariant.counted, ap length more, length-append (arcs_to entries k) (entry ∷ []));
            few = omega (arith, w.count-is, invariant.few);
            kept = λ few. ap (λ v. v.items) w.arcs-is ∙ w.in_ok-keep.ensures.kept (omega (arith, w.count-is, few))
                ∙ ap (λ (arcs : List Entry). arcs ++ entry ∷ []) (invariant.kept (omega (arith, w.count-is, few))) ∙ sym more;
            marks = c.is_answered.ensures.marks;
          }
      | else-is_answered w ↦
          let more : arcs_to entries (k + 1) ≡ arcs_to entries k = one_more entries k false c.loop-place-test.true (sym w.if-is_answered.false ∙ told) ∙ append-nil (arcs_to entries k) in
          record {
            counted = omega (arith, w.count-is, invariant.counted, ap length more);
            few = omega (arith, w.count-is, invariant.few);
            kept = λ few. ap (λ v. v.items) w.arcs-is ∙ invariant.kept (omega (arith, w.count-is, few)) ∙ sym more;
            marks = c.is_answered.ensures.marks;
          }
    ]

pub returns-in_err-check_size-clause-refused : goal.returns-in_err-check_size-clause-refused
returns-in_err-check_size-clause-refused c =
    let entries : List Entry = c.args.entries.now in
    let count : c.loop-place.count ≡ length (filter (is_arc entries) entries) = c.loop-place.invariant.counted
    ∙ ap (λ (xs : List Entry). length (filter (is_arc entries) xs)) (take_all c.loop-place.place entries c.loop-place-test.false) in
    handed_on c.from_residual-in_err-check_size.result c.in_err-check_size.field-0.0 c.from_residual-in_err-check_size.ensures.1
    (λ (error : AreaError). (error ≡ NoMemory) ⊎ TellsTooLarge c.args.nodes (length (filter (is_arc entries) entries)) error)
    (inr (subst (λ (n : ℕ). TellsTooLarge c.args.nodes n c.in_err-check_size.field-0.0) count c.in_err-check_size.ensures.refused))

few_arcs : (nodes arcs : ℕ) → (IsTooLarge nodes arcs → ⊥) → arcs ≤ 32768
few_arcs nodes arcs within = elim (cases_lt 32768 arcs) [ inl over ↦ absurd (within (inr over)) | inr le ↦ le ]

pub returns-clause-arcs : goal.returns-clause-arcs
returns-clause-arcs c =
    c.loop-place.invariant.kept (few_arcs c.args.nodes c.loop-place.count c.in_ok-check_size.ensures.within)
    ∙ ap (filter (is_arc c.args.entries.now)) (take_all c.loop-place.place c.args.entries.now c.loop-place-test.false)

pub returns-clause-within : goal.returns-clause-within
returns-clause-within c =
    let kept = c.loop-place.invariant.kept (few_arcs c.args.nodes c.loop-place.count c.in_ok-check_size.ensures.within) in
    λ large. c.in_ok-check_size.ensures.within (subst (λ (n : ℕ). IsTooLarge c.args.nodes n) (ap length kept ∙ sym c.loop-place.invariant.counted) large)
