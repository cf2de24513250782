use Rattle.std.proofs.Common.{◌≡◌, ◌<◌, ◌==◌, ◌∙◌, not, true, false, ℕ, Bool, List, Option, None, Some, length, get_or, refl, sym, ap, subst, arith}
use Rattle.std.specs.Prelude.{◌||◌}
use Rattle.std.proofs.lemmas.List.{get_or_default}
use Rattle.std.proofs.lemmas.Option.{slice_get_read}
use Rattle.primary_alt.specs.steps.FirstArcs.{IsFirstColumn, primary_over}
use Rattle.primary_alt.specs.declared.shortest.Primary.{Primary}
use Rattle.primary_alt.proofs.ColumnsRead.{stands}
use Rattle.primary_alt.proofs.routes.primary_over.Goals as goal

-- the far node that was read is a node
far_within : (networks : List Bool) (leads : List ℕ) (column : List (Option ℕ)) (number at to : ℕ) → IsFirstColumn networks leads column → number < length leads → at ≡ number
    → to ≡ get_or leads at to → to < length networks
far_within networks leads column number at to kept within same is =
    kept.nodes number to (slice_get_read leads (length leads) number to refl within (subst (λ (i : ℕ). to ≡ get_or leads i to) same is))

-- a hop that ends at the first arc's far node
over_one : (networks : List Bool) (leads : List ℕ) (column : List (Option ℕ)) (t number at to : ℕ) → number < length leads → at ≡ number → to ≡ get_or leads at to
    → ((to == t) || not (get_or networks to false)) ≡ true
    → ◌≡◌ {A = Option Primary} (Some (record { first = number; second = None; next = to })) (primary_over networks leads column t number (get_or leads number 0))
over_one networks leads column t number at to within same is ends =
    let read : to ≡ get_or leads number 0 = subst (λ (i : ℕ). to ≡ get_or leads i to) same is ∙ get_or_default leads number to 0 within in
    let one : ◌≡◌ {A = Option Primary} (Some (record { first = number; second = None; next = to })) (primary_over networks leads column t number to) = rw ends refl in
    one ∙ ap (λ (v : ℕ). primary_over networks leads column t number v) read

-- a hop that does not end there goes on over the far node's first arc
over_two : (networks : List Bool) (leads : List ℕ) (column : List (Option ℕ)) (t number at to second at' next : ℕ) → IsFirstColumn networks leads column → number < length leads → at ≡ number
    → to ≡ get_or leads at to → ((to == t) || not (get_or networks to false)) ≡ false → Some second ≡ get_or column to None → at' ≡ second → next ≡ get_or leads at' next
    → ◌≡◌ {A = Option Primary} (Some (record { first = number; second = Some second; next = next })) (primary_over networks leads column t number (get_or leads number 0))
over_two networks leads column t number at to second at' next kept within same is on first same' is' =
    let read : to ≡ get_or leads number 0 = subst (λ (i : ℕ). to ≡ get_or leads i to) same is ∙ get_or_default leads number to 0 within in
    let low = kept.arcs to second (stands column to second (sym first)) in
    let read' : next ≡ get_or leads second 0 = subst (λ (i : ℕ). next ≡ get_or leads i next) same' is' ∙ get_or_default leads second next 0 low in
    let two : ◌≡◌ {A = Option Primary} (Some (record { first = number; second = Some second; next = get_or leads second 0 })) (primary_over networks leads column t number to) = rw (on, ← first) refl in
    ap (λ (v : ℕ). Some (record { first = number; second = Some second; next = v })) read' ∙ two ∙ ap (λ (v : ℕ). primary_over networks leads column t number v) read

-- and where that node has none, there is no primary
over_none : (networks : List Bool) (leads : List ℕ) (column : List (Option ℕ)) (t number at to : ℕ) → number < length leads → at ≡ number → to ≡ get_or leads at to
    → ((to == t) || not (get_or networks to false)) ≡ false → None ≡ get_or column to None → None ≡ primary_over networks leads column t number (get_or leads number 0)
over_none networks leads column t number at to within same is on first =
    let read : to ≡ get_or leads number 0 = subst (λ (i : ℕ). to ≡ get_or leads i to) same is ∙ get_or_default leads number to 0 within in
    let none : None ≡ primary_over networks leads column t number to = rw (on, ← first) refl in
    none ∙ ap (λ (v : ℕ). primary_over networks leads column t number v) read

pub ends_hop-requires : goal.ends_hop-requires
ends_hop-requires c =
    far_within c.args.networks.now c.args.leads.now c.args.column.now c.args.first c.get.result c.index-leads-get.result c.requires.kept c.requires.first c.get.ensures.value c.index-leads-get.is

pub bounds-leads-get-2 : goal.bounds-leads-get-2
bounds-leads-get-2 c =
    omega (
      arith,
      c.get-2.ensures.value,
      c.requires.kept.arcs c.index-leads-get.result c.in_ok-second.second
          (stands c.args.column.now c.index-leads-get.result c.in_ok-second.second (sym c.in_ok-second.ensures)),
    )

pub returns-then-ends_hop : goal.returns-then-ends_hop
returns-then-ends_hop c =
    over_one c.args.networks.now c.args.leads.now c.args.column.now c.args.t c.args.first c.get.result c.index-leads-get.result c.requires.first c.get.ensures.value c.index-leads-get.is
    (sym c.ends_hop.ensures ∙ c.if-ends_hop.true)

pub returns-in_err-second : goal.returns-in_err-second
returns-in_err-second c =
    c.from_residual.ensures
    ∙ over_none c.args.networks.now c.args.leads.now c.args.column.now c.args.t c.args.first c.get.result c.index-leads-get.result c.requires.first c.get.ensures.value c.index-leads-get.is
    (sym c.ends_hop.ensures ∙ c.if-ends_hop.false) c.in_err-second.ensures

pub returns : goal.returns
returns c =
    over_two c.args.networks.now c.args.leads.now c.args.column.now c.args.t c.args.first c.get.result c.index-leads-get.result c.in_ok-second.second c.get-2.result c.index-leads-get-2.result
    c.requires.kept c.requires.first c.get.ensures.value c.index-leads-get.is (sym c.ends_hop.ensures ∙ c.if-ends_hop.false) c.in_ok-second.ensures c.get-2.ensures.value c.index-leads-get-2.is
