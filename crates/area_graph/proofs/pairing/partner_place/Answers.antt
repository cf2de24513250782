use Rattle.std.proofs.Common.{◌≡◌, ◌∙◌, ◌+◌, ◌-◌, ℕ, get_or, sym, ap, arith}
use Rattle.std.proofs.lemmas.List.{get_or_default}
use Rattle.area_graph.specs.declared.entry.NumberedEntry.{NumberedEntry as Entry}
use Rattle.area_graph.proofs.Turns.{partner_at, partner_none, partner_before}
use Rattle.area_graph.proofs.pairing.partner_place.Goals as goal
use Rattle.area_graph.proofs.pairing.partner_place.Goals.{else-other-arcs-via-then-other-arcs+then-arcs-other+else-arcs-other-2, else-other-arcs-via-then-other-arcs+else-arcs-other, else-other-arcs-via-else-other-arcs}

-- what is read past the end of a list
abbrev nothing : Entry
nothing = record { tail = 0; far = 0; metric = 0; link_data = 0; place = 0 }

pub returns-then-arcs-other-2-clause-partner : goal.returns-then-arcs-other-2-clause-partner
returns-then-arcs-other-2-clause-partner c =
    let other : ℕ = c.args.firsts.back + (c.args.place - c.args.firsts.own) in
    let read : get_or c.args.arcs.now other c.args.arc ≡ get_or c.args.arcs.now other nothing = get_or_default c.args.arcs.now other c.args.arc nothing c.if-other-arcs.true in
    partner_at c.args.arcs.now c.requires.ordered c.args.arc c.args.place c.args.firsts.own c.args.firsts.back c.requires.within c.requires.there c.requires.own
    c.requires.back c.args.arc c.if-other-arcs.true (ap (λ (e : Entry). e.tail) read ∙ c.if-arcs-other.true) (ap (λ (e : Entry). e.far) read ∙ c.if-arcs-other-2.true)

pub returns-then-arcs-other-2-clause-before : goal.returns-then-arcs-other-2-clause-before
returns-then-arcs-other-2-clause-before c backward =
    let other : ℕ = c.args.firsts.back + (c.args.place - c.args.firsts.own) in
    let read : get_or c.args.arcs.now other c.args.arc ≡ get_or c.args.arcs.now other nothing = get_or_default c.args.arcs.now other c.args.arc nothing c.if-other-arcs.true in
    let at_tail = ap (λ (e : Entry). e.tail) c.requires.there in
    let at_far = ap (λ (e : Entry). e.far) c.requires.there in
    partner_before c.args.arcs.now c.requires.ordered c.args.place other c.args.arc c.requires.within c.if-other-arcs.true (omega (arith, at_tail, at_far, backward))
    (ap (λ (e : Entry). e.tail) read ∙ c.if-arcs-other.true ∙ sym at_far)

pub returns-else-other-arcs-clause-partner : goal.returns-else-other-arcs-clause-partner
returns-else-other-arcs-clause-partner c =
    let other : ℕ = c.args.firsts.back + (c.args.place - c.args.firsts.own) in
    partner_none c.args.arcs.now c.requires.ordered c.args.arc c.args.place c.args.firsts.own c.args.firsts.back c.requires.within c.requires.there c.requires.own
    c.requires.back
    (λ d within tail far.
    let read : get_or c.args.arcs.now other nothing ≡ get_or c.args.arcs.now other d = get_or_default c.args.arcs.now other nothing d within in
    elim c.else-other-arcs.branch [
      | else-other-arcs-via-then-other-arcs+then-arcs-other+else-arcs-other-2 w ↦ w.if-arcs-other-2.false (ap (λ (e : Entry). e.far) read ∙ far)
      | else-other-arcs-via-then-other-arcs+else-arcs-other w ↦ w.if-arcs-other.false (ap (λ (e : Entry). e.tail) read ∙ tail)
      | else-other-arcs-via-else-other-arcs w ↦ omega (arith, w.if-other-arcs.false, within)
    ])
