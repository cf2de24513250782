use Rattle.std.proofs.Common.{◌≡◌, ◌∙◌, ◌<◌, ◌≤◌, ◌++◌, ◌∷◌, [], List, Some, None, length, map, take, get_or, sym, ap, arith}
use Rattle.std.proofs.lemmas.List.{get_or-map, get_or-take, get_or_default, length-map, length-take-le, map_push}
use Rattle.mrt_graph.proofs.Members.{has_from_contains}
use Rattle.area_graph.specs.declared.area_types.Bond.{Bond}
use Rattle.area_graph.specs.declared.entry.NumberedEntry.{NumberedEntry as Entry}
use Rattle.area_graph.specs.declared.pairing.Numbered.{Numbered}
use Rattle.area_graph.specs.steps.NumberedArea.{bond_by, bond_from}
use Rattle.area_graph.specs.steps.Pairing.{pairs_upto, with_pair}
use Rattle.area_graph.proofs.Apart.{once_from_apart}
use Rattle.area_graph.proofs.BondNumbers.{none_of_single, pair_place, pairs_more_back, pairs_more_none, pairs_more_pair, partners_number}
use Rattle.area_graph.proofs.pairing.pair_number.Goals as goal

pub returns-in_default-clause-number : goal.returns-in_default-clause-number
returns-in_default-clause-number c =
    sym (none_of_single c.args.arcs.now c.args.arc (once_from_apart c.args.arcs.now c.requires.ordered.apart)
    (has_from_contains c.args.arcs.now c.args.arc (c.args.place, c.requires.within, c.requires.there)) c.in_default.ensures.partner)

pub returns-in_default-clause-pairs : goal.returns-in_default-clause-pairs
returns-in_default-clause-pairs c =
    c.requires.pairs ∙ ap (map (bond_from c.args.arcs.now)) (sym (pairs_more_none c.args.arcs.now c.args.place c.args.arc c.requires.within c.requires.there c.in_default.ensures.partner))

-- what is read past the end of a list
abbrev nothing : Entry
nothing = record { tail = 0; far = 0; metric = 0; link_data = 0; place = 0 }

pub returns-in_ok-push-clause-number : goal.returns-in_ok-push-clause-number
returns-in_ok-push-clause-number c =
    let back : Entry = get_or c.args.arcs.now c.in-Some.other c.args.arc in
    let made : length c.args.bonds.now.items ≡ length (pairs_upto c.args.arcs.now c.args.place) =
    ap length c.requires.pairs ∙ length-map (pairs_upto c.args.arcs.now c.args.place) (bond_from c.args.arcs.now) in
    let counted : c.len-number.result ≡ length (pairs_upto c.args.arcs.now c.args.place) = c.len-number.ensures ∙ omega (arith, made) in
    ap (λ n. Some n) counted
    ∙ sym (pair_place c.args.arcs.now c.args.place c.args.arc back (once_from_apart c.args.arcs.now c.requires.ordered.apart) c.requires.within c.requires.there c.if-arc.true
    c.in-Some.ensures.partner)

pub returns-in_ok-push-clause-pairs : goal.returns-in_ok-push-clause-pairs
returns-in_ok-push-clause-pairs c =
    let arcs : List Entry = c.args.arcs.now in
    let back : Entry = get_or arcs c.in-Some.other c.args.arc in
    let read : get_or arcs c.in-Some.other nothing ≡ back = get_or_default arcs c.in-Some.other nothing c.args.arc c.in-Some.ensures.bound in
    let made : c.pair_bond.result ≡ bond_from arcs c.args.arc =
    c.pair_bond.ensures ∙ ap (λ (e : Entry). bond_by c.args.arc (Some e)) read ∙ ap (bond_by c.args.arc) (sym c.in-Some.ensures.partner) in
    c.in_ok-push.ensures.items ∙ ap (λ (l : List Bond). l ++ c.pair_bond.result ∷ []) c.requires.pairs
    ∙ ap (λ (b : Bond). map (bond_from arcs) (pairs_upto arcs c.args.place) ++ b ∷ []) made
    ∙ sym (map_push (bond_from arcs) (pairs_upto arcs c.args.place) c.args.arc)
    ∙ ap (map (bond_from arcs)) (sym (pairs_more_pair arcs c.args.place c.args.arc back c.requires.within c.requires.there c.if-arc.true c.in-Some.ensures.partner))

pub returns-else-arc-clause-number : goal.returns-else-arc-clause-number
returns-else-arc-clause-number c =
    let none : Numbered = record { arc = nothing; pair = None } in
    let back : Entry = get_or c.args.arcs.now c.in-Some.other c.args.arc in
    let before : c.in-Some.other < c.args.place = c.in-Some.ensures.before (omega (arith, c.if-arc.false, c.requires.between.different)) in
    let few : c.args.place ≤ length c.args.arcs.now = omega (arith, c.requires.within) in
    let under : c.in-Some.other < length (take c.args.place c.args.arcs.now) = omega (arith, before, length-take-le c.args.place c.args.arcs.now few) in
    let read : get_or c.args.numbered.now c.in-Some.other none ≡ with_pair c.args.arcs.now back =
    ap (λ (l : List Numbered). get_or l c.in-Some.other none) c.requires.earlier
    ∙ get_or-map (with_pair c.args.arcs.now) (take c.args.place c.args.arcs.now) c.in-Some.other c.args.arc none under
    ∙ ap (with_pair c.args.arcs.now) (get_or-take c.args.place c.args.arcs.now c.in-Some.other c.args.arc before) in
    ap (λ (x : Numbered). x.pair) read
    ∙ sym (partners_number c.args.arcs.now c.args.arc back (once_from_apart c.args.arcs.now c.requires.ordered.apart)
    (has_from_contains c.args.arcs.now c.args.arc (c.args.place, c.requires.within, c.requires.there)) c.requires.between.different c.in-Some.ensures.partner)

pub returns-else-arc-clause-pairs : goal.returns-else-arc-clause-pairs
returns-else-arc-clause-pairs c =
    c.requires.pairs
    ∙ ap (map (bond_from c.args.arcs.now))
    (sym (pairs_more_back c.args.arcs.now c.args.place c.args.arc c.requires.within c.requires.there (omega (arith, c.if-arc.false))))
