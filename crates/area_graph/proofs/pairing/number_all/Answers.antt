use Rattle.std.proofs.Common.{◌≡◌, ◌∙◌, ◌<◌, ◌≤◌, ◌+◌, ◌++◌, ℕ, cond, if◌then◌else◌, List, [], ◌∷◌, Option, Some, None, length, map, take, get_or, refl, sym, ap, arith}
use Rattle.std.specs.List.{AllByRecursion, Contains, filter, position}
use Rattle.std.specs.Option.{is_none, unwrap_or}
use Rattle.std.proofs.lemmas.List.{append-nil, get_or-map, get_or_default, length-map, map-append, map_more, take_all}
use Rattle.std.proofs.lemmas.List.Elements.{All-from_recursion, Contains-get_or}
use Rattle.mrt_graph.specs.InOrder.{in_order}
use Rattle.mrt_graph.proofs.Members.{has_from_contains}
use Rattle.mrt_graph.proofs.InOrder.{Contains-from_in_order, all_in_order}
use Rattle.area_graph.specs.declared.area_types.Arc.{Arc}
use Rattle.area_graph.specs.declared.area_types.Bond.{Bond}
use Rattle.area_graph.specs.declared.entry.NumberedEntry.{NumberedEntry as Entry}
use Rattle.area_graph.specs.declared.pairing.Numbered.{Numbered}
use Rattle.area_graph.specs.steps.NumberedArea.{bond_by, bond_from, numbered as with_bond}
use Rattle.area_graph.specs.steps.NumberedArcs.{arc_cmp}
use Rattle.area_graph.specs.steps.NumberedBonds.{is_of, is_single, pairs, partner, bond_of}
use Rattle.area_graph.specs.steps.Pairing.{AreOrdered, IsBetween, bonds_upto, with_pair}
use Rattle.area_graph.proofs.Apart.{once_from_apart}
use Rattle.area_graph.proofs.BondNumbers.{bonds_more, number_bound, number_is, ordered_arcs, single_is}
use Rattle.area_graph.proofs.pairing.number_all.Goals as goal

-- what is read past the end of a list
abbrev nothing : Entry
nothing = record { tail = 0; far = 0; metric = 0; link_data = 0; place = 0 }

abbrev unnumbered : Numbered
unnumbered = record { arc = nothing; pair = None }

-- what is known of the arc that the loop is at
record At (arcs : List Entry) (x : Numbered) (place : ℕ) : Type 0 where
  within : place < length (ordered_arcs arcs)
  is : x ≡ with_pair arcs (get_or (ordered_arcs arcs) place nothing)
  between : IsBetween (get_or (ordered_arcs arcs) place nothing)

at_place : (arcs : List Entry) (numbered : List Numbered) (place : ℕ) → AllByRecursion IsBetween arcs → numbered ≡ map (with_pair arcs) (in_order arc_cmp arcs) → place < length numbered
    → At arcs (get_or numbered place unnumbered) place
at_place arcs numbered place between is under =
    let long : length numbered ≡ length (ordered_arcs arcs) = ap length is ∙ length-map (ordered_arcs arcs) (with_pair arcs) in
    let within : place < length (ordered_arcs arcs) = omega (arith, long, under) in
    record {
      within = within;
      is = ap (λ (l : List Numbered). get_or l place unnumbered) is ∙ get_or-map (with_pair arcs) (ordered_arcs arcs) place nothing unnumbered within;
      between = All-from_recursion IsBetween (ordered_arcs arcs) (all_in_order arc_cmp IsBetween arcs between) place nothing within;
    }

between_of : (arcs : List Entry) (x : Numbered) (place : ℕ) → At arcs x place → IsBetween x.arc
between_of arcs x place at = rw at.is at.between

pub bond_number-requires : goal.bond_number-requires
bond_number-requires c =
    let x : Numbered = get_or c.args.numbered.now c.loop-x.x-index unnumbered in
    between_of c.args.arcs.now x c.loop-x.x-index
    (at_place c.args.arcs.now c.args.numbered.now c.loop-x.x-index c.requires.between c.requires.numbered (omega arith))

pub overflow_cast-x : goal.overflow_cast-x
overflow_cast-x c =
    let x : Numbered = get_or c.args.numbered.now c.loop-x.x-index unnumbered in
    let between : IsBetween x.arc = between_of c.args.arcs.now x c.loop-x.x-index
    (at_place c.args.arcs.now c.args.numbered.now c.loop-x.x-index c.requires.between c.requires.numbered (omega arith)) in
    omega (arith, between.tail)

pub overflow_cast-x-in-loop-x : goal.overflow_cast-x-in-loop-x
overflow_cast-x-in-loop-x c =
    let x : Numbered = get_or c.args.numbered.now c.loop-x.x-index unnumbered in
    let between : IsBetween x.arc = between_of c.args.arcs.now x c.loop-x.x-index
    (at_place c.args.arcs.now c.args.numbered.now c.loop-x.x-index c.requires.between c.requires.numbered (omega arith)) in
    omega (arith, between.far)

-- the number that an arc gets
number_of : (arcs : List Entry) (x : Numbered) (place : ℕ) (bonds : List Bond) (number : ℕ) → At arcs x place → bonds ≡ map (bond_from arcs) (bonds_upto arcs place)
    → number ≡ unwrap_or x.pair (length bonds)
    → number ≡ unwrap_or (position (is_of arcs (get_or (ordered_arcs arcs) place nothing)) (pairs arcs)) (length (bonds_upto arcs place))
number_of arcs x place bonds number at made is =
    let long : length bonds ≡ length (bonds_upto arcs place) = ap length made ∙ length-map (bonds_upto arcs place) (bond_from arcs) in
    is ∙ ap (λ (y : Numbered). unwrap_or y.pair (length bonds)) at.is
    ∙ ap (λ n. unwrap_or (position (is_of arcs (get_or (ordered_arcs arcs) place nothing)) (pairs arcs)) n) long

pub overflow_cast-number : goal.overflow_cast-number
overflow_cast-number c =
    let arcs : List Entry = c.args.arcs.now in
    let place : ℕ = c.loop-x.x-index in
    let x : Numbered = get_or c.args.numbered.now place unnumbered in
    let at = at_place arcs c.args.numbered.now place c.requires.between c.requires.numbered (omega arith) in
    let is = number_of arcs x place c.loop-x.bonds.items c.in_ok-number.number at c.loop-x.invariant.bonds c.in_ok-number.ensures.number in
    omega (arith, is, number_bound arcs (get_or (ordered_arcs arcs) place nothing) place c.requires.few at.within)

-- the arc that is made of it
arc_made : (arcs : List Entry) → AreOrdered arcs → (x : Numbered) (place number tail to bond : ℕ) → At arcs x place
    → number ≡ unwrap_or (position (is_of arcs (get_or (ordered_arcs arcs) place nothing)) (pairs arcs)) (length (bonds_upto arcs place))
    → tail ≡ x.arc.tail → to ≡ x.arc.far → bond ≡ number
    → record { tail = tail; to = to; metric = x.arc.metric; link_data = x.arc.link_data; bond = bond } ≡ with_bond arcs (get_or (ordered_arcs arcs) place nothing)
arc_made arcs ordered x place number tail to bond at is is_tail is_to is_bond =
    let arc : Entry = get_or (ordered_arcs arcs) place nothing in
    let tail_is : tail ≡ arc.tail = is_tail ∙ ap (λ (y : Numbered). y.arc.tail) at.is in
    let to_is : to ≡ arc.far = is_to ∙ ap (λ (y : Numbered). y.arc.far) at.is in
    let metric_is : x.arc.metric ≡ arc.metric = ap (λ (y : Numbered). y.arc.metric) at.is in
    let data_is : x.arc.link_data ≡ arc.link_data = ap (λ (y : Numbered). y.arc.link_data) at.is in
    let bond_is : bond ≡ bond_of arcs arc = is_bond ∙ is ∙ number_is arcs place arc (once_from_apart arcs ordered.apart) at.within (get_or_default (ordered_arcs arcs) place arc nothing at.within) at.between.different in
    λ i. record { tail = tail_is i; to = to_is i; metric = metric_is i; link_data = data_is i; bond = bond_is i }

-- the bond that is put after the others
single_made : (arcs : List Entry) (arc : Entry) (o : Option Entry) → partner arcs arc ≡ o
    → (if is_none o then bond_by arc None ∷ [] else []) ≡ map (bond_from arcs) (cond (is_none o) (arc ∷ []) [])
single_made arcs arc None is = ap (λ (o : Option Entry). bond_by arc o ∷ []) (sym is)
single_made arcs arc (Some back) is = refl

bonds_made : (arcs : List Entry) → AreOrdered arcs → (x : Numbered) (place : ℕ) (bonds new : List Bond) → At arcs x place → bonds ≡ map (bond_from arcs) (bonds_upto arcs place)
    → new ≡ bonds ++ (if is_none x.pair then bond_by x.arc None ∷ [] else []) → new ≡ map (bond_from arcs) (bonds_upto arcs (place + 1))
bonds_made arcs ordered x place bonds new at is is_new =
    let arc : Entry = get_or (ordered_arcs arcs) place nothing in
    let there : Contains arcs arc = Contains-from_in_order arc_cmp arcs arc (Contains-get_or (ordered_arcs arcs) place nothing at.within) in
    let more : List Entry = cond (is_single arcs arc) (arc ∷ []) [] in
    is_new ∙ ap (λ (y : Numbered). bonds ++ (if is_none y.pair then bond_by y.arc None ∷ [] else [])) at.is
    ∙ ap (λ b. bonds ++ (if b then bond_by arc None ∷ [] else []))
    (single_is arcs arc (once_from_apart arcs ordered.apart) (has_from_contains arcs arc there) at.between.different)
    ∙ ap (λ (l : List Bond). bonds ++ l) (single_made arcs arc (partner arcs arc) refl)
    ∙ ap (λ (l : List Bond). l ++ map (bond_from arcs) more) is
    ∙ sym (map-append (bond_from arcs) (bonds_upto arcs place) more)
    ∙ ap (map (bond_from arcs)) (sym (bonds_more arcs place nothing at.within))

pub loop-x-preserved : goal.loop-x-preserved
loop-x-preserved c =
    let arcs : List Entry = c.args.arcs.now in
    let place : ℕ = c.loop-x.x-index in
    let x : Numbered = get_or c.args.numbered.now place unnumbered in
    let at = at_place arcs c.args.numbered.now place c.requires.between c.requires.numbered (omega arith) in
    let is = number_of arcs x place c.loop-x.bonds.items c.in_ok-number.number at c.loop-x.invariant.bonds c.in_ok-number.ensures.number in
    let arc : Arc = record { tail = c.new.result; to = c.new-in-loop-x.result; metric = x.arc.metric; link_data = x.arc.link_data; bond = c.new-in-loop-x-2.result } in
    let made = arc_made arcs c.requires.ordered x place c.in_ok-number.number c.new.result c.new-in-loop-x.result c.new-in-loop-x-2.result at is c.new.ensures c.new-in-loop-x.ensures c.new-in-loop-x-2.ensures in
    record {
      arcs =
          c.in_ok-push.ensures.items ∙ ap (λ (l : List Arc). l ++ arc ∷ []) c.loop-x.invariant.arcs
          ∙ ap (λ (y : Arc). map (with_bond arcs) (take place (ordered_arcs arcs)) ++ y ∷ []) made
          ∙ sym (map_more (with_bond arcs) (ordered_arcs arcs) place nothing at.within);
      bonds = bonds_made arcs c.requires.ordered x place c.loop-x.bonds.items c.bond_number.new.bonds.items at c.loop-x.invariant.bonds c.in_ok-number.ensures.bonds;
    }

pub loop-x-init : goal.loop-x-init
loop-x-init c = record {
  arcs = c.in_ok-all.ensures.items;
  bonds = c.requires.pairs ∙ ap (map (bond_from c.args.arcs.now)) (sym (append-nil (pairs c.args.arcs.now)));
}

-- the loop has gone over all arcs
all_over : (arcs : List Entry) (numbered : List Numbered) (place : ℕ) → numbered ≡ map (with_pair arcs) (in_order arc_cmp arcs) → length numbered ≤ place
    → take place (ordered_arcs arcs) ≡ ordered_arcs arcs
all_over arcs numbered place is over = take_all place (ordered_arcs arcs) (omega (arith, ap length is, length-map (ordered_arcs arcs) (with_pair arcs), over))

pub returns-clause-arcs : goal.returns-clause-arcs
returns-clause-arcs c =
    c.loop-x.invariant.arcs ∙ ap (map (with_bond c.args.arcs.now)) (all_over c.args.arcs.now c.args.numbered.now c.loop-x.x-index c.requires.numbered c.loop-x-test.false)

pub returns-clause-bonds : goal.returns-clause-bonds
returns-clause-bonds c =
    let arcs = c.args.arcs.now in
    c.loop-x.invariant.bonds
    ∙ ap (λ (xs : List Entry). map (bond_from arcs) (pairs arcs ++ filter (is_single arcs) xs)) (all_over arcs c.args.numbered.now c.loop-x.x-index c.requires.numbered c.loop-x-test.false)
