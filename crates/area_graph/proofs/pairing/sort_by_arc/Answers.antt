use Rattle.std.proofs.Common.{◌≡◌, ◌∙◌, ◌+◌, ℕ, List, [], ◌∷◌, map, get_or, refl, sym, ap, rules, arith}
use Rattle.std.specs.List.{All, AllByRecursion}
use Rattle.std.specs.List.Sorted.{IsPermutation, IsSorted, IsSortedBy}
use Rattle.std.proofs.lemmas.List.{get_or-map, length-map}
use Rattle.std.proofs.lemmas.List.Elements.{All-from_recursion, recursion_from_All}
use Rattle.std.proofs.lemmas.List.Sorted.{All-permutation, IsPermutation-map, answers_always}
use Rattle.mrt_graph.specs.InOrder.{in_order}
use Rattle.mrt_graph.proofs.InOrder.{in_order_is, is_before}
use Rattle.area_graph.specs.declared.entry.NumberedEntry.{NumberedEntry as Entry}
use Rattle.area_graph.specs.declared.pairing.Numbered.{Numbered}
use Rattle.area_graph.specs.steps.NumberedArcs.{arc_cmp}
use Rattle.area_graph.specs.steps.Pairing.{with_pair}
use Rattle.area_graph.proofs.Apart.{arc_ties_alone, arc_total}
use Rattle.area_graph.proofs.pairing.sort_by_arc.Goals as goal

abbrev arc_in : Numbered → Entry
arc_in x = x.arc

-- what numbered arcs are sorted by
abbrev arc_key : Numbered → ℕ × ℕ × ℕ × ℕ × ℕ
arc_key x = (x.arc.tail, x.arc.metric, x.arc.far, x.arc.link_data, x.arc.place)

arcs_back : (arcs some : List Entry) → map arc_in (map (with_pair arcs) some) ≡ some
arcs_back arcs [] = refl
arcs_back arcs (arc ∷ some) = ap (λ (l : List Entry). arc ∷ l) (arcs_back arcs some)

all_numbered : (arcs some : List Entry) → AllByRecursion (λ x. with_pair arcs x.arc ≡ x) (map (with_pair arcs) some)
all_numbered arcs [] = tt
all_numbered arcs (arc ∷ some) = (refl, all_numbered arcs some)

numbered_again : (arcs : List Entry) (xs : List Numbered) → AllByRecursion (λ x. with_pair arcs x.arc ≡ x) xs → map (with_pair arcs) (map arc_in xs) ≡ xs
numbered_again arcs [] all = refl
numbered_again arcs (x ∷ xs) all = let rest = numbered_again arcs xs all.1 in let first = all.0 in cc

sorted_arcs : (arcs : List Entry) (xs : List Numbered) → IsSortedBy (λ x y. is_before arc_cmp x.arc y.arc) xs → IsSorted arc_cmp (map arc_in xs)
sorted_arcs arcs xs sorted = λ k d low within.
    let long = length-map xs arc_in in
    let e : Numbered = with_pair arcs d in
    let one : get_or (map arc_in xs) k d ≡ (get_or xs k e).arc = get_or-map arc_in xs k e d (omega (arith, long, within)) in
    let next : get_or (map arc_in xs) (k + 1) d ≡ (get_or xs (k + 1) e).arc = get_or-map arc_in xs (k + 1) e d (omega (arith, long, within)) in
    rw (one, next) (sorted k e low (omega (arith, long, within)))

pub returns : goal.returns
returns c =
    let arcs : List Entry = c.args.arcs.now in
    let new : List Numbered = c.sort_unstable_by_key.new.self.items in
    let moves : IsPermutation (map (with_pair arcs) arcs) new = rw c.requires.numbered at c.sort_unstable_by_key.ensures.permutation in
    let sorted = c.sort_unstable_by_key.ensures.sorted arc_key (answers_always _ _ _ (λ f a r g called. search rules)) in
    let arc_moves : IsPermutation arcs (map arc_in new) = rw (arcs_back arcs arcs) at (IsPermutation-map arc_in (map (with_pair arcs) arcs) new moves) in
    let in_it : map arc_in new ≡ in_order arc_cmp arcs =
    in_order_is arc_cmp arc_total arcs (map arc_in new) arc_moves (sorted_arcs arcs new sorted) (arc_ties_alone arcs c.requires.ordered.apart) in
    let all : All (λ (x : Numbered). with_pair arcs x.arc ≡ x) new =
    All-permutation (λ (x : Numbered). with_pair arcs x.arc ≡ x) (map (with_pair arcs) arcs) new moves
    (All-from_recursion (λ (x : Numbered). with_pair arcs x.arc ≡ x) (map (with_pair arcs) arcs) (all_numbered arcs arcs)) in
    sym (numbered_again arcs new (recursion_from_All (λ (x : Numbered). with_pair arcs x.arc ≡ x) new all)) ∙ ap (map (with_pair arcs)) in_it
