use Rattle.std.proofs.Common.{◌≡◌, ◌<◌, ◌∙◌, ◌++◌, ℕ, List, [], ◌∷◌, Option, get_or, length, map, take, sym, ap, arith}
use Rattle.std.specs.List.{filter}
use Rattle.std.proofs.lemmas.List.{get_or_default, map_more, take_all}
use Rattle.std.proofs.lemmas.List.Elements.{All-from_recursion}
use Rattle.area_graph.specs.declared.entry.NumberedEntry.{NumberedEntry as Entry}
use Rattle.area_graph.specs.declared.pairing.Numbered.{Numbered}
use Rattle.area_graph.specs.steps.NumberedArea.{bond_from}
use Rattle.area_graph.specs.steps.NumberedBonds.{tells_pair}
use Rattle.area_graph.specs.steps.Pairing.{IsBetween, with_pair}
use Rattle.area_graph.proofs.MarksMove.{upto_next, upto_none}
use Rattle.area_graph.proofs.pairing.number_pairs.Goals as goal

abbrev nothing : Entry
nothing = record { tail = 0; far = 0; metric = 0; link_data = 0; place = 0 }

abbrev numbered : Entry → Option ℕ → Numbered
numbered arc pair = record { arc = arc; pair = pair }

pub loop-place-init : goal.loop-place-init
loop-place-init c = record {
  numbered = c.in_ok-numbered.ensures.items;
  own = upto_none c.args.arcs.now;
  marks = c.in_ok-marks.ensures.marks;
  pairs = c.requires.none;
}

there : (arcs : List Entry) (place : ℕ) → place < length arcs → get_or arcs place (get_or arcs place nothing) ≡ get_or arcs place nothing
there arcs place within = get_or_default arcs place (get_or arcs place nothing) nothing within

pub first_from-own-requires-clause-before : goal.first_from-own-requires-clause-before
first_from-own-requires-clause-before c = c.loop-place.invariant.own.upto c.loop-place.place nothing (omega arith) c.loop-place-test.true

pub first_back-back-requires-clause-there : goal.first_back-back-requires-clause-there
first_back-back-requires-clause-there c = there c.args.arcs.now c.loop-place.place c.loop-place-test.true

pub pair_number-requires-clause-there : goal.pair_number-requires-clause-there
pair_number-requires-clause-there c = there c.args.arcs.now c.loop-place.place c.loop-place-test.true

pub pair_number-requires-clause-between : goal.pair_number-requires-clause-between
pair_number-requires-clause-between c = All-from_recursion IsBetween c.args.arcs.now c.requires.between c.loop-place.place nothing c.loop-place-test.true

pub pair_number-requires-clause-earlier : goal.pair_number-requires-clause-earlier
pair_number-requires-clause-earlier c = c.as_slice.ensures.value ∙ c.loop-place.invariant.numbered

pub loop-place-preserved : goal.loop-place-preserved
loop-place-preserved c =
    let arcs = c.args.arcs.now in
    let place = c.loop-place.place in
    let arc = get_or arcs place nothing in
    record {
      numbered =
          c.in_ok-push.ensures.items ∙ ap (λ (xs : List Numbered). xs ++ numbered arc c.in_ok-pair.pair ∷ []) c.loop-place.invariant.numbered
          ∙ ap (λ (pair : Option ℕ). map (with_pair arcs) (take place arcs) ++ numbered arc pair ∷ []) c.in_ok-pair.ensures.number
          ∙ sym (map_more (with_pair arcs) arcs place nothing c.loop-place-test.true);
      own = upto_next arcs place arc c.first_from-own.result c.requires.ordered.sorted (there arcs place c.loop-place-test.true) c.first_from-own.ensures;
      marks = c.first_back-back.ensures.marks;
      pairs = c.in_ok-pair.ensures.pairs;
    }

pub returns-clause-numbered : goal.returns-clause-numbered
returns-clause-numbered c = c.loop-place.invariant.numbered ∙ ap (map (with_pair c.args.arcs.now)) (take_all c.loop-place.place c.args.arcs.now c.loop-place-test.false)

pub returns-clause-pairs : goal.returns-clause-pairs
returns-clause-pairs c =
    let arcs = c.args.arcs.now in
    c.loop-place.invariant.pairs ∙ ap (λ (xs : List Entry). map (bond_from arcs) (filter (tells_pair arcs) xs)) (take_all c.loop-place.place arcs c.loop-place-test.false)
