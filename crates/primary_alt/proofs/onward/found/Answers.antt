use Rattle.std.proofs.Common.{◌≡◌, ◌+◌, ◌∙◌, ◌++◌, ◌∷◌, [], ℕ, List, Option, None, Some, length, refl, sym, ap, subst, arith}
use Rattle.std.proofs.lemmas.Option.{slice_get_read}
use Rattle.area_graph.specs.declared.area_types.Arc.{Arc}
use Rattle.mrt_graph.proofs.Members.{contains_none}
use Rattle.primary_alt.specs.declared.onward.Onward.{Onward}
use Rattle.primary_alt.specs.steps.Onward.{AreOnward}
use Rattle.primary_alt.proofs.OnwardFound.{one_left, one_onward, onward_all}
use Rattle.primary_alt.proofs.onward.found.Goals as goal
use Rattle.primary_alt.proofs.onward.found.Goals.{in-Some, in_default}

-- none is no sum
no_sum : (o : Option ℕ) (sum : ℕ) → o ≡ None → o ≡ Some sum → ⊥
no_sum o sum none is = let clash : None ≡ Some sum = sym none ∙ is in cc

onward_none : (arcs : List Arc) (known : List (Option ℕ)) → AreOnward arcs known 0 []
onward_none arcs known = record {
  all = λ number sum arc low at is. absurd (omega (arith, low));
  only = λ next has. absurd (contains_none next has);
}

pub loop-number-init : goal.loop-number-init
loop-number-init c = record {
  are = subst (λ (xs : List Onward). AreOnward c.args.arcs.now c.args.distances.now 0 xs) (sym c.in_ok-onward.ensures.items) (onward_none c.args.arcs.now c.args.distances.now);
  room = omega (arith, c.in_ok-onward.ensures.len);
  capacity = omega (arith, c.in_ok-onward.ensures.capacity);
}

pub sum_over-requires-clause-tail : goal.sum_over-requires-clause-tail
sum_over-requires-clause-tail c =
    c.requires.between.tails c.loop-number.number c.index-arcs-number.result
    (slice_get_read c.args.arcs.now (length c.args.arcs.now) c.loop-number.number c.index-arcs-number.result refl c.loop-number-test.true c.index-arcs-number.is)

pub sum_over-requires-clause-to : goal.sum_over-requires-clause-to
sum_over-requires-clause-to c =
    c.requires.between.tos c.loop-number.number c.index-arcs-number.result
    (slice_get_read c.args.arcs.now (length c.args.arcs.now) c.loop-number.number c.index-arcs-number.result refl c.loop-number-test.true c.index-arcs-number.is)

pub overflow_cast-number : goal.overflow_cast-number
overflow_cast-number c = omega (arith, c.requires.few, c.loop-number-test.true)

pub push_reserved-requires : goal.push_reserved-requires
push_reserved-requires c = omega (arith, c.loop-number.invariant.room, c.loop-number.invariant.capacity, c.loop-number-test.true)

pub loop-number-preserved : goal.loop-number-preserved
loop-number-preserved c =
    let arcs = c.args.arcs.now in
    let known = c.args.distances.now in
    let number = c.loop-number.number in
    let arc = c.index-arcs-number.result in
    let at = slice_get_read arcs (length arcs) number arc refl c.loop-number-test.true c.index-arcs-number.is in
    elim c.match-sum_over.branch [
      | in-Some w ↦
          let sum = w.in-Some.sum in
          let items : w.push_reserved.new.self.items ≡ c.loop-number.onward.items ++ record { number = number; sum = sum } ∷ [] =
          w.push_reserved.ensures.items ∙ ap (λ (n : ℕ). c.loop-number.onward.items ++ record { number = n; sum = sum } ∷ []) w.new-number.ensures in
          rw w.onward-is (record {
            are = subst (λ (xs : List Onward). AreOnward arcs known (number + 1) xs) (sym items)
                (one_onward arcs known c.loop-number.onward.items (record { number = number; sum = sum }) arc at ((c.sum_over.ensures sum).0 w.in-Some.is) c.loop-number.invariant.are);
            room = omega (arith, w.push_reserved.ensures.len, c.loop-number.invariant.room);
            capacity = omega (arith, w.push_reserved.ensures.capacity, c.loop-number.invariant.capacity);
          })
      | in_default w ↦ rw w.onward-is (record {
        are = one_left arcs known c.loop-number.onward.items number arc at
            (λ sum is. no_sum c.sum_over.result sum w.in_default.is ((c.sum_over.ensures sum).1 is))
            c.loop-number.invariant.are;
        room = omega (arith, c.loop-number.invariant.room);
        capacity = c.loop-number.invariant.capacity;
      })
    ]

pub returns : goal.returns
returns c =
    onward_all c.args.arcs.now c.args.distances.now c.loop-number.onward.items c.loop-number.number (omega (arith, c.loop-number-test.false)) c.loop-number.invariant.are
