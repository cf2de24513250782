use Rattle.std.proofs.Common.{◌≡◌, ◌≢◌, ◌<◌, ◌≤◌, ◌+◌, ◌∙◌, ℕ, Bool, false, true, List, Some, get_or, length, length-set, set, slice_get, refl, sym, ap, subst, inl, inr, arith}
use Rattle.std.proofs.lemmas.Bool.{cases_eq, cases_lt}
use Rattle.std.proofs.lemmas.List.{get_or-set_other, get_or-set_same}
use Rattle.std.proofs.lemmas.Option.{same_Some, slice_get-get_or}
use Rattle.block_spf.specs.declared.fan.Opening.{Opening}
use Rattle.block_spf.specs.steps.Known.{AreLanes, Known, known_at, no_place, nothing}
use Rattle.block_spf.specs.steps.Opening.{AreStops, Ends, GoOn, Goes, IsKeptOnward, Stop}
use Rattle.block_spf.specs.Rest.{far}
use Rattle.block_spf.proofs.fan.keep_onward.Goals as goal
use Rattle.block_spf.proofs.fan.keep_onward.Goals.{then-is_stop, else-is_stop}

-- a path goes on from a node that is not marked
not_stopped : (opening : Opening) (width x j : ℕ) (stops : List Bool) → AreStops opening width stops → slice_get stops x ≡ Some false
    → j < width → opening.first + j < length opening.graph.now.ids → GoOn opening (opening.first + j) x
not_stopped opening width x j stops stop clear below inside root w are = record {
  not_source = λ same. unmarked (opening.first + j) same (stop.sources j below inside);
  not_head = λ same. unmarked (w.head (opening.first + j)) same (stop.heads root j w are below inside);
}
  where
    unmarked : (v : ℕ) → x ≡ v → slice_get stops v ≡ Some true → ⊥
    unmarked v same marked = let no = same_Some false true (sym clear ∙ ap (λ (y : ℕ). slice_get stops y) same ∙ marked) in (cc)

pub returns-then-not-stops-get-clause-onward : goal.returns-then-not-stops-get-clause-onward
returns-then-not-stops-get-clause-onward c = λ j.
    let stops = c.args.stops.now in
    let opening = c.args.opening.now in
    let clear : slice_get stops c.args.x ≡ Some false =
    slice_get-get_or stops c.args.x false (omega (arith, c.requires.node, c.requires.stops.one_each))
    ∙ ap (λ (b : Bool). Some b) (ap (λ (v : ℕ). get_or stops v false) (sym c.get.ensures.value) ∙ c.if-not-stops-get.true) in
    Goes refl (λ below inside. not_stopped opening (length c.args.from_costs.now) c.args.x j stops c.requires.stops clear below inside)

module _ (costs places : List ℕ) (j : ℕ) (are : AreLanes costs places) (within : j < length costs) where
  gone : known_at (set costs j far) (set places j no_place) j ≡ nothing
  gone = rw (get_or-set_same costs j far 0 within, get_or-set_same places j no_place 0 (omega (arith, within, are.one_place_each))) refl

  stays : (i : ℕ) → i ≢ j → known_at (set costs j far) (set places j no_place) i ≡ known_at costs places i
  stays i other = rw (get_or-set_other costs j i far 0 other, get_or-set_other places j i no_place 0 other) refl

  forgotten : AreLanes (set costs j far) (set places j no_place)
  forgotten = record {
    one_place_each = length-set places j no_place ∙ are.one_place_each ∙ sym (length-set costs j far);
    none = λ i above. elim (cases_eq i j) [
      | inl same ↦ subst (λ (k : ℕ). known_at (set costs j far) (set places j no_place) k ≡ nothing) (sym same) gone
      | inr other ↦ stays i other ∙ are.none i (subst (λ (k : Known). far ≤ k.cost) (stays i other) above)
    ];
  }

pub loop-j-init : goal.loop-j-init
loop-j-init c = record { lanes = c.requires.lanes; onward = λ k below. absurd (omega (arith, below)); same = λ k above. refl }

pub loop-j-preserved : goal.loop-j-preserved
loop-j-preserved c =
    let opening = c.args.opening.now in
    let j = c.loop-j.j in
    let x = c.args.x in
    let width = length c.args.from_costs.now in
    let costs = c.loop-j.from_costs in
    let places = c.loop-j.from_places in
    let are = c.loop-j.invariant.lanes in
    let source : c.new-source.result ≡ opening.first + j = omega (arith, c.new-source.ensures, c.get-in-loop-j.ensures.value) in
    let within : j < length costs = omega (arith, c.loop-j-test.true, c.source_count-j-end.ensures.most) in
    elim c.if-is_stop.branch [
      | then-is_stop t ↦ rw (t.from_costs-is, t.from_places-is) (record {
        lanes = forgotten costs places j are within;
        onward = λ k below. elim (cases_eq k j) [
          | inl same ↦
              subst (λ (i : ℕ). IsKeptOnward opening x width i (known_at c.args.from_costs.now c.args.from_places.now i)
              (known_at (set costs j far) (set places j no_place) i)) (sym same)
              (Ends (ap (λ (o : Known). o.cost) (gone costs places j are within))
              (subst (λ (v : ℕ). Stop opening v x) source (c.is_stop.ensures.stops t.if-is_stop.true)))
          | inr other ↦
              subst (λ (o : Known). IsKeptOnward opening x width k (known_at c.args.from_costs.now c.args.from_places.now k) o)
              (sym (stays costs places j are within k other)) (c.loop-j.invariant.onward k (omega (arith, below, other)))
        ];
        same = λ k above. stays costs places j are within k (λ same. omega (arith, same, above)) ∙ c.loop-j.invariant.same k (omega (arith, above));
      })
      | else-is_stop t ↦ rw (t.from_costs-is, t.from_places-is) (record {
        lanes = are;
        onward = λ k below. elim (cases_eq k j) [
          | inl same ↦
              Goes (c.loop-j.invariant.same k (omega (arith, same))) (λ k_below inside.
              subst (λ (v : ℕ). GoOn opening v x) (omega (arith, source, same)) (c.is_stop.ensures.goes t.if-is_stop.false))
          | inr other ↦ c.loop-j.invariant.onward k (omega (arith, below, other))
        ];
        same = λ k above. c.loop-j.invariant.same k (omega (arith, above));
      })
    ]

pub returns-clause-onward : goal.returns-clause-onward
returns-clause-onward c = λ k. elim (cases_lt k c.loop-j.j) [
  | inl early ↦ c.loop-j.invariant.onward k early
  | inr late ↦
      Goes (c.loop-j.invariant.same k late) (λ below inside.
      let early = c.source_count-j-end.ensures.all k below inside in absurd (omega (arith, early, late, c.loop-j-test.false)))
]
