use Rattle.std.proofs.Common.{◌≡◌, ◌<◌, ◌≤◌, ◌+◌, ◌*◌, ◌∙◌, ℕ, Some, get_or, length, slice_get, inl, inr, sym, ap, subst, arith}
use Rattle.std.proofs.lemmas.Bool.{cases_lt}
use Rattle.std.proofs.lemmas.List.{get_or_past}
use Rattle.block_spf.specs.declared.fan.Opening.{Opening}
use Rattle.block_spf.specs.steps.Known.{Known, known_at}
use Rattle.block_spf.specs.steps.Opening.{IsKeptOnward, IsOpening}
use Rattle.block_spf.specs.Rest.{far}
use Rattle.block_spf.proofs.ByTurn.{turn_node}
use Rattle.block_spf.proofs.LanesSwept.{lane, lane_begun, lane_idle, lane_low, lane_turned, place_reached}
use Rattle.block_spf.proofs.PathsSwept.{IsSwept}
use Rattle.block_spf.proofs.SideBySide.{row_in}
use Rattle.block_spf.proofs.fan.sweep.Goals as goal
use Rattle.block_spf.proofs.fan.sweep.Goals.{then-is_reached, else-is_reached}

-- the node that has its turn, and its places among those of all nodes
turn : (opening : Opening) → IsOpening opening → (i x : ℕ) → i < length opening.turns.now → x ≡ get_or opening.turns.now i x
    → (slice_get opening.turns.now i ≡ Some x) × (x < length opening.graph.now.ids)
turn opening is = turn_node opening.graph.now opening.directed.now opening.dir opening.turns.now is.directed is.turns

row : (opening : Opening) → IsOpening opening → (i x width m many : ℕ) → i < length opening.turns.now → x ≡ get_or opening.turns.now i x
    → many ≡ length opening.graph.now.ids * width → m ≡ width → x * m + m ≤ many
row opening is i x width m many below read = row_in x (length opening.graph.now.ids) width m many (turn opening is i x below read).1

-- what is kept of x, in one lane
lane_kept : (opening : Opening) (x width m n j : ℕ) (found : ℕ → Known) (taken kept : Known) → m ≡ width → n ≡ width → taken ≡ found (x * m + j)
    → IsKeptOnward opening x n j taken kept → IsKeptOnward opening x width j (lane width j found x) kept
lane_kept opening x width m n j found taken kept m_is n_is is on =
    subst (λ (k : ℕ). IsKeptOnward opening x k j (lane width j found x) kept) n_is
    (subst (λ (o : Known). IsKeptOnward opening x n j o kept) (is ∙ ap (λ (k : ℕ). found (x * k + j)) m_is) on)

pub loop-x-init : goal.loop-x-init
loop-x-init c = record {
  lanes = c.requires.begun.lanes;
  swept = λ root j w are below.
      lane_begun c.args.opening.now root w are c.requires.opening (length c.args.from_costs.now) j below c.args.costs.now c.args.places.now c.requires.begun;
}

pub is_reached-requires : goal.is_reached-requires
is_reached-requires c =
    row c.args.opening.now c.requires.opening c.loop-x.x-index c.x-item.result (length c.args.from_costs.now) (length c.loop-x.from_costs) (length c.loop-x.costs)
    c.loop-x-test.true c.x-item.is (c.loop-x.auto.costs ∙ c.requires.begun.one_cost_each) c.loop-x.auto.from_costs

pub take_from-requires-clause-room : goal.take_from-requires-clause-room
take_from-requires-clause-room c =
    row c.args.opening.now c.requires.opening c.loop-x.x-index c.x-item.result (length c.args.from_costs.now) (length c.loop-x.from_costs) (length c.loop-x.costs)
    c.loop-x-test.true c.x-item.is (c.loop-x.auto.costs ∙ c.requires.begun.one_cost_each) c.loop-x.auto.from_costs

pub keep_onward-requires-clause-node : goal.keep_onward-requires-clause-node
keep_onward-requires-clause-node c = (turn c.args.opening.now c.requires.opening c.loop-x.x-index c.x-item.result c.loop-x-test.true c.x-item.is).1

pub offer_on-requires-clause-node : goal.offer_on-requires-clause-node
offer_on-requires-clause-node c = (turn c.args.opening.now c.requires.opening c.loop-x.x-index c.x-item.result c.loop-x-test.true c.x-item.is).1

pub offer_on-requires-clause-room : goal.offer_on-requires-clause-room
offer_on-requires-clause-room c =
    c.loop-x.auto.costs ∙ c.requires.begun.one_cost_each
    ∙ ap (λ (m : ℕ). length c.args.opening.now.graph.now.ids * m) (sym (c.keep_onward.auto.from_costs ∙ c.take_from.auto.from_costs ∙ c.loop-x.auto.from_costs))

pub offer_on-requires-clause-low : goal.offer_on-requires-clause-low
offer_on-requires-clause-low c = λ j less. elim (cases_lt j (length c.args.from_costs.now)) [
  | inl below ↦
      let opening = c.args.opening.now in
      let d = c.requires.opening.directed in
      let width = length c.args.from_costs.now in
      let taken = c.take_from.auto.from_costs ∙ c.loop-x.auto.from_costs in
      let there = (turn opening c.requires.opening c.loop-x.x-index c.x-item.result c.loop-x-test.true c.x-item.is).0 in
      lane_low opening d.root d.directions d.are c.requires.opening width j below c.loop-x.x-index c.x-item.result there (known_at c.loop-x.costs c.loop-x.places)
      (c.loop-x.invariant.swept d.root j d.directions d.are below) _
      (lane_kept opening c.x-item.result width (length c.loop-x.from_costs) (length c.take_from.new.from_costs) j (known_at c.loop-x.costs c.loop-x.places) _ _
      c.loop-x.auto.from_costs taken
      (c.take_from.ensures.taken j (omega (arith, below, c.loop-x.auto.from_costs))) (c.keep_onward.ensures.onward j)) less
  | inr past ↦
      let none = get_or_past c.keep_onward.new.from_costs j 0 (omega (arith, past, c.keep_onward.auto.from_costs, c.take_from.auto.from_costs, c.loop-x.auto.from_costs)) in
      omega (arith, none)
]

pub loop-x-preserved : goal.loop-x-preserved
loop-x-preserved c =
    let opening = c.args.opening.now in
    let width = length c.args.from_costs.now in
    let i = c.loop-x.x-index in
    let x = c.x-item.result in
    let there = (turn opening c.requires.opening i x c.loop-x-test.true c.x-item.is).0 in
    let found = known_at c.loop-x.costs c.loop-x.places in
    let before = c.loop-x.invariant in
    elim c.if-is_reached.branch [
      | then-is_reached t ↦
          let taken = t.take_from.auto.from_costs ∙ c.loop-x.auto.from_costs in
          rw (t.costs-is, t.places-is) (record {
            lanes = t.offer_on.ensures.lanes;
            swept = λ root j w are below.
                lane_turned opening root w are c.requires.opening width j below i x there found (before.swept root j w are below)
                t.keep_onward.new.from_costs t.keep_onward.new.from_places (known_at t.offer_on.new.costs t.offer_on.new.places)
                (t.keep_onward.auto.from_costs ∙ taken)
                (lane_kept opening x width (length c.loop-x.from_costs) (length t.take_from.new.from_costs) j found _ _ c.loop-x.auto.from_costs taken
                (t.take_from.ensures.taken j (omega (arith, below, c.loop-x.auto.from_costs))) (t.keep_onward.ensures.onward j))
                (t.offer_on.ensures.offered root w are);
          })
      | else-is_reached t ↦ rw (t.costs-is, t.places-is) (record {
        lanes = before.lanes;
        swept = λ root j w are below.
            lane_idle opening root w are c.requires.opening width j below i x there found (before.swept root j w are below)
            (subst (λ (m : ℕ). far ≤ get_or c.loop-x.costs (x * m + j) 0) c.loop-x.auto.from_costs
            (c.is_reached.ensures t.if-is_reached.false j (omega (arith, below, c.loop-x.auto.from_costs))));
      })
    ]

pub returns : goal.returns
returns c = λ root w are.
    let opening = c.args.opening.now in
    let width = length c.args.from_costs.now in
    let turns = c.requires.opening.turns root w are in
    let all : c.loop-x.x-index ≡ length opening.graph.now.ids = omega (arith, c.loop-x-test.false, c.loop-x.auto.x-index-end, turns.one_each) in
    record {
      each = λ j t ends below inside t_inside list.
          place_reached opening root w are c.requires.opening width j below t ends (known_at c.loop-x.costs c.loop-x.places) inside t_inside list
          c.loop-x.invariant.lanes.none
          (subst (λ (i : ℕ). IsSwept opening.graph.now root w opening.dir (opening.first + j) i (lane width j (known_at c.loop-x.costs c.loop-x.places))) all
          (c.loop-x.invariant.swept root j w are below));
    }
