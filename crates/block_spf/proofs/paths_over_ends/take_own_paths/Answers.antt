use Rattle.std.proofs.Common.{◌≡◌, ◌∙◌, ◌<◌, ◌*◌, ℕ, Bool, false, true, Some, get_or, length, slice_get, slice_index, sym, ap, subst, arith}
use Rattle.std.proofs.lemmas.Option.{slice_get-get_or}
use Rattle.mrt_graph.specs.declared.gadag.Place.{Place}
use Rattle.mrt_graph.proofs.EndsAt.{list_of_ends}
use Rattle.link_direction.specs.Directions.{Directions, Says}
use Rattle.block_spf.specs.declared.aiming.Aiming.{Aiming}
use Rattle.block_spf.specs.Against.{against}
use Rattle.block_spf.specs.Aiming.{IsAiming}
use Rattle.block_spf.specs.BlockAims.{aim_at}
use Rattle.block_spf.specs.steps.Side.{IsRowPut, cost_from}
use Rattle.block_spf.specs.steps.PathsOverEnds.{AreLeast, AreReady}
use Rattle.block_spf.proofs.ByTurn.{turn_in, turn_node}
use Rattle.link_direction.proofs.ClosedBlocks.{IsOrdered}
use Rattle.link_direction.proofs.TwoNodes.{place_says}
use Rattle.block_spf.proofs.OwnWays.{one_turned, own_row, passed_turned, ready_for, row_low}
use Rattle.block_spf.proofs.SideBySide.{row_in, row_most}
use Rattle.block_spf.proofs.paths_over_ends.take_own_paths.Goals as goal
use Rattle.block_spf.proofs.paths_over_ends.take_own_paths.Goals.{then-marked, else-marked}

-- the node that has its turn is one of the graph, and its block is named by one
turn : (aiming : Aiming) (width : ℕ) → IsAiming aiming width → (i x : ℕ) → i < length aiming.turns.now → x ≡ get_or aiming.turns.now i x
    → (slice_get aiming.turns.now i ≡ Some x) × (x < length aiming.graph.now.ids)
turn aiming width is = turn_node aiming.graph.now aiming.directed.now (against aiming.dir) aiming.turns.now is.directed is.turns

block_in : (aiming : Aiming) (width : ℕ) → IsAiming aiming width → (i x : ℕ) (place : Place) → i < length aiming.turns.now → x ≡ get_or aiming.turns.now i x
    → slice_get aiming.directed.now.places x ≡ Some place → place.block < length aiming.graph.now.ids
block_in aiming width is i x place below read at =
    let within = (turn aiming width is i x below read).1 in
    let block = (place_says aiming.graph.now aiming.directed.now is.directed.directions x place is.directed.are.says within at).1 in
    omega (arith, block, is.directed.are.ordered.heads.block_within x within)

pub bounds-aiming-get : goal.bounds-aiming-get
bounds-aiming-get c =
    let block = block_in c.args.aiming.now (length c.args.costs.now) c.requires.aiming c.loop-x.x-index c.x-item.result c.place-block.result c.loop-x-test.true c.x-item.is c.place-block.ensures in
    omega (arith, block, c.get.ensures.value, c.requires.aiming.a_mark_each)

pub take_paths-requires-clause-node : goal.take_paths-requires-clause-node
take_paths-requires-clause-node c =
    (turn c.args.aiming.now (length c.args.costs.now) c.requires.aiming c.loop-x.x-index c.x-item.result c.loop-x-test.true c.x-item.is).1

pub take_paths-requires-clause-aiming : goal.take_paths-requires-clause-aiming
take_paths-requires-clause-aiming c = subst (λ (n : ℕ). IsAiming c.args.aiming.now n) (sym c.loop-x.auto.costs) c.requires.aiming

pub take_paths-requires-clause-rows : goal.take_paths-requires-clause-rows
take_paths-requires-clause-rows c = record {
  one_each = c.loop-x.auto.all_costs ∙ c.requires.rows.one_each ∙ ap (λ (m : ℕ). length c.args.aiming.now.graph.now.ids * m) (sym c.loop-x.auto.costs);
  most = c.loop-x.invariant.most;
}

pub keep_costs-requires-clause-aims : goal.keep_costs-requires-clause-aims
keep_costs-requires-clause-aims c =
    let width = length c.args.costs.now in
    row_in c.place-block.result.block (length c.args.aiming.now.graph.now.ids) width (length c.take_paths.new.costs) (length c.args.aiming.now.aims.now)
    (block_in c.args.aiming.now width c.requires.aiming c.loop-x.x-index c.x-item.result c.place-block.result c.loop-x-test.true c.x-item.is c.place-block.ensures)
    c.requires.aiming.aims (c.take_paths.auto.costs ∙ c.loop-x.auto.costs)

pub keep_costs-requires-clause-room : goal.keep_costs-requires-clause-room
keep_costs-requires-clause-room c =
    let width = length c.args.costs.now in
    row_in c.x-item.result (length c.args.aiming.now.graph.now.ids) width (length c.take_paths.new.costs) (length c.loop-x.all_costs)
    (turn c.args.aiming.now width c.requires.aiming c.loop-x.x-index c.x-item.result c.loop-x-test.true c.x-item.is).1
    (c.loop-x.auto.all_costs ∙ c.requires.rows.one_each) (c.take_paths.auto.costs ∙ c.loop-x.auto.costs)

pub keep-requires : goal.keep-requires
keep-requires c =
    let width = length c.args.costs.now in
    row_in c.x-item.result (length c.args.aiming.now.graph.now.ids) width (length c.take_paths.new.links) (length c.loop-x.all_links)
    (turn c.args.aiming.now width c.requires.aiming c.loop-x.x-index c.x-item.result c.loop-x-test.true c.x-item.is).1
    (c.loop-x.auto.all_links ∙ c.requires.all_links ∙ c.requires.rows.one_each) (c.take_paths.auto.links ∙ c.loop-x.auto.links ∙ c.requires.one_link_each)

pub loop-x-preserved : goal.loop-x-preserved
loop-x-preserved c =
    let aiming = c.args.aiming.now in
    let g = aiming.graph.now in
    let width = length c.args.costs.now in
    let i = c.loop-x.x-index in
    let x = c.x-item.result in
    let wanted = aiming.wanted.now in
    let kept = c.requires.aiming.kept in
    let at = turn aiming width c.requires.aiming i x c.loop-x-test.true c.x-item.is in
    let block_is : (w : Directions) → Says g aiming.directed.now w → c.place-block.result.block ≡ w.block x =
    λ w says. (place_says g aiming.directed.now w x c.place-block.result says at.1 c.place-block.ensures).1 in
    elim c.if-marked.branch [
      | then-marked t ↦
          let wide : length t.take_paths.new.costs ≡ width = t.take_paths.auto.costs ∙ c.loop-x.auto.costs in
          let many : length t.take_paths.new.links ≡ width = t.take_paths.auto.links ∙ c.loop-x.auto.links ∙ c.requires.one_link_each in
          let costs = t.take_paths.new.costs in
          let put : (w : Directions) → Says g aiming.directed.now w → IsRowPut x width (own_row aiming w x width costs) c.loop-x.all_costs t.keep_costs.new.all =
          λ w says.
          subst (λ (b : ℕ). IsRowPut x width (λ j. cost_from x (aim_at aiming.aims.now width j b) (slice_index costs j)) c.loop-x.all_costs t.keep_costs.new.all) (block_is w says)
          (subst (λ (n : ℕ). IsRowPut x n (λ j. cost_from x (aim_at aiming.aims.now n j c.place-block.result.block) (slice_index costs j)) c.loop-x.all_costs t.keep_costs.new.all)
          wide t.keep_costs.ensures) in
          rw (t.all_costs-is, t.all_links-is) (record {
            most =
                let has = c.requires.aiming.directed in
                row_most x width _ c.loop-x.all_costs t.keep_costs.new.all (put has.directions has.are.says)
                (λ j below. row_low aiming has.directions x width costs t.take_paths.ensures.most j) c.loop-x.invariant.most;
            turned = λ root w are.
                let is : IsOrdered g root w = record { kept = kept; ordered = are.ordered } in
                let turns = c.requires.aiming.turns root w are in
                let ends = list_of_ends g x kept at.1 in
                let before = c.loop-x.invariant.turned root w are in
                let ready = ready_for aiming root w is turns width i x at.0 c.loop-x.all_costs c.loop-x.all_links before in
                one_turned aiming root w is turns width i x at.0 c.loop-x.all_costs c.loop-x.all_links t.keep_costs.new.all t.keep.new.all costs t.take_paths.new.links ends.0 ends.1
                (subst (λ (n : ℕ). AreLeast aiming w true n x ends.0 (length ends.0) costs t.take_paths.new.links) c.loop-x.auto.costs
                (t.take_paths.ensures.least root w ends.0 are (subst (λ (n : ℕ). AreReady aiming w true n c.loop-x.all_costs x) (sym c.loop-x.auto.costs) ready) ends.1))
                (put w are.says)
                (subst (λ (n : ℕ). IsRowPut x n (λ j. slice_index t.take_paths.new.links j) c.loop-x.all_links t.keep.new.all) many t.keep.ensures) before;
          })
      | else-marked t ↦ rw (t.all_costs-is, t.all_links-is) (record {
        most = c.loop-x.invariant.most;
        turned = λ root w are.
            let is : IsOrdered g root w = record { kept = kept; ordered = are.ordered } in
            let block = are.ordered.heads.block_within x at.1 in
            passed_turned aiming root w is (c.requires.aiming.turns root w are) width i x at.0 c.loop-x.all_costs c.loop-x.all_links
            (slice_get-get_or wanted (w.block x) false (omega (arith, block, c.requires.aiming.a_mark_each))
            ∙ ap (λ (b : Bool). Some b) (ap (λ (k : ℕ). get_or wanted k false) (sym (c.get.ensures.value ∙ block_is w are.says)) ∙ t.if-marked.false))
            (c.loop-x.invariant.turned root w are);
      })
    ]

pub returns-clause-rows : goal.returns-clause-rows
returns-clause-rows c = record { one_each = omega (arith, c.requires.rows.one_each); most = c.loop-x.invariant.most }

pub returns-clause-own : goal.returns-clause-own
returns-clause-own c = λ root y w are within.
    let aiming = c.args.aiming.now in
    let turns = c.requires.aiming.turns root w are in
    c.loop-x.invariant.turned root w are y within
    (omega (arith, c.loop-x-test.false, turns.one_each, turn_in aiming.graph.now root w (against aiming.dir) y are.ordered within))
