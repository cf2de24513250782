use Rattle.std.proofs.Common.{◌≡◌, ◌∙◌, ◌<◌, ℕ, Some, get_or, slice_get, true, length, sym, ap, subst, arith}
use Rattle.std.proofs.lemmas.List.{length-set}
use Rattle.std.proofs.lemmas.Option.{slice_get-get_or}
use Rattle.mrt_graph.proofs.ListPlaces.{contains_at}
use Rattle.mrt_answer.proofs.WantedNodes.{all_wanted, node_more, none_wanted, outside_more}
use Rattle.mrt_answer.proofs.packets.wanted_nodes.Goals.{in-Some, in_default}
use Rattle.mrt_answer.proofs.packets.wanted_nodes.Goals as goal

pub node-requires : goal.node-requires
node-requires c =
    c.requires.within c.spot-item.result
    (contains_at c.args.destinations.now c.loop-spot.spot-index c.spot-item.result
    (slice_get-get_or c.args.destinations.now c.loop-spot.spot-index c.spot-item.result c.loop-spot-test.true ∙ ap (λ (x : ℕ). Some x) (sym c.spot-item.is)))

pub loop-spot-preserved : goal.loop-spot-preserved
loop-spot-preserved c =
    let spots = c.args.destinations.now in
    let routes = c.args.routes.now in
    let i = c.loop-spot.spot-index in
    let spot = c.spot-item.result in
    let here : slice_get routes.nodes (get_or spots i spot) ≡ Some c.node.result = subst (λ (t : ℕ). slice_get routes.nodes t ≡ Some c.node.result) c.spot-item.is c.node.ensures in
    elim c.match-node.branch [
      | in-Some w ↦
          let at : w.get.result ≡ w.in-Some.node = w.get.ensures.value in
          let within : w.in-Some.node < length c.loop-spot.wanted.items =
          omega (
            arith,
            c.requires.nodes spot w.in-Some.node w.in-Some.ensures,
            c.loop-spot.invariant.one_each,
          ) in
          rw (w.wanted-is, at) (record {
            one_each = length-set c.loop-spot.wanted.items w.in-Some.node true ∙ c.loop-spot.invariant.one_each;
            marked = node_more routes spots spot i c.loop-spot-test.true c.node.result here c.loop-spot.wanted.items c.loop-spot.invariant.marked
                w.in-Some.node w.in-Some.is within;
          })
      | in_default w ↦ rw (w.wanted-is) (record {
        one_each = c.loop-spot.invariant.one_each;
        marked = outside_more routes spots spot i c.loop-spot-test.true c.node.result here c.loop-spot.wanted.items c.loop-spot.invariant.marked
            w.in_default.not-Some;
      })
    ]

pub loop-spot-init : goal.loop-spot-init
loop-spot-init c =
    let none = c.in_ok-wanted.ensures.items_if_clones_equal (λ y is. is) in
    record {
      one_each = omega (arith, c.in_ok-wanted.ensures.len, c.in_ok-wanted.wanted.ok.0);
      marked = λ d. rw none (none_wanted c.args.routes.now c.args.count d);
    }

pub returns-clause-marked : goal.returns-clause-marked
returns-clause-marked c =
    all_wanted c.args.routes.now c.args.destinations.now c.loop-spot.spot-index c.loop-spot.wanted.items c.loop-spot-test.false
    c.loop-spot.invariant.marked
