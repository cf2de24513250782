use Rattle.std.proofs.Common.{◌∙◌, ℕ, Bool, true, false, List, length, replicate, set, ap, arith}
use Rattle.mrt_graph.specs.declared.cert.Role.TheVariants.{Plain}
use Rattle.mrt_graph.specs.declared.gadag.Mark.{Mark}
use Rattle.mrt_graph.specs.declared.gadag.Place.{Place}
use Rattle.mrt_graph.specs.declared.gadag.Way.TheVariants.{Unset}
use Rattle.gadag_ears.proofs.turns.begin.Goals as goal

pub index_mut-requires : goal.index_mut-requires
index_mut-requires c = omega (arith, c.requires, c.get.ensures.value, c.node_count-count.ensures.count, c.in_ok-listed.ensures.len)

pub returns : goal.returns
returns c =
    let root = c.args.root in
    let count = c.node_count-count.ensures.count in
    let place : Place = record { head = root; block = root } in
    let mark : Mark = record { way = Unset; role = Plain; block = root } in
    record {
      kept = c.node_count-count.ensures.kept;
      order = c.in_ok-order.ensures.items;
      waiting = c.in_ok-waiting.ensures.items;
      listed = ap (λ (xs : List Bool). set xs c.get.result true) (c.in_ok-listed.ensures.items_if_clones_equal (λ y same. same))
          ∙ ap (λ (n : ℕ). set (replicate n false) c.get.result true) count ∙ ap (λ (v : ℕ). set (replicate (length c.args.g.now.ids) false) v true) c.get.ensures.value;
      places = c.in_ok-places.ensures.items_if_clones_equal (λ y same. same) ∙ ap (λ (n : ℕ). replicate n place) count;
      marks = c.in_ok-marks.ensures.items_if_clones_equal (λ y same. same) ∙ ap (λ (n : ℕ). replicate n mark) c.link_count.ensures.count;
      room = record {
        order = omega (arith, c.in_ok-order.ensures.capacity, count);
        waiting = omega (arith, c.in_ok-waiting.ensures.capacity, count);
        added = omega (arith, c.in_ok-added.ensures.capacity, count);
      };
    }
