use Rattle.std.proofs.Common.{◌∙◌, refl}
use Rattle.mrt_answer.specs.Texts.{IsComputed}
use Rattle.mrt_answer.proofs.TextsHeld.{some_bytes}
use Rattle.mrt_calls.proofs.shape.shape_of_island.Goals as goal

pub returns : goal.returns
returns c =
    let some = some_bytes (IsComputed c.args.island.graph c.args.island.root) c.in_ok-text.text c.in_ok-text.ensures in
    record {
      root_id = c.id-root.result;
      root_is = c.id-root.ensures;
      root = refl;
      nodes = c.from-nodes.ensures ∙ c.node_count.ensures.count;
      links = c.from-links.ensures ∙ c.link_count.ensures.count;
      text = some.bytes;
      computed = some.held;
      certificate = c.count_of.ensures some.bytes some.are;
      reserved_1 = refl;
      reserved_2 = refl;
    }
