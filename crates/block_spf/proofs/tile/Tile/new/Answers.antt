use Rattle.std.proofs.Common.{◌≡◌, ◌*◌, ◌∙◌, ℕ, length, sym, ap, subst}
use Rattle.block_spf.specs.steps.Side.{AreCosts}
use Rattle.block_spf.proofs.SideBySide.{far_costs}
use Rattle.block_spf.proofs.tile.Tile.new.Goals as goal

pub invariant_of-result : goal.invariant_of-result
invariant_of-result c =
    let nodes = c.node_count-nodes.result in
    let width : length c.in_ok-vec-3.field-0.items ≡ c.args.width = sym c.in_ok-vec-3.field-0.ok.0 ∙ c.in_ok-vec-3.ensures.len in
    let wide = ap (λ (m : ℕ). nodes * m) (sym width) in
    record {
      one_cost_each = sym c.in_ok-vec.field-0.ok.0 ∙ c.in_ok-vec.ensures.len ∙ wide;
      one_link_each = sym c.in_ok-vec-2.field-0.ok.0 ∙ c.in_ok-vec-2.ensures.len ∙ wide;
      most = subst AreCosts (sym (c.in_ok-vec.ensures.items_if_clones_equal (λ y same. same))) (far_costs (nodes * c.args.width));
      one_place_each = sym c.in_ok-vec-4.field-0.ok.0 ∙ c.in_ok-vec-4.ensures.len ∙ sym width;
    }

pub returns : goal.returns
returns c = record { nodes = c.node_count-nodes.ensures.count; width = sym c.in_ok-vec-3.field-0.ok.0 ∙ c.in_ok-vec-3.ensures.len }
