use Rattle.std.proofs.Common.{◌≡◌, ◌*◌, ◌∙◌, ℕ, length, sym, ap}
use Rattle.block_spf.proofs.fan.Fan.new.Goals as goal

pub invariant_of-result : goal.invariant_of-result
invariant_of-result c =
    let nodes : length c.in_ok-vec-5.field-0.items ≡ c.node_count-count.result = sym c.in_ok-vec-5.field-0.ok.0 ∙ c.in_ok-vec-5.ensures.len in
    let width : length c.in_ok-vec-3.field-0.items ≡ c.args.width = sym c.in_ok-vec-3.field-0.ok.0 ∙ c.in_ok-vec-3.ensures.len in
    let wide = ap (λ (n : ℕ). n * c.args.width) (sym nodes) ∙ ap (λ (m : ℕ). length c.in_ok-vec-5.field-0.items * m) (sym width) in
    record {
      one_cost_each = sym c.in_ok-vec.field-0.ok.0 ∙ c.in_ok-vec.ensures.len ∙ wide;
      one_place_each = sym c.in_ok-vec-2.field-0.ok.0 ∙ c.in_ok-vec-2.ensures.len ∙ wide;
      one_source_each = sym c.in_ok-vec-4.field-0.ok.0 ∙ c.in_ok-vec-4.ensures.len ∙ sym width;
    }
