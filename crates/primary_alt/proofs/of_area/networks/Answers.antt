use Rattle.std.proofs.Common.{◌++◌, ◌∷◌, [], ◌∙◌, ℕ, Bool, List, sym, ap, arith}
use Rattle.std.proofs.lemmas.List.FromFn.{map-range_with_len_more}
use Rattle.primary_alt.specs.Offers.{is_network}
use Rattle.primary_alt.proofs.of_area.networks.Goals as goal

pub loop-s-preserved : goal.loop-s-preserved
loop-s-preserved c =
    let ids = c.args.area.now.ids in
    let one = c.is_network.ensures ∙ ap (λ (n : ℕ). is_network ids n) c.new.ensures in
    record {
      count = c.loop-s.invariant.count;
      filled = c.push_reserved.ensures.items
          ∙ ap (λ (b : Bool). c.loop-s.networks.items ++ b ∷ []) one
          ∙ ap (λ (xs : List Bool). xs ++ is_network ids c.loop-s.s ∷ []) c.loop-s.invariant.filled
          ∙ sym (map-range_with_len_more (λ (s : ℕ). is_network ids s) 0 c.loop-s.s c.loop-s.s (omega arith));
      many = omega (arith, c.push_reserved.ensures.len, c.loop-s.invariant.many);
      room = omega (arith, c.push_reserved.ensures.capacity, c.loop-s.invariant.room);
    }
