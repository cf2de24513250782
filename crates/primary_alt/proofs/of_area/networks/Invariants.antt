use Rattle.std.proofs.Common.{◌≡◌, ◌≤◌, length, vec_capacity, vec_len}
use Rattle.std.specs.Prelude.{map}
use Rattle.std.specs.List.{range_with_len}
use Rattle.primary_alt.specs.Offers.{is_network}
use Rattle.primary_alt.proofs.of_area.networks.Given as goal

abbrev pub invariant-loop-s : goal.invariant-loop-s
invariant-loop-s l = record {
  count : l.count ≡ length l.area.ids;
  filled : l.networks.items ≡ map (λ s. is_network l.area.ids s) (range_with_len 0 l.s);
  many : vec_len l.networks ≡ l.s;
  room : l.count ≤ vec_capacity l.networks;
}
