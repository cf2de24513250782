-- The numbers of an area's bonds.
use Rattle.std.specs.Prelude.{◌<◌, ◌^◌}
use Rattle.area_graph.specs.declared.area_types.Bond.{Bond}

-- each number of a bond fits its field: metrics have 16 bits, link data 32
pub record FitsBond (bond : Bond) : Type 0 where
  pub metric_a : bond.metric_a < 2 ^ 16
  pub metric_b : bond.metric_b < 2 ^ 16
  pub data_a : bond.data_a < 2 ^ 32
  pub data_b : bond.data_b < 2 ^ 32
