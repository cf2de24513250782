-- The parts that the code hands on.
use Rattle.mrt_graph.specs.Rows.{Rows}
use Rattle.mrt_report.specs.LineParts.{LineParts}
use Rattle.mrt_report.specs.declared.parts.Parts.{Parts}

-- what they refer to, with the rows that are read from what they name for that
abbrev pub viewed : {R : Type 0} → (R → Rows) → Parts R → LineParts
viewed rows parts = record {
  area = parts.area.now;
  island = parts.island.now;
  link_of = parts.link_of.now;
  rows = rows parts.rows.now;
  source = parts.source;
}
