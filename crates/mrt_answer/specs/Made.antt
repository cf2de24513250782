-- What texts and rows are made from.
use Rattle.std.specs.Prelude.{◌<◌, length, ℕ}
use Rattle.area_graph.specs.Fits.{Fits}
use Rattle.mrt_graph.specs.Certificate.{Certificate}
use Rattle.mrt_graph.specs.GraphInvariant.{IsNetwork}
use Rattle.mrt_report.specs.TableParts.{TableParts, AreItsPrimaries, table_parts}
use Rattle.mrt_graph.specs.declared.cert.CertFile.{CertFile}
use Rattle.mrt_graph.specs.Topology.{Topology}
use Rattle.mrt_rows.specs.CertOf.{IsCertOf}
use Rattle.mrt_rows.specs.declared.rooted.RootedColumns.{RootedColumns}
use Rattle.mrt_answer.specs.declared.table.Parts.{Parts}
use Rattle.mrt_answer.specs.Texts.{IsComputedFile}

-- the parts of a table, with the certificate whose rows stand in the columns
abbrev pub with_cert : Parts → Certificate → TableParts
with_cert parts cert =
    table_parts parts.area.now parts.island.now parts.link_of.now cert parts.source parts.primaries.now

-- the parts belong together
pub record AreParts (parts : Parts) : Type 0 where
  pub fits : Fits parts.area.now parts.island.now parts.link_of.now
  pub within : parts.source < length parts.island.now.ids
  pub router : ¬ IsNetwork parts.island.now.ids parts.source
  pub primaries : AreItsPrimaries parts.area.now parts.island.now parts.source parts.primaries.now

-- there is the certificate that is computed for a graph and its root, and it is that from the root of the columns
pub record HasComputed (graph : Topology) (root : ℕ) (columns : RootedColumns) : Type 0 where
  pub file : CertFile
  pub certificate : IsComputedFile graph root file
  pub of_columns : IsCertOf graph columns.root file
