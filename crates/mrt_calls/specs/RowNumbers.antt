-- Rows in the numbers that C knows them by.
use Rattle.std.specs.Prelude.{ℕ, Option, Some, None}
use Rattle.cert_format.specs.CertText.{kind_number}
use Rattle.mrt_graph.specs.Tags.{tag_number}
use Rattle.mrt_graph.specs.declared.cert.Color.{Color}
use Rattle.mrt_graph.specs.declared.cert.Color.TheVariants.{Blue, Red}
use Rattle.mrt_report.specs.declared.row.ArcRepairs.{ArcRepairs}
use Rattle.mrt_report.specs.declared.row.HopTo.{HopTo}
use Rattle.mrt_report.specs.declared.row.TableRow.{TableRow}
use Rattle.mrt_calls.specs.declared.row.MrtHop.{MrtHop}
use Rattle.mrt_calls.specs.declared.row.MrtRow.{MrtRow}
use Rattle.mrt_calls.specs.declared.row.Second.{Second}

-- the color that repairs a failure, or that none does
abbrev pub color_number : Option Color → ℕ
color_number (Some Blue) = 1
color_number (Some Red) = 2
color_number None = 3

-- what repairs a second arc; 0 twice where there is none
abbrev pub second_in : Option ArcRepairs → Second
second_in None = record { link = 0; node = 0 }
second_in (Some repairs) = record { link = color_number repairs.link; node = color_number repairs.node }

-- a hop
abbrev pub hop_in : HopTo → MrtHop
hop_in hop = record { kind = kind_number hop.far.kind; number = hop.far.number; link_data = hop.link_data }

-- a row of a table
abbrev pub row_in : TableRow → MrtRow
row_in row = record {
  kind = kind_number row.id.kind;
  number = row.id.number;
  tag = tag_number row.tag;
  reserved_1 = 0;
  blue = hop_in row.blue;
  red = hop_in row.red;
  primary = hop_in row.primary;
  repair_link = color_number row.first.link;
  repair_node = color_number row.first.node;
  repair_second_link = (second_in row.second).link;
  repair_second_node = (second_in row.second).node;
  reserved_2 = 0;
  reserved_3 = 0;
}
