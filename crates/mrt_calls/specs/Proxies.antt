-- The rows of a router for prefixes at two routers.
use Rattle.std.specs.Prelude.{◌≡◌, ◌≢◌, ◌⊎◌, ℕ, List, Some, Ok, Err, slice_get}
use Rattle.std.specs.List.{AllZip}
use Rattle.mrt_graph.specs.Topology.{Topology}
use Rattle.mrt_graph.specs.declared.cert.CertFile.{CertFile}
use Rattle.mrt_island.specs.declared.island.Island.{Island}
use Rattle.mrt_report.specs.Rows.{IsLinkHop}
use Rattle.mrt_report.specs.declared.row.HopTo.{HopTo}
use Rattle.proxy_rows.specs.ProxyRows.{AreProxyRows}
use Rattle.proxy_rows.specs.declared.proxy_row.Out.{Out}
use Rattle.proxy_rows.specs.declared.proxy_row.Out.TheVariants.{Attached, Link}
use Rattle.proxy_rows.specs.declared.proxy_row.ProxyRow.{ProxyRow}
use Rattle.mrt_exit.specs.Exits.{status_of}
use Rattle.mrt_exit.specs.AnswerSteps.{Step, such, ◌▸◌}
use Rattle.mrt_exit.specs.declared.exit.Exit.{Exit}
use Rattle.mrt_exit.specs.declared.exit.Exit.TheVariants.{Usage}
use Rattle.mrt_answer.specs.Input.{Input}
use Rattle.mrt_answer.specs.Islands.{island_in, own_place, place_of}
use Rattle.mrt_answer.specs.Texts.{IsComputedFile, proxied}
use Rattle.mrt_calls.specs.Areas.{input_in}
use Rattle.mrt_calls.specs.Faults.{fault_of}
use Rattle.mrt_calls.specs.RowNumbers.{hop_in}
use Rattle.mrt_calls.specs.declared.area.MrtArea.{MrtArea}
use Rattle.mrt_calls.specs.declared.proxy.MrtPair.{MrtPair}
use Rattle.mrt_calls.specs.declared.proxy.MrtProxyRow.{MrtProxyRow}
use Rattle.mrt_calls.specs.declared.row.MrtHop.{MrtHop}

-- where a node sends, in numbers: over a link, or to the prefix, which is attached to it
abbrev pub IsOutHop : Topology → ℕ → Out → MrtHop → Type 0
IsOutHop g s (Link e) hop = (over : HopTo) × IsLinkHop g s e over × (hop ≡ hop_in over)
IsOutHop g s Attached hop = hop ≡ record { kind = 3; number = 0; link_data = 0 }

-- the row of a node, by the proxy rows of two nodes under the certificate that is computed for a graph and its root
pub record IsProxyRowAt (graph : Topology) (root a b source : ℕ) (row : MrtProxyRow) : Type 0 where
  pub file : CertFile
  pub certificate : IsComputedFile graph root file
  pub entries : List ProxyRow
  pub entries_are : AreProxyRows graph file.cert a b entries
  pub entry : ProxyRow
  pub entry_is : slice_get entries source ≡ Some entry
  pub done : (row.status ≡ 0) × (row.at ≡ 0) × (row.reserved_1 ≡ 0) × (row.reserved_2 ≡ 0)
  pub blue_is : IsOutHop graph source entry.blue row.blue
  pub red_is : IsOutHop graph source entry.red row.red

-- that row; or that the certificate gives the two no common block
abbrev pub hops_at : Topology → ℕ → ℕ → ℕ → ℕ → Step MrtProxyRow
hops_at graph root source a b (Ok row) = IsProxyRowAt graph root a b source row
hops_at graph root source a b (Err exit) = proxied graph root a b (Err exit)

-- two routers differ; else they are no prefix's
abbrev pub differing : MrtPair → Step (Unit {0})
differing pair (Ok done) = pair.first ≢ pair.second
differing pair (Err Usage) = pair.first ≡ pair.second
differing pair (Err _) = ⊥

-- what comes of two routers, of which the first is found, and of any two
abbrev pub from_first : Topology → ℕ → ℕ → MrtPair → ℕ → Step MrtProxyRow
from_first graph root source pair a = place_of graph.ids pair.second ▸ hops_at graph root source a

abbrev pub between : Topology → ℕ → ℕ → MrtPair → Step MrtProxyRow
between graph root source pair = place_of graph.ids pair.first ▸ from_first graph root source pair

abbrev pub pair_step : Topology → ℕ → ℕ → MrtPair → Step MrtProxyRow
pair_step graph root source pair = differing pair ▸ λ done. between graph root source pair

-- a row without hops, and why
abbrev pub refused_row : Exit → MrtProxyRow
refused_row exit = record {
  status = status_of exit;
  at = (fault_of exit).at;
  blue = record { kind = 0; number = 0; link_data = 0 };
  red = record { kind = 0; number = 0; link_data = 0 };
  reserved_1 = 0;
  reserved_2 = 0;
}

-- the row of two routers tells what comes of them
abbrev pub IsPairRow : Topology → ℕ → ℕ → MrtPair → MrtProxyRow → Type 0
IsPairRow graph root source pair row =
    pair_step graph root source pair (Ok row)
    ⊎ ((exit : Exit) × pair_step graph root source pair (Err exit) × (row ≡ refused_row exit))

-- each row tells what comes of its pair, for a router of an island
pub record ArePairRows (island : Island) (router : ℕ) (pairs : List MrtPair) (rows : List MrtProxyRow) : Type 0 where
  pub source : ℕ
  pub source_is : own_place island.graph.ids router (Ok source)
  pub rows_are : AllZip (IsPairRow island.graph island.root source) pairs rows

abbrev pub proxied_pairs : Input → ℕ → List MrtPair → Step (List MrtProxyRow)
proxied_pairs input router pairs = island_in input router ▸ λ island. such (λ rows. ArePairRows island router pairs rows)

abbrev pub proxies_in : MrtArea → ℕ → List MrtPair → Step (List MrtProxyRow)
proxies_in area router pairs = input_in area ▸ λ input. proxied_pairs input router pairs
