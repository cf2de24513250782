use Rattle.std.proofs.Common.{◌≡◌, ◌≤◌, List, length, take}
use Rattle.std.specs.List.{AllZip}
use Rattle.mrt_rows.specs.Rooted.{MakeColumns}
use Rattle.mrt_calls.specs.Proxies.{IsPairRow}
use Rattle.mrt_calls.specs.steps.Putting.{IsHeldIn}
use Rattle.mrt_calls.specs.declared.proxy.MrtProxyRow.{MrtProxyRow}
use Rattle.mrt_calls.proofs.proxy.fill.Given as goal

-- The rows of the pairs so far are in the buffer, as far as there is room.
abbrev pub invariant-loop-place : goal.invariant-loop-place
invariant-loop-place l =
    (l.columns.root ≡ l.initial.columns.root)
    × MakeColumns l.at.graph.now l.columns
    × (length l.rows ≡ length l.initial.rows)
    × (l.place ≤ length l.pairs)
    × ((them : List MrtProxyRow) × AllZip (IsPairRow l.at.graph.now l.at.root l.at.source) (take l.place l.pairs) them × IsHeldIn l.rows l.place them)
