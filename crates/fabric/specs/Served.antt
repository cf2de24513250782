-- The destinations for which a fabric has what it reads, and those for which other rows agree.
use Rattle.std.specs.Prelude.{◌≡◌, ◌<◌, ⊤, ℕ, Contains, List, Some, length}
use Rattle.fabric_script.specs.declared.entry.Entry.{Entry}
use Rattle.primary_alt.specs.RouteLists.{HasColumn, RouteLists}
use Rattle.mrt_graph.specs.Rows.{AreSameFor, Rows}
use Rattle.fabric.specs.FabricParts.{AreRowsFor, FabricParts, node_at}
use Rattle.fabric.specs.declared.event.Event.{Event}
use Rattle.fabric.specs.declared.event.Event.TheVariants.{Fail, Inject, Step}

-- destination t is served: there are rows for it, if it is a node of the island, and primaries, if it is a node of the
-- area
pub record IsServedBy (parts : FabricParts) (routes : RouteLists) (t : ℕ) : Type 0 where
  pub rows : AreRowsFor parts t
  pub primaries : t < length parts.area.ids → HasColumn routes t

-- there are rows for the destination of each packet that enters by one of the events
abbrev pub AreRowsOn : FabricParts → List Event → Type 0
AreRowsOn parts events = (at to : ℕ) (entry : Entry) → Contains events (Inject at to entry) → AreRowsFor parts to

-- where a packet enters by the event, its destination is served
abbrev pub IsEventServed : FabricParts → RouteLists → Event → Type 0
IsEventServed parts routes (Inject at to entry) = IsServedBy parts routes to
IsEventServed parts routes (Step p) = ⊤
IsEventServed parts routes (Fail failed) = ⊤

-- the parts with these rows in place of their own
abbrev pub with_rows : FabricParts → Rows → FabricParts
with_rows parts rows = record { area = parts.area; island = parts.island; rows = rows; link_of = parts.link_of }

-- the rows agree with those of the parts for node t of the area: if it is a node of the island, they are the same for this
-- one
abbrev pub AgreeFor : FabricParts → Rows → ℕ → Type 0
AgreeFor parts rows t = (d : ℕ) → node_at parts t ≡ Some d → AreSameFor d parts.rows rows

-- they do for the destination of each packet that enters by one of the events
abbrev pub AgreeOn : FabricParts → Rows → List Event → Type 0
AgreeOn parts rows events = (at to : ℕ) (entry : Entry) → Contains events (Inject at to entry) → AgreeFor parts rows to
