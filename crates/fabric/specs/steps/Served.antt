-- Packets whose destinations are served.
use Rattle.std.specs.Prelude.{◌≡◌, ℕ, List, Some, slice_get}
use Rattle.primary_alt.specs.RouteLists.{RouteLists}
use Rattle.fabric.specs.FabricParts.{FabricParts}
use Rattle.fabric.specs.declared.packet.Packet.{Packet}
use Rattle.fabric.specs.Served.{IsServedBy}

-- the destination of each of the packets is served
abbrev pub ArePacketsServed : FabricParts → RouteLists → List Packet → Type 0
ArePacketsServed parts routes packets =
    (p : ℕ) (packet : Packet) → slice_get packets p ≡ Some packet → IsServedBy parts routes packet.to
