use Rattle.std.proofs.Common.{◌≡◌, length, take}
use Rattle.fabric.proofs.Gathered.{AreGathered}
use Rattle.fabric.proofs.gathering.destinations.Given as goal

abbrev pub invariant-loop-event : goal.invariant-loop-event
invariant-loop-event l = record {
  one_each : length l.known.items ≡ length l.area.ids;
  gathered : AreGathered l.area (take l.event-index l.events) l.spots.items l.known.items;
}
