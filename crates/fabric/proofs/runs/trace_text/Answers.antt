use Rattle.std.proofs.Common.{subst, sym}
use Rattle.fabric.specs.Served.{IsServedBy}
use Rattle.fabric.specs.Viewed.{FabricSeen, parts_of, parts_with}
use Rattle.fabric.specs.NamedEvents.{spot_of}
use Rattle.fabric.proofs.TracePrinted.{trace_told, unstepped}
use Rattle.fabric.proofs.runs.trace_text.Goals as goal

pub tell_steps-requires-clause-unstepped : goal.tell_steps-requires-clause-unstepped
tell_steps-requires-clause-unstepped g c =
    rw (c.tell_beginning.ensures.tables, c.in_ok-fabric.ensures)
    (unstepped (parts_with c.args.area.now c.args.g.now (g.R.RowsOf.rows c.args.rows.now) c.args.routes.now) c.tell_beginning.new.fabric.state c.args.trace.now
    c.tell_beginning.new.text.items c.requires.served.rows (rw (c.in_ok-fabric.ensures, c.new-text.ensures.items) at c.in_ok-tell_beginning.ensures.told))

pub tell_beginning-requires-clause-served : goal.tell_beginning-requires-clause-served
tell_beginning-requires-clause-served g c =
    subst (λ (f : FabricSeen g.row.R.Denot). IsServedBy (parts_of g.R.RowsOf.rows f.tables) f.tables.routes (spot_of c.args.area.now c.args.trace.now.to)) (sym c.in_ok-fabric.ensures)
    c.requires.served

pub tell_steps-requires-clause-kept : goal.tell_steps-requires-clause-kept
tell_steps-requires-clause-kept g c =
    rw (c.tell_beginning.ensures.tables, c.in_ok-fabric.ensures)
    (record { area_kept = c.count-area.ensures.kept; island_kept = c.node_count-nodes.ensures.kept; fits = c.requires.routed.fits })

pub returns : goal.returns
returns g c =
    trace_told (parts_with c.args.area.now c.args.g.now (g.R.RowsOf.rows c.args.rows.now) c.args.routes.now) c.tell_beginning.new.fabric.state c.args.trace.now
    c.tell_beginning.new.text.items c.tell_steps.new.text.items (rw (c.in_ok-fabric.ensures, c.new-text.ensures.items) at c.in_ok-tell_beginning.ensures.told)
    (rw (c.tell_beginning.ensures.tables, c.in_ok-fabric.ensures) at c.in_ok-tell_steps.ensures.stepped)
