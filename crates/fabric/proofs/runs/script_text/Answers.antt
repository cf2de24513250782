use Rattle.std.proofs.Common.{subst, sym}
use Rattle.fabric.specs.Viewed.{FabricSeen, parts_of, parts_with}
use Rattle.fabric.specs.Destinations.{AreServed}
use Rattle.fabric.proofs.RunsOn.{whole_text}
use Rattle.fabric.proofs.runs.script_text.Goals as goal

pub tell_all-requires-clause-served : goal.tell_all-requires-clause-served
tell_all-requires-clause-served g c =
    subst (λ (f : FabricSeen g.row.R.Denot). AreServed (parts_of g.R.RowsOf.rows f.tables) f.tables.routes c.as_slice.result.now) (sym c.in_ok-fabric.ensures)
    (rw c.as_slice.ensures c.requires.served)

pub returns : goal.returns
returns g c =
    let told = rw (c.in_ok-fabric.ensures, c.new-text.ensures.items) at c.in_ok-tell_all.ensures.told in
    rw (← c.as_slice.ensures) (record {
      answers = told.answers;
      end = c.tell_all.new.fabric.state;
      run = told.run;
      spelled = whole_text (parts_with c.args.area.now c.args.g.now (g.R.RowsOf.rows c.args.rows.now) c.args.routes.now) told.answers c.tell_all.new.text.items told.lines;
    })
