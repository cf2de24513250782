use Rattle.std.proofs.Common.{◌≡◌, ◌∙◌, ◌∷◌, [], ap, arith, length, refl, subst, sym}
use Rattle.std.proofs.lemmas.Bool.{true≢false}
use Rattle.area_graph.specs.Parts.{AreaParts}
use Rattle.fabric.specs.declared.event.Event.TheVariants.{Step}
use Rattle.fabric.specs.Viewed.{FabricTables, parts_of}
use Rattle.fabric.specs.steps.Printed.{IsPrinted}
use Rattle.fabric.proofs.StepsPrinted.{ended_at_last, no_steps, one_more, stepped}
use Rattle.fabric.proofs.stepping.tell_steps.Goals as goal

pub loop-init : goal.loop-init
loop-init g c = record {
  tables = refl;
  stepped = no_steps (parts_of g.R.RowsOf.rows c.args.fabric.now.tables) c.args.fabric.now.state c.args.text.now.items c.requires.unstepped;
}

pub returns-then-has_ended : goal.returns-then-has_ended
returns-then-has_ended g c = record {
  stepped = stepped (parts_of g.R.RowsOf.rows c.args.fabric.now.tables) c.args.fabric.now.state c.loop.fabric.state c.loop.counter c.args.text.now.items
      c.loop.text.items c.loop.invariant.stepped (c.has_ended.ensures.0 c.if-has_ended.true);
}

pub loop-preserved : goal.loop-preserved
loop-preserved g c = record {
  tables = c.tell_one.ensures.tables ∙ c.loop.invariant.tables;
  stepped = one_more (parts_of g.R.RowsOf.rows c.args.fabric.now.tables) c.args.fabric.now.state c.loop.fabric.state c.tell_one.new.fabric.state c.loop.counter
      c.args.text.now.items c.loop.text.items c.tell_one.new.text.items c.loop.invariant.stepped
      (λ ended. true≢false (sym (c.has_ended.ensures.1 ended) ∙ c.if-has_ended.false))
      (subst (λ (t : FabricTables g.row.R.Denot). IsPrinted (parts_of g.R.RowsOf.rows t) c.loop.fabric.state (Step 0 ∷ []) c.tell_one.new.fabric.state c.loop.text.items
      c.tell_one.new.text.items) c.loop.invariant.tables c.in_ok-tell_one.ensures.told);
}

pub returns : goal.returns
returns g c =
    let nodes : length c.args.fabric.now.tables.area.ids ≡ length c.args.area.now.ids =
    ap (λ (a : AreaParts). length a.ids) c.requires.area in record {
      stepped = stepped (parts_of g.R.RowsOf.rows c.args.fabric.now.tables) c.args.fabric.now.state c.loop.fabric.state c.loop.counter c.args.text.now.items
          c.loop.text.items c.loop.invariant.stepped
          (ended_at_last c.packets_end.ensures.going (parts_of g.R.RowsOf.rows c.args.fabric.now.tables) c.requires.kept c.args.fabric.now.state c.loop.fabric.state
          c.loop.counter c.args.text.now.items c.loop.text.items c.loop.invariant.stepped
          (omega (arith, c.loop-test.false, c.count.ensures.count, nodes)));
    }
