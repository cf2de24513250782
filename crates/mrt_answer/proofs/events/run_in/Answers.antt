use Rattle.std.proofs.Common.{ℕ, List, subst}
use Rattle.std.specs.Prelude.{Contains}
use Rattle.mrt_graph.specs.Certificate.{row_of}
use Rattle.fabric.proofs.ServedEvents.{agree_at_destinations, served_at_destinations}
use Rattle.mrt_args.proofs.HandedOn.{if_ok}
use Rattle.mrt_answer.proofs.PacketsServed.{agrees, are_whole, made_for, parts, served, whole}
use Rattle.mrt_answer.proofs.events.run_in.Goals as goal

pub tables_to-requires : goal.tables_to-requires
tables_to-requires c = record {
  fits = c.requires.fits;
  root = c.requires.root;
  within = λ t among. c.in_ok-spots.ensures.within t (subst (λ (xs : List ℕ). Contains xs t) c.deref.ensures.value among);
}

pub script_text-requires-clause-routed : goal.script_text-requires-clause-routed
script_text-requires-clause-routed c = c.in_ok-tables.ensures.routed

pub script_text-requires-clause-served : goal.script_text-requires-clause-served
script_text-requires-clause-served c =
    let made = made_for c.deref.ensures.value c.in_ok-tables.ensures in
    served_at_destinations (parts made) c.in_ok-tables.tables.routes c.args.script.now.events c.in_ok-spots.spots.items c.in_ok-spots.ensures.are
    (λ t among. served made t (λ within. among))

pub returns : goal.returns
returns c =
    let made = made_for c.deref.ensures.value c.in_ok-tables.ensures in
    let agree = agree_at_destinations (parts made) (row_of made.file.cert) c.args.script.now.events c.in_ok-spots.spots.items c.in_ok-spots.ensures.are
    (λ t among. agrees made t (λ within. among)) in
    if_ok c.script_text.result _ _ c.script_text.ensures
    (λ text spelled. (
      whole made,
      are_whole made,
      c.texts_by_rows_for_destinations.ensures.script (parts made) (row_of made.file.cert) c.args.script.now agree text.items spelled,
    ))
