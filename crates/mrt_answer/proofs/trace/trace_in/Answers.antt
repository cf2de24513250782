use Rattle.std.proofs.Common.{◌<◌, ℕ, List, length, subst}
use Rattle.std.specs.Prelude.{Contains}
use Rattle.std.proofs.lemmas.Option.{slice_get_within}
use Rattle.mrt_graph.specs.Certificate.{row_of}
use Rattle.fabric.specs.NamedEvents.{spot_of}
use Rattle.mrt_args.proofs.HandedOn.{if_ok}
use Rattle.mrt_answer.proofs.PacketsServed.{agrees, are_whole, made_for, parts, served, spot_stands, whole}
use Rattle.mrt_answer.proofs.trace.trace_in.Goals.{In_ok-spots}
use Rattle.mrt_answer.proofs.trace.trace_in.Goals as goal

-- the number that stands for the destination is among those that the tables are for
is_among : (c : In_ok-spots) → spot_of c.args.net.now.area c.args.trace.now.to < length c.args.net.now.area.ids
    → Contains c.in_ok-spots.spots.items (spot_of c.args.net.now.area c.args.trace.now.to)
is_among c within = (c.in_ok-spots.ensures _).1 (spot_stands c.args.net.now.area c.args.trace.now.to within)

pub tables_to-requires : goal.tables_to-requires
tables_to-requires c = record {
  fits = c.requires.fits;
  root = c.requires.root;
  within = λ t among.
      slice_get_within c.args.net.now.area.ids t c.args.trace.now.to
      ((c.in_ok-spots.ensures t).0 (subst (λ (xs : List ℕ). Contains xs t) c.deref.ensures.value among));
}

pub trace_text-requires-clause-routed : goal.trace_text-requires-clause-routed
trace_text-requires-clause-routed c = c.in_ok-tables.ensures.routed

pub trace_text-requires-clause-served : goal.trace_text-requires-clause-served
trace_text-requires-clause-served c =
    served (made_for c.deref.ensures.value c.in_ok-tables.ensures) (spot_of c.args.net.now.area c.args.trace.now.to)
    (is_among (goal.at.trace_text-requires-clause-served c).In_ok-spots)

pub returns : goal.returns
returns c =
    let made = made_for c.deref.ensures.value c.in_ok-tables.ensures in
    if_ok c.trace_text.result _ _ c.trace_text.ensures
    (λ text spelled. (
      whole made,
      are_whole made,
      c.texts_by_rows_for_destinations.ensures.trace (parts made) (row_of made.file.cert) c.args.trace.now
          (agrees made (spot_of c.args.net.now.area c.args.trace.now.to) (is_among (goal.at.returns c).In_ok-spots)) text.items spelled,
    ))
