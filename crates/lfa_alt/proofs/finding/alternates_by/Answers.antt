use Rattle.std.proofs.Common.{◌≡◌, map}
use Rattle.std.specs.Option.{option_map}
use Rattle.std.proofs.lemmas.Result.{IfOk-weaker}
use Rattle.lfa_alt.specs.LoopFree.{AreLfas, alternate_of}
use Rattle.lfa_alt.proofs.LfasFound.{are_lfas}
use Rattle.lfa_alt.proofs.finding.alternates_by.Goals as goal

pub best_of-requires-clause-kept : goal.best_of-requires-clause-kept
best_of-requires-clause-kept c = rw c.in_ok-searches.ensures c.requires.kept

pub best_of-requires-clause-near : goal.best_of-requires-clause-near
best_of-requires-clause-near c = rw (c.in_ok-searches.ensures, c.in_ok-known.ensures.items) c.requires.distances

pub best_of-requires-clause-destinations : goal.best_of-requires-clause-destinations
best_of-requires-clause-destinations c = rw c.in_ok-searches.ensures c.requires.destinations

pub best_of-requires-clause-paths : goal.best_of-requires-clause-paths
best_of-requires-clause-paths c = rw c.in_ok-searches.ensures c.requires.paths

pub returns : goal.returns
returns c =
    IfOk-weaker c.lfas.result (λ entries. entries.items ≡ map (option_map alternate_of) c.deref.result.now) (λ entries. AreLfas c.args.area.now c.args.source entries.items)
    (λ entries told.
    are_lfas c.args.area.now c.requires.kept c.args.source c.args.paths.now c.requires.paths c.args.destinations.now c.in_ok-best.best.items entries.items c.requires.destinations
    (rw c.in_ok-searches.ensures at c.in_ok-best.ensures) (rw c.deref.ensures.value at told))
    c.lfas.ensures
