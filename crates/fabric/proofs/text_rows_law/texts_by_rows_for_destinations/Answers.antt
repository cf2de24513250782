use Rattle.fabric.proofs.ByDestinations.{RowsLaw, script_too, trace_too}
use Rattle.fabric.proofs.text_rows_law.texts_by_rows_for_destinations.Goals as goal

-- the law of the layer below
law : goal.After-rows_for_destinations_decide → RowsLaw
law c = record { same_run = c.rows_for_destinations_decide.ensures }

pub returns-clause-script : goal.returns-clause-script
returns-clause-script c = script_too (law c)

pub returns-clause-trace : goal.returns-clause-trace
returns-clause-trace c = trace_too (law c)
