use Rattle.flood_verdict.proofs.SomeText.{script_text}
use Rattle.flood_verdict.proofs.verdict_law.a_script_has_its_text.Goals as goal

pub returns : goal.returns
returns c = script_text (record {
  database = c.a_database_is_that_of_what_was_delivered.ensures.database;
  newest = c.a_database_is_that_of_what_was_delivered.ensures.newest;
  kept = c.a_database_is_that_of_what_was_delivered.ensures.kept;
  bodies = c.a_database_is_that_of_what_was_delivered.ensures.bodies;
  ids = c.a_database_is_that_of_what_was_delivered.ensures.ids;
  verdict = c.one_verdict_each.ensures.some;
})
