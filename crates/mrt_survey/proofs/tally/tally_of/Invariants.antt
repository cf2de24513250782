use Rattle.std.proofs.Common.{◌≡◌, ◌+◌, ◌*◌, ◌≤◌, length, drop}
use Rattle.std.specs.List.{filter, sum_by}
use Rattle.mrt_graph.specs.Tags.{is_near}
use Rattle.mrt_survey.specs.SurveyText.{is_carried}
use Rattle.mrt_survey.proofs.tally.tally_of.Given as goal

abbrev pub invariant-loop-place : goal.invariant-loop-place
invariant-loop-place l = record {
  common : l.tally.common + length (filter is_near (drop l.place l.c.rows)) ≡ length (filter is_near l.c.rows);
  carried : l.tally.carried + length (filter is_carried (drop l.place l.c.rows)) ≡ length (filter is_carried l.c.rows);
  blue : l.tally.blue + sum_by (λ row. row.blue) (drop l.place l.c.rows) ≡ sum_by (λ row. row.blue) l.c.rows;
  red : l.tally.red + sum_by (λ row. row.red) (drop l.place l.c.rows) ≡ sum_by (λ row. row.red) l.c.rows;
  common_most : l.tally.common ≤ l.place;
  carried_most : l.tally.carried ≤ l.place;
  blue_most : l.tally.blue ≤ 65535 * l.place;
  red_most : l.tally.red ≤ 65535 * l.place;
}
