use Rattle.std.proofs.Common.{refl}
use Rattle.flood.specs.FloodTexts.{verdict_line}
use Rattle.flood.proofs.telling.tell.Goals as goal

pub returns-in_ok-push_verdict-in-Same-clause-told : goal.returns-in_ok-push_verdict-in-Same-clause-told
returns-in_ok-push_verdict-in-Same-clause-told g c =
    let verdict = c.in_ok-verdict-in-Same.verdict in
    rw c.in-Same.is (
      verdict_line verdict,
      c.in_ok-push_verdict-in-Same.ensures.added,
      (
        verdict,
        record {
          its = c.database.result;
          others = c.database-in-Same.result;
          its_are = c.database.ensures;
          others_are = c.database-in-Same.ensures;
          told = c.in_ok-verdict-in-Same.ensures;
        },
        refl,
      ),
    )
