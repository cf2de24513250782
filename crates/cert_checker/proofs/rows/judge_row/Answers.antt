use Rattle.std.proofs.Common.{◌∙◌, ◌+◌, inr, sym}
use Rattle.std.proofs.lemmas.Bool.{eqb-false}
use Rattle.cert_checker.proofs.RowJudged.{breaks_tag}
use Rattle.cert_checker.proofs.rows.judge_row.Goals as goal

pub returns-clause-kept : goal.returns-clause-kept
returns-clause-kept c =
    inr (
      7 + c.number_of.result,
      breaks_tag c.args.g.now c.args.root c.args.c.now c.args.s.now.number c.args.t c.row_for-row.result
          (eqb-false _ _ (sym c.eq.ensures ∙ c.if-eq.false)) c.row_for-row.ensures.value
          _ c.number_of.ensures.number _ _ c.turn_to.ensures.leads c.turn_to-2.ensures.leads (sym c.keeps_rule.ensures ∙ c.if-keeps_rule.false),
      rw (c.get.ensures.value, c.get-2.ensures.value) at c.keep_first.ensures,
    )
