use Rattle.std.proofs.Common.{ℕ, List, sym, subst}
use Rattle.mrt_report.specs.TableText.{IsTableText}
use Rattle.mrt_answer.specs.Made.{with_cert}
use Rattle.mrt_answer.proofs.table.table_text.Goals as goal

pub returns : goal.returns
returns c file is =
    let parts = with_cert c.args.parts.now file.cert in
    let lines = c.in_ok-push_lines.ensures file is in
    subst (λ (text : List ℕ). IsTableText parts c.args.root text) (sym lines.added)
    (c.lines_make_the_table.ensures parts c.args.root c.in_ok-text.text.items lines.lines c.in_ok-text.ensures lines.are)

pub table_head-requires-clause-router : goal.table_head-requires-clause-router
table_head-requires-clause-router c = c.requires.kept.router

pub table_head-requires-clause-source : goal.table_head-requires-clause-source
table_head-requires-clause-source c = c.requires.kept.within
