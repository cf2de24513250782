use Rattle.std.proofs.Common.{◌∙◌, ℕ, sym, subst}
use Rattle.mrt_rows.specs.CertOf.{IsCertOf}
use Rattle.mrt_answer.proofs.ProxyBetween.{read_from}
use Rattle.mrt_answer.proofs.proxy.rows_at.Goals as goal

pub returns-clause-rows : goal.returns-clause-rows
returns-clause-rows c = λ by.
    let own = by.own in
    let from = subst (λ (root : ℕ). IsCertOf c.args.graph.now root own.file) (sym c.aim.ensures.root) own.of_columns in
    c.proxy_rows_at.ensures.rows
    (read_from c.args.graph.now by.root c.args.columns.now own c.args.nodes.now c.deref.result.now by.a by.b c.args.at.now
    c.column-column.result by.attached by.says (c.deref.ensures.value ∙ c.in_ok-links.ensures own.file own.of_columns)
    (c.column-column.ensures.rows c.args.at.now.head own.file c.aim.ensures.aimed from))

pub proxy_rows_at-requires : goal.proxy_rows_at-requires
proxy_rows_at-requires c =
    let by = c.requires.attached in
    let own = by.own in
    let from = subst (λ (root : ℕ). IsCertOf c.args.graph.now root own.file) (sym c.aim.ensures.root) own.of_columns in
    record {
      read = read_from c.args.graph.now by.root c.args.columns.now own c.args.nodes.now c.deref.result.now by.a by.b c.args.at.now
          c.column-column.result by.attached by.says (c.deref.ensures.value ∙ c.in_ok-links.ensures own.file own.of_columns)
          (c.column-column.ensures.rows c.args.at.now.head own.file c.aim.ensures.aimed from);
    }

pub links-requires : goal.links-requires
links-requires c = c.requires.made

pub aim-requires-clause-made : goal.aim-requires-clause-made
aim-requires-clause-made c = c.requires.made

pub returns-clause-still_made : goal.returns-clause-still_made
returns-clause-still_made c = c.aim.ensures.aimed.made
