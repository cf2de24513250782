use Rattle.mrt_args.proofs.HandedOn.{if_ok}
use Rattle.mrt_answer.proofs.table.table_of.Goals as goal

pub returns : goal.returns
returns c =
    let own = c.in_ok-columns.ensures.computed in
    if_ok c.table_text.result _ _ (c.table_text.ensures own.file own.of_columns)
    (λ text spelled. (own.file, own.certificate, spelled))

pub table_text-requires-clause-root : goal.table_text-requires-clause-root
table_text-requires-clause-root c = c.requires.root

pub table_text-requires-clause-root_router : goal.table_text-requires-clause-root_router
table_text-requires-clause-root_router c = c.requires.root_router

pub table_text-requires-clause-made : goal.table_text-requires-clause-made
table_text-requires-clause-made c = c.in_ok-columns.ensures.made

pub table_text-requires-clause-kept : goal.table_text-requires-clause-kept
table_text-requires-clause-kept c = c.requires.kept
