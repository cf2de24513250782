use Rattle.mrt_answer.proofs.ComputedColumns.{computed}
use Rattle.mrt_answer.proofs.columns.columns_of.Goals as goal

pub returns-clause-computed : goal.returns-clause-computed
returns-clause-computed c =
    computed (record { accept = c.certificates_are_accepted.ensures; sound = c.accepted_implies_sound.ensures }) c.args.g.now c.args.root c.requires
    c.for_some.result c.for_some.ensures.root c.for_some.ensures.cert c.for_some.ensures.kept
