use Rattle.std.proofs.Common.{◌∙◌, length, Some, sym, ap, subst, arith}
use Rattle.std.proofs.lemmas.Bool.{lt-ltb}
use Rattle.mrt_graph.specs.Kin.{IsUpper}
use Rattle.mrt_graph.proofs.KinOf.{count_upper_none, count_upper_some}
use Rattle.mrt_graph.proofs.Tallies.{one_if}
use Rattle.mrt_graph.proofs.relatives.count_upper.Goals as goal

pub returns-in-Some : goal.returns-in-Some
returns-in-Some c =
    let heads = c.args.children.now in
    let some : IsUpper heads c.args.s (Some c.in-Some.field-0) = subst (IsUpper heads c.args.s) c.in-Some.is c.upper.ensures in
    sym (ap one_if (lt-ltb c.in-Some.field-0 (length heads) some.0)) ∙ sym (count_upper_some heads c.args.s (length heads) c.in-Some.field-0 (omega arith) some)

pub returns-in-None : goal.returns-in-None
returns-in-None c =
    let heads = c.args.children.now in
    sym (count_upper_none heads c.args.s (length heads) (omega arith) (subst (IsUpper heads c.args.s) c.in-None.is c.upper.ensures))
