use Rattle.std.proofs.Common.{◌∙◌, Some, sym, subst, arith}
use Rattle.mrt_graph.specs.Kin.{IsUpper}
use Rattle.mrt_graph.proofs.KinOf.{count_upper_none, count_upper_some}
use Rattle.mrt_graph.proofs.relatives.upper_before.Goals as goal

pub returns-in-Some : goal.returns-in-Some
returns-in-Some c =
    let heads = c.args.children.now in
    let some : IsUpper heads c.args.s (Some c.in-Some.head) = subst (IsUpper heads c.args.s) c.in-Some.is c.upper.ensures in
    c.one_if_below.ensures ∙ sym (count_upper_some heads c.args.s c.args.t c.in-Some.head (omega (arith, c.requires.target)) some)

pub returns-in-None : goal.returns-in-None
returns-in-None c =
    let heads = c.args.children.now in
    sym (count_upper_none heads c.args.s c.args.t (omega (arith, c.requires.target)) (subst (IsUpper heads c.args.s) c.in-None.is c.upper.ensures))
