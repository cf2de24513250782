use Rattle.std.proofs.Common.{◌∙◌, ℕ, Some, nat_lt, sym, ap, subst, arith}
use Rattle.std.proofs.lemmas.Bool.{le-ltb}
use Rattle.mrt_graph.specs.Kin.{IsUpper}
use Rattle.mrt_graph.proofs.KinOf.{count_upper_none, count_upper_some}
use Rattle.mrt_graph.proofs.Tallies.{one_if}
use Rattle.mrt_graph.proofs.relatives.upper_number.Goals as goal

pub returns-in-Some : goal.returns-in-Some
returns-in-Some c = λ t within.
    let heads = c.args.children.now in
    let some : IsUpper heads c.args.s (Some c.in-Some.head) = subst (IsUpper heads c.args.s) c.in-Some.is c.upper.ensures in
    count_upper_some heads c.args.s t c.in-Some.head (omega (arith, within)) some ∙ ap (λ (x : ℕ). one_if (nat_lt x t)) (sym c.get.ensures.value)

pub returns-in-None : goal.returns-in-None
returns-in-None c = λ t within.
    let heads = c.args.children.now in
    count_upper_none heads c.args.s t (omega (arith, within)) (subst (IsUpper heads c.args.s) c.in-None.is c.upper.ensures)
    ∙ sym (ap one_if (le-ltb c.len.result t (omega (arith, within, c.len.ensures.count))))
