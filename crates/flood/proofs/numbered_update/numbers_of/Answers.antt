use Rattle.std.proofs.Common.{◌∙◌, ◌++◌, ◌∷◌, [], ℕ, ap, arith}
use Rattle.flood.proofs.Numbered.{numbered_all, one_number}
use Rattle.flood.proofs.numbered_update.numbers_of.Goals as goal

pub loop-lsa-preserved : goal.loop-lsa-preserved
loop-lsa-preserved c =
    one_number c.args.lsas.now.items c.args.own.items c.loop-lsa.lsas.items c.put.new.lsas.items
    c.loop-lsa.numbers.items c.push.new.self.items c.loop-lsa.lsa-iterator.rest.items c.next.new.self.rest.items
    c.in-Some.lsa c.in-Some.ensures.steps.0 c.loop-lsa.invariant
    (c.in_ok-push.ensures.items
    ∙ ap (λ (n : ℕ). c.loop-lsa.numbers.items ++ n ∷ []) c.in_ok-put.ensures.number)
    c.in_ok-put.ensures.lsas

pub returns-clause-lsas : goal.returns-clause-lsas
returns-clause-lsas c =
    (numbered_all c.args.lsas.now.items c.args.own.items c.loop-lsa.lsas.items c.loop-lsa.numbers.items c.loop-lsa.lsa-iterator.rest.items c.loop-lsa.invariant (omega (arith, c.in-None.ensures.steps.0, c.loop-lsa.lsa-iterator.rest.ok.0))).0

pub returns-clause-own : goal.returns-clause-own
returns-clause-own c =
    (numbered_all c.args.lsas.now.items c.args.own.items c.loop-lsa.lsas.items c.loop-lsa.numbers.items c.loop-lsa.lsa-iterator.rest.items c.loop-lsa.invariant (omega (arith, c.in-None.ensures.steps.0, c.loop-lsa.lsa-iterator.rest.ok.0))).1

pub returns-clause-numbers : goal.returns-clause-numbers
returns-clause-numbers c = c.loop-lsa.invariant.are
