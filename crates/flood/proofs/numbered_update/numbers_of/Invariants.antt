use Rattle.flood.proofs.Numbered.{AreNumbered}
use Rattle.flood.proofs.numbered_update.numbers_of.Given as goal

abbrev pub invariant-loop-lsa : goal.invariant-loop-lsa
invariant-loop-lsa l =
    AreNumbered l.initial.lsas.items l.fn.own.items l.lsas.items l.numbers.items l.lsa-iterator.rest.items
