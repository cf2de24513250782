use Rattle.std.proofs.Common.{refl}
use Rattle.std.proofs.lemmas.Bool.{lt-ltb}
use Rattle.flood.proofs.taking.may_follow.Goals as goal

pub returns-in-Deliver : goal.returns-in-Deliver
returns-in-Deliver c = λ lines is. rw (is, c.in-Deliver.is) refl

pub returns-then-one-count : goal.returns-then-one-count
returns-then-one-count c = λ lines is. rw (c.in-Same.is, lt-ltb c.in-Same.one c.args.count c.if-one-count.true) refl
