use Rattle.std.proofs.Common.{subst, sym, ℕ}
use Rattle.mrt_plain.specs.Within.{AreWithin}
use Rattle.graph_tests.proofs.order_walks.goes_round.Goals as goal

pub follow-requires-clause-within : goal.follow-requires-clause-within
follow-requires-clause-within c =
    subst (λ (n : ℕ). AreWithin n c.args.walked.now.links.now) (sym c.requires.count) c.requires.within
