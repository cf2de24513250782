use Rattle.lfa_alt.proofs.finding.alternates.Goals as goal

pub alternates_by-requires-clause-destinations : goal.alternates_by-requires-clause-destinations
alternates_by-requires-clause-destinations c = rw c.deref-6.ensures.value c.in_ok-destinations.ensures

pub alternates_by-requires-clause-paths : goal.alternates_by-requires-clause-paths
alternates_by-requires-clause-paths c = rw c.deref-7.ensures.value c.in_ok-paths.ensures
