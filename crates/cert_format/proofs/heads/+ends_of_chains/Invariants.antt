use Rattle.cert_format.proofs.heads.+ends_of_chains.Given as goal

abbrev pub decreases-ends_of_chains : goal.decreases-ends_of_chains
decreases-ends_of_chains l = l.steps
