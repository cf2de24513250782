use Rattle.std.proofs.Common.{List, map, arith}
use Rattle.std.proofs.lemmas.List.{at_drop_all}
use Rattle.mrt_graph.specs.declared.cert.CertLink.{CertLink}
use Rattle.mrt_survey.proofs.Marked.{so_far_ends}
use Rattle.mrt_survey.proofs.marks.mark_blocks.Goals as goal

pub returns-clause-marked : goal.returns-clause-marked
returns-clause-marked c =
    so_far_ends _ _ _ _
    (at_drop_all (λ (links : List CertLink). map (λ link. link.block) links) c.args.links.now c.loop-link.link-index (omega (arith, c.loop-link-test.false)))
    c.loop-link.invariant.so_far
