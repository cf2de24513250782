use Rattle.std.proofs.Common.{◌∙◌, Bool, List, ap, length, map}
use Rattle.std.specs.List.{filter}
use Rattle.std.proofs.lemmas.List.{length-replicate}
use Rattle.mrt_graph.specs.declared.cert.CertLink.{CertLink}
use Rattle.mrt_survey.specs.SurveyText.{HasLink}
use Rattle.mrt_survey.proofs.Marked.{marked_alone, so_many_marked}
use Rattle.mrt_survey.proofs.counts.blocks_with_links.Goals as goal

pub returns : goal.returns
returns c =
    so_many_marked (HasLink c.args.c.now.links) (length c.args.c.now.nodes) c.count_of.result c.mark_blocks.new.marks.items
    (c.mark_blocks.ensures.room ∙ ap length c.in_ok-marks.ensures ∙ length-replicate c.node_count.result _ ∙ c.node_count.ensures.count)
    (c.count_of.ensures ∙ ap (λ (marks : List Bool). length (filter (λ mark. mark) marks)) c.deref.ensures.value)
    (marked_alone (map (λ (link : CertLink). link.block) c.args.c.now.links) c.node_count.result _ _ c.in_ok-marks.ensures
    (rw (← c.links.ensures) c.mark_blocks.ensures.marked))
