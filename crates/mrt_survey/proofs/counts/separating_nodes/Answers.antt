use Rattle.std.proofs.Common.{◌≡◌, ◌∙◌, Bool, List, ap, length, map, arith}
use Rattle.std.specs.List.{filter}
use Rattle.std.proofs.lemmas.List.{length-replicate, length-set}
use Rattle.mrt_graph.specs.declared.cert.CertNode.{CertNode}
use Rattle.mrt_survey.specs.Separating.{SeparatesTwo}
use Rattle.mrt_survey.proofs.HeadsMarked.{root_in_cert, same_count, separating_marked}
use Rattle.mrt_survey.proofs.Marked.{marked_alone, so_many_marked}
use Rattle.mrt_survey.proofs.counts.separating_nodes.Goals as goal

pub set_mark-requires : goal.set_mark-requires
set_mark-requires c =
    let room : length c.mark_heads.new.marks.items ≡ length c.args.c.now.nodes =
    c.mark_heads.ensures.room ∙ ap length c.in_ok-marks.ensures ∙ length-replicate c.node_count.result _ ∙ c.node_count.ensures.count in
    omega (arith, root_in_cert c.args.g.now c.args.root c.args.c.now c.requires, room)

pub returns : goal.returns
returns c =
    let room : length c.mark_heads.new.marks.items ≡ length c.args.c.now.nodes =
    c.mark_heads.ensures.room ∙ ap length c.in_ok-marks.ensures ∙ length-replicate c.node_count.result _ ∙ c.node_count.ensures.count in
    so_many_marked (SeparatesTwo c.args.g.now.links (length c.args.g.now.ids)) (length c.args.g.now.ids) c.count_of.result c.set_mark.new.marks.items
    (ap length c.set_mark.ensures ∙ length-set c.mark_heads.new.marks.items c.args.root c.heads_two_blocks.result ∙ room ∙ same_count c.args.g.now c.args.root c.args.c.now c.requires)
    (c.count_of.ensures ∙ ap (λ (marks : List Bool). length (filter (λ mark. mark) marks)) c.deref.ensures.value)
    (rw c.set_mark.ensures
    (separating_marked c.args.g.now c.args.root c.args.c.now c.requires c.mark_heads.new.marks.items c.heads_two_blocks.result room
    (marked_alone (map (λ (node : CertNode). node.head) c.args.c.now.nodes) c.node_count.result _ _ c.in_ok-marks.ensures
    (rw (← c.nodes.ensures.value) c.mark_heads.ensures.marked))
    c.heads_two_blocks.ensures))
