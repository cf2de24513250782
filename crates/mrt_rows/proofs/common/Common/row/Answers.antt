use Rattle.std.proofs.Common.{ℕ, Some, subst, arith}
use Rattle.link_direction.proofs.TwoNodes.{Relates}
use Rattle.mrt_rows.specs.steps.NearOf.{Apart, IsNearRow}
use Rattle.mrt_rows.specs.steps.ListedDirections.{directions_by}
use Rattle.mrt_rows.proofs.LinesHold.{has_head}
use Rattle.mrt_rows.proofs.Rooting.{og_of}
use Rattle.mrt_rows.proofs.RowOver.{over_peers, over_top, relates_by}
use Rattle.mrt_rows.proofs.SoleRows.{sole_at}
use Rattle.mrt_rows.proofs.common.Common.row.Goals as goal

pub index-requires : goal.index-requires
index-requires c = omega (arith, c.args.self.now.soles.small, c.get.ensures.value, c.requires.target, c.requires.common.soles.one_each)

pub returns-in-OneBlock : goal.returns-in-OneBlock
returns-in-OneBlock c =
    let w = directions_by c.args.rooted.now in
    let source = c.args.source.now in
    let is = subst (Relates w source.node c.args.t) c.in-OneBlock.is (relates_by w source.node c.args.t source.place c.requires.relation.0
    c.requires.source.place c.requires.relation.1 c.args.relation c.requires.relation.2) in
    over_peers (og_of c.requires.rooted) source.node c.args.t c.requires.source.within c.requires.target c.requires.two c.args.links.now c.requires.links
    source.home c.member_row.result is c.requires.source.home c.member_row.ensures

pub returns-in-ToHead : goal.returns-in-ToHead
returns-in-ToHead c =
    let rooted = c.args.rooted.now in
    let w = directions_by rooted in
    let source = c.args.source.now in
    let og = og_of c.requires.rooted in
    let is = subst (Relates w source.node c.args.t) c.in-ToHead.is (relates_by w source.node c.args.t source.place c.requires.relation.0
    c.requires.source.place c.requires.relation.1 c.args.relation c.requires.relation.2) in
    subst (λ (t : ℕ). IsNearRow rooted.graph.now rooted.root w source.node t (Some c.row_home.result)) is
    (c.row_home.ensures rooted.graph.now rooted.root w og.kept og.ordered c.requires.source (has_head og source.node c.args.t c.requires.two is))

pub returns-in-FromHead : goal.returns-in-FromHead
returns-in-FromHead c =
    let rooted = c.args.rooted.now in
    let w = directions_by rooted in
    let source = c.args.source.now in
    let is = subst (Relates w source.node c.args.t) c.in-FromHead.is (relates_by w source.node c.args.t source.place c.requires.relation.0
    c.requires.source.place c.requires.relation.1 c.args.relation c.requires.relation.2) in
    over_top (og_of c.requires.rooted) source.node c.args.t c.requires.source.within c.requires.target c.requires.two c.args.links.now c.requires.links
    c.index.result.now c.end_row.result is
    (sole_at rooted.graph.now w c.args.self.now.soles.items c.get.result c.args.t c.index.result.now c.requires.common.soles c.get.ensures.value
    c.requires.target c.index.ensures)
    c.end_row.ensures.sole c.end_row.ensures.other

pub returns-in-Apart : goal.returns-in-Apart
returns-in-Apart c =
    let w = directions_by c.args.rooted.now in
    let source = c.args.source.now in
    Apart (subst (Relates w source.node c.args.t) c.in-Apart.is (relates_by w source.node c.args.t source.place c.requires.relation.0
    c.requires.source.place c.requires.relation.1 c.args.relation c.requires.relation.2))
