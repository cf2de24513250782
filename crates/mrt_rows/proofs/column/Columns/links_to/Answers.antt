use Rattle.std.proofs.Common.{◌∙◌, Bool, Some, length, ap, arith}
use Rattle.mrt_rows.proofs.RowLinks.{a_within, below, each_links, shared_links, shared_mark}
use Rattle.mrt_rows.proofs.TileLinks.{have_place}
use Rattle.mrt_rows.proofs.column.Columns.links_to.Goals as goal

pub place-block-requires-clause-node : goal.place-block-requires-clause-node
place-block-requires-clause-node c =
    let rooted = c.args.rooted.now in
    a_within rooted.graph.now rooted.root rooted.directed.now c.args.self.now c.args.to c.requires.aimed c.args.s c.args.aim c.requires.source c.requires.aim
    c.requires.away

pub index-requires : goal.index-requires
index-requires c =
    let rooted = c.args.rooted.now in
    let aimed = c.requires.aimed in
    let within = a_within rooted.graph.now rooted.root rooted.directed.now c.args.self.now c.args.to aimed c.args.s c.args.aim c.requires.source c.requires.aim
    c.requires.away in
    omega (
      arith,
      c.args.self.now.shared.wanted.small,
      c.get.ensures.value,
      c.place-block.ensures.block,
      aimed.rooted.ordered.heads.block_within c.args.aim within,
      aimed.held.shared.a_mark_each,
    )

pub links_of-requires : goal.links_of-requires
links_of-requires c =
    have_place c.args.rooted.now.graph.now c.args.self.now.shared 1 c.args.s 0 c.requires.aimed.held.shared c.requires.source (omega arith)

pub links_of-requires-2 : goal.links_of-requires-2
links_of-requires-2 c =
    let rooted = c.args.rooted.now in
    let columns = c.args.self.now in
    have_place rooted.graph.now columns.each (length columns.targets.items) c.args.s c.args.to.at c.requires.aimed.held.each c.requires.source
    (below rooted.graph.now rooted.root rooted.directed.now columns c.args.to c.requires.aimed c.args.s c.args.aim c.requires.source c.requires.aim
    c.requires.away)

pub returns-then-index : goal.returns-then-index
returns-then-index c =
    let rooted = c.args.rooted.now in
    let mark = shared_mark rooted.graph.now rooted.root rooted.directed.now c.args.self.now c.args.to c.requires.aimed c.args.s c.args.aim c.requires.source
    c.requires.aim c.requires.away c.get.result c.index.result.now (c.get.ensures.value ∙ c.place-block.ensures.block) c.index.ensures in
    shared_links rooted.graph.now rooted.root rooted.directed.now c.args.self.now c.args.to c.requires.aimed c.args.s c.args.aim c.requires.source
    c.requires.aim c.requires.away c.links_of.result (mark ∙ ap (λ (b : Bool). Some b) c.if-index.true) c.links_of.ensures

pub returns : goal.returns
returns c =
    let rooted = c.args.rooted.now in
    let mark = shared_mark rooted.graph.now rooted.root rooted.directed.now c.args.self.now c.args.to c.requires.aimed c.args.s c.args.aim c.requires.source
    c.requires.aim c.requires.away c.get.result c.index.result.now (c.get.ensures.value ∙ c.place-block.ensures.block) c.index.ensures in
    each_links rooted.graph.now rooted.root rooted.directed.now c.args.self.now c.args.to c.requires.aimed c.args.s c.args.aim c.requires.source
    c.requires.aim c.requires.away c.links_of-2.result (mark ∙ ap (λ (b : Bool). Some b) c.if-index.false) c.links_of-2.ensures
