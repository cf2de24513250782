-- A block of more than one link hangs together without any of its nodes or links.
use Rattle.std.proofs.Common.{◌<◌, ℕ, length}
use Rattle.mrt_graph.specs.declared.link.Element.{Element}
use Rattle.mrt_graph.specs.Separates.{Separates}
use Rattle.mrt_graph.specs.Certificate.{row_of}
use Rattle.mrt_graph.specs.ColorWalk.{color_walk}
use Rattle.block_spf.specs.LeastPath.{HaveCommonBlockOfMoreLinks}
use Rattle.mrt_rows.proofs.OrderedGraphs.{OrderedGraph}
use Rattle.mrt_rows.proofs.WholeCert.{whole_file, whole_tells}
use Rattle.order_repair.specs.Failed.{LiesIn}
use Rattle.order_repair.proofs.GoesRound.{arrives, goes_round}
use Rattle.order_repair.proofs.OneChoice.{choice_for}

pub none_separates : (og : OrderedGraph) (s t k h : ℕ) (x : Element) → s < length og.g.ids → t < length og.g.ids
    → HaveCommonBlockOfMoreLinks og.g og.w s t k h → LiesIn og.g og.w k h x → Separates og.g.links x s t → ⊥
none_separates og s t k h x s_within t_within shares lies separates =
    let choice = choice_for og s t k h x s_within t_within shares lies separates.between in
    let file = whole_file og in
    let tells = whole_tells og in
    let walk = arrives og file tells s t s_within t_within shares.two choice.0 in
    goes_round og file tells s t s_within t_within x choice.0 choice.1
    (separates.on_every_walk (color_walk og.g.links (length og.g.ids) (row_of file.cert) choice.0 s t) walk.ends_at_t)
