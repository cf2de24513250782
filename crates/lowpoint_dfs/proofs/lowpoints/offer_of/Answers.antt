use Rattle.std.proofs.Common.{length, refl}
use Rattle.std.proofs.lemmas.Option.{slice_get_read}
use Rattle.lowpoint_dfs.proofs.lowpoints.offer_of.Goals as goal

pub returns-then-is_parent_link_of : goal.returns-then-is_parent_link_of
returns-then-is_parent_link_of c = rw (← c.is_parent_link_of.ensures, c.if-is_parent_link_of.true) refl

pub returns-then-is_parent_link_of-2 : goal.returns-then-is_parent_link_of-2
returns-then-is_parent_link_of-2 c =
    let nodes = c.args.nodes.now in
    let there = slice_get_read nodes (length nodes) c.args.end.now.to c.index-nodes-get.result refl c.requires.to (rw c.get.ensures.value at c.index-nodes-get.is) in
    rw (← c.is_parent_link_of.ensures, c.if-is_parent_link_of.false, ← c.is_parent_link_of-2.ensures, c.if-is_parent_link_of-2.true, there, ← c.index-nodes-get.is) refl
