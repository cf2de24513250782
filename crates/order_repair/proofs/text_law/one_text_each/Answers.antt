use Rattle.mrt_rows.proofs.Rooting.{og_of, rooted_by}
use Rattle.order_repair.proofs.GoesRound.{graph_with}
use Rattle.order_repair.proofs.OneText.{one_text, some_text}
use Rattle.order_repair.proofs.TextOfGraph.{one_text_of}
use Rattle.order_repair.proofs.text_law.one_text_each.Goals as goal

pub returns-clause-some : goal.returns-clause-some
returns-clause-some c = λ g root w s kept ordered s_within. some_text (graph_with g root w kept ordered) s s_within

pub returns-clause-one : goal.returns-clause-one
returns-clause-one c = λ g root w s text other kept ordered s_within is is'.
    one_text (graph_with g root w kept ordered) s s_within text other is is'

pub returns-clause-some_of_graph : goal.returns-clause-some_of_graph
returns-clause-some_of_graph c = λ g root s kept within s_within.
    let tree = c.one_search.ensures.some g root kept within in
    let gadag = c.one_gadag.ensures.some g root tree.0 kept within tree.1 in
    let d = c.one_order.ensures.some g root tree.0 gadag.0 kept within tree.1 gadag.1 in
    let ordered = c.directions_are_ordered.ensures g root tree.0 gadag.0 kept within tree.1 gadag.1 d.0 d.1 in
    let rooted = rooted_by g root d.0 kept ordered in
    let text = some_text (og_of rooted) s s_within in (
      text.0,
      record {
        directed = d.0;
        from_root = record { tree = tree.0; searched = tree.1; gadag = gadag.0; by_ears = gadag.1; in_order = d.1 };
        is = text.1;
      },
    )

pub returns-clause-one_of_graph : goal.returns-clause-one_of_graph
returns-clause-one_of_graph c = λ g root s text other kept within s_within. one_text_of g root s kept within s_within text other
