use Rattle.std.proofs.Common.{◌≡◌, ◌∙◌, List, ap}
use Rattle.std.specs.List.{filter}
use Rattle.mrt_graph.specs.InOrder.{in_order}
use Rattle.mrt_graph.proofs.InOrder.{in_order_sorted}
use Rattle.area_graph.specs.declared.entry.NumberedEntry.{NumberedEntry as Entry}
use Rattle.area_graph.specs.steps.NumberedArcs.{arcs_among, is_arc, pairing_cmp}
use Rattle.area_graph.specs.steps.Listed.{AreApart}
use Rattle.area_graph.proofs.Apart.{arcs_in_order, pairing_total}
use Rattle.area_graph.proofs.arcs.arcs_by_ends.Goals as goal

pub answered-requires : goal.answered-requires
answered-requires c =
    let read : c.as_slice.result.now ≡ in_order pairing_cmp c.args.entries.items = c.as_slice.ensures.value ∙ c.sort_by_ends.ensures in
    rw read (in_order_sorted pairing_cmp pairing_total c.args.entries.items)

-- what is put in order first has the same arcs
same_arcs : (all read : List Entry) → AreApart all → read ≡ in_order pairing_cmp all → filter (is_arc read) read ≡ arcs_among all
same_arcs all read apart is = ap (λ (xs : List Entry). filter (is_arc xs) xs) is ∙ arcs_in_order all apart

pub returns-clause-arcs : goal.returns-clause-arcs
returns-clause-arcs c =
    rw (same_arcs c.args.entries.items c.as_slice.result.now c.requires (c.as_slice.ensures.value ∙ c.sort_by_ends.ensures)) at c.answered.ensures.arcs

pub returns-clause-refused : goal.returns-clause-refused
returns-clause-refused c =
    rw (same_arcs c.args.entries.items c.as_slice.result.now c.requires (c.as_slice.ensures.value ∙ c.sort_by_ends.ensures)) at c.answered.ensures.refused
