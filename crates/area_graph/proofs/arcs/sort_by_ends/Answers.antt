use Rattle.std.proofs.Common.{rules, ℕ}
use Rattle.std.proofs.lemmas.List.Sorted.{answers_always}
use Rattle.mrt_graph.proofs.InOrder.{in_order_is}
use Rattle.area_graph.specs.steps.NumberedArcs.{pairing_cmp}
use Rattle.area_graph.specs.declared.entry.NumberedEntry.{NumberedEntry as Entry}
use Rattle.area_graph.proofs.Apart.{pairing_total, pairing_ties_alone}
use Rattle.area_graph.proofs.arcs.sort_by_ends.Goals as goal

-- what entries are sorted by
abbrev way_key : Entry → ℕ × ℕ × ℕ × ℕ
way_key entry = (entry.tail, entry.far, entry.link_data, entry.place)

pub returns : goal.returns
returns c =
    in_order_is pairing_cmp pairing_total c.args.entries.now.items c.sort_unstable_by_key.new.self.items c.sort_unstable_by_key.ensures.permutation
    (c.sort_unstable_by_key.ensures.sorted way_key (answers_always _ _ _ (λ f a r g called. search rules))) (pairing_ties_alone c.args.entries.now.items c.requires)
