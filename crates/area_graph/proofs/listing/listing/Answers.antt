use Rattle.std.proofs.Common.{◌≡◌, ◌∙◌, List, map, ap, sym, subst}
use Rattle.std.specs.List.Sorted.{IsStrictlySortedBy}
use Rattle.mrt_graph.specs.NodeOrder.{node_id_cmp}
use Rattle.mrt_graph.specs.declared.node_id.NodeId.{NodeId}
use Rattle.area_graph.specs.steps.NumberedEntries.{entries, entries_from}
use Rattle.area_graph.specs.steps.Listed.{AreEntries}
use Rattle.area_graph.specs.Nodes.{nodes, speakers}
use Rattle.area_graph.specs.declared.entry.NumberedEntry.{NumberedEntry as Entry}
use Rattle.area_graph.specs.declared.speaker.Speaker.{Speaker}
use Rattle.area_graph.proofs.ListedApart.{are_entries}
use Rattle.area_graph.proofs.OneOfEachNode.{ids_are_nodes}
use Rattle.area_graph.proofs.listing.listing.Goals as goal

pub entries-requires-clause-ascend : goal.entries-requires-clause-ascend
entries-requires-clause-ascend c =
    subst (IsStrictlySortedBy node_id_cmp)
    (sym (c.deref-3.ensures.value ∙ c.in_ok-ids.ensures.ids ∙ ap (map (λ (s : Speaker). s.id)) c.deref.ensures.value)) c.in_ok-speakers.ensures.ascend

the_ids : (c : goal.After-drop-speakers-2) → c.in_ok-ids.ids.items ≡ nodes c.args.lsas.now
the_ids c =
    c.in_ok-ids.ensures.ids ∙ ap (map (λ (s : Speaker). s.id)) c.deref.ensures.value
    ∙ ids_are_nodes c.args.lsas.now c.in_ok-speakers.speakers.items c.in_ok-speakers.ensures.speak

the_entries : (c : goal.After-drop-speakers-2) → c.in_ok-entries.entries.items ≡ entries c.args.lsas.now
the_entries c =
    c.in_ok-entries.ensures.entries ∙ ap (λ (ids : List NodeId). entries_from ids 0 (speakers c.args.lsas.now)) (c.deref-3.ensures.value ∙ the_ids c)

pub returns-clause-ids : goal.returns-clause-ids
returns-clause-ids c = the_ids c

pub returns-clause-entries : goal.returns-clause-entries
returns-clause-entries c = the_entries c

pub returns-clause-ascend : goal.returns-clause-ascend
returns-clause-ascend c =
    subst (IsStrictlySortedBy node_id_cmp) (sym (c.in_ok-ids.ensures.ids ∙ ap (map (λ (s : Speaker). s.id)) c.deref.ensures.value)) c.in_ok-speakers.ensures.ascend

pub returns-clause-kept : goal.returns-clause-kept
returns-clause-kept c =
    subst (λ (ids : List NodeId). AreEntries ids c.in_ok-entries.entries.items) (sym (the_ids c))
    (subst (λ (all : List Entry). AreEntries (nodes c.args.lsas.now) all) (sym (the_entries c)) (are_entries c.args.lsas.now c.requires.kept))
