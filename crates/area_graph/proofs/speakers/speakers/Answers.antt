use Rattle.std.proofs.Common.{◌≡◌, List, rules, sym, subst, map}
use Rattle.std.specs.Cmp.Rules.{comparing}
use Rattle.std.specs.List.{AllZip, dedup}
use Rattle.std.specs.List.Sorted.{IsSorted, IsStrictlySortedBy}
use Rattle.std.specs.Ordering.{eq_by_cmp, is_lt}
use Rattle.std.proofs.lemmas.Cmp.{on_total}
use Rattle.std.proofs.lemmas.Fn.{dedup_same}
use Rattle.std.proofs.lemmas.List.Sorted.{answers_always}
use Rattle.mrt_graph.specs.NodeOrder.{node_id_cmp}
use Rattle.mrt_graph.proofs.InOrder.{before_ranks}
use Rattle.mrt_graph.proofs.NodeIds.{node_id_total}
use Rattle.area_graph.specs.Nodes.{speakers}
use Rattle.area_graph.specs.steps.Speaking.{IsSpeakerOf}
use Rattle.area_graph.specs.declared.speaker.Speaker.{Speaker}
use Rattle.area_graph.proofs.Foremost.{greatest_first_total}
use Rattle.area_graph.proofs.OneOfEachNode.{by_id, speaker_cmp, found, found_speak, ids_ascend}
use Rattle.area_graph.proofs.speakers.speakers.Goals as goal

sorted : (c : goal.After-dedup_by_key) → IsSorted speaker_cmp c.sort_unstable_by.new.self.items
sorted c =
    c.sort_unstable_by.ensures.sorted (λ x y. is_lt (speaker_cmp x y))
    (before_ranks speaker_cmp (greatest_first_total by_id (λ (s : Speaker). s.router) (on_total (λ (s : Speaker). s.id) node_id_total)))
    (answers_always _ _ _ (λ f a r g called. search rules))

one_each : (c : goal.After-dedup_by_key) → c.dedup_by_key.new.self.items ≡ dedup (eq_by_cmp by_id) c.sort_unstable_by.new.self.items
one_each c = dedup_same _ (eq_by_cmp by_id) _ (λ x y b f' x' y' called. search (comparing, rules)) _ _ c.dedup_by_key.ensures.filtered

pub returns-clause-speak : goal.returns-clause-speak
returns-clause-speak c =
    subst (λ (xs : List Speaker). AllZip (IsSpeakerOf c.args.lsas.now) xs (speakers c.args.lsas.now)) (sym (one_each c))
    (found_speak c.args.lsas.now c.in_ok-found.found.items c.in_ok-found.ensures.speak c.requires.kept c.requires.distinct c.sort_unstable_by.new.self.items
    c.sort_unstable_by.ensures.permutation (sorted c))

pub returns-clause-ascend : goal.returns-clause-ascend
returns-clause-ascend c =
    subst (λ (xs : List Speaker). IsStrictlySortedBy node_id_cmp (map (λ (s : Speaker). s.id) xs)) (sym (one_each c))
    (ids_ascend _ (found c.args.lsas.now c.in_ok-found.found.items c.in_ok-found.ensures.speak c.requires.kept c.requires.distinct c.sort_unstable_by.new.self.items
    c.sort_unstable_by.ensures.permutation (sorted c)).ascend)
