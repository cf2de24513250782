use Rattle.std.proofs.Common.{◌≡◌, ◌<◌, ◌∙◌, ℕ, List, Some, length, refl, sym, ap, subst, arith}
use Rattle.std.proofs.lemmas.Bool.{eqb-true, eqb-false}
use Rattle.mrt_graph.specs.TreeFields.{search_number}
use Rattle.mrt_graph.specs.declared.tree.TreeNode.{TreeNode}
use Rattle.std.proofs.lemmas.Option.{same_Some}
use Rattle.lowpoint_dfs.specs.Subtree.{parent_of}
use Rattle.lowpoint_dfs.proofs.SearchGoesOn.{back_less, ends_within, finding, finished, found_less, going_back, here_within, looking, new_end, parent_here, room_left}
use Rattle.lowpoint_dfs.proofs.finding.step.Goals as goal

pub ends-ends-requires : goal.ends-ends-requires
ends-ends-requires c = here_within c.args.g.now c.args.root _ _ _ c.args.here c.requires.kept c.requires.root c.requires.searching

pub look_on-place-requires-clause-within : goal.look_on-place-requires-clause-within
look_on-place-requires-clause-within c =
    ends_within c.args.g.now c.args.here c.deref.result.now c.ends-ends.result.now
    (ap (λ (nodes : List TreeNode). length nodes) c.deref.ensures.value ∙ c.requires.searching.one_each) c.ends-ends.ensures.kept

pub look_on-place-requires-clause-here : goal.look_on-place-requires-clause-here
look_on-place-requires-clause-here c =
    omega (arith, here_within c.args.g.now c.args.root _ _ _ c.args.here c.requires.kept c.requires.root c.requires.searching, c.requires.searching.one_place_each)

pub find-requires-clause-room : goal.find-requires-clause-room
find-requires-clause-room c =
    let it = new_end c.args.g.now c.args.here c.args.nodes.now.items c.deref.result.now c.ends-ends.result.now c.look_on-place.result c.index-ends-place.result c.ends-ends.ensures.kept
    c.deref.ensures.value c.if-place-ends.true c.index-ends-place.is c.look_on-place.ensures.outside in
    omega (arith, c.requires.room, room_left c.args.g.now c.args.root c.args.nodes.now.items c.args.order.now.items c.args.passed.now.items c.args.here c.index-ends-place.result.to c.requires.searching it.new it.within)

pub returns-then-place-ends-clause-onward : goal.returns-then-place-ends-clause-onward
returns-then-place-ends-clause-onward c =
    let it = new_end c.args.g.now c.args.here c.args.nodes.now.items c.deref.result.now c.ends-ends.result.now c.look_on-place.result c.index-ends-place.result c.ends-ends.ensures.kept
    c.deref.ensures.value c.if-place-ends.true c.index-ends-place.is c.look_on-place.ensures.outside in
    let looked = looking c.args.g.now c.args.root c.args.nodes.now.items c.deref.result.now c.args.order.now.items c.args.passed.now.items c.look_on-place.new.passed.items
    c.args.here c.look_on-place.result c.ends-ends.result.now c.requires.kept c.requires.root c.requires.searching c.ends-ends.ensures.value c.deref.ensures.value
    c.look_on-place.ensures.inside c.look_on-place.ensures.passed in
    rw (c.find.ensures.nodes, c.find.ensures.order)
    (finding c.args.g.now c.args.root c.args.nodes.now.items c.args.order.now.items c.look_on-place.new.passed.items c.args.here c.look_on-place.result c.ends-ends.result.now
    c.index-ends-place.result looked.searching c.ends-ends.ensures.value it.at looked.found it.new it.within)

pub returns-then-place-ends-clause-left : goal.returns-then-place-ends-clause-left
returns-then-place-ends-clause-left c =
    let it = new_end c.args.g.now c.args.here c.args.nodes.now.items c.deref.result.now c.ends-ends.result.now c.look_on-place.result c.index-ends-place.result c.ends-ends.ensures.kept
    c.deref.ensures.value c.if-place-ends.true c.index-ends-place.is c.look_on-place.ensures.outside in
    rw c.find.ensures.nodes
    (found_less c.args.g.now c.args.root c.args.nodes.now.items c.args.order.now.items c.args.passed.now.items c.args.here c.index-ends-place.result.to
    (Some c.index-ends-place.result.link) c.requires.searching it.new it.within)

pub returns-then-eq-clause-finished : goal.returns-then-eq-clause-finished
returns-then-eq-clause-finished c =
    let looked = looking c.args.g.now c.args.root c.args.nodes.now.items c.deref.result.now c.args.order.now.items c.args.passed.now.items c.look_on-place.new.passed.items
    c.args.here c.look_on-place.result c.ends-ends.result.now c.requires.kept c.requires.root c.requires.searching c.ends-ends.ensures.value c.deref.ensures.value
    c.look_on-place.ensures.inside c.look_on-place.ensures.passed in
    finished c.args.g.now c.args.root c.args.here c.args.nodes.now.items c.args.order.now.items c.look_on-place.new.passed.items c.look_on-place.result c.ends-ends.result.now
    (eqb-true c.args.here c.args.root (sym c.eq.ensures ∙ c.if-eq.true)) looked c.ends-ends.ensures.value c.if-place-ends.false

pub parent-requires-clause-node : goal.parent-requires-clause-node
parent-requires-clause-node c =
    omega (
      arith,
      here_within c.args.g.now c.args.root _ _ _ c.args.here c.requires.kept c.requires.root c.requires.searching,
      c.requires.searching.one_each,
      c.deref-2.ensures.len,
      ap (λ (nodes : List TreeNode). length nodes) c.deref-2.ensures.value,
    )

pub parent-requires-clause-some : goal.parent-requires-clause-some
parent-requires-clause-some c =
    let has = parent_here c.args.g.now c.args.root c.args.nodes.now.items c.args.order.now.items c.args.passed.now.items c.args.here c.requires.kept c.requires.searching
    (eqb-false c.args.here c.args.root (sym c.eq.ensures ∙ c.if-eq.false)) in
    rw (c.deref-2.ensures.value, has.is) refl

pub returns-clause-onward : goal.returns-clause-onward
returns-clause-onward c =
    let looked = looking c.args.g.now c.args.root c.args.nodes.now.items c.deref.result.now c.args.order.now.items c.args.passed.now.items c.look_on-place.new.passed.items
    c.args.here c.look_on-place.result c.ends-ends.result.now c.requires.kept c.requires.root c.requires.searching c.ends-ends.ensures.value c.deref.ensures.value
    c.look_on-place.ensures.inside c.look_on-place.ensures.passed in
    going_back c.args.g.now c.args.root c.args.nodes.now.items c.args.order.now.items c.look_on-place.new.passed.items c.args.here c.look_on-place.result c.parent.result
    c.ends-ends.result.now c.requires.kept looked.searching c.ends-ends.ensures.value looked.found c.if-place-ends.false (eqb-false c.args.here c.args.root (sym c.eq.ensures ∙ c.if-eq.false))
    (ap (λ (nodes : List TreeNode). parent_of c.args.g.now nodes c.args.here) (sym c.deref-2.ensures.value) ∙ c.parent.ensures)

pub returns-clause-left : goal.returns-clause-left
returns-clause-left c =
    let has = parent_here c.args.g.now c.args.root c.args.nodes.now.items c.args.order.now.items c.args.passed.now.items c.args.here c.requires.kept c.requires.searching
    (eqb-false c.args.here c.args.root (sym c.eq.ensures ∙ c.if-eq.false)) in
    let onward : parent_of c.args.g.now c.args.nodes.now.items c.args.here ≡ Some c.parent.result =
    ap (λ (nodes : List TreeNode). parent_of c.args.g.now nodes c.args.here) (sym c.deref-2.ensures.value) ∙ c.parent.ensures in
    let same : has.parent ≡ c.parent.result = same_Some has.parent c.parent.result (sym has.is ∙ onward) in
    back_less c.args.nodes.now.items c.parent.result c.args.here
    (subst (λ (p : ℕ). search_number c.args.nodes.now.items p < search_number c.args.nodes.now.items c.args.here) same has.lower)
