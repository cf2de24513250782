use Rattle.std.proofs.Common.{rules, ◌≡◌, ◌<◌, ◌∙◌, ◌↔◌, ℕ, List, Bool, false, length, replicate, ap, sym, subst, arith}
use Rattle.std.proofs.lemmas.Bool.{both_ways}
use Rattle.mrt_graph.specs.GraphInvariant.{IsEnd}
use Rattle.mrt_graph.specs.Reachable.{Reachable}
use Rattle.mrt_graph.specs.Search.{Enters, IsBegun, IsMarked, SearchState}
use Rattle.mrt_graph.proofs.ListTests.{all_at}
use Rattle.mrt_graph.proofs.Searching.{Searches, searches_begun, searches_ended, searches_onward}
use Rattle.proxy_rows.specs.Sides.{IsMember, router_of}
use Rattle.proxy_rows.specs.steps.Steps.{StepsTo}
use Rattle.proxy_rows.specs.steps.LabelledGraph.{with_rows, without_rows}
use Rattle.proxy_rows.proofs.AnyRows.{marks_too}
use Rattle.proxy_rows.proofs.Grounds.{counts, member_within, router_within}
use Rattle.proxy_rows.proofs.Stepping.{none_is, side_is, steps_of}
use Rattle.proxy_rows.proofs.marking.side_marks.Goals as goal

pub is_member-requires : goal.is_member-requires
is_member-requires c = record {
  within =
      subst (λ (n : ℕ). n < length c.args.words.now.nodes.now) (sym c.router_of-start.ensures)
      (router_within c.args.words.now.graph.now (with_rows c.args.words.now c.requires.ground.rest) c.args.at.now c.requires.ground.stands c.args.side);
}

pub returns-then-not-is_member-clause-marked : goal.returns-then-not-is_member-clause-marked
returns-then-not-is_member-clause-marked c =
    let g = c.args.words.now.graph.now in
    let blank : c.in_ok-marks.marks.items ≡ replicate c.node_count.result false = c.in_ok-marks.ensures.items_if_clones_equal (search rules) in
    marks_too c.args.words.now c.args.at.now c.args.side c.in_ok-marks.marks.items (none_is g (without_rows c.args.words.now) c.args.at.now c.args.side
    (λ member. both_ways c.is_member.result c.if-not-is_member.true (c.is_member.ensures.1 (subst (IsMember (without_rows c.args.words.now) c.args.at.now) (sym c.router_of-start.ensures) member)))
    c.in_ok-marks.marks.items (subst (λ (n : ℕ). c.in_ok-marks.marks.items ≡ replicate n false) c.node_count.ensures.count blank))

pub new-requires : goal.new-requires
new-requires c =
    let within = router_within c.args.words.now.graph.now (with_rows c.args.words.now c.requires.ground.rest) c.args.at.now c.requires.ground.stands c.args.side in
    let same = (counts c.args.words.now.graph.now (with_rows c.args.words.now c.requires.ground.rest) c.args.at.now c.requires.ground.stands).nodes in
    omega (arith, within, same, c.node_count-2.ensures.count, c.get.ensures.value, c.router_of-start.ensures)

pub loop-v-init : goal.loop-v-init
loop-v-init c = record {
  count = c.in_ok-search.ensures.one_each ∙ c.node_count-2.ensures.count;
  search =
      searches_begun (StepsTo c.args.words.now.graph.now (without_rows c.args.words.now) c.args.at.now c.args.side) c.node_count-2.result (router_of c.args.at.now c.args.side) c.in_ok-search.search
      (subst (λ (start : ℕ). IsBegun c.node_count-2.result start c.in_ok-search.search) (c.get.ensures.value ∙ c.router_of-start.ensures) c.in_ok-search.ensures);
}

pub visit-requires-clause-from : goal.visit-requires-clause-from
visit-requires-clause-from c =
    let same = (counts c.args.words.now.graph.now (with_rows c.args.words.now c.requires.ground.rest) c.args.at.now c.requires.ground.stands).nodes in
    omega (arith, c.in-Some.ensures.some.within, c.new-v.ensures, c.loop-v.invariant.count, same)

pub visit-requires-clause-marks : goal.visit-requires-clause-marks
visit-requires-clause-marks c =
    let same = (counts c.args.words.now.graph.now (with_rows c.args.words.now c.requires.ground.rest) c.args.at.now c.requires.ground.stands).nodes in
    ap (λ (marks : List Bool). length marks) c.in-Some.ensures.some.same_marks ∙ c.loop-v.invariant.count ∙ sym same

pub visit-requires-clause-within : goal.visit-requires-clause-within
visit-requires-clause-within c k end at =
    let g = c.args.words.now.graph.now in
    let same = counts g (with_rows c.args.words.now c.requires.ground.rest) c.args.at.now c.requires.ground.stands in
    let kept : IsEnd (length g.ids) g.links c.new-v.result end = all_at (IsEnd (length g.ids) g.links c.new-v.result) c.ends.result.now k end c.ends.ensures.kept.kept at in
    (omega (arith, kept.link, same.links), omega (arith, kept.to, same.nodes))

pub loop-v-preserved : goal.loop-v-preserved
loop-v-preserved c =
    let g = c.args.words.now.graph.now in
    let step = StepsTo g (without_rows c.args.words.now) c.args.at.now c.args.side in
    let out = c.in-Some.ensures.some in
    let entered : Enters (step c.new-v.result) c.next.new.self c.visit.new.search =
    steps_of g (without_rows c.args.words.now) c.args.at.now c.args.side c.new-v.result c.ends.result.now c.next.new.self c.visit.new.search c.ends.ensures.value c.visit.ensures in
    record {
      count = c.visit.ensures.one_each ∙ ap (λ (marks : List Bool). length marks) out.same_marks ∙ c.loop-v.invariant.count;
      search = searches_onward step (router_of c.args.at.now c.args.side) c.loop-v.search c.next.new.self c.visit.new.search c.in-Some.v c.loop-v.invariant.search out
          (subst (λ (v : ℕ). Enters (step v) c.next.new.self c.visit.new.search) c.new-v.ensures entered);
    }

pub returns-clause-marked : goal.returns-clause-marked
returns-clause-marked c =
    let g = c.args.words.now.graph.now in
    let step = StepsTo g (without_rows c.args.words.now) c.args.at.now c.args.side in
    let start = router_of c.args.at.now c.args.side in
    let last : Searches step start c.next.new.self =
    subst (λ (search : SearchState). Searches step start search) (sym c.in_default.ensures.unchanged) c.loop-v.invariant.search in
    let exactly = searches_ended step start c.next.new.self last c.in_default.ensures.none in
    let ground = c.requires.ground.stands in
    let member : IsMember (without_rows c.args.words.now) c.args.at.now start =
    subst (IsMember (without_rows c.args.words.now) c.args.at.now) c.router_of-start.ensures (c.is_member.ensures.0 c.if-not-is_member.false) in
    marks_too c.args.words.now c.args.at.now c.args.side c.into_marks.result.items (side_is g (without_rows c.args.words.now) c.args.at.now c.args.side ground.kept
    (λ v is. let below = member_within g (with_rows c.args.words.now c.requires.ground.rest) c.args.at.now ground v is in omega (arith, below, (counts g (with_rows c.args.words.now c.requires.ground.rest) c.args.at.now ground).nodes))
    member c.into_marks.result.items
    (λ s. subst (λ (marks : List Bool). IsMarked marks s ↔ Reachable step start s) (sym c.into_marks.ensures) (exactly s)))
