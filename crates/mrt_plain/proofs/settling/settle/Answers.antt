use Rattle.std.proofs.Common.{◌∙◌, ◌↔◌, ℕ, List, Bool, length, ap, subst, sym}
use Rattle.mrt_graph.specs.Reachable.{Reachable}
use Rattle.mrt_graph.specs.Search.{Enters, IsBegun, IsMarked, SearchState}
use Rattle.mrt_graph.proofs.Searching.{Searches, searches_begun, searches_ended, searches_onward}
use Rattle.mrt_plain.specs.steps.Without.{StepsWithout}
use Rattle.mrt_plain.proofs.settling.settle.Goals as goal

pub loop-at-init : goal.loop-at-init
loop-at-init c =
    let begun : IsBegun c.args.count c.get.result c.in_ok-search.search = c.in_ok-search.ensures in
    record {
      count = begun.one_each;
      search = subst (λ (s : ℕ). Searches (StepsWithout c.args.links.now c.args.x.now) s c.in_ok-search.search) c.get.ensures.value
          (searches_begun _ c.args.count c.get.result c.in_ok-search.search begun);
    }

pub loop-at-preserved : goal.loop-at-preserved
loop-at-preserved c =
    let leads = StepsWithout c.args.links.now c.args.x.now in
    let out = c.in-Some.ensures.some in
    record {
      count = c.visit.ensures.one_each ∙ ap (λ (marks : List Bool). length marks) out.same_marks ∙ c.loop-at.invariant.count;
      search = searches_onward leads c.args.s c.loop-at.search c.next.new.self c.visit.new.search c.in-Some.at c.loop-at.invariant.search out
          (subst (λ (at : ℕ). Enters (leads at) c.next.new.self c.visit.new.search) c.new-in-Some.ensures c.visit.ensures);
    }

pub returns-clause-reached : goal.returns-clause-reached
returns-clause-reached c t =
    let leads = StepsWithout c.args.links.now c.args.x.now in
    let last : Searches leads c.args.s c.next.new.self =
    subst (λ (search : SearchState). Searches leads c.args.s search) (sym c.in_default.ensures.unchanged) c.loop-at.invariant.search in
    subst (λ (marks : List Bool). IsMarked marks t ↔ Reachable leads c.args.s t) (sym c.into_marks.ensures)
    (searches_ended leads c.args.s c.next.new.self last c.in_default.ensures.none t)
