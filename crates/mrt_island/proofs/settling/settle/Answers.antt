use Rattle.std.proofs.Common.{◌∙◌, ◌↔◌, ℕ, List, Bool, length, ap, subst, sym}
use Rattle.mrt_graph.specs.Reachable.{Reachable}
use Rattle.mrt_graph.specs.Search.{Enters, IsBegun, IsMarked, SearchState}
use Rattle.mrt_graph.proofs.Searching.{Searches, searches_begun, searches_ended, searches_onward}
use Rattle.mrt_island.specs.steps.Searching.{LeadsOver}
use Rattle.mrt_island.proofs.settling.settle.Goals as goal

pub loop-at-init : goal.loop-at-init
loop-at-init c =
    let begun : IsBegun c.count.result c.get.result c.in_ok-search.search = c.in_ok-search.ensures in
    record {
      count = begun.one_each ∙ c.count.ensures.count;
      search = subst (λ (s : ℕ). Searches (LeadsOver c.args.area.now.bonds c.args.flags.now) s c.in_ok-search.search) c.get.ensures.value
          (searches_begun _ c.count.result c.get.result c.in_ok-search.search begun);
    }

pub loop-at-preserved : goal.loop-at-preserved
loop-at-preserved c =
    let leads = LeadsOver c.args.area.now.bonds c.args.flags.now in
    let out = c.in-Some.ensures.some in
    record {
      count = c.visit.ensures.one_each ∙ ap (λ (marks : List Bool). length marks) out.same_marks ∙ c.loop-at.invariant.count;
      search = searches_onward leads c.args.start c.loop-at.search c.next.new.self c.visit.new.search c.in-Some.at c.loop-at.invariant.search out
          (subst (λ (at : ℕ). Enters (leads at) c.next.new.self c.visit.new.search) c.new-in-Some.ensures c.visit.ensures);
    }

pub returns-clause-reached : goal.returns-clause-reached
returns-clause-reached c t =
    let leads = LeadsOver c.args.area.now.bonds c.args.flags.now in
    let last : Searches leads c.args.start c.next.new.self =
    subst (λ (search : SearchState). Searches leads c.args.start search) (sym c.in_default.ensures.unchanged) c.loop-at.invariant.search in
    subst (λ (marks : List Bool). IsMarked marks t ↔ Reachable leads c.args.start t) (sym c.into_marks.ensures)
    (searches_ended leads c.args.start c.next.new.self last c.in_default.ensures.none t)
