use Rattle.std.proofs.Common.{◌∙◌, ℕ, Some, length, map, refl, sym, ap, arith}
use Rattle.std.proofs.lemmas.Option.{slice_get_read}
use Rattle.mrt_graph.specs.EndsOfLinks.{pair_of}
use Rattle.mrt_graph.specs.Leads.{leads}
use Rattle.graph_tests.proofs.Reached.{joined_reached, link_leads}
use Rattle.graph_tests.proofs.hand_graphs.join_all.Goals as goal

pub loop-link-preserved : goal.loop-link-preserved
loop-link-preserved c = record {
  count = c.join.ensures.count ∙ c.loop-link.invariant.count;
  reached = λ start.
      let link = slice_get_read c.args.links.now (length c.args.links.now) c.loop-link.link-index c.link-item.result refl
      (omega (arith, c.loop-link-test.true, c.loop-link.auto.link-index-end)) c.link-item.is in
      let to = link_leads c.args.links.now c.loop-link.link-index c.link-item.result link in
      joined_reached (map pair_of c.args.links.now) c.loop-link.link-index c.get.result c.get-in-loop-link.result c.loop-link.marks.items c.join.new.marks.items
      (ap (λ (v : ℕ). leads (map pair_of c.args.links.now) c.loop-link.link-index v) c.get.ensures.value ∙ to
      ∙ ap (λ (v : ℕ). Some v) (sym c.get-in-loop-link.ensures.value))
      c.join.ensures.marks (c.loop-link.invariant.reached start);
}
