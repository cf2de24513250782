use Rattle.std.proofs.Common.{rules, ◌≡◌, ◌∙◌, ◌<◌, ℕ, Bool, false, true, List, Some, get_or, length, slice_get, refl, sym, ap, subst, arith}
use Rattle.std.proofs.lemmas.Bool.{false≢true}
use Rattle.std.proofs.lemmas.List.{get_or-replicate}
use Rattle.std.proofs.lemmas.Option.{same_Some, slice_get-get_or, slice_get_read}
use Rattle.mrt_graph.specs.declared.gadag.Mark.{Mark}
use Rattle.mrt_graph.specs.declared.link.End.{End}
use Rattle.mrt_graph.specs.DirectedLists.{DirectedLists}
use Rattle.mrt_graph.specs.GraphInvariant.{IsTopology}
use Rattle.mrt_graph.specs.Topology.{Topology}
use Rattle.mrt_graph.proofs.EndsAt.{end_leads}
use Rattle.block_spf.specs.steps.Aiming.{AreRows}
use Rattle.block_spf.specs.Aiming.{IsAiming}
use Rattle.block_spf.specs.HasDirections.{HasDirections}
use Rattle.block_spf.specs.Rest.{far}
use Rattle.block_spf.specs.steps.Side.{AreTaken}
use Rattle.block_spf.specs.steps.PathsOverEnds.{AreLeast, left_at, sought}
use Rattle.link_direction.proofs.ClosedBlocks.{IsOrdered, inside_of_link}
use Rattle.link_direction.proofs.TwoNodes.{place_says}
use Rattle.block_spf.proofs.EndRead.{end_is}
use Rattle.block_spf.proofs.EndCosts.{IsWayOn, all_passed, all_taken_over}
use Rattle.block_spf.proofs.Marks.{IsMarkedEnd, marked_block}
use Rattle.block_spf.proofs.SideBySide.{far_costs, most_kept}
use Rattle.block_spf.proofs.WaysOn.{no_way_back, taken_on, way_on}
use Rattle.block_spf.proofs.paths_over_ends.take_paths.Goals as goal
use Rattle.block_spf.proofs.paths_over_ends.take_paths.Goals.{then-takes_link+then-leads_on, else-takes_link, else-takes_link-via-then-takes_link+else-leads_on, else-takes_link-via-else-takes_link}

-- the block of an end's link is named by a node
block_within : (g : Topology) (d : DirectedLists) (x place : ℕ) (ends : List End) (end : End) (mark : Mark) → IsTopology g → HasDirections g d → slice_get g.ends x ≡ Some ends
    → place < length ends → end ≡ get_or ends place end → slice_get d.marks end.link ≡ Some mark → mark.block < length g.ids
block_within g d x place ends end mark kept has list below read at =
    let marked : IsMarkedEnd g d x place ends end mark = record { list = list; there = slice_get_read ends (length ends) place end refl below read; marked = at } in
    let it = inside_of_link g has.root has.directions end.link x end.to (record { kept = kept; ordered = has.are.ordered }) (end_leads g x place ends end kept list marked.there) in
    subst (λ (b : ℕ). b < length g.ids) (it.in_block ∙ sym (marked_block g d has.directions x place ends end mark kept has.are.says marked))
    (has.are.ordered.heads.block_within it.m it.within)

pub mark-mark-requires : goal.mark-mark-requires
mark-mark-requires c =
    let is = end_is c.args.aiming.now.graph.now c.args.x c.loop-end.end-index c.ends-end-items.result.now c.end-item.result c.ends-end-items.ensures.kept c.loop-end-test.true c.end-item.is in
    omega (arith, is.link, c.requires.aiming.directed.are.says.one_mark_each)

pub take_leg-requires-clause-node : goal.take_leg-requires-clause-node
take_leg-requires-clause-node c =
    (end_is c.args.aiming.now.graph.now c.args.x c.loop-end.end-index c.ends-end-items.result.now c.end-item.result c.ends-end-items.ensures.kept c.loop-end-test.true c.end-item.is).to

pub take_leg-requires-clause-aiming : goal.take_leg-requires-clause-aiming
take_leg-requires-clause-aiming c = subst (λ (n : ℕ). IsAiming c.args.aiming.now n) (sym (c.loop-end.auto.costs ∙ c.fill.ensures.len)) c.requires.aiming

pub take_leg-requires-clause-one_link_each : goal.take_leg-requires-clause-one_link_each
take_leg-requires-clause-one_link_each c =
    c.loop-end.auto.links ∙ c.fill-2.ensures.len ∙ c.requires.one_link_each ∙ sym (c.loop-end.auto.costs ∙ c.fill.ensures.len)

pub take_leg-requires-clause-rows : goal.take_leg-requires-clause-rows
take_leg-requires-clause-rows c =
    subst (λ (n : ℕ). AreRows c.args.aiming.now n c.args.all.now) (sym (c.loop-end.auto.costs ∙ c.fill.ensures.len)) c.requires.rows

pub take_leg-requires-clause-most : goal.take_leg-requires-clause-most
take_leg-requires-clause-most c = c.loop-end.invariant.most

pub loop-end-init : goal.loop-end-init
loop-end-init c =
    let width = length c.args.costs.now in
    let costs = c.fill.ensures.after (λ y same. search rules) in
    let links = c.fill-2.ensures.after (λ y same. search rules) in
    rw (costs, links, c.requires.one_link_each) (record {
      most = far_costs width;
      least = λ root w are ready. record {
        each = λ j below. rw (get_or-replicate width j far 0 below, get_or-replicate width j c.new.result 0 below) (record {
          most = omega arith;
          reached = λ low. absurd (omega (arith, low));
          unreached = λ above. c.new.ensures;
          least = λ place other early. absurd (omega (arith, early));
        });
      };
    })

pub bounds-aiming-get : goal.bounds-aiming-get
bounds-aiming-get c =
    let block_in =
    block_within c.args.aiming.now.graph.now c.args.aiming.now.directed.now c.args.x c.loop-end.end-index c.ends-end-items.result.now c.end-item.result c.mark-mark.result
    c.requires.aiming.kept c.requires.aiming.directed c.ends-end-items.ensures.value c.loop-end-test.true c.end-item.is c.mark-mark.ensures in
    omega (arith, block_in, c.get.ensures.value, c.requires.aiming.a_mark_each)

pub take_leg-requires-clause-block : goal.take_leg-requires-clause-block
take_leg-requires-clause-block c =
    block_within c.args.aiming.now.graph.now c.args.aiming.now.directed.now c.args.x c.loop-end.end-index c.ends-end-items.result.now c.end-item.result c.mark-mark.result
    c.requires.aiming.kept c.requires.aiming.directed c.ends-end-items.ensures.value c.loop-end-test.true c.end-item.is c.mark-mark.ensures

pub loop-end-preserved : goal.loop-end-preserved
loop-end-preserved c =
    let aiming = c.args.aiming.now in
    let g = aiming.graph.now in
    let d = aiming.directed.now in
    let wanted = aiming.wanted.now in
    let width = length c.args.costs.now in
    let own = c.args.own in
    let x = c.args.x in
    let place = c.loop-end.end-index in
    let ends = c.ends-end-items.result.now in
    let end = c.end-item.result in
    let mark = c.mark-mark.result in
    let kept = c.place-kept.result.block in
    let list = c.ends-end-items.ensures.value in
    let there = slice_get_read ends (length ends) place end refl c.loop-end-test.true c.end-item.is in
    let marked : IsMarkedEnd g d x place ends end mark = record { list = list; there = there; marked = c.mark-mark.ensures } in
    let block_in =
    block_within g d x place ends end mark c.requires.aiming.kept c.requires.aiming.directed list c.loop-end-test.true c.end-item.is c.mark-mark.ensures in
    let is_set : slice_get wanted mark.block ≡ Some (get_or wanted c.get.result false) =
    slice_get-get_or wanted mark.block false (omega (arith, block_in, c.requires.aiming.a_mark_each))
    ∙ ap (λ (k : ℕ). Some (get_or wanted k false)) (sym c.get.ensures.value) in
    elim c.if-takes_link.branch [
      | then-takes_link+then-leads_on t ↦ rw (t.costs-is, t.links-is) (record {
        most =
            let has = c.requires.aiming.directed in
            most_kept _ end.metric end.link c.loop-end.costs c.loop-end.links t.take_leg.new.costs t.take_leg.new.links t.take_leg.auto.costs
            (t.take_leg.ensures has.directions has.are.says) c.loop-end.invariant.most;
        least = λ root w are ready.
            let is : IsOrdered g root w = record { kept = c.requires.aiming.kept; ordered = are.ordered } in
            let kept_is = (place_says g d w x c.place-kept.result are.says c.requires.node c.place-kept.ensures).1 in
            let takes = c.takes_link.ensures.0 t.if-takes_link.true in
            let on =
            way_on d root (sought aiming w) own x place kept ends end mark is are.says marked kept_is
            (takes.0, is_set ∙ ap (λ (b : Bool). Some b) takes.1, takes.2) (sym t.leads_on.ensures ∙ t.if-leads_on.true) in
            all_taken_over aiming w own width c.args.all.now x place ends end c.loop-end.costs c.loop-end.links t.take_leg.new.costs t.take_leg.new.links is.kept
            (c.loop-end.auto.costs ∙ c.fill.ensures.len) there on (ready.each (w.lies_in end.link) end on.in_wanted on.step on.kept_to)
            (subst (λ (b : ℕ). AreTaken (left_at aiming w own x b end.to c.args.all.now width) end.metric end.link c.loop-end.costs c.loop-end.links
            t.take_leg.new.costs t.take_leg.new.links) (marked_block g d w x place ends end mark is.kept are.says marked)
            (subst (λ (n : ℕ). AreTaken (left_at aiming w own x mark.block end.to c.args.all.now n) end.metric end.link c.loop-end.costs c.loop-end.links
            t.take_leg.new.costs t.take_leg.new.links) (c.loop-end.auto.costs ∙ c.fill.ensures.len) (t.take_leg.ensures w are.says)))
            (c.loop-end.invariant.least root w are ready);
      })
      | else-takes_link t ↦ rw (t.costs-is, t.links-is) (record {
        most = c.loop-end.invariant.most;
        least = λ root w are ready.
            let is : IsOrdered g root w = record { kept = c.requires.aiming.kept; ordered = are.ordered } in
            let kept_is = (place_says g d w x c.place-kept.result are.says c.requires.node c.place-kept.ensures).1 in
            let none : IsWayOn (sought aiming w) own x place end → ⊥ = λ on. elim t.else-takes_link.branch [
              | else-takes_link-via-then-takes_link+else-leads_on t' ↦
                  no_way_back d root (sought aiming w) own x place kept ends end mark is are.says marked kept_is (sym t'.leads_on.ensures ∙ t'.if-leads_on.false) on
              | else-takes_link-via-else-takes_link t' ↦
                  let tells = taken_on d root (sought aiming w) own x place kept ends end mark is are.says marked kept_is on in
                  let yes = c.takes_link.ensures.1 (tells.0, same_Some (get_or wanted c.get.result false) true (sym is_set ∙ tells.1), tells.2) in
                  let no = t'.if-takes_link.false in false≢true (sym no ∙ yes)
            ] in
            all_passed aiming w own width x place ends end c.loop-end.costs c.loop-end.links list there none (c.loop-end.invariant.least root w are ready);
      })
    ]

pub returns-clause-least : goal.returns-clause-least
returns-clause-least c = λ root w ends are ready list.
    let same : c.ends-end-items.result.now ≡ ends = same_Some c.ends-end-items.result.now ends (sym c.ends-end-items.ensures.value ∙ list) in
    let all : c.loop-end.end-index ≡ length c.ends-end-items.result.now = omega (arith, c.loop-end-test.false, c.loop-end.auto.end-index-end) in
    subst (λ (es : List End). AreLeast c.args.aiming.now w c.args.own (length c.args.costs.now) c.args.x es (length es) c.loop-end.costs c.loop-end.links) same
    (subst (λ (n : ℕ). AreLeast c.args.aiming.now w c.args.own (length c.args.costs.now) c.args.x c.ends-end-items.result.now n c.loop-end.costs c.loop-end.links)
    all (c.loop-end.invariant.least root w are ready))
