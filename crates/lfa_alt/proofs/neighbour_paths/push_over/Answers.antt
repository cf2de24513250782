use Rattle.std.proofs.Common.{◌≡◌, ◌∙◌, ◌<◌, ℕ, List, Some, get_or, length, slice_get, sym, refl, arith}
use Rattle.std.proofs.lemmas.Result.{on_ok_weaker}
use Rattle.area_graph.specs.declared.area_types.Arc.{Arc}
use Rattle.area_graph.specs.Parts.{AreaParts}
use Rattle.primary_alt.proofs.ArcWalks.{network_by_test, no_network_by_test}
use Rattle.primary_alt.proofs.Beginning.{at_own}
use Rattle.lfa_alt.specs.Candidates.{Leaves}
use Rattle.lfa_alt.proofs.PathsFound.{network_adds, router_adds}
use Rattle.lfa_alt.proofs.neighbour_paths.push_over.Goals as goal

-- an arc that is read by its number leaves the source
read_leaves : (area : AreaParts) (s number : ℕ) (own : List Arc) (place : ℕ) (read : Arc) → own ≡ area.arcs → number < length own
    → ((arc : Arc) → slice_get own number ≡ Some arc → arc.tail ≡ s) → place ≡ number → read ≡ get_or own place read → Leaves area s number read
read_leaves area s number own place read same within from here stands =
    let low : place < length own = omega (arith, here, within) in
    record {
      there = at_own area.arcs own place number read same here low stands;
      from = from read (at_own own own place number read refl here low stands);
    }

pub returns-in_ok-push : goal.returns-in_ok-push
returns-in_ok-push c =
    let area = c.args.area.now in
    let arc : Arc = c.index-arcs-get.result in
    let leaves = read_leaves area c.args.source c.args.number c.args.arcs.now c.get.result arc c.requires.arcs c.requires.within c.requires.from c.get.ensures.value c.index-arcs-get.is in
    let network = network_by_test area.ids arc.to (sym c.is_network.ensures ∙ c.if-is_network.true) in
    on_ok_weaker c.push_across.result
    (λ are.
    network_adds area c.args.source c.args.number arc leaves c.requires.kept network c.args.paths.now.items c.push.new.self.items c.push_across.new.paths.items c.path_over.result c.path_over.ensures
    c.in_ok-push.ensures.items
    (rw c.requires.arcs at are))
    c.push_across.ensures

pub returns-in_ok-push-2 : goal.returns-in_ok-push-2
returns-in_ok-push-2 c =
    let area = c.args.area.now in
    let arc : Arc = c.index-arcs-get.result in
    let leaves = read_leaves area c.args.source c.args.number c.args.arcs.now c.get.result arc c.requires.arcs c.requires.within c.requires.from c.get.ensures.value c.index-arcs-get.is in
    let router = no_network_by_test area.ids arc.to (sym c.is_network.ensures ∙ c.if-is_network.false) in
    router_adds area c.args.source c.args.number arc leaves router c.args.paths.now.items c.push-else-is_network.new.self.items c.path_over-else-is_network.result
    c.path_over-else-is_network.ensures c.in_ok-push-2.ensures.items
