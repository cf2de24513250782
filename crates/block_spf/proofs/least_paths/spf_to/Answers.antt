use Rattle.std.proofs.Common.{◌≡◌, ◌∙◌, ◌<◌, ◌≤◌, ◌+◌, ◌*◌, ℕ, Bool, true, false, List, Option, Some, get_or, length, length-set, set, slice_get, inl, inr, refl, sym, ap, subst, arith}
use Rattle.std.specs.Prelude.{replicate}
use Rattle.std.proofs.lemmas.Bool.{cases_eq, false≢true}
use Rattle.std.proofs.lemmas.Grind.{get_or_default_zero}
use Rattle.std.proofs.lemmas.List.{get_or-replicate, length-replicate, with_items_is}
use Rattle.std.proofs.lemmas.Option.{same_Some, slice_get_within}
use Rattle.mrt_graph.specs.GraphInvariant.{IsTopology}
use Rattle.mrt_graph.proofs.EndsAt.{list_of_ends}
use Rattle.mrt_graph.proofs.ListPlaces.{set_elsewhere, set_there}
use Rattle.link_direction.specs.CommonBlock.{FromHead, HaveCommonBlock, Peers, ToHead}
use Rattle.link_direction.specs.Directions.{Directions}
use Rattle.block_spf.specs.declared.aiming.Aiming.{Aiming}
use Rattle.block_spf.specs.declared.reach.Dir.{Dir}
use Rattle.block_spf.specs.declared.reach.Hop.{Hop}
use Rattle.block_spf.specs.Against.{against}
use Rattle.block_spf.specs.Aiming.{IsAiming}
use Rattle.block_spf.specs.BlockAims.{IsAimOf, aim_at}
use Rattle.block_spf.specs.HasDirections.{AreDirections, HasDirections}
use Rattle.block_spf.specs.LeastPath.{IsHop}
use Rattle.block_spf.specs.Rest.{far}
use Rattle.block_spf.specs.Turns.{AreTurns}
use Rattle.block_spf.specs.steps.PathsOverEnds.{AreLeast, AreReady, sought}
use Rattle.link_direction.proofs.ClosedBlocks.{IsOrdered}
use Rattle.block_spf.proofs.AllMarked.{all_marked}
use Rattle.block_spf.proofs.OwnWays.{all_ready}
use Rattle.block_spf.proofs.SameDirections.{directions_are}
use Rattle.block_spf.proofs.SideBySide.{far_costs}
use Rattle.block_spf.proofs.WaysArePaths.{least_hop}
use Rattle.block_spf.proofs.least_paths.spf_to.Goals as goal

-- the block of two nodes is named by one
block_of_two : (n root : ℕ) (w : Directions) → ((v : ℕ) → v < n → w.block v < n) → (s t k h : ℕ) → s < n → t < n → HaveCommonBlock w s t k h → k < n
block_of_two n root w named s t k h within t_within (Peers a b c) = omega (arith, a, named s within)
block_of_two n root w named s t k h within t_within (ToHead a b c) = omega (arith, a, named s within)
block_of_two n root w named s t k h within t_within (FromHead a b c) = omega (arith, a, named t t_within)

one_row : (count n : ℕ) → count ≡ n → length (replicate count far) ≡ n * 1
one_row count n same = omega (arith, length-replicate count far, same)

none_early : (s : ℕ) → s < 0 → ⊥
none_early s below = omega (arith, below)

first_place : 0 < 1
first_place = omega arith

inside : (s n count many : ℕ) → s ≡ n → n < count → count ≡ many → s < many
inside s n count many is below same = omega (arith, is, below, same)

counted : (k n count : ℕ) → k < n → count ≡ n → k < count
counted k n count below same = omega (arith, below, same)

earlier : (v n : ℕ) → v < n + 1 → (v ≡ n → ⊥) → v < n
earlier v n below other = omega (arith, below, other)

all_early : (s n count many long : ℕ) → s < long → long ≡ many → count ≡ many → count ≤ n → s < n
all_early s n count many long within one_each same all = omega (arith, within, one_each, same, all)

-- what is aimed so
aiming_is : (aiming : Aiming) (other : Dir) (turns aims : List ℕ) (wanted : List Bool) → IsTopology aiming.graph.now → HasDirections aiming.graph.now aiming.directed.now
    → other ≡ against aiming.dir → aiming.turns.now ≡ turns → aiming.aims.now ≡ aims → aiming.wanted.now ≡ wanted → length wanted ≡ length aiming.graph.now.ids
    → length aims ≡ length aiming.graph.now.ids
    → ((root : ℕ) (w : Directions) → AreDirections aiming.graph.now aiming.directed.now root w → AreTurns aiming.graph.now w other turns) → IsAiming aiming 1
aiming_is aiming other turns aims wanted kept directed dir_is turns_are aims_are wanted_is marks long are =
    let one_each : length aiming.graph.now.ids ≡ length aiming.graph.now.ids * 1 = omega arith in
    record {
      kept = kept;
      directed = directed;
      turns = λ root w it. subst (λ (xs : List ℕ). AreTurns aiming.graph.now w (against aiming.dir) xs) (sym turns_are)
          (subst (λ (dd : Dir). AreTurns aiming.graph.now w dd turns) dir_is (are root w it));
      aims = ap (λ (xs : List ℕ). length xs) aims_are ∙ long ∙ one_each;
      a_mark_each = ap (λ (bs : List Bool). length bs) wanted_is ∙ marks;
    }

-- all blocks aim at t
aimed_at : (aiming : Aiming) (root : ℕ) (w : Directions) → IsOrdered aiming.graph.now root w → (s t : ℕ) → s < length aiming.graph.now.ids → t < length aiming.graph.now.ids
    → aiming.aims.now ≡ replicate (length aiming.graph.now.ids) t → IsAimOf aiming.graph.now w (aim_at aiming.aims.now 1 0) s t
aimed_at aiming root w is s t within t_within same = record {
  aimed = λ k h common. aim k (block_of_two n root w is.ordered.heads.block_within s t k h within t_within common);
  alone = λ u k h u_within apart common onward. aim k (block_of_two n root w is.ordered.heads.block_within s u k h within u_within common);
}
  where
    n : ℕ
    n = length aiming.graph.now.ids

    aim : (k : ℕ) → k < n → aim_at aiming.aims.now 1 0 k ≡ t
    aim k below =
        let at : k * 1 + 0 ≡ k = omega arith in
        ap (λ (xs : List ℕ). get_or xs (k * 1 + 0) 0) same ∙ ap (λ (i : ℕ). get_or (replicate n t) i 0) at ∙ get_or-replicate n k t 0 below

pub take_own_paths-requires-clause-aiming : goal.take_own_paths-requires-clause-aiming
take_own_paths-requires-clause-aiming c =
    aiming_is _ c.against.result c.in_ok-turns.turns.items c.in_ok-aims.aims.items c.in_ok-wanted.wanted.items c.node_count-count.ensures.kept c.requires.directed
    c.against.ensures c.as_slice.ensures.value c.as_slice-2.ensures.value c.as_slice-3.ensures.value
    (sym c.in_ok-wanted.wanted.ok.0 ∙ c.in_ok-wanted.ensures.len ∙ c.node_count-count.ensures.count)
    (sym c.in_ok-aims.aims.ok.0 ∙ c.in_ok-aims.ensures.len ∙ c.node_count-count.ensures.count) c.in_ok-turns.ensures

pub take_own_paths-requires-clause-rows : goal.take_own_paths-requires-clause-rows
take_own_paths-requires-clause-rows c =
    let count = c.node_count-count.result in
    let blank : c.deref_mut.result.now ≡ replicate count far = c.deref_mut.ensures.value ∙ c.in_ok-all.ensures.items_if_clones_equal (λ y same. same) in
    rw blank (record { one_each = one_row count (length c.args.g.now.ids) c.node_count-count.ensures.count; most = far_costs count })

pub loop-n-init : goal.loop-n-init
loop-n-init c =
    let made : length c.in_ok-hops.hops.items ≡ c.node_count-count.result = sym c.in_ok-hops.hops.ok.0 ∙ c.in_ok-hops.ensures.len in
    record {
      one_each = made ∙ c.node_count-count.ensures.count;
      one_cost = c.take_own_paths.auto.costs;
      one_link = c.take_own_paths.auto.links;
      done = λ root s w hop are below. absurd (none_early s below);
    }

pub take_paths-requires-clause-aiming : goal.take_paths-requires-clause-aiming
take_paths-requires-clause-aiming c =
    rw c.loop-n.invariant.one_cost
    (aiming_is _ c.against.result c.in_ok-turns.turns.items c.in_ok-aims.aims.items c.in_ok-wanted.wanted.items c.node_count-count.ensures.kept c.requires.directed
    c.against.ensures c.as_slice.ensures.value c.as_slice-2.ensures.value c.as_slice-3.ensures.value
    (sym c.in_ok-wanted.wanted.ok.0 ∙ c.in_ok-wanted.ensures.len ∙ c.node_count-count.ensures.count)
    (sym c.in_ok-aims.aims.ok.0 ∙ c.in_ok-aims.ensures.len ∙ c.node_count-count.ensures.count) c.in_ok-turns.ensures)

pub take_paths-requires-clause-node : goal.take_paths-requires-clause-node
take_paths-requires-clause-node c =
    inside c.new-s.result c.loop-n.n c.node_count-count.result (length c.args.g.now.ids) c.new-s.ensures c.loop-n-test.true c.node_count-count.ensures.count

pub take_paths-requires-clause-one_link_each : goal.take_paths-requires-clause-one_link_each
take_paths-requires-clause-one_link_each c = c.loop-n.invariant.one_link ∙ sym c.loop-n.invariant.one_cost

pub take_paths-requires-clause-rows : goal.take_paths-requires-clause-rows
take_paths-requires-clause-rows c =
    let all = c.deref.ensures.value ∙ with_items_is c.in_ok-all.all c.take_own_paths.new.all_costs (c.take_own_paths.auto.all_costs ∙ c.deref_mut.ensures.len) in
    rw (c.loop-n.invariant.one_cost, all) c.take_own_paths.ensures.rows

pub loop-n-preserved : goal.loop-n-preserved
loop-n-preserved c =
    let g = c.args.g.now in
    let t = c.args.target in
    let dir = c.args.dir in
    let kept = c.node_count-count.ensures.kept in
    let s = c.new-s.result in
    let n = c.loop-n.n in
    let hops = c.loop-n.hops.items in
    let new = c.hop_by.result in
    let costs = c.take_paths.new.costs in
    let links = c.take_paths.new.links in
    let all = c.deref.ensures.value ∙ with_items_is c.in_ok-all.all c.take_own_paths.new.all_costs (c.take_own_paths.auto.all_costs ∙ c.deref_mut.ensures.len) in
    let aiming : Aiming = record { graph = c.args.g; directed = c.args.d; dir = dir; turns = c.as_slice.result; aims = c.as_slice-2.result; wanted = c.as_slice-3.result } in
    let marks : c.in_ok-wanted.wanted.items ≡ replicate c.node_count-count.result true = c.in_ok-wanted.ensures.items_if_clones_equal (λ y same. same) in
    let aims : c.in_ok-aims.aims.items ≡ replicate c.node_count-count.result t = c.in_ok-aims.ensures.items_if_clones_equal (λ y same. same) in
    let within : s < length g.ids = inside s n c.node_count-count.result (length g.ids) c.new-s.ensures c.loop-n-test.true c.node_count-count.ensures.count in
    record {
      one_each = length-set hops n new ∙ c.loop-n.invariant.one_each;
      one_cost = c.take_paths.auto.costs ∙ c.loop-n.invariant.one_cost;
      one_link = c.take_paths.auto.links ∙ c.loop-n.invariant.one_link;
      done = λ root v w hop are below at. elim (cases_eq v n) [
        | inl same ↦
            let is : IsOrdered g root w = record { kept = kept; ordered = are.ordered } in
            let ends = list_of_ends g s kept within in
            let it = aimed_at aiming root w is s t within c.requires.target (c.as_slice-2.ensures.value ∙ aims ∙ ap (λ (m : ℕ). replicate m t) c.node_count-count.ensures.count) in
            let ready = all_ready aiming root w 1 c.take_own_paths.new.all_costs c.take_own_paths.new.all_links s is (λ y y_within. c.take_own_paths.ensures.own root y w are y_within) in
            let ready_all = subst (λ (xs : List ℕ). AreReady aiming w false 1 xs s) (sym all) ready in
            let least = (subst (λ (m : ℕ). AreLeast aiming w false m s ends.0 (length ends.0) costs links) c.loop-n.invariant.one_cost
            (c.take_paths.ensures.least root w ends.0 are
            (subst (λ (m : ℕ). AreReady aiming w false m c.deref.result.now s) (sym c.loop-n.invariant.one_cost) ready_all) ends.1)).each 0 first_place in
            let found = least_hop (sought aiming w) root is false s t (aim_at aiming.aims.now 1 0) _ _ ends.0 ends.1 (λ own two. absurd (false≢true own)) (λ k h share. (
              (λ own. absurd (false≢true own)),
              subst (λ (bs : List Bool). slice_get bs k ≡ Some true) (sym (c.as_slice-3.ensures.value ∙ marks)) (all_marked c.node_count-count.result k
                  (counted k (length g.ids) c.node_count-count.result (block_of_two (length g.ids) root w is.ordered.heads.block_within s t k h within c.requires.target share.common) c.node_count-count.ensures.count)),
              it.aimed k h share.common,
            )) (λ u k h u_within apart common own onward. it.alone u k h u_within apart common (onward refl)) least in
            let link = get_or_default_zero links 0 c.index-links-0.result (subst (λ (m : ℕ). 0 < m) (sym (c.take_paths.auto.links ∙ c.loop-n.invariant.one_link)) first_place) in
            let now = subst (λ (x : ℕ). slice_get (set hops n new) x ≡ Some hop) same at in
            let new_is : new ≡ hop = same_Some new hop (sym (set_there hops n new (inside n s (length g.ids) (length hops) (sym c.new-s.ensures) within (sym c.loop-n.invariant.one_each))) ∙ now) in
            subst (λ (o : Option Hop). IsHop g w dir v t o) new_is
            (subst (λ (y : ℕ). IsHop g w dir y t new) (c.new-s.ensures ∙ sym same) (rw (c.hop_by.ensures, link) found))
        | inr other ↦ c.loop-n.invariant.done root v w hop are (earlier v n below other) (sym (set_elsewhere hops n v new other) ∙ at)
      ];
    }

pub returns : goal.returns
returns c = λ w says.
    let g = c.args.g.now in
    let are = directions_are g c.args.d.now w c.node_count-count.ensures.kept c.requires.directed says in
    let hops = c.loop-n.hops.items in
    (record {
      one_each = c.loop-n.invariant.one_each;
      each = λ s hop at.
          c.loop-n.invariant.done c.requires.directed.root s w hop are
          (all_early s c.loop-n.n c.node_count-count.result (length g.ids) (length hops) (slice_get_within hops s hop at) c.loop-n.invariant.one_each
          c.node_count-count.ensures.count c.loop-n-test.false) at;
    })

pub index_mut-requires : goal.index_mut-requires
index_mut-requires c = omega (arith, c.loop-n-test.true, c.node_count-count.ensures.count, c.loop-n.invariant.one_each, c.loop-n.hops.ok.0)
