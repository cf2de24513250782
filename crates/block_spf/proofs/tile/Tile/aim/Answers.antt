use Rattle.std.proofs.Common.{◌≡◌, ◌∙◌, ◌<◌, ◌*◌, ℕ, Bool, List, false, true, Some, get_or, length, slice_index, inl, inr, sym, ap, subst, arith}
use Rattle.std.specs.Vec.{with_items}
use Rattle.std.proofs.lemmas.Bool.{cases_Bool, cases_eq, false≢true}
use Rattle.std.proofs.lemmas.List.{with_items_is}
use Rattle.std.proofs.lemmas.Option.{same_Some, slice_get-get_or}
use Rattle.mrt_graph.proofs.EndsAt.{list_of_ends}
use Rattle.block_spf.specs.steps.Aiming.{HaveOwnPaths}
use Rattle.block_spf.specs.Aiming.{IsAiming}
use Rattle.block_spf.specs.FirstLink.{HasLinksAt}
use Rattle.block_spf.specs.steps.Side.{AreCosts, IsRowPut}
use Rattle.block_spf.specs.TileEntries.{TileEntries}
use Rattle.block_spf.specs.steps.PathsOverEnds.{AreLeast, AreReady}
use Rattle.link_direction.proofs.ClosedBlocks.{IsOrdered}
use Rattle.block_spf.proofs.FirstLinks.{links_kept, links_stay}
use Rattle.block_spf.proofs.OwnWays.{all_ready}
use Rattle.block_spf.proofs.tile.Tile.aim.Goals as goal
use Rattle.block_spf.proofs.tile.Tile.aim.Goals.{then-heads-n, else-heads-n}

pub take_own_paths-requires-clause-aiming : goal.take_own_paths-requires-clause-aiming
take_own_paths-requires-clause-aiming c =
    subst (λ (n : ℕ). IsAiming c.args.aiming.now n)
    (sym (ap (λ (xs : List ℕ). length xs) c.deref_mut-3.ensures.value ∙ ap (λ (e : TileEntries). e.width) c.self.view_is)) c.requires.aiming

pub loop-n-init : goal.loop-n-init
loop-n-init c =
    let aiming = c.args.aiming.now in
    let tile = c.self.inside in
    let many = length c.deref_mut-3.result.now in
    let width = c.args.self.now.width in
    let view_width = ap (λ (e : TileEntries). e.width) c.self.view_is in
    let wide : many ≡ width = ap (λ (xs : List ℕ). length xs) c.deref_mut-3.ensures.value ∙ view_width in
    let all_costs = with_items_is tile.all_costs c.take_own_paths.new.all_costs (c.take_own_paths.auto.all_costs ∙ c.deref_mut.ensures.len) in
    let all_links = with_items_is tile.all_links c.take_own_paths.new.all_links (c.take_own_paths.auto.all_links ∙ c.deref_mut-2.ensures.len) in
    let costs = with_items_is tile.costs c.take_own_paths.new.costs (c.take_own_paths.auto.costs ∙ c.deref_mut-3.ensures.len) in
    let links = with_items_is tile.links c.take_own_paths.new.links (c.take_own_paths.auto.links ∙ c.deref_mut-4.ensures.len) in
    let costs_now = (with_items tile.all_costs c.take_own_paths.new.all_costs).items in
    let links_now = (with_items tile.all_links c.take_own_paths.new.all_links).items in
    let own : HaveOwnPaths aiming width costs_now links_now = subst (λ (n : ℕ). HaveOwnPaths aiming n costs_now links_now) wide
    (subst (λ (xs : List ℕ). HaveOwnPaths aiming many xs links_now) (sym all_costs)
    (subst (λ (ys : List ℕ). HaveOwnPaths aiming many c.take_own_paths.new.all_costs ys) (sym all_links) c.take_own_paths.ensures.own)) in
    let cost_room = ap (λ (xs : List ℕ). length xs) costs ∙ c.take_own_paths.auto.costs ∙ ap (λ (xs : List ℕ). length xs) c.deref_mut-3.ensures.value in
    let link_room = ap (λ (xs : List ℕ). length xs) links ∙ c.take_own_paths.auto.links ∙ ap (λ (xs : List ℕ). length xs) c.deref_mut-4.ensures.value in
    let wider = ap (λ (m : ℕ). tile.nodes * m) (sym cost_room) in
    record {
      nodes = ap (λ (e : TileEntries). e.nodes) c.self.view_is;
      width = cost_room ∙ view_width;
      kept = record {
        one_cost_each = ap (λ (xs : List ℕ). length xs) all_costs ∙ c.take_own_paths.auto.all_costs ∙ ap (λ (xs : List ℕ). length xs) c.deref_mut.ensures.value
            ∙ c.self.invariant.one_cost_each ∙ wider;
        one_link_each = ap (λ (xs : List ℕ). length xs) all_links ∙ c.take_own_paths.auto.all_links ∙ ap (λ (xs : List ℕ). length xs) c.deref_mut-2.ensures.value
            ∙ c.self.invariant.one_link_each ∙ wider;
        most = subst AreCosts (sym all_costs) c.take_own_paths.ensures.rows.most;
        one_place_each = link_room ∙ c.self.invariant.one_place_each ∙ sym cost_room;
      };
      own = own;
      linked = λ root s w are within at. elim at [
        | inl one ↦ (own root s w are within).linked one
        | inr early ↦ absurd (omega (arith, early.0))
      ];
    }

pub take_paths-requires-clause-aiming : goal.take_paths-requires-clause-aiming
take_paths-requires-clause-aiming c =
    subst (λ (n : ℕ). IsAiming c.args.aiming.now n)
    (sym (ap (λ (xs : List ℕ). length xs) c.deref_mut-then-heads-n.ensures.value ∙ c.loop-n.invariant.width)) c.requires.aiming

pub loop-n-preserved : goal.loop-n-preserved
loop-n-preserved c =
    let aiming = c.args.aiming.now in
    let g = aiming.graph.now in
    let heads = c.args.heads.now in
    let n = c.loop-n.n in
    let width = c.args.self.now.width in
    let tile = c.loop-n.self-inside in
    let before = c.loop-n.invariant in
    elim c.if-heads-n.branch [
      | then-heads-n t ↦
          let s = t.new-s.result in
          let all = t.keep.new.all in
          let wide = ap (λ (xs : List ℕ). length xs) t.deref_mut-then-heads-n.ensures.value ∙ before.width in
          let many = t.take_paths.auto.links ∙ ap (λ (xs : List ℕ). length xs) t.deref_mut-then-heads-n-2.ensures.value ∙ before.kept.one_place_each ∙ before.width in
          let links = with_items_is tile.links t.take_paths.new.links (t.take_paths.auto.links ∙ t.deref_mut-then-heads-n-2.ensures.len) in
          let all_links = with_items_is tile.all_links all (t.keep.auto.all ∙ t.deref_mut-then-heads-n-3.ensures.len) in
          let put = subst (λ (xs : List ℕ). IsRowPut s width (λ j. slice_index t.take_paths.new.links j) xs all) t.deref_mut-then-heads-n-3.ensures.value
          (subst (λ (m : ℕ). IsRowPut s m (λ j. slice_index t.take_paths.new.links j) t.deref_mut-then-heads-n-3.result.now all) many
          (subst (λ (xs : List ℕ). IsRowPut s (length xs) (λ j. slice_index xs j) t.deref_mut-then-heads-n-3.result.now all)
          (t.deref-then-heads-n.ensures.value ∙ links) t.keep.ensures)) in
          let s_within : s < length g.ids = omega (arith, t.new-s.ensures, c.loop-n-test.true, c.node_count-n-end.ensures.count) in
          let costs = with_items_is tile.costs t.take_paths.new.costs (t.take_paths.auto.costs ∙ t.deref_mut-then-heads-n.ensures.len) in
          let cost_room = ap (λ (xs : List ℕ). length xs) costs ∙ t.take_paths.auto.costs ∙ ap (λ (xs : List ℕ). length xs) t.deref_mut-then-heads-n.ensures.value in
          let link_room = ap (λ (xs : List ℕ). length xs) links ∙ t.take_paths.auto.links ∙ ap (λ (xs : List ℕ). length xs) t.deref_mut-then-heads-n-2.ensures.value in
          let wider = ap (λ (m : ℕ). tile.nodes * m) (sym cost_room) in
          rw (t.self-inside-is) (record {
            nodes = before.nodes;
            width = cost_room ∙ before.width;
            kept = record {
              one_cost_each = before.kept.one_cost_each ∙ wider;
              one_link_each = ap (λ (xs : List ℕ). length xs) all_links ∙ t.keep.auto.all ∙ ap (λ (xs : List ℕ). length xs) t.deref_mut-then-heads-n-3.ensures.value
                  ∙ before.kept.one_link_each ∙ wider;
              most = before.kept.most;
              one_place_each = link_room ∙ before.kept.one_place_each ∙ sym cost_room;
            };
            own = before.own;
            linked = λ root y w are within at.
                subst (λ (xs : List ℕ). HasLinksAt g w aiming.wanted.now aiming.dir aiming.aims.now width xs y) (sym all_links) (elim (cases_eq y s) [
                  | inl same ↦
                      let is : IsOrdered g root w = record { kept = c.requires.aiming.kept; ordered = are.ordered } in
                      let ends = list_of_ends g s is.kept s_within in
                      let ready = all_ready aiming root w width tile.all_costs.items _ s is (λ v v_within. before.own root v w are v_within) in
                      let ready_now = subst (λ (m : ℕ). AreReady aiming w false m t.deref.result.now s) (sym wide)
                      (subst (λ (xs : List ℕ). AreReady aiming w false width xs s) (sym t.deref.ensures.value) ready) in
                      subst (λ (v : ℕ). HasLinksAt g w aiming.wanted.now aiming.dir aiming.aims.now width all v) (sym same)
                      (links_kept aiming root w is false s width ends.0 t.take_paths.new.costs t.take_paths.new.links tile.all_links.items all s_within ends.1
                      (λ u k h inside share own. absurd (false≢true own))
                      (subst (λ (m : ℕ). AreLeast aiming w false m s ends.0 (length ends.0) t.take_paths.new.costs t.take_paths.new.links) wide
                      (t.take_paths.ensures.least root w ends.0 are ready_now ends.1)) put)
                  | inr other ↦
                      links_stay g w aiming.wanted.now aiming.dir aiming.aims.now width y s (λ j. slice_index t.take_paths.new.links j) tile.all_links.items all other put
                      (before.linked root y w are within (elim at [
                        | inl one ↦ inl one
                        | inr early ↦ inr (omega (arith, early.0, other, t.new-s.ensures), early.1)
                      ]))
                ]);
          })
      | else-heads-n t ↦ rw (t.self-inside-is) (record {
        nodes = before.nodes;
        width = before.width;
        kept = before.kept;
        own = before.own;
        linked = λ root y w are within at. before.linked root y w are within (elim at [
          | inl one ↦ inl one
          | inr early ↦ elim (cases_eq y n) [
            | inl same ↦
                let here = slice_get-get_or heads y false (omega (arith, within, c.requires.heads)) in
                let clear = here ∙ ap (λ (b : Bool). Some b) (ap (λ (k : ℕ). get_or heads k false) same ∙ t.if-heads-n.false) in
                let no = same_Some false true (sym clear ∙ early.1) in absurd (false≢true no)
            | inr other ↦ inr (omega (arith, early.0, other), early.1)
          ]
        ]);
      })
    ]

pub returns-clause-aimed : goal.returns-clause-aimed
returns-clause-aimed c = λ root w are one. record {
  each = λ s within.
      let aiming = c.args.aiming.now in
      let heads = c.args.heads.now in
      let here = slice_get-get_or heads s false (omega (arith, within, c.requires.heads)) in
      subst (λ (n : ℕ). HasLinksAt aiming.graph.now w aiming.wanted.now aiming.dir aiming.aims.now n c.loop-n.self-inside.all_links.items s)
      (sym c.loop-n.invariant.width)
      (c.loop-n.invariant.linked root s w are within (elim (cases_Bool (get_or heads s false)) [
        | inl set ↦ inr (omega (arith, within, c.loop-n-test.false, c.node_count-n-end.ensures.count), here ∙ ap (λ (b : Bool). Some b) set)
        | inr unset ↦ inl (one.each s within (here ∙ ap (λ (b : Bool). Some b) unset))
      ]));
}

pub returns-clause-nodes : goal.returns-clause-nodes
returns-clause-nodes c = c.loop-n.invariant.nodes

pub returns-clause-width : goal.returns-clause-width
returns-clause-width c = c.loop-n.invariant.width

pub invariant_of-self : goal.invariant_of-self
invariant_of-self c = c.loop-n.invariant.kept
