use Rattle.std.proofs.Common.{◌≡◌, ◌<◌, ◌*◌, ◌∙◌, ℕ, Bool, List, Some, length, slice_get, refl, sym, ap, subst, arith}
use Rattle.std.specs.Vec.{with_items}
use Rattle.std.proofs.lemmas.List.{with_items_is}
use Rattle.block_spf.specs.declared.reach.Dir.TheVariants.{Down, Up}
use Rattle.block_spf.specs.Turns.{AreTurns}
use Rattle.mrt_rows.specs.NearOf.{AreSoles}
use Rattle.mrt_rows.specs.Put.{AreHeadsMarked}
use Rattle.mrt_rows.specs.steps.ListedDirections.{directions_by}
use Rattle.mrt_rows.proofs.HeldColumns.{aims_moved, shared_moved}
use Rattle.mrt_rows.proofs.column.Columns.aim_tiles.Goals as goal

as_one : (a n m : ℕ) → a ≡ n * 1 → m ≡ n → a ≡ m
as_one a n m one many = omega arith

pub put_ways-requires-clause-soles : goal.put_ways-requires-clause-soles
put_ways-requires-clause-soles c =
    subst (λ (xs : List ℕ). AreSoles c.args.rooted.now.graph.now (directions_by c.args.rooted.now) xs) (sym c.deref.ensures.value) c.requires.held.common.soles

pub put_ways-requires-clause-within : goal.put_ways-requires-clause-within
put_ways-requires-clause-within c = λ j t at. c.requires.within j t (subst (λ (ts : List ℕ). slice_get ts j ≡ Some t) c.deref-2.ensures.value at)

pub put_ways-requires-clause-room : goal.put_ways-requires-clause-room
put_ways-requires-clause-room c =
    ap (λ (xs : List ℕ). length xs) c.deref_mut.ensures.value ∙ c.requires.held.each.aims
    ∙ ap (λ (k : ℕ). length c.args.rooted.now.graph.now.ids * k) (ap (λ (ts : List ℕ). length ts) (sym c.deref-2.ensures.value))

pub put_ways-requires-clause-a_mark_each : goal.put_ways-requires-clause-a_mark_each
put_ways-requires-clause-a_mark_each c = ap (λ (bs : List Bool). length bs) c.deref_mut-2.ensures.value ∙ c.requires.held.each.a_mark_each

pub aim-requires-clause-by_order : goal.aim-requires-clause-by_order
aim-requires-clause-by_order c =
    let rooted = c.args.rooted.now in
    subst (λ (turns : List ℕ). AreTurns rooted.graph.now (directions_by rooted) Up turns) (sym c.deref-4.ensures.value) c.requires.held.common.by_order

pub aim-requires-clause-against_order : goal.aim-requires-clause-against_order
aim-requires-clause-against_order c =
    let rooted = c.args.rooted.now in
    subst (λ (turns : List ℕ). AreTurns rooted.graph.now (directions_by rooted) Down turns) (sym c.deref-5.ensures.value) c.requires.held.common.against_order

pub aim-requires-clause-a_mark_each : goal.aim-requires-clause-a_mark_each
aim-requires-clause-a_mark_each c = ap (λ (bs : List Bool). length bs) c.deref-6.ensures.value ∙ c.requires.held.common.a_mark_each

pub aim-requires-clause-heads : goal.aim-requires-clause-heads
aim-requires-clause-heads c =
    let rooted = c.args.rooted.now in
    subst (λ (hs : List Bool). AreHeadsMarked rooted.graph.now (directions_by rooted) hs) (sym c.deref-6.ensures.value) c.requires.held.common.marked

pub aim-requires-2-clause-by_order : goal.aim-requires-2-clause-by_order
aim-requires-2-clause-by_order c =
    let rooted = c.args.rooted.now in
    subst (λ (turns : List ℕ). AreTurns rooted.graph.now (directions_by rooted) Up turns) (sym c.deref-7.ensures.value) c.requires.held.common.by_order

pub aim-requires-2-clause-against_order : goal.aim-requires-2-clause-against_order
aim-requires-2-clause-against_order c =
    let rooted = c.args.rooted.now in
    subst (λ (turns : List ℕ). AreTurns rooted.graph.now (directions_by rooted) Down turns) (sym c.deref-8.ensures.value) c.requires.held.common.against_order

pub aim-requires-2-clause-a_mark_each : goal.aim-requires-2-clause-a_mark_each
aim-requires-2-clause-a_mark_each c = ap (λ (bs : List Bool). length bs) c.deref-9.ensures.value ∙ c.requires.held.common.a_mark_each

pub aim-requires-2-clause-heads : goal.aim-requires-2-clause-heads
aim-requires-2-clause-heads c =
    let rooted = c.args.rooted.now in
    subst (λ (hs : List Bool). AreHeadsMarked rooted.graph.now (directions_by rooted) hs) (sym c.deref-9.ensures.value) c.requires.held.common.marked

pub take_shared-requires-clause-some : goal.take_shared-requires-clause-some
take_shared-requires-clause-some c = subst (λ (n : ℕ). 0 < n) (sym (c.len.ensures ∙ c.args.self.now.targets.ok.0)) c.requires.held.some_places

pub take_shared-requires-clause-room : goal.take_shared-requires-clause-room
take_shared-requires-clause-room c =
    let g = c.args.rooted.now.graph.now in
    let held = c.requires.held in
    let columns = c.args.self.now in
    let aims = with_items_is columns.each.aims c.put_ways.new.aims (c.put_ways.ensures.room ∙ c.deref_mut.ensures.len) in
    let put = with_items_is columns.each.wanted c.put_ways.new.marks (c.put_ways.auto.marks ∙ c.deref_mut-2.ensures.len) in
    let as_many = ap (λ (bs : List Bool). length bs) (c.deref_mut-3.ensures.value ∙ put) ∙ c.put_ways.ensures.a_mark_each in
    ap (λ (xs : List ℕ). length xs) (c.deref-3.ensures.value ∙ aims) ∙ c.put_ways.ensures.room
    ∙ ap (λ (xs : List ℕ). length xs) c.deref_mut.ensures.value ∙ held.each.aims
    ∙ ap (λ (k : ℕ). length g.ids * k) (sym (c.len.ensures ∙ columns.targets.ok.0)) ∙ ap (λ (n : ℕ). n * c.len.result) (sym as_many)

pub take_shared-requires-clause-one_first_each : goal.take_shared-requires-clause-one_first_each
take_shared-requires-clause-one_first_each c =
    let put = with_items_is c.args.self.now.each.wanted c.put_ways.new.marks (c.put_ways.auto.marks ∙ c.deref_mut-2.ensures.len) in
    let as_many = ap (λ (bs : List Bool). length bs) (c.deref_mut-3.ensures.value ∙ put) ∙ c.put_ways.ensures.a_mark_each in
    let firsts = ap (λ (xs : List ℕ). length xs) c.deref_mut-4.ensures.value ∙ c.requires.held.shared.aims in
    as_one _ _ _ firsts as_many

pub take_shared-requires-clause-a_mark_each : goal.take_shared-requires-clause-a_mark_each
take_shared-requires-clause-a_mark_each c =
    let put = with_items_is c.args.self.now.each.wanted c.put_ways.new.marks (c.put_ways.auto.marks ∙ c.deref_mut-2.ensures.len) in
    let as_many = ap (λ (bs : List Bool). length bs) (c.deref_mut-3.ensures.value ∙ put) ∙ c.put_ways.ensures.a_mark_each in
    ap (λ (bs : List Bool). length bs) c.deref_mut-5.ensures.value ∙ c.requires.held.shared.a_mark_each ∙ sym as_many

pub aim-requires-clause-tiles : goal.aim-requires-clause-tiles
aim-requires-clause-tiles c =
    let g = c.args.rooted.now.graph.now in
    let each = c.requires.held.each in
    let columns = c.args.self.now in
    let marks = c.put_ways.new.marks in
    let aims = with_items_is columns.each.aims c.put_ways.new.aims (c.put_ways.ensures.room ∙ c.deref_mut.ensures.len) in
    let put = with_items_is columns.each.wanted marks (c.put_ways.auto.marks ∙ c.deref_mut-2.ensures.len) in
    let left = with_items_is (with_items columns.each.wanted marks) c.take_shared.new.wanted (c.take_shared.auto.wanted ∙ c.deref_mut-3.ensures.len) in
    record {
      aims = ap (λ (xs : List ℕ). length xs) aims ∙ c.put_ways.ensures.room ∙ ap (λ (xs : List ℕ). length xs) c.deref_mut.ensures.value ∙ each.aims
          ∙ ap (λ (k : ℕ). length g.ids * k) (sym each.up.width);
      a_mark_each = ap (λ (bs : List Bool). length bs) left ∙ c.take_shared.auto.wanted
          ∙ ap (λ (bs : List Bool). length bs) (c.deref_mut-3.ensures.value ∙ put) ∙ c.put_ways.ensures.a_mark_each;
      up = record { nodes = each.up.nodes; width = refl };
      down = record { nodes = each.down.nodes; width = each.down.width ∙ sym each.up.width };
    }

pub aim-requires-2-clause-tiles : goal.aim-requires-2-clause-tiles
aim-requires-2-clause-tiles c =
    let g = c.args.rooted.now.graph.now in
    let shared = c.requires.held.shared in
    let columns = c.args.self.now in
    let firsts = with_items_is columns.shared.aims c.take_shared.new.firsts (c.take_shared.auto.firsts ∙ c.deref_mut-4.ensures.len) in
    let taken = with_items_is columns.shared.wanted c.take_shared.new.shared (c.take_shared.auto.shared ∙ c.deref_mut-5.ensures.len) in
    record {
      aims = ap (λ (xs : List ℕ). length xs) firsts ∙ c.take_shared.auto.firsts ∙ ap (λ (xs : List ℕ). length xs) c.deref_mut-4.ensures.value
          ∙ shared.aims ∙ ap (λ (k : ℕ). length g.ids * k) (sym shared.up.width);
      a_mark_each = ap (λ (bs : List Bool). length bs) taken ∙ c.take_shared.auto.shared ∙ ap (λ (bs : List Bool). length bs) c.deref_mut-5.ensures.value
          ∙ shared.a_mark_each;
      up = record { nodes = shared.up.nodes; width = refl };
      down = record { nodes = shared.down.nodes; width = shared.down.width ∙ sym shared.up.width };
    }

pub returns-clause-held : goal.returns-clause-held
returns-clause-held c =
    let rooted = c.args.rooted.now in
    let g = rooted.graph.now in
    let w = directions_by rooted in
    let held = c.requires.held in
    let columns = c.args.self.now in
    let marks = c.put_ways.new.marks in
    let aims = with_items_is columns.each.aims c.put_ways.new.aims (c.put_ways.ensures.room ∙ c.deref_mut.ensures.len) in
    let put = with_items_is columns.each.wanted marks (c.put_ways.auto.marks ∙ c.deref_mut-2.ensures.len) in
    let left = with_items_is (with_items columns.each.wanted marks) c.take_shared.new.wanted (c.take_shared.auto.wanted ∙ c.deref_mut-3.ensures.len) in
    let firsts = with_items_is columns.shared.aims c.take_shared.new.firsts (c.take_shared.auto.firsts ∙ c.deref_mut-4.ensures.len) in
    let taken = with_items_is columns.shared.wanted c.take_shared.new.shared (c.take_shared.auto.shared ∙ c.deref_mut-5.ensures.len) in
    let as_many = ap (λ (bs : List Bool). length bs) (c.deref_mut-3.ensures.value ∙ put) ∙ c.put_ways.ensures.a_mark_each in
    record {
      common = held.common;
      one_below_each = held.one_below_each;
      some_places = held.some_places;
      each = c.aim.ensures.tiles (length columns.targets.items) (record {
        aims = ap (λ (xs : List ℕ). length xs) aims ∙ c.put_ways.ensures.room ∙ ap (λ (xs : List ℕ). length xs) c.deref_mut.ensures.value ∙ held.each.aims;
        a_mark_each = ap (λ (bs : List Bool). length bs) left ∙ c.take_shared.auto.wanted ∙ as_many;
        up = held.each.up;
        down = held.each.down;
      });
      shared = c.aim-2.ensures.tiles 1 (record {
        aims = ap (λ (xs : List ℕ). length xs) firsts ∙ c.take_shared.auto.firsts ∙ ap (λ (xs : List ℕ). length xs) c.deref_mut-4.ensures.value
            ∙ held.shared.aims;
        a_mark_each = ap (λ (bs : List Bool). length bs) taken ∙ c.take_shared.auto.shared ∙ ap (λ (bs : List Bool). length bs) c.deref_mut-5.ensures.value
            ∙ held.shared.a_mark_each;
        up = held.shared.up;
        down = held.shared.down;
      });
      aimed = λ j t at inside. record {
        within = c.requires.within;
        marks = marks;
        aims = aims_moved g rooted.root w columns.targets.items c.deref-2.result.now c.put_ways.new.aims c.aim.new.self.aims.items marks c.deref-2.ensures.value
            (sym (c.aim.ensures.aims ∙ aims)) c.put_ways.ensures.aims;
        parted = shared_moved _ _ _ _ _ _ _ _ _ _ _ _ _ _ as_many (c.len.ensures ∙ columns.targets.ok.0) (c.deref-3.ensures.value ∙ sym c.aim.ensures.aims)
            (c.deref_mut-3.ensures.value ∙ put) (sym (c.aim.ensures.wanted ∙ left)) (sym (c.aim-2.ensures.aims ∙ firsts)) (sym (c.aim-2.ensures.wanted ∙ taken))
            c.take_shared.ensures;
        each = c.aim.ensures.aimed;
        shared = c.aim-2.ensures.aimed;
      };
    }
