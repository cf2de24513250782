use Rattle.std.proofs.Common.{◌∙◌, ◌*◌, ℕ, Bool, true, List, length, slice_get, refl, sym, ap, arith}
use Rattle.std.proofs.lemmas.List.{length-replicate, with_items_is}
use Rattle.block_spf.specs.BlockAims.{aim_at}
use Rattle.block_spf.proofs.AllMarked.{all_marked}
use Rattle.mrt_rows.specs.steps.ListedDirections.{directions_by}
use Rattle.mrt_rows.proofs.AimsOfRows.{common_within, home_aim}
use Rattle.mrt_rows.proofs.Rooting.{are_directions, has_directions, og_of}
use Rattle.mrt_rows.proofs.TileLinks.{tile_links}
use Rattle.mrt_rows.proofs.common.homes_of.Goals as goal

pub put_heads-requires-clause-directed : goal.put_heads-requires-clause-directed
put_heads-requires-clause-directed c = has_directions c.requires.rooted

pub put_heads-requires-clause-room : goal.put_heads-requires-clause-room
put_heads-requires-clause-room c = ap (λ (xs : List ℕ). length xs) c.deref_mut.ensures.value ∙ c.in_ok-homes.ensures.aims

pub aim-requires-clause-tiles : goal.aim-requires-clause-tiles
aim-requires-clause-tiles c =
    let g = c.args.rooted.now.graph.now in
    let are = c.in_ok-homes.ensures in
    let aims = with_items_is c.in_ok-homes.homes.aims c.put_heads.new.aims (c.put_heads.ensures.room ∙ c.deref_mut.ensures.len) in
    let wanted = c.fill.ensures.items (λ y same. same) in
    record {
      aims = ap (λ (xs : List ℕ). length xs) aims ∙ c.put_heads.ensures.room ∙ ap (λ (xs : List ℕ). length xs) c.deref_mut.ensures.value ∙ are.aims
          ∙ ap (λ (k : ℕ). length g.ids * k) (sym are.up.width);
      a_mark_each = ap (λ (bs : List Bool). length bs) wanted ∙ length-replicate _ true ∙ c.in_ok-homes.homes.wanted.ok.0 ∙ are.a_mark_each;
      up = record { nodes = are.up.nodes; width = refl };
      down = record { nodes = are.down.nodes; width = are.down.width ∙ sym are.up.width };
    }

pub returns-clause-one_place : goal.returns-clause-one_place
returns-clause-one_place c =
    let made = c.in_ok-homes.ensures in
    let aims = with_items_is c.in_ok-homes.homes.aims c.put_heads.new.aims (c.put_heads.ensures.room ∙ c.deref_mut.ensures.len) in
    let wanted = c.fill.ensures.items (λ y same. same) in
    c.aim.ensures.tiles 1 (record {
      aims = ap (λ (xs : List ℕ). length xs) aims ∙ c.put_heads.ensures.room ∙ ap (λ (xs : List ℕ). length xs) c.deref_mut.ensures.value ∙ made.aims;
      a_mark_each = ap (λ (bs : List Bool). length bs) wanted ∙ length-replicate _ true ∙ c.in_ok-homes.homes.wanted.ok.0 ∙ made.a_mark_each;
      up = made.up;
      down = made.down;
    })

pub returns-clause-homes : goal.returns-clause-homes
returns-clause-homes c =
    let rooted = c.args.rooted.now in
    let g = rooted.graph.now in
    let w = directions_by rooted in
    let og = og_of c.requires.rooted in
    let made = c.in_ok-homes.ensures in
    let aims = with_items_is c.in_ok-homes.homes.aims c.put_heads.new.aims (c.put_heads.ensures.room ∙ c.deref_mut.ensures.len) in
    let wanted = c.fill.ensures.items (λ y same. same) in
    let marks = c.in_ok-homes.homes.wanted.ok.0 ∙ made.a_mark_each in
    let homes = c.aim.new.self in
    record {
      each = λ v home within at.
          let head_within = c.requires.rooted.ordered.heads.head_within v within in
          tile_links g w homes 1 0 v (w.head v) home (returns-clause-one_place c) c.aim.ensures.aimed (omega arith) within head_within (λ k h share. (
            ap (λ (bs : List Bool). slice_get bs k) (c.aim.ensures.wanted ∙ wanted)
                ∙ all_marked _ k (omega (arith, marks, common_within og v (w.head v) k h within head_within share.common)),
            home_aim og v (aim_at homes.aims.items 1 0) within share.two (λ y y_within.
                ap (λ (xs : List ℕ). aim_at xs 1 0 (w.block y)) (c.aim.ensures.aims ∙ aims)
                ∙ (c.put_heads.ensures.heads rooted.root w (are_directions c.requires.rooted)).each 0 y (omega arith) y_within),
          )) at;
    }
