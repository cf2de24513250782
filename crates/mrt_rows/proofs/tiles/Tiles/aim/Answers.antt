use Rattle.std.proofs.Common.{◌≡◌, ◌*◌, ◌∙◌, ℕ, Bool, List, length, sym, subst, ap}
use Rattle.mrt_graph.specs.Topology.{Topology}
use Rattle.link_direction.specs.Directions.{Directions}
use Rattle.block_spf.specs.declared.reach.Dir.{Dir}
use Rattle.block_spf.specs.declared.reach.Dir.TheVariants.{Down, Up}
use Rattle.block_spf.specs.Tile.{IsAimed}
use Rattle.block_spf.specs.TileEntries.{TileEntries}
use Rattle.mrt_rows.specs.steps.ListedDirections.{directions_by}
use Rattle.mrt_rows.proofs.Rooting.{are_directions, has_directions, og_of, turns_too}
use Rattle.mrt_rows.proofs.Sharing.{others_in_one_block}
use Rattle.mrt_rows.proofs.tiles.Tiles.aim.Goals as goal

aimed_moved : (g : Topology) (w : Directions) (dir : Dir) (wanted marks : List Bool) (aims others : List ℕ) (tile : TileEntries) → wanted ≡ marks → aims ≡ others
    → IsAimed g w wanted dir aims tile → IsAimed g w marks dir others tile
aimed_moved g w dir wanted marks aims others tile alike same is =
    subst (λ (bs : List Bool). IsAimed g w bs dir others tile) alike (subst (λ (xs : List ℕ). IsAimed g w wanted dir xs tile) same is)

pub aim-requires-clause-aiming : goal.aim-requires-clause-aiming
aim-requires-clause-aiming c =
    let g = c.args.rooted.now.graph.now in
    record {
      kept = c.requires.rooted.kept;
      directed = has_directions c.requires.rooted;
      turns = λ from w are. turns_too c.requires.rooted w are.says Down c.args.against_order.now c.requires.against_order;
      aims = ap (λ (xs : List ℕ). length xs) c.as_slice.ensures.value ∙ c.requires.tiles.aims;
      a_mark_each = ap (λ (bs : List Bool). length bs) c.as_slice-2.ensures.value ∙ c.requires.tiles.a_mark_each;
    }

pub aim-requires-clause-nodes : goal.aim-requires-clause-nodes
aim-requires-clause-nodes c = c.requires.tiles.up.nodes

pub aim-requires-2-clause-aiming : goal.aim-requires-2-clause-aiming
aim-requires-2-clause-aiming c =
    let g = c.args.rooted.now.graph.now in
    record {
      kept = c.requires.rooted.kept;
      directed = has_directions c.requires.rooted;
      turns = λ from w are. turns_too c.requires.rooted w are.says Up c.args.by_order.now c.requires.by_order;
      aims = ap (λ (xs : List ℕ). length xs) c.as_slice-3.ensures.value ∙ c.requires.tiles.aims
          ∙ ap (λ (k : ℕ). length g.ids * k) (sym c.requires.tiles.down.width);
      a_mark_each = ap (λ (bs : List Bool). length bs) c.as_slice-4.ensures.value ∙ c.requires.tiles.a_mark_each;
    }

pub aim-requires-2-clause-nodes : goal.aim-requires-2-clause-nodes
aim-requires-2-clause-nodes c = c.requires.tiles.down.nodes

pub returns-clause-tiles : goal.returns-clause-tiles
returns-clause-tiles c = λ places are. record {
  aims = are.aims;
  a_mark_each = are.a_mark_each;
  up = record { nodes = c.aim.ensures.nodes ∙ are.up.nodes; width = c.aim.ensures.width ∙ are.up.width };
  down = record { nodes = c.aim-2.ensures.nodes ∙ are.down.nodes; width = c.aim-2.ensures.width ∙ are.down.width };
}

pub returns-clause-aimed : goal.returns-clause-aimed
returns-clause-aimed c =
    let rooted = c.args.rooted.now in
    let g = rooted.graph.now in
    let w = directions_by rooted in
    let are = are_directions c.requires.rooted in
    let others = others_in_one_block (og_of c.requires.rooted) c.args.heads.now c.requires.heads in
    record {
      up = aimed_moved g w Up _ _ _ _ c.aim.new.self c.as_slice-2.ensures.value c.as_slice.ensures.value (c.aim.ensures.aimed rooted.root w are others);
      down = aimed_moved g w Down _ _ _ _ c.aim-2.new.self c.as_slice-4.ensures.value c.as_slice-3.ensures.value
          (c.aim-2.ensures.aimed rooted.root w are others);
    }
