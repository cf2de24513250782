-- The first links of a node to what it aims at, as they are held.
use Rattle.std.proofs.Common.{◌≡◌, ◌≢◌, ◌∙◌, ◌<◌, ◌+◌, ◌*◌, ℕ, Bool, false, true, Some, get_or, length, slice_get, slice_index, inl, inr, refl, sym, ap, subst, arith}
use Rattle.std.proofs.lemmas.Option.{same_Some, slice_get-get_or, slice_get_read, slice_get_within}
use Rattle.mrt_graph.specs.DirectedLists.{DirectedLists}
use Rattle.mrt_graph.specs.Topology.{Topology}
use Rattle.link_direction.specs.Directions.{Directions}
use Rattle.block_spf.specs.BlockAims.{aim_at}
use Rattle.block_spf.specs.LeastPath.{HaveCommonBlockOfMoreLinks}
use Rattle.mrt_rows.specs.declared.column.Columns.{Columns}
use Rattle.mrt_rows.specs.declared.column.Target.{Target}
use Rattle.mrt_rows.specs.declared.row_over.FirstLinks.{FirstLinks}
use Rattle.mrt_rows.specs.Chain.{AreWayAims, Climbs}
use Rattle.mrt_rows.specs.steps.Chain.{IsRowAim}
use Rattle.mrt_rows.specs.AimedColumns.{AreAimed, AreBothAimed}
use Rattle.mrt_rows.specs.Put.{AreFirstLinks}
use Rattle.mrt_rows.specs.ListedDirections.{directions_of}
use Rattle.mrt_rows.specs.TilesAimed.{HaveLinksAt}
use Rattle.mrt_rows.proofs.AimsOfRows.{aim_on_way, aims_alike, own_block, row_aim_on_way, way_aim, way_marked}
use Rattle.mrt_rows.proofs.ChainAims.{aim_within}
use Rattle.mrt_rows.proofs.OrderedGraphs.{OrderedGraph}
use Rattle.mrt_rows.proofs.Rooting.{og_of}
use Rattle.mrt_rows.proofs.TileLinks.{tile_links}

module _ (g : Topology) (root : ℕ) (d : DirectedLists) (columns : Columns) (to : Target) (aimed : AreAimed g root d columns to) (s a : ℕ)
    (s_within : s < length g.ids) (row_aim : IsRowAim (directions_of g d) columns.below.items s a) (away : (directions_of g d).head s ≢ a) where
  abbrev w : Directions
  w = directions_of g d

  abbrev og : OrderedGraph
  og = og_of aimed.rooted

  abbrev width : ℕ
  width = length columns.targets.items

  -- what the blocks aim at for the destination at a place
  abbrev aim : ℕ → ℕ → ℕ
  aim j = aim_at columns.each.aims.items width j

  both : AreBothAimed g root w columns
  both = aimed.held.aimed to.at to.node aimed.place aimed.within

  pub below : to.at < width
  below = slice_get_within columns.targets.items to.at to.node aimed.place

  pub a_within : a < length g.ids
  a_within = aim_within og to.node aimed.within columns.below.items aimed.below s a s_within row_aim

  on_way : Climbs root w to.node a × (a ≢ root)
  on_way = row_aim_on_way og to.node columns.below.items aimed.below s a row_aim away

  ways : AreWayAims g root w to.node (aim to.at) both.marks
  ways = both.aims.each to.at to.node aimed.place

  marked : (k h : ℕ) → HaveCommonBlockOfMoreLinks g w s a k h → slice_get both.marks k ≡ Some true
  marked k h share = way_marked og to.node aimed.within (aim to.at) both.marks ways s a share.two on_way.0 on_way.1 away k h share

  -- the mark that is read is that of the aim's block
  pub shared_mark : (i : ℕ) (mark : Bool) → i ≡ w.block a → mark ≡ get_or columns.shared.wanted.items i mark
      → slice_get columns.shared.wanted.items (w.block a) ≡ Some mark
  shared_mark i mark is read =
      let within = aimed.rooted.ordered.heads.block_within a a_within in
      subst (λ (x : ℕ). slice_get columns.shared.wanted.items x ≡ Some mark) is
      (slice_get_read columns.shared.wanted.items (length columns.shared.wanted.items) i mark refl (omega (arith, is, within, aimed.held.shared.a_mark_each)) read)

  -- at the place of the destination
  pub each_links : (links : FirstLinks) → slice_get columns.shared.wanted.items (w.block a) ≡ Some false
      → HaveLinksAt columns.each s to.at links → AreFirstLinks g w s a links
  each_links links not_shared at =
      tile_links g w columns.each width to.at s a links aimed.held.each both.each below s_within a_within (λ k h share. (
        elim (both.parted.marked k (marked k h share)) [
          | inl wanted ↦ wanted
          | inr now ↦
              let is_block = own_block og s a k h share.common away in
              let no : false ≡ true = same_Some false true (sym not_shared ∙ ap (λ (b : ℕ). slice_get columns.shared.wanted.items b) (sym is_block) ∙ now) in (cc)
        ],
        way_aim og to.node aimed.within (aim to.at) both.marks ways s a share.two on_way.0 on_way.1 away k h share.common,
      )) at

  -- at the one place, where the block aims at one node for all destinations: so for the first of them, to which s aims alike
  pub shared_links : (links : FirstLinks) → slice_get columns.shared.wanted.items (w.block a) ≡ Some true
      → HaveLinksAt columns.shared s 0 links → AreFirstLinks g w s a links
  shared_links links is_shared at =
      tile_links g w columns.shared 1 0 s a links aimed.held.shared both.shared (omega arith) s_within a_within (λ k h share. (
        ap (λ (b : ℕ). slice_get columns.shared.wanted.items b) (own_block og s a k h share.common away) ∙ is_shared,
        aims_alike og (aim 0) (aim_at columns.shared.aims.items 1 0) s a s_within a_within
            (λ i i_within. ap (λ (x : ℕ). slice_index columns.shared.aims.items x) (one_each i) ∙ both.parted.first i i_within)
            (way_aim og first first_within (aim 0) both.marks first_ways s a share.two (aim_on_way og first first_within (aim 0) both.marks first_ways a a_within on_way.1 alike)
            on_way.1 away k h share.common),
      )) at
    where
      one_each : (i : ℕ) → i * 1 + 0 ≡ i
      one_each i = omega arith

      first : ℕ
      first = get_or columns.targets.items 0 0

      first_there : slice_get columns.targets.items 0 ≡ Some first
      first_there = slice_get-get_or columns.targets.items 0 0 aimed.held.some_places

      first_within : first < length g.ids
      first_within = both.within 0 first first_there

      first_ways : AreWayAims g root w first (aim 0) both.marks
      first_ways = both.aims.each 0 first first_there

      alike : aim 0 (w.block a) ≡ a
      alike =
          sym (both.parted.first (w.block a) (aimed.rooted.ordered.heads.block_within a a_within)) ∙ sym (both.parted.alike to.at (w.block a) below is_shared)
          ∙ ways.on a on_way.0 on_way.1
