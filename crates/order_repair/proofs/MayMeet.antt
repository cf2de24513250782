-- The nodes that a walk on a color may meet, and the links that it may cross, by where its source and its destination stand.
use Rattle.std.specs.Prelude.{⊤}
use Rattle.std.proofs.Common.{◌≡◌, ◌≢◌, ◌⊎◌, ◌∙◌, ◌++◌, ◌<◌, ℕ, [], ◌∷◌, Option, Some, length, refl, sym, subst, inl, inr}
use Rattle.mrt_graph.specs.declared.cert.Color.{Color}
use Rattle.mrt_graph.specs.declared.cert.Role.TheVariants.{Closing, Plain}
use Rattle.mrt_graph.specs.declared.cert.Row.{Row}
use Rattle.mrt_graph.specs.Hop.{Hop, color_hop}
use Rattle.mrt_graph.specs.Rows.{Rows, link_of_color}
use Rattle.block_spf.specs.declared.reach.Dir.{Dir}
use Rattle.block_spf.specs.declared.reach.Dir.TheVariants.{Down, Up}
use Rattle.block_spf.specs.Against.{against}
use Rattle.block_spf.specs.Path.{Path}
use Rattle.mrt_rows.specs.RowsOf.{HasRow}
use Rattle.mrt_rows.proofs.OrderedGraphs.{OrderedGraph, step_over}
use Rattle.mrt_rows.proofs.Ways.{Inside, Ring, Way, not_head, put_after, top_down}
use Rattle.mrt_rows.proofs.WaysBegun.{Sharing, peers}
use Rattle.order_repair.proofs.Avoiding.{Goes, hop_is}
use Rattle.order_repair.proofs.Moving.{Along, Aside, Past, aside_way, dir_of, head_way, out_way, over, past_way, peer_row, peer_way, under}
use Rattle.order_repair.proofs.RowWays.{RowWays, row_ways, way_of}
use Rattle.order_repair.proofs.Steps.{IsFrom, IsHome, IsInner, IsOut, IsOver, first_step, from_itself, from_on, one_step, out_step, peer_step, way_back, way_on}

-- a link that is crossed in this direction: a plain one, or a closing one, where that may be
pub data Crossed (Closes : Type 0) (og : OrderedGraph) (m : ℕ) (dir : Dir) (e u y : ℕ) : Type 0 where
  Plainly : IsOver og m dir e u y → og.w.role e ≡ Plain → Crossed Closes og m dir e u y
  Closingly : og.w.role e ≡ Closing → Closes → Crossed Closes og m dir e u y

pub crossed_too : (P Q : Type 0) → (P → Q) → (og : OrderedGraph) (m : ℕ) (dir : Dir) (e u y : ℕ) → Crossed P og m dir e u y
    → Crossed Q og m dir e u y
crossed_too P Q f og m dir e u y (Plainly over plain) = Plainly over plain
crossed_too P Q f og m dir e u y (Closingly closing p) = Closingly closing (f p)

crossed_home : (og : OrderedGraph) (m top : ℕ) (dir : Dir) (e u y : ℕ) → IsHome og m top dir e u y → Crossed (dir ≡ Up) og m dir e u y
crossed_home og m top Up e u y home = Closingly home.role.0 refl
crossed_home og m top Down e u y home = Plainly home.over home.role

crossed_out : (og : OrderedGraph) (m : ℕ) (dir : Dir) (e u y : ℕ) → IsOut og m dir e u y → Crossed (dir ≡ Down) og m dir e u y
crossed_out og m Up e u y out = Plainly out.over out.role
crossed_out og m Down e u y out = Closingly out.role refl

-- a way to a node of the block, and a step from there
way_then : (og : OrderedGraph) (m : ℕ) (ring : Ring og m) (dir : Dir) (s u e y : ℕ) → Way og m dir s u → Inside og m u
    → IsInner og m dir e u y → Way og m dir s y
way_then og m ring dir s u e y way inside inner =
    let step = step_over og dir (og.w.block m) e u y inner.over.onward inner.over.block inner.over.tail in
    record {
      path = way.path ++ step.end ∷ [];
      is = subst (λ (x : ℕ). Path og.g og.w dir (og.w.block m) (og.w.head m) s (way.path ++ step.end ∷ []) x) step.to
          (put_after og m dir s way.path u step.end way.is (not_head og m ring u inside) step.step);
    }

module _ (og : OrderedGraph) (m : ℕ) (ring : Ring og m) (rows : Rows) (t : ℕ)
    (tabled : (u : ℕ) → u < length og.g.ids → u ≢ t → HasRow og.g og.root og.w u (rows u) t) (color : Color) where
  abbrev h : ℕ
  h = og.w.head m

  abbrev dir : Dir
  dir = dir_of color

  abbrev next : ℕ → Option Hop
  next = color_hop og.g.links rows color t

  -- the row of a node, and the ways that its links begin
  record RowAt (u : ℕ) : Type 0 where
    row : Row
    is : rows u t ≡ Some row
    ways : RowWays og m u t row.blue row.red row.tag

  row_at : (u : ℕ) → Sharing og m u t → RowAt u
  row_at u sharing =
      let it = tabled u sharing.source sharing.two in
      record { row = it.row; is = it.is; ways = row_ways og m ring u t sharing it.row.tag (rows u) it.row it.line }

  -- the link of the color
  abbrev link_at : (u : ℕ) → RowAt u → ℕ
  link_at u at = link_of_color color at.row

  -- the hop of a row, and what keeps more where less is kept
  goes : (May : ℕ → Type 0) (Crosses : ℕ → ℕ → ℕ → Type 0) (d : Dir) (u y : ℕ) (at : RowAt u) → IsOver og m d (link_at u at) u y → (y ≡ t) ⊎ May y
      → Crosses (link_at u at) u y → Goes next May Crosses t u
  goes May Crosses d u y at over keeps crosses =
      record { hop = record { link = link_at u at; to = y }; takes = hop_is og.g.links rows color t u at.row y at.is over.onward; keeps = keeps; crosses = crosses }

  onward : (May Too : ℕ → Type 0) (Crosses Also : ℕ → ℕ → ℕ → Type 0) (u : ℕ) → ((y : ℕ) → May y → Too y)
      → ((e y : ℕ) → Crosses e u y → Also e u y) → Goes next May Crosses t u → Goes next Too Also t u
  onward May Too Crosses Also u keep cross go = record {
    hop = go.hop;
    takes = go.takes;
    keeps = elim go.keeps [ inl there ↦ inl there | inr on ↦ inr (keep go.hop.to on) ];
    crosses = cross go.hop.link go.hop.to go.crosses;
  }

  -- to the head
  abbrev pub MayHead : ℕ → ℕ → Type 0
  MayHead s u = Inside og m u × IsFrom og dir s u

  pub goes_head : t ≡ h → (s u : ℕ) → MayHead s u → u ≢ t → Goes next (MayHead s) (Crossed (dir ≡ Up) og m dir) t u
  goes_head home s u may other =
      let at = row_at u (under og m ring t u may.0 home) in
      let way = head_way og m ring t at.row u color at.ways may.0 home in
      elim (first_step og m ring dir u h (link_at u at) may.0 way) [
        | inl inner ↦
            goes (MayHead s) (Crossed (dir ≡ Up) og m dir) dir u way.end.to at inner.over
            (inr (inner.inside, from_on og dir s u way.end.to may.1 inner.beyond)) (Plainly inner.over inner.plain)
        | inr last ↦
            goes (MayHead s) (Crossed (dir ≡ Up) og m dir) dir u way.end.to at last.over (inl (last.there ∙ sym home))
            (crossed_home og m ring.closed.greatest dir (link_at u at) u way.end.to last)
      ]

  module _ (target : Inside og m t) where
    beside : (u : ℕ) → Inside og m u → u ≢ t → Sharing og m u t
    beside u inside other = peers og m u t ring inside target other

    -- on a way to t in the color's direction
    abbrev pub MayPeer : ℕ → ℕ → Type 0
    MayPeer s u = Inside og m u × Way og m dir u t × IsFrom og dir s u

    pub goes_peer : (s u : ℕ) → MayPeer s u → u ≢ t → Goes next (MayPeer s) (Crossed ⊥ og m dir) t u
    goes_peer s u may other =
        let at = row_at u (beside u may.0 other) in
        let way = peer_way og m ring t at.row u may.0 target color (peer_row og m ring t at.row u may.0 target color at.ways) may.1 in
        let step = peer_step og m ring dir u t (link_at u at) may.0 target way in
        goes (MayPeer s) (Crossed ⊥ og m dir) dir u way.end.to at step.inner.over
        (elim step.rest [ inl there ↦ inl there | inr rest ↦ inr (step.inner.inside, rest, from_on og dir s u way.end.to may.2 step.inner.beyond) ])
        (Plainly step.inner.over step.inner.plain)

    -- from the head on, where that may be met
    abbrev pub MayAfter : Type 0 → ℕ → Type 0
    MayAfter AtHead u = (AtHead × (u ≡ h)) ⊎ (Inside og m u × Way og m dir u t)

    pub goes_after : (AtHead : Type 0) (u : ℕ) → MayAfter AtHead u → u ≢ t
        → Goes next (MayAfter AtHead) (Crossed (dir ≡ Down) og m dir) t u
    goes_after AtHead u may other = elim may [
      | inl home ↦
          let at = row_at u (over og m ring t u home.1 target) in
          let way = out_way og m ring t at.row u color at.ways home.1 target in
          let step = out_step og m ring dir t (link_at u at) target way in
          let out = subst (λ (x : ℕ). IsOut og m dir (link_at u at) x way.end.to) (sym home.1) step.out in
          goes (MayAfter AtHead) (Crossed (dir ≡ Down) og m dir) dir u way.end.to at out.over
          (elim step.rest [ inl there ↦ inl there | inr rest ↦ inr (inr (out.inside, rest)) ]) (crossed_out og m dir (link_at u at) u way.end.to out)
      | inr on ↦
          onward (MayPeer u) (MayAfter AtHead) (Crossed ⊥ og m dir) (Crossed (dir ≡ Down) og m dir) u (λ y keeps. inr (keeps.0, keeps.1))
          (λ e y crossed. crossed_too ⊥ (dir ≡ Down) (λ none. absurd none) og m dir e u y crossed)
          (goes_peer u u (on.0, on.1, from_itself og dir u) other)
    ]

    -- home to the head, from a node from which a way leads to t against the color's direction
    abbrev pub MayPast : ℕ → ℕ → Type 0
    MayPast s u = (Inside og m u × Way og m (against dir) u t × IsFrom og dir s u) ⊎ MayAfter ⊤ u

    pub goes_past : (s u : ℕ) → MayPast s u → u ≢ t → Goes next (MayPast s) (Crossed ⊤ og m dir) t u
    goes_past s u may other = elim may [
      | inl back ↦
          let at = row_at u (beside u back.0 other) in
          let way = past_way og m ring t at.row u back.0 target color (peer_row og m ring t at.row u back.0 target color at.ways) back.1 in
          elim (first_step og m ring dir u h (link_at u at) back.0 way) [
            | inl inner ↦
                goes (MayPast s) (Crossed ⊤ og m dir) dir u way.end.to at inner.over
                (inr (inl (inner.inside, way_back og m ring dir (link_at u at) u way.end.to t back.0 inner.over back.1, from_on og dir s u way.end.to back.2 inner.beyond)))
                (Plainly inner.over inner.plain)
            | inr last ↦
                goes (MayPast s) (Crossed ⊤ og m dir) dir u way.end.to at last.over (inr (inr (inl (tt, last.there))))
                (crossed_too (dir ≡ Up) ⊤ (λ p. tt) og m dir (link_at u at) u way.end.to (crossed_home og m ring.closed.greatest dir (link_at u at) u way.end.to last))
          ]
      | inr after ↦
          onward (MayAfter ⊤) (MayPast s) (Crossed (dir ≡ Down) og m dir) (Crossed ⊤ og m dir) u (λ y on. inr on)
          (λ e y crossed. crossed_too (dir ≡ Down) ⊤ (λ p. tt) og m dir e u y crossed) (goes_after ⊤ u after other)
    ]

    -- a node to which a way leads from s against the color's direction, and from which none leads to t
    pub record IsAside (s u : ℕ) : Type 0 where
      pub inside : Inside og m u
      pub from : (u ≡ s) ⊎ Way og m (against dir) s u
      pub none_on : Way og m dir u t → ⊥
      pub none_back : Way og m (against dir) u t → ⊥

    abbrev pub MayAside : ℕ → ℕ → Type 0
    MayAside s u = IsAside s u ⊎ MayAfter (dir ≡ Up) u

    -- against the color's direction from such a node, and else in it
    pub data CrossedAside (s e u y : ℕ) : Type 0 where
      Back : IsAside s u → IsOver og m (against dir) e u y → og.w.role e ≡ Plain → CrossedAside s e u y
      On : MayAfter (dir ≡ Up) u → Crossed (dir ≡ Down) og m dir e u y → CrossedAside s e u y

    -- to another node of the block
    aside_on : (s u y e : ℕ) → IsAside s u → IsInner og m (against dir) e u y → (y ≡ t) ⊎ MayAside s y
    aside_on s u y e aside inner =
        let none_back : Way og m (against dir) y t → ⊥ = (λ way. aside.none_back (way_on og m ring (against dir) e u y t inner way)) in
        let not_there : y ≢ t = (λ there. aside.none_back (one_step og m ring (against dir) e u y t inner there)) in
        let at = row_at y (beside y inner.inside not_there) in
        elim (peer_row og m ring t at.row y inner.inside target color at.ways) [
          | Along over ↦ inr (inr (inr (inner.inside, way_of og m dir y t (link_at y at) over)))
          | Past back home ↦ absurd (none_back back)
          | Aside none_on also_back home ↦ inr (inl (record {
            inside = inner.inside;
            from = inr (elim aside.from [
              | inl same ↦ one_step og m ring (against dir) e s y y (subst (λ (x : ℕ). IsInner og m (against dir) e x y) same inner) refl
              | inr way ↦ way_then og m ring (against dir) s u e y way aside.inside inner
            ]);
            none_on = none_on;
            none_back = none_back;
          }))
        ]

    -- home to the head: only down
    aside_home : (c : Color) → dir_of c ≡ dir → (s u y e : ℕ) → IsAside s u → u ≢ t
        → IsHome og m ring.closed.greatest (against (dir_of c)) e u y → (dir ≡ Up) × (y ≡ h) × (og.w.role e ≡ Plain)
    aside_home c same s u y e aside other home = go (dir_of c) same home
      where
        go : (d : Dir) → d ≡ dir → IsHome og m ring.closed.greatest (against d) e u y
            → (dir ≡ Up) × (y ≡ h) × (og.w.role e ≡ Plain)
        go Up is last = (sym is, last.there, last.role)
        go Down is last =
            let down = top_down og m ring t target (λ at_top. other (last.role.1 ∙ sym at_top)) in
            absurd (aside.none_on (subst (λ (d : Dir). Way og m d u t) is (subst (λ (x : ℕ). Way og m Down x t) (sym last.role.1) down)))

    pub goes_aside : (s u : ℕ) → MayAside s u → u ≢ t → Goes next (MayAside s) (CrossedAside s) t u
    goes_aside s u may other = elim may [
      | inl aside ↦
          let at = row_at u (beside u aside.inside other) in
          let way = aside_way og m ring t at.row u aside.inside target color (peer_row og m ring t at.row u aside.inside target color at.ways) aside.none_on aside.none_back in
          elim (first_step og m ring (against dir) u h (link_at u at) aside.inside way) [
            | inl inner ↦
                goes (MayAside s) (CrossedAside s) (against dir) u way.end.to at inner.over (aside_on s u way.end.to (link_at u at) aside inner)
                (Back aside inner.over inner.plain)
            | inr last ↦
                let home = aside_home color refl s u way.end.to (link_at u at) aside other last in
                goes (MayAside s) (CrossedAside s) (against dir) u way.end.to at last.over (inr (inr (inl (home.0, home.1))))
                (Back aside last.over home.2)
          ]
      | inr after ↦
          onward (MayAfter (dir ≡ Up)) (MayAside s) (Crossed (dir ≡ Down) og m dir) (CrossedAside s) u (λ y on. inr on)
          (λ e y crossed. On after crossed) (goes_after (dir ≡ Up) u after other)
    ]
