-- What a walk on a color goes round: what it may neither meet nor cross.
use Rattle.std.specs.Prelude.{if◌then◌else◌}
use Rattle.std.proofs.Common.{◌≡◌, ◌≢◌, ◌⊎◌, ◌∙◌, ◌<◌, ◌≤◌, ◌&&◌, ℕ, [], ◌∷◌, List, Option, Some, None, leb, length, refl, sym, ap, subst, inl, inr, arith}
use Rattle.std.proofs.lemmas.Bool.{and_from, and_parts, both_ways, cond_both, le-leb, leb-false, leb-true}
use Rattle.std.proofs.lemmas.Option.{same_Some}
use Rattle.mrt_graph.specs.declared.cert.Color.{Color}
use Rattle.mrt_graph.specs.declared.cert.Color.TheVariants.{Blue, Red}
use Rattle.mrt_graph.specs.declared.cert.Role.TheVariants.{Closing, Plain}
use Rattle.mrt_graph.specs.declared.link.Element.{Element}
use Rattle.mrt_graph.specs.declared.link.Element.TheVariants as elements
use Rattle.mrt_graph.specs.declared.link.End.{End}
use Rattle.mrt_graph.specs.Alternate.{UsesOn}
use Rattle.mrt_graph.specs.Hop.{color_hop}
use Rattle.mrt_graph.specs.Leads.{leads}
use Rattle.mrt_graph.specs.Rows.{Rows}
use Rattle.mrt_graph.proofs.Bridge.{color_leads}
use Rattle.mrt_graph.proofs.Hops.{lead_back}
use Rattle.block_spf.specs.declared.reach.Dir.{Dir}
use Rattle.block_spf.specs.declared.reach.Dir.TheVariants.{Down, Up}
use Rattle.block_spf.specs.declared.reach.Hop.{Hop as Least}
use Rattle.block_spf.specs.Against.{against}
use Rattle.block_spf.specs.LeastPath.{IsHop, Reached}
use Rattle.block_spf.specs.Path.{Path}
use Rattle.mrt_rows.specs.RowsOf.{HasRow}
use Rattle.mrt_rows.proofs.HopsExist.{has_hop}
use Rattle.mrt_rows.proofs.OrderedGraphs.{OrderedGraph}
use Rattle.mrt_rows.proofs.Ways.{Inside, Ring, Way, head_lower, not_head, put_before}
use Rattle.mrt_rows.proofs.WaysBegun.{no_way, peers, share, way_over}
use Rattle.order_repair.specs.OrderChoice.{LeadsTo}
use Rattle.order_repair.proofs.Avoiding.{Goes, Never, not_used}
use Rattle.order_repair.proofs.MayMeet.{Back, Closingly, Crossed, CrossedAside, IsAside, MayAfter, MayAside, On, Plainly}
use Rattle.order_repair.proofs.Moving.{dir_of}
use Rattle.order_repair.proofs.RowWays.{way_of}
use Rattle.order_repair.proofs.Steps.{IsOver, beyond_on}

-- the walk on a color does not use x
abbrev pub IsRound : OrderedGraph → Rows → ℕ → ℕ → Element → Color → Type 0
IsRound og rows s t x color = UsesOn og.g.links (length og.g.ids) rows s t x color → ⊥

-- so it is where none of the nodes that it may meet and of the links that it may cross is x
pub walks_round : (og : OrderedGraph) (rows : Rows) (s t : ℕ) (x : Element) (color : Color) (May : ℕ → Type 0) (Crosses : ℕ → ℕ → ℕ → Type 0)
    → ((u : ℕ) → May u → u ≢ t → Goes (color_hop og.g.links rows color t) May Crosses t u) → May s → Never May Crosses t x → IsRound og rows s t x color
walks_round og rows s t x color May Crosses goes may never uses =
    not_used og.g.links (color_hop og.g.links rows color t) (color_leads og.g.links rows color t) May Crosses t goes x never (length og.g.ids) s may uses

-- by a test of two numbers, and by one of two such tests
pub by_most : (og : OrderedGraph) (rows : Rows) (s t : ℕ) (x : Element) (i j : ℕ) (this that : Color) → (i ≤ j → IsRound og rows s t x this)
    → (j < i → IsRound og rows s t x that) → IsRound og rows s t x (if leb i j then this else that)
by_most og rows s t x i j this that holds fails =
    cond_both (leb i j) this that (IsRound og rows s t x) (λ yes. holds (leb-true i j yes)) (λ no. fails (leb-false i j no))

pub by_both : (og : OrderedGraph) (rows : Rows) (s t : ℕ) (x : Element) (i j k l : ℕ) (this that : Color)
    → (i ≤ j → k ≤ l → IsRound og rows s t x this) → ((i ≤ j → k ≤ l → ⊥) → IsRound og rows s t x that)
    → IsRound og rows s t x (if leb i j && leb k l then this else that)
by_both og rows s t x i j k l this that holds fails =
    cond_both (leb i j && leb k l) this that (IsRound og rows s t x)
    (λ yes. let both = and_parts (leb i j) (leb k l) yes in holds (leb-true i j both.0) (leb-true k l both.1))
    (λ no. fails (λ first second. both_ways (leb i j && leb k l) no (and_from (leb i j) (leb k l) (le-leb i j first) (le-leb k l second))))

-- what has failed lies between two nodes: a node is both, and a plain link leads from the one to the other
pub data Lies (og : OrderedGraph) (t : ℕ) : Element → ℕ → ℕ → Type 0 where
  AsNode : (f : ℕ) → f ≢ t → Lies og t (elements.Node f) f f
  AsLink : (e v : ℕ) → og.w.role e ≡ Plain → leads og.g.links e (og.w.tail e) ≡ Some v → Lies og t (elements.Link e) (og.w.tail e) v

-- from which of the two it is passed in a direction, and to which
abbrev pub near : Dir → ℕ → ℕ → ℕ
near Up a v = a
near Down a v = v

abbrev pub far : Dir → ℕ → ℕ → ℕ
far dir a v = near dir v a

ends_of : (og : OrderedGraph) (m : ℕ) (dir : Dir) (e u y v : ℕ) → leads og.g.links e (og.w.tail e) ≡ Some v → IsOver og m dir e u y
    → (near dir (og.w.tail e) v ≡ u) × (far dir (og.w.tail e) v ≡ y)
ends_of og m Up e u y v is over = (
  over.tail,
  same_Some v y (sym is ∙ subst (λ (x : ℕ). leads og.g.links e x ≡ Some y) (sym over.tail) over.onward),
)
ends_of og m Down e u y v is over = (
  same_Some v u (sym is ∙ subst (λ (x : ℕ). leads og.g.links e x ≡ Some u) (sym over.tail)
      (lead_back og.g.links e u y over.onward)),
  over.tail,
)

same_end : (dir : Dir) (f : ℕ) → near dir f f ≡ f
same_end Up f = refl
same_end Down f = refl

-- a plain link is crossed as one, and a closing link as one
plainly : (Closes : Type 0) (og : OrderedGraph) (m : ℕ) (dir : Dir) (e u y : ℕ) → og.w.role e ≡ Plain
    → Crossed Closes og m dir e u y → IsOver og m dir e u y
plainly Closes og m dir e u y plain (Plainly over is) = over
plainly Closes og m dir e u y plain (Closingly closing closes) = absurd (cc (plain, closing))

pub closingly : (Closes : Type 0) (og : OrderedGraph) (m : ℕ) (dir : Dir) (e u y : ℕ) → og.w.role e ≡ Closing
    → Crossed Closes og m dir e u y → Closes
closingly Closes og m dir e u y closing (Plainly over plain) = absurd (cc (plain, closing))
closingly Closes og m dir e u y closing (Closingly is closes) = closes

-- so it is passed in no other way
pub never_passed : (og : OrderedGraph) (m : ℕ) (Closes : Type 0) (May : ℕ → Type 0) (dir : Dir) (t : ℕ) (x : Element) (a v : ℕ) → Lies og t x a v
    → (May (near dir a v) → (far dir a v ≡ t) ⊎ May (far dir a v) → ⊥) → Never May (Crossed Closes og m dir) t x
never_passed og m Closes May dir t _ _ _ (AsNode f not_t) never = (
  not_t,
  λ may. let here = subst May (sym (same_end dir f)) may in never here (inr here),
)
never_passed og m Closes May dir t _ _ _ (AsLink e v plain onward) never = λ u y may other next crossed.
    let ends = ends_of og m dir e u y v onward (plainly Closes og m dir e u y plain crossed) in
    never (subst May (sym ends.0) may) (subst (λ (z : ℕ). (z ≡ t) ⊎ May z) (sym ends.1) next)

module _ (og : OrderedGraph) (m : ℕ) (ring : Ring og m) (rows : Rows) (t : ℕ)
    (tabled : (u : ℕ) → u < length og.g.ids → u ≢ t → HasRow og.g og.root og.w u (rows u) t) where
  abbrev h : ℕ
  h = og.w.head m

  -- with the steps against the color's direction
  pub never_aside : (color : Color) (target : Inside og m t) (s : ℕ) (x : Element) (a v : ℕ) → Lies og t x a v
      → (IsAside og m ring rows t tabled color target s (near (against (dir_of color)) a v) → ⊥)
      → (MayAfter og m ring rows t tabled color target (dir_of color ≡ Up) (near (dir_of color) a v)
      → (far (dir_of color) a v ≡ t) ⊎ MayAside og m ring rows t tabled color target s (far (dir_of color) a v) → ⊥)
      → Never (MayAside og m ring rows t tabled color target s) (CrossedAside og m ring rows t tabled color target s) t x
  never_aside color target s _ _ _ (AsNode f not_t) not_back not_on = (
    not_t,
    λ may. elim may [
      | inl aside ↦
          not_back (subst (λ (u : ℕ). IsAside og m ring rows t tabled color target s u) (sym (same_end (against (dir_of color)) f)) aside)
      | inr after ↦
          let here =
          subst (λ (u : ℕ). MayAfter og m ring rows t tabled color target (dir_of color ≡ Up) u) (sym (same_end (dir_of color) f)) after in
          not_on here (inr (inr here))
    ],
  )
  never_aside color target s _ _ _ (AsLink e v plain onward) not_back not_on = λ u y may other next crossed. go u y next crossed
    where
      go : (u y : ℕ) → (y ≡ t) ⊎ MayAside og m ring rows t tabled color target s y
          → CrossedAside og m ring rows t tabled color target s e u y → ⊥
      go u y next (Back aside over is) =
          let ends = ends_of og m (against (dir_of color)) e u y v onward over in
          not_back (subst (λ (z : ℕ). IsAside og m ring rows t tabled color target s z) (sym ends.0) aside)
      go u y next (On after crossed) =
          let ends =
          ends_of og m (dir_of color) e u y v onward (plainly (dir_of color ≡ Down) og m (dir_of color) e u y plain crossed) in
          not_on
          (subst (λ (z : ℕ). MayAfter og m ring rows t tabled color target (dir_of color ≡ Up) z) (sym ends.0) after)
          (subst (λ (z : ℕ). (z ≡ t) ⊎ MayAside og m ring rows t tabled color target s z) (sym ends.1) next)

  -- after the head blue keeps below t, and red above it
  pub after_low : (target : Inside og m t) (P : Type 0) (u : ℕ) → MayAfter og m ring rows t tabled Blue target P u
      → og.w.order u < og.w.order t
  after_low target P u may = elim may [
    | inl home ↦ omega (arith, head_lower og m ring t target, ap og.w.order home.1)
    | inr on ↦ beyond_on og m ring Up u t on.0 target on.1
  ]

  pub after_high : (target : Inside og m t) (P : Type 0) (u : ℕ) → MayAfter og m ring rows t tabled Red target P u
      → (P × (u ≡ h)) ⊎ (og.w.order t < og.w.order u)
  after_high target P u may = elim may [
    | inl home ↦ inl home
    | inr on ↦ inr (beyond_on og m ring Down u t on.0 target on.1)
  ]

module _ (og : OrderedGraph) (m : ℕ) (ring : Ring og m) where
  -- two ways, one after the other
  joined : (d : Dir) (s : ℕ) (path : List End) (f t : ℕ) → Path og.g og.w d (og.w.block m) (og.w.head m) s path f
      → f ≢ og.w.head m → Way og m d f t → Way og m d s t
  joined d s [] f t path other way = absurd path
  joined d s (end ∷ []) f t path other way = record {
    path = end ∷ way.path;
    is = put_before og m d s end way.path t path.0 (λ home. other (sym path.1 ∙ home))
        (subst (λ (x : ℕ). Path og.g og.w d (og.w.block m) (og.w.head m) x way.path t) (sym path.1) way.is);
  }
  joined d s (end ∷ next ∷ more) f t path other way =
      let rest = joined d end.to (next ∷ more) f t path.2 other way in
      record { path = end ∷ rest.path; is = put_before og m d s end rest.path t path.0 path.1 rest.is }

  pub join : (dir : Dir) (s f t : ℕ) → Way og m dir s f → Inside og m f → Way og m dir f t → Way og m dir s t
  join dir s f t first inside on = joined dir s first.path f t first.is (not_head og m ring f inside) on

  -- a hop is known exactly where there is a way
  pub way_to : (dir : Dir) (s f : ℕ) → Inside og m s → Inside og m f → LeadsTo og.g og.w dir s f → Way og m dir s f
  way_to dir s f source inside it =
      way_of og m dir s f it.hop.link
      (way_over og m dir s f it.hop.link (peers og m s f ring source inside (two it.hop it.reached))
      (record { hop = it.hop; reached = it.reached; over = refl }))
    where
      two : (hop : Least) → IsHop og.g og.w dir s f (Some hop) → s ≢ f
      two hop (Reached k h hop' shares least) = shares.two

  pub leads_to : (dir : Dir) (s f : ℕ) → Inside og m s → Inside og m f → s ≢ f → Way og m dir s f → LeadsTo og.g og.w dir s f
  leads_to dir s f source inside two way = go (has_hop og dir s f source.within inside.within)
    where
      go : (hop : Option Least) × IsHop og.g og.w dir s f hop → LeadsTo og.g og.w dir s f
      go (Some hop, is) = record { hop = hop; reached = is }
      go (None, is) =
          absurd (no_way og m dir s f (share og m s f ring (peers og m s f ring source inside two)) is way)
