-- What lies between two nodes, and the color of the table that goes round it.
use Rattle.std.specs.Prelude.{⊤, if◌then◌else◌}
use Rattle.std.proofs.Common.{◌≡◌, ◌≢◌, ◌⊎◌, ◌∙◌, ◌<◌, ◌≤◌, ◌&&◌, ℕ, Bool, true, false, leb, length, refl, sym, ap, subst, inl, inr, arith}
use Rattle.std.proofs.lemmas.Bool.{cond_both}
use Rattle.mrt_graph.specs.declared.cert.Color.{Color}
use Rattle.mrt_graph.specs.declared.cert.Color.TheVariants.{Blue, Red}
use Rattle.mrt_graph.specs.declared.cert.Tag.{Tag}
use Rattle.mrt_graph.specs.declared.cert.Tag.TheVariants as tags
use Rattle.mrt_graph.specs.declared.link.Element.{Element}
use Rattle.mrt_graph.specs.Rows.{Rows}
use Rattle.link_direction.specs.Directions.{Directions}
use Rattle.block_spf.specs.declared.reach.Dir.TheVariants.{Down, Up}
use Rattle.mrt_rows.specs.RowsOf.{HasRow}
use Rattle.mrt_rows.proofs.OrderedGraphs.{OrderedGraph}
use Rattle.mrt_rows.proofs.Ways.{Inside, Ring, Way, head_lower, not_head}
use Rattle.order_repair.specs.declared.order_tests.OrderTests.{OrderTests}
use Rattle.order_repair.specs.ColorTable.{plain_color}
use Rattle.order_repair.specs.OrderChoice.{AreTests}
use Rattle.order_repair.proofs.MayMeet.{IsAside, MayAfter, MayAside, MayHead, MayPast, MayPeer, goes_after, goes_aside, goes_head, goes_past, goes_peer}
use Rattle.order_repair.proofs.Round.{IsRound, Lies, after_high, after_low, by_both, by_most, join, never_aside, never_passed, walks_round}
use Rattle.order_repair.proofs.RowWays.{AboveRow, BelowRow, HeadRow, RowWays, TopRow, UnorderedRow, way_of}
use Rattle.order_repair.proofs.Steps.{beyond_on, from_itself}

-- a node is under s, or over it, by the paths of the block
abbrev pub Under : OrderedGraph → ℕ → ℕ → ℕ → Type 0
Under og m s v = (v ≡ s) ⊎ (Inside og m v × Way og m Down s v)

abbrev pub Over : OrderedGraph → ℕ → ℕ → ℕ → Type 0
Over og m s a = (a ≡ s) ⊎ (Inside og m a × Way og m Up s a)

-- what the two tests tell, where s is no head
pub record Tell (og : OrderedGraph) (m s a v : ℕ) (under over : Bool) : Type 0 where
  pub is_under : under ≡ true → (v ≡ og.w.head m) ⊎ Under og m s v
  pub not_under : under ≡ false → Under og m s v → ⊥
  pub is_over : under ≡ false → over ≡ true → Over og m s a
  pub not_over : over ≡ false → Over og m s a → ⊥

abbrev pub tests_of : Directions → ℕ → ℕ → ℕ → ℕ → Bool → Bool → OrderTests
tests_of w s t a v under over = record {
  source = w.order s;
  to = w.order t;
  from = w.order a;
  onto = w.order v;
  under = under;
  over = over;
}

pub told : (w : Directions) (s t a v : ℕ) (IsUnder IsOver : Type 0) (x : OrderTests) → AreTests w s t a v IsUnder IsOver x
    → x ≡ tests_of w s t a v x.under x.over
told w s t a v IsUnder IsOver x are = λ i. record {
  source = are.numbers.source i;
  to = are.numbers.to i;
  from = are.numbers.from i;
  onto = are.numbers.onto i;
  under = x.under;
  over = x.over;
}

-- x lies between a and v, and not both of these at the order of s
module _ (og : OrderedGraph) (m : ℕ) (ring : Ring og m) (rows : Rows) (s t : ℕ)
    (tabled : (u : ℕ) → u < length og.g.ids → u ≢ t → HasRow og.g og.root og.w u (rows u) t) (x : Element) (a v : ℕ)
    (lies : Lies og t x a v) (rises : og.w.order a ≤ og.w.order v)
    (apart : og.w.order s ≤ og.w.order a → og.w.order v ≤ og.w.order s → ⊥) where
  abbrev h : ℕ
  h = og.w.head m

  abbrev o : ℕ → ℕ
  o x = og.w.order x

  abbrev Round : Color → Type 0
  Round color = IsRound og rows s t x color

  to_head : Inside og m s → t ≡ h → Round (if leb (o s) (o a) then Red else Blue)
  to_head source home =
      by_most og rows s t x (o s) (o a) Red Blue
      (λ from. walks_round og rows s t x Red _ _ (goes_head og m ring rows t tabled Red home s) (source, from_itself og Down s)
      (never_passed og m (Down ≡ Up) (MayHead og m ring rows t tabled Red s) Down t x a v lies (λ may next. apart from may.1)))
      (λ before. walks_round og rows s t x Blue _ _ (goes_head og m ring rows t tabled Blue home s) (source, from_itself og Up s)
      (never_passed og m (Up ≡ Up) (MayHead og m ring rows t tabled Blue s) Up t x a v lies (λ may next. omega (arith, before, may.1))))

  module _ (target : Inside og m t) where
    -- a node at which red may come after its first step beyond the head is no head
    not_out : (y : ℕ) → (y ≡ t) ⊎ MayAfter og m ring rows t tabled Red target ⊤ y → o h ≤ o y
    not_out y next = elim next [
      | inl there ↦ omega (arith, head_lower og m ring t target, ap og.w.order there)
      | inr may ↦ elim (after_high og m ring rows t tabled target ⊤ y may) [
        | inl top ↦ omega (arith, ap og.w.order top.1)
        | inr high ↦ omega (arith, head_lower og m ring t target, high)
      ]
    ]

    from_head : s ≡ h → Round (if leb (o v) (o t) then Red else Blue)
    from_head home =
        by_most og rows s t x (o v) (o t) Red Blue
        (λ low. walks_round og rows s t x Red _ _ (goes_after og m ring rows t tabled Red target ⊤) (inl (tt, home))
        (never_passed og m (Down ≡ Down) (MayAfter og m ring rows t tabled Red target ⊤) Down t x a v lies (λ may next.
        elim (after_high og m ring rows t tabled target ⊤ v may) [
          | inl top ↦
              apart (omega (arith, not_out a next, ap og.w.order home)) (omega (arith, ap og.w.order home, ap og.w.order top.1))
          | inr high ↦ omega (arith, low, high)
        ])))
        (λ not_low. walks_round og rows s t x Blue _ _ (goes_after og m ring rows t tabled Blue target ⊤) (inl (tt, home))
        (never_passed og m (Up ≡ Down) (MayAfter og m ring rows t tabled Blue target ⊤) Up t x a v lies (λ may next. elim next [
          | inl there ↦ omega (arith, not_low, ap og.w.order there)
          | inr on ↦ omega (arith, not_low, after_low og m ring rows t tabled target ⊤ v on)
        ])))

    module _ (source : Inside og m s) where
      below : Way og m Up s t → Round (if leb (o s) (o a) && leb (o v) (o t) then Red else Blue)
      below up =
          by_both og rows s t x (o s) (o a) (o v) (o t) Red Blue
          (λ from low. walks_round og rows s t x Red _ _ (goes_past og m ring rows t tabled Red target s) (inl (source, up, from_itself og Down s))
          (never_passed og m ⊤ (MayPast og m ring rows t tabled Red target s) Down t x a v lies (λ may next. elim may [
            | inl back ↦ apart from back.2
            | inr after ↦ elim (after_high og m ring rows t tabled target ⊤ v after) [
              | inl top ↦ omega (arith, from, rises, head_lower og m ring s source, ap og.w.order top.1)
              | inr high ↦ omega (arith, low, high)
            ]
          ])))
          (λ outside. walks_round og rows s t x Blue _ _ (goes_peer og m ring rows t tabled Blue target s) (source, up, from_itself og Up s)
          (never_passed og m ⊥ (MayPeer og m ring rows t tabled Blue target s) Up t x a v lies (λ may next. outside may.2 (elim next [
            | inl there ↦ omega (arith, ap og.w.order there)
            | inr on ↦ omega (arith, beyond_on og m ring Up v t on.0 target on.1)
          ]))))

      above : Way og m Down s t → Round (if leb (o t) (o a) && leb (o v) (o s) then Blue else Red)
      above down =
          by_both og rows s t x (o t) (o a) (o v) (o s) Blue Red
          (λ later low. walks_round og rows s t x Blue _ _ (goes_past og m ring rows t tabled Blue target s) (inl (source, down, from_itself og Up s))
          (never_passed og m ⊤ (MayPast og m ring rows t tabled Blue target s) Up t x a v lies (λ may next. elim may [
            | inl back ↦ apart back.2 low
            | inr after ↦ omega (arith, later, after_low og m ring rows t tabled target ⊤ a after)
          ])))
          (λ outside. walks_round og rows s t x Red _ _ (goes_peer og m ring rows t tabled Red target s) (source, down, from_itself og Down s)
          (never_passed og m ⊥ (MayPeer og m ring rows t tabled Red target s) Down t x a v lies (λ may next. outside (elim next [
            | inl there ↦ omega (arith, ap og.w.order there)
            | inr on ↦ omega (arith, beyond_on og m ring Down a t on.0 target on.1)
          ]) may.2)))

      module _ (none_up : Way og m Up s t → ⊥) (none_down : Way og m Down s t → ⊥) where
        -- what it is to be passed by red, or by blue
        red_round : (IsAside og m ring rows t tabled Red target s a → ⊥)
            → (Inside og m v → Way og m Down v t → (a ≡ t) ⊎ MayAside og m ring rows t tabled Red target s a → ⊥) → Round Red
        red_round not_back not_on =
            walks_round og rows s t x Red _ _ (goes_aside og m ring rows t tabled Red target s) (inl (record { inside = source; from = inl refl; none_on = none_down; none_back = none_up }))
            (never_aside og m ring rows t tabled Red target s x a v lies not_back (λ after next. elim after [
              | inl top ↦ let never : Down ≡ Up = top.0 in absurd (cc)
              | inr on ↦ not_on on.0 on.1 next
            ]))

        blue_round : (IsAside og m ring rows t tabled Blue target s v → ⊥)
            → (MayAfter og m ring rows t tabled Blue target (Up ≡ Up) a → ⊥) → Round Blue
        blue_round not_back not_on =
            walks_round og rows s t x Blue _ _ (goes_aside og m ring rows t tabled Blue target s) (inl (record { inside = source; from = inl refl; none_on = none_up; none_back = none_down }))
            (never_aside og m ring rows t tabled Blue target s x a v lies not_back (λ after next. not_on after))

        -- red's nodes aside are s and nodes above it
        aside_high : (u : ℕ) → IsAside og m ring rows t tabled Red target s u → o s ≤ o u
        aside_high u aside = elim aside.from [
          | inl same ↦ omega (arith, ap og.w.order same)
          | inr up ↦ let beyond = beyond_on og m ring Up s u source aside.inside up in omega (arith, beyond)
        ]

        at_head : v ≡ h → Round Red
        at_head home = red_round
            (λ aside. omega (arith, head_lower og m ring a aside.inside, rises, ap og.w.order home))
            (λ inside way next. not_head og m ring v inside home)

        under_s : Under og m s v → Round Red
        under_s low = red_round
            (λ aside. elim low [
              | inl same ↦ apart (aside_high a aside) (omega (arith, ap og.w.order same))
              | inr down ↦ apart (aside_high a aside) (omega (arith, beyond_on og m ring Down s v source down.0 down.1))
            ])
            (λ inside way next. elim low [
              | inl same ↦ none_down (subst (λ (z : ℕ). Way og m Down z t) same way)
              | inr down ↦ none_down (join og m ring Down s v t down.1 down.0 way)
            ])

        -- what is not under s blue does not pass on its way to the head, and what is not over s red does not
        blue_aside : (Under og m s v → ⊥) → IsAside og m ring rows t tabled Blue target s v → ⊥
        blue_aside not_low aside = elim aside.from [
          | inl same ↦ not_low (inl same)
          | inr down ↦ not_low (inr (aside.inside, down))
        ]

        red_aside : (Over og m s a → ⊥) → IsAside og m ring rows t tabled Red target s a → ⊥
        red_aside not_high aside = elim aside.from [
          | inl same ↦ not_high (inl same)
          | inr up ↦ not_high (inr (aside.inside, up))
        ]

        over_s : (Under og m s v → ⊥) → Over og m s a → Round Blue
        over_s not_low high = blue_round (blue_aside not_low) (λ after. elim after [
          | inl top ↦ elim high [
            | inl same ↦ not_head og m ring s source (sym same ∙ top.1)
            | inr up ↦ not_head og m ring a up.0 top.1
          ]
          | inr on ↦ elim high [
            | inl same ↦ none_up (subst (λ (z : ℕ). Way og m Up z t) same on.1)
            | inr up ↦ none_up (join og m ring Up s a t up.1 up.0 on.1)
          ]
        ])

        beside : (Under og m s v → ⊥) → (Over og m s a → ⊥) → Round (if leb (o t) (o a) then Blue else Red)
        beside not_low not_high =
            by_most og rows s t x (o t) (o a) Blue Red
            (λ later. blue_round (blue_aside not_low) (λ after. omega (arith, later, after_low og m ring rows t tabled target (Up ≡ Up) a after)))
            (λ early. red_round (red_aside not_high) (λ inside way next. elim next [
              | inl there ↦ omega (arith, early, ap og.w.order there)
              | inr may ↦ elim may [
                | inl aside ↦ red_aside not_high aside
                | inr after ↦ elim (after_high og m ring rows t tabled target (Down ≡ Up) a after) [
                  | inl top ↦ let never : Down ≡ Up = top.0 in absurd (cc)
                  | inr high ↦ omega (arith, early, high)
                ]
              ]
            ]))

        unordered : (under over : Bool) → Tell og m s a v under over → Round (plain_color tags.Unordered (tests_of og.w s t a v under over))
        unordered under over tell =
            cond_both under Red _ Round
            (λ yes. elim (tell.is_under yes) [ inl home ↦ at_head home | inr low ↦ under_s low ])
            (λ no. cond_both over Blue _ Round (λ yes. over_s (tell.not_under no) (tell.is_over no yes))
            (λ not_over. beside (tell.not_under no) (tell.not_over not_over)))

  pub round : (blue red : ℕ) {tag : Tag} → RowWays og m s t blue red tag → (under over : Bool) → (Inside og m s → Tell og m s a v under over)
      → Round (plain_color tag (tests_of og.w s t a v under over))
  round blue red (HeadRow p q up down) under over tell = to_head p q
  round blue red (TopRow p q up down) under over tell = from_head q p
  round blue red (BelowRow p q up down) under over tell = below q p (way_of og m Up s t blue up)
  round blue red (AboveRow p q up down) under over tell = above q p (way_of og m Down s t red down)
  round blue red (UnorderedRow p q none_up none_down down up) under over tell = unordered q p none_up none_down under over (tell p)
