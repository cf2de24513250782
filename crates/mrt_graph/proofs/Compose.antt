-- Two pairs of walks that share only what parts their ends, composed at a node that parts s and t.
use Rattle.std.proofs.Common.{◌≡◌, ◌≢◌, ◌⊎◌, ◌++◌, ℕ, List, [], ◌∷◌, Option, inl, inr, refl, sym, subst}
use Rattle.std.proofs.lemmas.Bool.{cases_eq}
use Rattle.mrt_graph.specs.declared.link.Element.{Element}
use Rattle.mrt_graph.specs.declared.link.Element.TheVariants as elements
use Rattle.mrt_graph.specs.declared.link.Link.{Link}
use Rattle.mrt_graph.specs.Hop.{Hop}
use Rattle.mrt_graph.specs.Separates.{IsNeitherEnd}
use Rattle.mrt_graph.proofs.Blocks.{Words}
use Rattle.mrt_graph.proofs.Claims.{Good}
use Rattle.mrt_graph.proofs.Hops.{back_round, cut, ends_are_on, follows_join, follows_trail, front_round, has_joined, link_from, link_joined, on_back, on_front, rounds_join}
use Rattle.mrt_graph.proofs.RowFacts.{Rows}
use Rattle.mrt_graph.proofs.Members.{Has}
use Rattle.mrt_graph.proofs.Trails.{Differ, Trail, Follows, IsOnLinks, On, Parts, nodes_on}

-- x is a link, or a node other than v
abbrev pub IsOther : ℕ → Element → Type 0
IsOther v (elements.Link e) = Unit {0}
IsOther v (elements.Node x) = x ≢ v

-- hops from s to v, and a walk from v to t, where v parts s and t
pub record Halves (links : List Link) (next : ℕ → Option Hop) (s v t : ℕ) (front back : List Hop) : Type 0 where
  pub on_links : IsOnLinks links next
  pub parts : Parts links (elements.Node v) s t
  pub follows : Follows next v s front
  pub trail : Trail links v back t
  pub differ : Differ (nodes_on v back)

-- they meet in v alone
only_there : (links : List Link) (next : ℕ → Option Hop) (s v t : ℕ) (front back : List Hop) → Halves links next s v t front back
    → (x : ℕ) → Has (nodes_on s front) x → Has (nodes_on v back) x → x ≡ v
only_there links next s v t front back h x first second = elim (cases_eq x v) [
  | inl same ↦ same
  | inr other ↦
      let around = rounds_join links v s x t (front_round links next h.on_links v s x front h.follows first other) (back_round links v t x back h.trail h.differ second other) in
      absurd (around.without (h.parts around.hops around.trail))
]

no_other : (links : List Link) (next : ℕ → Option Hop) (s v t : ℕ) (front back : List Hop) → Halves links next s v t front back
    → (x : Element) → IsOther v x → On s front x → On v back x → ⊥
no_other links next s v t front back h (elements.Node x) other first second = other (only_there links next s v t front back h x first second)
no_other links next s v t front back h (elements.Link e) other first second =
    let from = link_from links next h.on_links v s e front h.follows first in
    from.not_last (only_there links next s v t front back h from.start from.met (ends_are_on links v t e from.start from.to back h.trail second from.leads_on))

differ_joined : (next : ℕ → Option Hop) (s v : ℕ) (front back : List Hop) → Follows next v s front → Differ (nodes_on s front) → Differ (nodes_on v back)
    → ((x : ℕ) → Has (nodes_on s front) x → Has (nodes_on v back) x → x ≡ v) → Differ (nodes_on s (front ++ back))
differ_joined next s v [] back f first second meet = subst (λ (x : ℕ). Differ (nodes_on x back)) (sym f) second
differ_joined next s v (hop ∷ hops) back f first second meet = (
  λ h. elim (has_joined hop.to s hops back h) [
    | inl again ↦ first.0 again
    | inr later ↦ f.0 (meet s (inl refl) (inr later))
  ],
  differ_joined next hop.to v hops back f.1.1 first.1 second (λ x h k. meet x (inr h) k),
)

on_joined : (s v : ℕ) (x : Element) (p q : List Hop) → On s (p ++ q) x → On s p x ⊎ On v q x
on_joined s v (elements.Link e) p q h = link_joined e p q h
on_joined s v (elements.Node x) p q h = elim (has_joined s x p q h) [ inl front ↦ inl front | inr back ↦ inr (inr back) ]

-- what parts s and v parts s and t, if v does, and so does what parts v and t
parts_front : (links : List Link) (x : Element) (s v t : ℕ) → Parts links (elements.Node v) s t → Parts links x s v → Parts links x s t
parts_front links x s v t via parts hops trail =
    let c = cut links s v t hops trail (via hops trail) in
    subst (λ (hs : List Hop). On s hs x) c.joined (on_front s x c.front c.back (parts c.front c.front_trail))

parts_back : (links : List Link) (x : Element) (s v t : ℕ) → Parts links (elements.Node v) s t → Parts links x v t → Parts links x s t
parts_back links x s v t via parts hops trail =
    let c = cut links s v t hops trail (via hops trail) in
    subst (λ (hs : List Hop). On s hs x) c.joined (on_back links s v x c.front c.back c.front_trail (parts c.back c.back_trail))

between_front : (x : Element) (s v t : ℕ) → IsNeitherEnd x s t → IsOther v x → IsNeitherEnd x s v
between_front (elements.Link e) s v t between other = tt
between_front (elements.Node x) s v t between other = (between.0, other)

between_back : (x : Element) (s v t : ℕ) → IsNeitherEnd x s t → IsOther v x → IsNeitherEnd x v t
between_back (elements.Link e) s v t between other = tt
between_back (elements.Node x) s v t between other = (other, between.1)

-- v parts s and t, both parts of the way are good, and the nodes on the way to v go for t where they go for v
pub record Meeting (w : Words) (s v t : ℕ) : Type 0 where
  pub parts : Parts w.links (elements.Node v) s t
  pub first : Good w s v
  pub second : Good w v t
  pub blue_same : (x : ℕ) → Has (nodes_on s first.blue.hops) x → x ≢ v → (x ≢ t) × (w.blue t x ≡ w.blue v x)
  pub red_same : (x : ℕ) → Has (nodes_on s first.red.hops) x → x ≢ v → (x ≢ t) × (w.red t x ≡ w.red v x)

module _ (w : Words) (rows : Rows w) (s v t : ℕ) (m : Meeting w s v t) where
  blue_halves : (back : List Hop) → Trail w.links v back t → Differ (nodes_on v back) → Halves w.links (w.blue v) s v t m.first.blue.hops back
  blue_halves back trail differ = record { on_links = rows.blue_leads v; parts = m.parts; follows = m.first.blue.follows; trail = trail; differ = differ }

  red_halves : (back : List Hop) → Trail w.links v back t → Differ (nodes_on v back) → Halves w.links (w.red v) s v t m.first.red.hops back
  red_halves back trail differ = record { on_links = rows.red_leads v; parts = m.parts; follows = m.first.red.follows; trail = trail; differ = differ }

  blue_trail : Trail w.links v m.second.blue.hops t
  blue_trail = follows_trail w.links (w.blue t) (rows.blue_leads t) t v m.second.blue.hops m.second.blue.follows

  red_trail : Trail w.links v m.second.red.hops t
  red_trail = follows_trail w.links (w.red t) (rows.red_leads t) t v m.second.red.hops m.second.red.follows

  shared_other : (x : Element) → IsOther v x → IsNeitherEnd x s t
      → On s (m.first.blue.hops ++ m.second.blue.hops) x → On s (m.first.red.hops ++ m.second.red.hops) x → Parts w.links x s t
  shared_other x other between blue red = elim (on_joined s v x m.first.blue.hops m.second.blue.hops blue) [
    | inl blue_front ↦ elim (on_joined s v x m.first.red.hops m.second.red.hops red) [
      | inl red_front ↦ parts_front w.links x s v t m.parts (m.first.apart x (between_front x s v t between other) blue_front red_front)
      | inr red_back ↦ absurd (no_other w.links (w.blue v) s v t m.first.blue.hops m.second.red.hops (blue_halves m.second.red.hops red_trail m.second.red.differ) x other blue_front red_back)
    ]
    | inr blue_back ↦ elim (on_joined s v x m.first.red.hops m.second.red.hops red) [
      | inl red_front ↦ absurd (no_other w.links (w.red v) s v t m.first.red.hops m.second.blue.hops (red_halves m.second.blue.hops blue_trail m.second.blue.differ) x other red_front blue_back)
      | inr red_back ↦ parts_back w.links x s v t m.parts (m.second.apart x (between_back x s v t between other) blue_back red_back)
    ]
  ]

  shared : (x : Element) → IsNeitherEnd x s t
      → On s (m.first.blue.hops ++ m.second.blue.hops) x → On s (m.first.red.hops ++ m.second.red.hops) x → Parts w.links x s t
  shared (elements.Link e) between blue red = shared_other (elements.Link e) tt between blue red
  shared (elements.Node x) between blue red = elim (cases_eq x v) [
    | inl same ↦ subst (λ (y : ℕ). Parts w.links (elements.Node y) s t) (sym same) m.parts
    | inr other ↦ shared_other (elements.Node x) other between blue red
  ]

  -- s and t are good
  pub composed : Good w s t
  composed = record {
    blue = record {
      hops = m.first.blue.hops ++ m.second.blue.hops;
      follows = follows_join (w.blue v) (w.blue t) v t s m.first.blue.hops m.second.blue.hops m.blue_same m.first.blue.follows m.second.blue.follows;
      differ = differ_joined (w.blue v) s v m.first.blue.hops m.second.blue.hops m.first.blue.follows m.first.blue.differ m.second.blue.differ
          (only_there w.links (w.blue v) s v t m.first.blue.hops m.second.blue.hops (blue_halves m.second.blue.hops blue_trail m.second.blue.differ));
    };
    red = record {
      hops = m.first.red.hops ++ m.second.red.hops;
      follows = follows_join (w.red v) (w.red t) v t s m.first.red.hops m.second.red.hops m.red_same m.first.red.follows m.second.red.follows;
      differ = differ_joined (w.red v) s v m.first.red.hops m.second.red.hops m.first.red.follows m.first.red.differ m.second.red.differ
          (only_there w.links (w.red v) s v t m.first.red.hops m.second.red.hops (red_halves m.second.red.hops red_trail m.second.red.differ));
    };
    apart = shared;
  }
