-- Two colors that lead through a set of nodes by moves arrive at one node, and share nothing on the way.
use Rattle.std.proofs.Common.{◌≡◌, ◌≢◌, ◌⊎◌, ◌∙◌, ◌<◌, ◌≤◌, ℕ, List, [], ◌∷◌, Option, Some, refl, sym, ap, subst, inl, inr, arith}
use Rattle.std.proofs.lemmas.Bool.{cases_eq}
use Rattle.mrt_graph.specs.declared.cert.Color.{Color}
use Rattle.mrt_graph.specs.declared.cert.Color.TheVariants.{Blue, Red}
use Rattle.mrt_graph.specs.declared.cert.Role.{Role}
use Rattle.mrt_graph.specs.declared.cert.Tag.{Tag}
use Rattle.mrt_graph.specs.declared.cert.Tag.TheVariants as tags
use Rattle.mrt_graph.specs.declared.link.Element.{Element}
use Rattle.mrt_graph.specs.declared.link.Element.TheVariants as elements
use Rattle.mrt_graph.specs.declared.link.Link.{Link}
use Rattle.mrt_graph.specs.Hop.{Hop}
use Rattle.mrt_graph.specs.Leads.{leads}
use Rattle.mrt_graph.specs.Separates.{IsNeitherEnd}
use Rattle.mrt_graph.proofs.Arrival.{Descends, Arrives, arrives_from}
use Rattle.mrt_graph.proofs.Claims.{Way}
use Rattle.mrt_graph.proofs.Hops.{lead_back, ends_are_on, follows_trail}
use Rattle.mrt_graph.proofs.Members.{Has}
use Rattle.mrt_graph.proofs.Moves.{Ends, Meets, Move, rank, rank_falls, meets_on, meets_itself, meets_no_sole, both_meet, never_both}
use Rattle.mrt_graph.proofs.Trails.{Trail, Follows, On, nodes_on, links_on, IsOnLinks}

-- from s the hop leads to t, or by a move to another node
pub data Goes (tag : ℕ → Tag) (order : ℕ → ℕ) (role : ℕ → Role) (t s : ℕ) (color : Color) (hop : Hop) : Type 0 where
  There : hop.to ≡ t → Ends color (tag s) (role hop.link) → Goes tag order role t s color hop
  Onward : hop.to ≢ t → Move color (tag s) (order s) (tag hop.to) (order hop.to) → Goes tag order role t s color hop

-- a color leads so from s, and stays in N or arrives
pub record Step (next : Color → ℕ → Option Hop) (N : ℕ → Type 0) (tag : ℕ → Tag) (order : ℕ → ℕ) (role : ℕ → Role) (t s : ℕ) (color : Color) : Type 0 where
  pub hop : Hop
  pub takes : next color s ≡ Some hop
  pub stays : (hop.to ≡ t) ⊎ N hop.to
  pub goes : Goes tag order role t s color hop

-- from each node of N whose row is not Sole both colors lead so
pub record Moving (links : List Link) (next : Color → ℕ → Option Hop) (N : ℕ → Type 0) (tag : ℕ → Tag) (order : ℕ → ℕ) (role : ℕ → Role) (t : ℕ) : Type 0 where
  pub on_links : (color : Color) → IsOnLinks links (next color)
  pub most : ℕ
  pub order_within : (x : ℕ) → N x → order x ≤ most
  pub one_order : (x y : ℕ) → N x → N y → order x ≡ order y → x ≡ y
  pub one_top : (x y : ℕ) → N x → N y → x ≢ t → y ≢ t → tag x ≡ tags.Top → tag y ≡ tags.Top → x ≡ y
  pub not_carried : (x : ℕ) → N x → x ≢ t → tag x ≢ tags.Carried
  pub step : (color : Color) (x : ℕ) → N x → x ≢ t → tag x ≢ tags.Sole → Step next N tag order role t x color

-- both colors arrive, share nothing, and stay in N
pub record Passage (next : Color → ℕ → Option Hop) (N : ℕ → Type 0) (t s : ℕ) : Type 0 where
  pub blue : Way (next Blue) t s
  pub red : Way (next Red) t s
  pub apart : (x : Element) → IsNeitherEnd x s t → On s blue.hops x → On s red.hops x → ⊥
  pub blue_in : (x : ℕ) → Has (nodes_on s blue.hops) x → x ≢ t → N x
  pub red_in : (x : ℕ) → Has (nodes_on s red.hops) x → x ≢ t → N x

-- a link on hops to t is that of the next hop of a node that is met and is not t
record Taken (next : ℕ → Option Hop) (t s e : ℕ) (hops : List Hop) : Type 0 where
  start : ℕ
  hop : Hop
  met : Has (nodes_on s hops) start
  not_last : start ≢ t
  takes : next start ≡ Some hop
  over : hop.link ≡ e

taken : (next : ℕ → Option Hop) (t s e : ℕ) (hops : List Hop) → Follows next t s hops → Has (links_on hops) e → Taken next t s e hops
taken next t s e [] follows h = absurd h
taken next t s e (hop ∷ hops) follows h = elim h [
  | inl same ↦ record { start = s; hop = hop; met = inl refl; not_last = follows.0; takes = follows.1.0; over = same }
  | inr later ↦
      let rest = taken next t hop.to e hops follows.1.1 later in
      record { start = rest.start; hop = rest.hop; met = inr rest.met; not_last = rest.not_last; takes = rest.takes; over = rest.over }
]

module _ (links : List Link) (next : Color → ℕ → Option Hop) (N : ℕ → Type 0) (tag : ℕ → Tag) (order : ℕ → ℕ) (role : ℕ → Role) (t : ℕ)
    (c : Moving links next N tag order role t) (s : ℕ) (source : N s) (differ : s ≢ t) (not_sole : tag s ≢ tags.Sole) where
  -- what a color may meet
  abbrev Met : Color → ℕ → Type 0
  Met color x = N x × Meets color (tag s) (order s) (tag x) (order x)

  abbrev rank_of : Color → ℕ → ℕ
  rank_of color x = rank color c.most (tag x) (order x)

  falls : (color : Color) (x : ℕ) (hop : Hop) → Met color x → (hop.to ≡ t) ⊎ N hop.to → Goes tag order role t x color hop
      → (hop.to ≡ t) ⊎ (Met color hop.to × (rank_of color hop.to < rank_of color x))
  falls color x hop met stays (There there may) = inl there
  falls color x hop met stays (Onward other move) = elim stays [
    | inl there ↦ inl there
    | inr at ↦ inr ((at, meets_on (tag s) (order s) move met.1), rank_falls c.most (c.order_within hop.to at) move)
  ]

  descends : (color : Color) (x : ℕ) → Met color x → x ≢ t → Descends (next color) (rank_of color) (Met color) t x
  descends color x met other =
      let x_not_sole : tag x ≢ tags.Sole =
      (λ sole. meets_no_sole color (tag s) (order s) (order x) (subst (λ T. Meets color (tag s) (order s) T (order x)) sole met.1)) in
      let on = c.step color x met.0 other x_not_sole in
      record { hop = on.hop; takes = on.takes; goes = falls color x on.hop met on.stays on.goes }

  -- and so it does not lead where it comes from
  not_itself : (color : Color) (x : ℕ) (hop : Hop) → Met color x → x ≢ t → next color x ≡ Some hop → hop.to ≢ x
  not_itself color x hop met other takes same =
      let d = descends color x met other in
      let one : d.hop ≡ hop = cc (d.takes, takes) in
      let to : d.hop.to ≡ x = ap (λ (h : Hop). h.to) one ∙ same in
      elim d.goes [
        | inl there ↦ other (sym to ∙ there)
        | inr lower ↦ omega (arith, lower.1, ap (rank_of color) to)
      ]

  itself : (color : Color) → Met color s
  itself color = (source, meets_itself color (tag s) (order s) not_sole (c.not_carried s source differ))

  arrives : (color : Color) → Arrives (next color) (rank_of color) (Met color) t s
  arrives color = arrives_from (next color) (rank_of color) (Met color) t (descends color) s (itself color)

  -- what is on the way of a color may be met
  met_on : (color : Color) (x : ℕ) → Has (nodes_on s (arrives color).hops) x → x ≢ t → Met color x
  met_on color x on other = elim on [
    | inl same ↦ subst (Met color) same (itself color)
    | inr later ↦ elim ((arrives color).behind x later) [
      | inl there ↦ absurd (other there)
      | inr met ↦ met.0
    ]
  ]

  -- a node on the ways of both colors is s or t
  node_on_both : (x : ℕ) → Has (nodes_on s (arrives Blue).hops) x → Has (nodes_on s (arrives Red).hops) x → x ≢ t → x ≡ s
  node_on_both x on_blue on_red other =
      let blue = met_on Blue x on_blue other in
      let red = met_on Red x on_red other in
      elim (both_meet (tag s) (tag x) (order s) (order x) blue.1 red.1) [
        | inl same ↦ c.one_order x s blue.0 source same
        | inr tops ↦ c.one_top x s blue.0 source other differ tops.1 tops.0
      ]

  -- a color's hop from s straight to t is over such a link
  straight : (color : Color) (hop : Hop) → next color s ≡ Some hop → hop.to ≡ t → Ends color (tag s) (role hop.link)
  straight color hop takes there =
      let on = c.step color s source differ not_sole in
      let one : on.hop ≡ hop = cc (on.takes, takes) in
      go (subst (Goes tag order role t s color) one on.goes)
    where
      go : Goes tag order role t s color hop → Ends color (tag s) (role hop.link)
      go (There _ may) = may
      go (Onward other _) = absurd (other there)

  way : (color : Color) → Trail links s (arrives color).hops t
  way color = follows_trail links (next color) (c.on_links color) t s (arrives color).hops (arrives color).follows

  -- of a link on the ways of both, the node that it leads from is s or t
  end_on_both : (e u v : ℕ) → leads links e u ≡ Some v → Has (links_on (arrives Blue).hops) e → Has (links_on (arrives Red).hops) e → u ≢ t → u ≡ s
  end_on_both e u v touches on_blue on_red =
      node_on_both u (ends_are_on links s t e u v (arrives Blue).hops (way Blue) on_blue touches)
      (ends_are_on links s t e u v (arrives Red).hops (way Red) on_red touches)

  -- over such a link a color leads from s straight to t
  straight_on_both : (color : Color) (e : ℕ) → Has (links_on (arrives color).hops) e → Has (links_on (arrives Blue).hops) e → Has (links_on (arrives Red).hops) e
      → Ends color (tag s) (role e)
  straight_on_both color e on on_blue on_red =
      let hop = taken (next color) t s e (arrives color).hops (arrives color).follows on in
      let touches : leads links e hop.start ≡ Some hop.hop.to =
      subst (λ (k : ℕ). leads links k hop.start ≡ Some hop.hop.to) hop.over (c.on_links color hop.start hop.hop hop.takes) in
      let start = end_on_both e hop.start hop.hop.to touches on_blue on_red hop.not_last in
      let there : hop.hop.to ≡ t =
      elim (cases_eq hop.hop.to t) [
        | inl end ↦ end
        | inr other ↦
            let back = end_on_both e hop.hop.to hop.start (lead_back links e hop.start hop.hop.to touches) on_blue on_red other in
            absurd (not_itself color hop.start hop.hop (met_on color hop.start hop.met hop.not_last) hop.not_last hop.takes (back ∙ sym start))
      ] in
      subst (λ (k : ℕ). Ends color (tag s) (role k)) hop.over
      (straight color hop.hop (subst (λ (u : ℕ). next color u ≡ Some hop.hop) start hop.takes) there)

  -- nothing but s and t is on the ways of both
  apart : (x : Element) → IsNeitherEnd x s t → On s (arrives Blue).hops x → On s (arrives Red).hops x → ⊥
  apart (elements.Link e) between blue red =
      never_both (tag s) (role e) (straight_on_both Blue e blue blue red) (straight_on_both Red e red blue red)
  apart (elements.Node x) between blue red = between.0 (node_on_both x blue red between.1)

  -- both arrive
  pub passage : Passage next N t s
  passage = record {
    blue = record { hops = (arrives Blue).hops; follows = (arrives Blue).follows; differ = (arrives Blue).differ };
    red = record { hops = (arrives Red).hops; follows = (arrives Red).follows; differ = (arrives Red).differ };
    apart = apart;
    blue_in = λ x on other. (met_on Blue x on other).0;
    red_in = λ x on other. (met_on Red x on other).0;
  }
