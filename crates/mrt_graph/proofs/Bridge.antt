-- From walks hop by hop to walks as lists of links.
use Rattle.std.proofs.Common.{◌≡◌, ◌≢◌, ◌<◌, ◌≤◌, ℕ, zero, suc, List, [], ◌∷◌, Option, Some, None, get_or, length, inl, inr, refl, sym, ap, subst, arith}
use Rattle.std.proofs.lemmas.Bool.{eq-eqb, ne_eqb}
use Rattle.std.proofs.lemmas.List.{length-map}
use Rattle.std.proofs.lemmas.List.Kept.{AllPairs-cons}
use Rattle.std.proofs.lemmas.Option.{same_Some}
use Rattle.std.specs.Option.{option_and_then, option_map}
use Rattle.mrt_graph.specs.declared.cert.Color.{Color}
use Rattle.mrt_graph.specs.declared.cert.Color.TheVariants.{Blue, Red}
use Rattle.mrt_graph.specs.declared.cert.Row.{Row}
use Rattle.mrt_graph.specs.declared.link.Element.{Element}
use Rattle.mrt_graph.specs.declared.link.Element.TheVariants as elements
use Rattle.mrt_graph.specs.declared.link.Link.{Link}
use Rattle.mrt_graph.specs.ColorWalk.{color_walk, links_followed}
use Rattle.mrt_graph.specs.Hop.{Hop, color_hop, hop_over}
use Rattle.mrt_graph.specs.Leads.{leads}
use Rattle.mrt_graph.specs.Reaches.{AreDifferent, Reaches}
use Rattle.mrt_graph.specs.Rows.{Rows, link_of_color}
use Rattle.mrt_graph.specs.Separates.{IsNeitherEnd, Separates}
use Rattle.mrt_graph.specs.Sound.{SoundFor}
use Rattle.mrt_graph.specs.Uses.{Uses, nodes_met}
use Rattle.mrt_graph.specs.Walk.{Walk}
use Rattle.mrt_graph.proofs.Arrival.{at_most}
use Rattle.mrt_graph.proofs.Claims.{Way}
use Rattle.mrt_graph.proofs.Hops.{follows_trail}
use Rattle.mrt_graph.proofs.Members.{Has, contains_from_has, has_from_contains}
use Rattle.mrt_graph.proofs.Trails.{Differ, Trail, Follows, IsOnLinks, On, Parts, links_on, nodes_on}

at_place : (xs : List ℕ) (x d k : ℕ) → k < length xs → get_or xs k d ≡ x → Has xs x
at_place [] x d k within is = absurd (omega (arith, within))
at_place (y ∷ ys) x d zero within is = inl is
at_place (y ∷ ys) x d (suc k) within is = inr (at_place ys x d k (omega (arith, within)) is)

all_differ : (xs : List ℕ) → Differ xs → AreDifferent xs
all_differ [] differ = λ i j d lt within. absurd (omega (arith, within))
all_differ (x ∷ xs) differ =
    AllPairs-cons (λ earlier later. earlier ≢ later) x xs
    (λ k d within. λ same. differ.0 (at_place xs x d k within (sym same)))
    (all_differ xs differ.1)

-- a hop on a color is over a link that leads where it says
hop_over_leads : (links : List Link) (s e : ℕ) (hop : Hop) → hop_over links s e ≡ Some hop → leads links hop.link s ≡ Some hop.to
hop_over_leads links s e hop is = go (leads links e s) refl is
  where
    go : (o : Option ℕ) → leads links e s ≡ o → option_map (λ v. record { link = e; to = v }) o ≡ Some hop → leads links hop.link s ≡ Some hop.to
    go None there is = cc
    go (Some v) there is =
        let same : ◌≡◌ {A = Hop} (record { link = e; to = v }) hop = same_Some _ _ is in
        subst (λ (h : Hop). leads links h.link s ≡ Some h.to) same there

pub color_leads : (links : List Link) (rows : Rows) (color : Color) (t : ℕ) → IsOnLinks links (color_hop links rows color t)
color_leads links rows color t s hop is = go (rows s t) is
  where
    go : (o : Option Row) → option_and_then (λ row. hop_over links s (link_of_color color row)) o ≡ Some hop → leads links hop.link s ≡ Some hop.to
    go None is = cc
    go (Some row) is = hop_over_leads links s (link_of_color color row) hop is

-- the fold over at most n hops is the way, if it is no longer
pub followed : (next : ℕ → Option Hop) (t n s : ℕ) (hops : List Hop) → Follows next t s hops → length hops ≤ n → links_followed next t n s ≡ links_on hops
followed next t zero s [] f short = refl
followed next t zero s (hop ∷ hops) f short = absurd (omega (arith, short))
followed next t (suc n) s [] f short = rw (eq-eqb s t f) refl
followed next t (suc n) s (hop ∷ hops) f short =
    rw (ne_eqb s t f.0, f.1.0) (ap (λ (es : List ℕ). hop.link ∷ es) (followed next t n hop.to hops f.1.1 (omega (arith, short))))

pub walk_of : (links : List Link) (s t : ℕ) (hops : List Hop) → Trail links s hops t → Walk links s (links_on hops) t
walk_of links s t [] trail = trail
walk_of links s t (hop ∷ hops) trail = (hop.to, trail.0, walk_of links hop.to t hops trail.1)

pub met_of : (links : List Link) (s t : ℕ) (hops : List Hop) → Trail links s hops t → nodes_met links s (links_on hops) ≡ nodes_on s hops
met_of links s t [] trail = refl
met_of links s t (hop ∷ hops) trail = rw trail.0 (ap (λ (xs : List ℕ). s ∷ xs) (met_of links hop.to t hops trail.1))

-- a walk, hop by hop
pub record Hops (links : List Link) (s t : ℕ) (walk : List ℕ) : Type 0 where
  pub hops : List Hop
  pub same : links_on hops ≡ walk
  pub trail : Trail links s hops t

pub hops_of : (links : List Link) (s t : ℕ) (walk : List ℕ) → Walk links s walk t → Hops links s t walk
hops_of links s t [] walk = record { hops = []; same = refl; trail = walk }
hops_of links s t (e ∷ es) walk =
    let rest = hops_of links walk.0 t es walk.2 in
    record {
      hops = record { link = e; to = walk.0 } ∷ rest.hops;
      same = ap (λ (xs : List ℕ). e ∷ xs) rest.same;
      trail = (walk.1, rest.trail);
    }

pub uses : (links : List Link) (s t : ℕ) (hops : List Hop) (x : Element) → Trail links s hops t → On s hops x → Uses links s (links_on hops) x
uses links s t hops (elements.Link e) trail on = contains_from_has (links_on hops) e on
uses links s t hops (elements.Node x) trail on =
    contains_from_has (nodes_met links s (links_on hops)) x (subst (λ (xs : List ℕ). Has xs x) (sym (met_of links s t hops trail)) on)

on_of : (links : List Link) (s t : ℕ) (hops : List Hop) (x : Element) → Trail links s hops t → Uses links s (links_on hops) x → On s hops x
on_of links s t hops (elements.Link e) trail uses = has_from_contains (links_on hops) e uses
on_of links s t hops (elements.Node x) trail uses =
    subst (λ (xs : List ℕ). Has xs x) (met_of links s t hops trail) (has_from_contains (nodes_met links s (links_on hops)) x uses)

separates : (links : List Link) (x : Element) (s t : ℕ) → IsNeitherEnd x s t → Parts links x s t → Separates links x s t
separates links x s t between parts = record {
  between = between;
  on_every_walk = λ walk is.
      let h = hops_of links s t walk is in
      subst (λ (es : List ℕ). Uses links s es x) h.same (uses links s t h.hops x h.trail (parts h.hops h.trail));
}

trail_within : (links : List Link) (n s t : ℕ) → ((e u v : ℕ) → leads links e u ≡ Some v → v < n) → s < n → (hops : List Hop) → Trail links s hops t
    → (x : ℕ) → Has (nodes_on s hops) x → x < n
trail_within links n s t ends within [] trail x h = elim h [ inl same ↦ subst (λ (y : ℕ). y < n) same within | inr none ↦ absurd none ]
trail_within links n s t ends within (hop ∷ hops) trail x h = elim h [
  | inl same ↦ subst (λ (y : ℕ). y < n) same within
  | inr later ↦ trail_within links n hop.to t ends (ends hop.link s hop.to trail.0) hops trail.1 x later
]

module _ (links : List Link) (n : ℕ) (rows : Rows) (ends : (e u v : ℕ) → leads links e u ≡ Some v → v < n) (s t : ℕ) (within : s < n) where
  way_trail : (color : Color) (way : Way (color_hop links rows color t) t s) → Trail links s way.hops t
  way_trail color way = follows_trail links (color_hop links rows color t) (color_leads links rows color t) t s way.hops way.follows

  -- the color walk is the way
  walk_is : (color : Color) (way : Way (color_hop links rows color t) t s) → color_walk links n rows color s t ≡ links_on way.hops
  walk_is color way =
      let short : length (nodes_on s way.hops) ≤ n =
      at_most n (nodes_on s way.hops) way.differ (trail_within links n s t ends within way.hops (way_trail color way)) in
      followed (color_hop links rows color t) t n s way.hops way.follows (omega (arith, short, simp length-map at short))

  reaches : (color : Color) → Way (color_hop links rows color t) t s → Reaches links n rows color s t
  reaches color way = record {
    ends_at_t = subst (λ (es : List ℕ). Walk links s es t) (sym (walk_is color way)) (walk_of links s t way.hops (way_trail color way));
    no_node_twice = subst (λ (es : List ℕ). AreDifferent (nodes_met links s es)) (sym (walk_is color way))
        (subst AreDifferent (sym (met_of links s t way.hops (way_trail color way))) (all_differ (nodes_on s way.hops) way.differ));
  }

  used : (color : Color) (way : Way (color_hop links rows color t) t s) (x : Element) → Uses links s (color_walk links n rows color s t) x → On s way.hops x
  used color way x uses = on_of links s t way.hops x (way_trail color way) (subst (λ (es : List ℕ). Uses links s es x) (walk_is color way) uses)

  -- two ways that share only what parts s and t are sound
  pub sound_for : (blue : Way (color_hop links rows Blue t) t s) (red : Way (color_hop links rows Red t) t s)
      → ((x : Element) → IsNeitherEnd x s t → On s blue.hops x → On s red.hops x → Parts links x s t) → SoundFor links n rows s t
  sound_for blue red apart = record {
    blue = reaches Blue blue;
    red = reaches Red red;
    apart = λ x between on_blue on_red. separates links x s t between (apart x between (used Blue blue x on_blue) (used Red red x on_red));
  }
