-- Walks hop by hop: ends, joining, cutting, going round a node.
use Rattle.std.proofs.Common.{◌≡◌, ◌≢◌, ◌⊎◌, ◌∙◌, ◌++◌, ℕ, List, [], ◌∷◌, Option, Some, None, inl, inr, refl, sym, ap, subst}
use Rattle.std.proofs.lemmas.Bool.{eq-eqb}
use Rattle.std.proofs.lemmas.Bool.Decides.{eqb_tells}
use Rattle.std.specs.Option.{option_and_then}
use Rattle.std.specs.Prelude.{slice_get}
use Rattle.mrt_graph.specs.declared.link.Element.{Element}
use Rattle.mrt_graph.specs.declared.link.Element.TheVariants as elements
use Rattle.mrt_graph.specs.declared.link.Link.{Link}
use Rattle.mrt_graph.specs.Hop.{Hop}
use Rattle.mrt_graph.specs.Leads.{leads, far_node}
use Rattle.mrt_graph.proofs.Members.{Has}
use Rattle.mrt_graph.proofs.Trails.{Differ, Trail, Follows, IsOnLinks, On, links_on, nodes_behind, nodes_on}

-- a link leads from one of its nodes to the other
pub far_ends : (link : Link) (s v : ℕ) → far_node s link ≡ Some v → ((link.a ≡ s) × (link.b ≡ v)) ⊎ ((link.b ≡ s) × (link.a ≡ v))
far_ends link s v there = elim (eqb_tells link.a s) [
  | inl at_a ↦ let e = rw at_a.0 at there in inl (at_a.1, (cc))
  | inr not_a ↦ elim (eqb_tells link.b s) [
    | inl at_b ↦ let e = rw (not_a.0, at_b.0) at there in inr (at_b.1, (cc))
    | inr not_b ↦ let e = rw (not_a.0, not_b.0) at there in absurd (cc)
  ]
]

far_back : (link : Link) (s v : ℕ) → far_node s link ≡ Some v → far_node v link ≡ Some s
far_back link s v there = elim (far_ends link s v there) [
  | inl up ↦ elim (eqb_tells link.a v) [
    | inl loop ↦ rw loop.0 (ap (λ (x : ℕ). Some x) (up.1 ∙ sym loop.1 ∙ up.0))
    | inr other ↦ rw (other.0, eq-eqb link.b v up.1) (ap (λ (x : ℕ). Some x) up.0)
  ]
  | inr down ↦ rw (eq-eqb link.a v down.1) (ap (λ (x : ℕ). Some x) down.0)
]

far_same : (link : Link) (a b u v : ℕ) → far_node a link ≡ Some b → far_node u link ≡ Some v → (u ≡ a) ⊎ (u ≡ b)
far_same link a b u v one two = elim (far_ends link a b one) [
  | inl up ↦ elim (far_ends link u v two) [ inl up' ↦ inl (sym up'.0 ∙ up.0) | inr down' ↦ inr (sym down'.0 ∙ up.1) ]
  | inr down ↦ elim (far_ends link u v two) [ inl up' ↦ inr (sym up'.0 ∙ down.1) | inr down' ↦ inl (sym down'.0 ∙ down.0) ]
]

-- where a link leads it leads back from
pub lead_back : (links : List Link) (e s v : ℕ) → leads links e s ≡ Some v → leads links e v ≡ Some s
lead_back links e s v there = go (slice_get links e) there
  where
    go : (o : Option Link) → option_and_then (far_node s) o ≡ Some v → option_and_then (far_node v) o ≡ Some s
    go None h = cc
    go (Some link) h = far_back link s v h

-- the node that a link leads from is one of its two
pub same_ends : (links : List Link) (e a b u v : ℕ) → leads links e a ≡ Some b → leads links e u ≡ Some v → (u ≡ a) ⊎ (u ≡ b)
same_ends links e a b u v = go (slice_get links e)
  where
    go : (o : Option Link) → option_and_then (far_node a) o ≡ Some b → option_and_then (far_node u) o ≡ Some v → (u ≡ a) ⊎ (u ≡ b)
    go None h k = cc
    go (Some link) h k = far_same link a b u v h k

-- hops over links make a walk
pub follows_trail : (links : List Link) (next : ℕ → Option Hop) → IsOnLinks links next → (t s : ℕ) (hops : List Hop) → Follows next t s hops → Trail links s hops t
follows_trail links next on t s [] f = f
follows_trail links next on t s (hop ∷ hops) f = (on s hop f.1.0, follows_trail links next on t hop.to hops f.1.1)

-- the last node is met
pub last_is_met : (next : ℕ → Option Hop) (t s : ℕ) (hops : List Hop) → Follows next t s hops → Has (nodes_on s hops) t
last_is_met next t s [] f = inl f
last_is_met next t s (hop ∷ hops) f = inr (last_is_met next t hop.to hops f.1.1)

-- what a list joined of two has, one of the two has
pub has_joined : (s x : ℕ) (p q : List Hop) → Has (nodes_on s (p ++ q)) x → Has (nodes_on s p) x ⊎ Has (nodes_behind q) x
has_joined s x [] q h = elim h [ inl same ↦ inl (inl same) | inr later ↦ inr later ]
has_joined s x (hop ∷ hops) q h = elim h [
  | inl same ↦ inl (inl same)
  | inr later ↦ elim (has_joined hop.to x hops q later) [ inl front ↦ inl (inr front) | inr back ↦ inr back ]
]

pub link_joined : (e : ℕ) (p q : List Hop) → Has (links_on (p ++ q)) e → Has (links_on p) e ⊎ Has (links_on q) e
link_joined e [] q h = inr h
link_joined e (hop ∷ hops) q h = elim h [
  | inl same ↦ inl (inl same)
  | inr later ↦ elim (link_joined e hops q later) [ inl front ↦ inl (inr front) | inr back ↦ inr back ]
]

link_front : (e : ℕ) (p q : List Hop) → Has (links_on p) e → Has (links_on (p ++ q)) e
link_front e [] q h = absurd h
link_front e (hop ∷ hops) q h = elim h [ inl same ↦ inl same | inr later ↦ inr (link_front e hops q later) ]

link_back : (e : ℕ) (p q : List Hop) → Has (links_on q) e → Has (links_on (p ++ q)) e
link_back e [] q h = h
link_back e (hop ∷ hops) q h = inr (link_back e hops q h)

node_front : (s x : ℕ) (p q : List Hop) → Has (nodes_on s p) x → Has (nodes_on s (p ++ q)) x
node_front s x [] q h = elim h [ inl same ↦ inl same | inr none ↦ absurd none ]
node_front s x (hop ∷ hops) q h = elim h [ inl same ↦ inl same | inr later ↦ inr (node_front hop.to x hops q later) ]

node_back : (links : List Link) (s w x : ℕ) (p q : List Hop) → Trail links s p w → Has (nodes_on w q) x → Has (nodes_on s (p ++ q)) x
node_back links s w x [] q trail h = subst (λ (v : ℕ). Has (nodes_on v q) x) (sym trail) h
node_back links s w x (hop ∷ hops) q trail h = inr (node_back links hop.to w x hops q trail.1 h)

-- what is on the front, or on the back, is on the whole
pub on_front : (s : ℕ) (x : Element) (p q : List Hop) → On s p x → On s (p ++ q) x
on_front s (elements.Link e) p q h = link_front e p q h
on_front s (elements.Node x) p q h = node_front s x p q h

pub on_back : (links : List Link) (s w : ℕ) (x : Element) (p q : List Hop) → Trail links s p w → On w q x → On s (p ++ q) x
on_back links s w (elements.Link e) p q trail h = link_back e p q h
on_back links s w (elements.Node x) p q trail h = node_back links s w x p q trail h

-- a walk, and a walk from where it ends
trails_join : (links : List Link) (s w t : ℕ) (p q : List Hop) → Trail links s p w → Trail links w q t → Trail links s (p ++ q) t
trails_join links s w t [] q front back = subst (λ (v : ℕ). Trail links v q t) (sym front) back
trails_join links s w t (hop ∷ hops) q front back = (front.0, trails_join links hop.to w t hops q front.1 back)

-- where the nodes before w give for t the hops that they give for w, the hops for t go to w and on
pub follows_join : (to_w to_t : ℕ → Option Hop) (w t s : ℕ) (p q : List Hop)
    → ((x : ℕ) → Has (nodes_on s p) x → x ≢ w → (x ≢ t) × (to_t x ≡ to_w x))
    → Follows to_w w s p → Follows to_t t w q → Follows to_t t s (p ++ q)
follows_join to_w to_t w t s [] q same front back = subst (λ (v : ℕ). Follows to_t t v q) (sym front) back
follows_join to_w to_t w t s (hop ∷ hops) q same front back =
    let here = same s (inl refl) front.0 in
    (here.0, (here.1 ∙ front.1.0, follows_join to_w to_t w t hop.to hops q (λ x h. same x (inr h)) front.1.1 back))

-- a walk that meets w, cut there
pub record Cut (links : List Link) (s w t : ℕ) (hops : List Hop) : Type 0 where
  pub front : List Hop
  pub back : List Hop
  pub joined : front ++ back ≡ hops
  pub front_trail : Trail links s front w
  pub back_trail : Trail links w back t

pub cut : (links : List Link) (s w t : ℕ) (hops : List Hop) → Trail links s hops t → Has (nodes_on s hops) w → Cut links s w t hops
cut links s w t [] trail h = elim h [
  | inl same ↦ record { front = []; back = []; joined = refl; front_trail = same; back_trail = sym same ∙ trail }
  | inr none ↦ absurd none
]
cut links s w t (hop ∷ hops) trail h = elim h [
  | inl same ↦ record {
    front = [];
    back = hop ∷ hops;
    joined = refl;
    front_trail = same;
    back_trail = subst (λ (v : ℕ). Trail links v (hop ∷ hops) t) same trail;
  }
  | inr later ↦
      let rest = cut links hop.to w t hops trail.1 later in
      record {
        front = hop ∷ rest.front;
        back = rest.back;
        joined = ap (λ (hs : List Hop). hop ∷ hs) rest.joined;
        front_trail = (trail.0, rest.front_trail);
        back_trail = rest.back_trail;
      }
]

-- a walk from s to x that does not meet w
pub record Round (links : List Link) (w s x : ℕ) : Type 0 where
  pub hops : List Hop
  pub trail : Trail links s hops x
  pub without : Has (nodes_on s hops) w → ⊥

-- hops that stop at w go round it to each node before
pub front_round : (links : List Link) (next : ℕ → Option Hop) → IsOnLinks links next → (w s x : ℕ) (hops : List Hop) → Follows next w s hops
    → Has (nodes_on s hops) x → x ≢ w → Round links w s x
front_round links next on w s x [] f h other = elim h [ inl same ↦ absurd (other (sym same ∙ f)) | inr none ↦ absurd none ]
front_round links next on w s x (hop ∷ hops) f h other = elim h [
  | inl same ↦ record { hops = []; trail = same; without = λ m. elim m [ inl here ↦ f.0 here | inr none ↦ none ] }
  | inr later ↦
      let rest = front_round links next on w hop.to x hops f.1.1 later other in
      record {
        hops = hop ∷ rest.hops;
        trail = (on s hop f.1.0, rest.trail);
        without = λ m. elim m [ inl here ↦ f.0 here | inr more ↦ rest.without more ];
      }
]

rest_round : (links : List Link) (w t s x : ℕ) (hops : List Hop) → Trail links s hops t → (Has (nodes_on s hops) w → ⊥) → Has (nodes_on s hops) x → Round links w x t
rest_round links w t s x [] trail without h = elim h [
  | inl same ↦ record { hops = []; trail = sym same ∙ trail; without = λ m. without (subst (λ (v : ℕ). Has (nodes_on v []) w) (sym same) m) }
  | inr none ↦ absurd none
]
rest_round links w t s x (hop ∷ hops) trail without h = elim h [
  | inl same ↦ record {
    hops = hop ∷ hops;
    trail = subst (λ (v : ℕ). Trail links v (hop ∷ hops) t) same trail;
    without = λ m. without (subst (λ (v : ℕ). Has (nodes_on v (hop ∷ hops)) w) (sym same) m);
  }
  | inr later ↦ rest_round links w t hop.to x hops trail.1 (λ m. without (inr m)) later
]

-- a walk from w that meets no node twice goes round w from each later node
pub back_round : (links : List Link) (w t x : ℕ) (hops : List Hop) → Trail links w hops t → Differ (nodes_on w hops)
    → Has (nodes_on w hops) x → x ≢ w → Round links w x t
back_round links w t x [] trail differ h other = elim h [ inl same ↦ absurd (other (sym same)) | inr none ↦ absurd none ]
back_round links w t x (hop ∷ hops) trail differ h other = elim h [
  | inl same ↦ absurd (other (sym same))
  | inr later ↦ rest_round links w t hop.to x hops trail.1 differ.0 later
]

-- two such walks in turn
pub rounds_join : (links : List Link) (w s x t : ℕ) → Round links w s x → Round links w x t → Round links w s t
rounds_join links w s x t front back = record {
  hops = front.hops ++ back.hops;
  trail = trails_join links s x t front.hops back.hops front.trail back.trail;
  without = λ m. elim (has_joined s w front.hops back.hops m) [ inl first ↦ front.without first | inr second ↦ back.without (inr second) ];
}

-- a link on hops to t leads from a node that is met, and is not t
pub record From (links : List Link) (t s e : ℕ) (hops : List Hop) : Type 0 where
  pub start : ℕ
  pub to : ℕ
  pub leads_on : leads links e start ≡ Some to
  pub met : Has (nodes_on s hops) start
  pub not_last : start ≢ t

pub link_from : (links : List Link) (next : ℕ → Option Hop) → IsOnLinks links next → (t s e : ℕ) (hops : List Hop) → Follows next t s hops
    → Has (links_on hops) e → From links t s e hops
link_from links next on t s e [] f h = absurd h
link_from links next on t s e (hop ∷ hops) f h = elim h [
  | inl same ↦ record {
    start = s;
    to = hop.to;
    leads_on = subst (λ (k : ℕ). leads links k s ≡ Some hop.to) same (on s hop f.1.0);
    met = inl refl;
    not_last = f.0;
  }
  | inr later ↦
      let rest = link_from links next on t hop.to e hops f.1.1 later in
      record { start = rest.start; to = rest.to; leads_on = rest.leads_on; met = inr rest.met; not_last = rest.not_last }
]

-- both nodes of a link on a walk are met
pub ends_are_on : (links : List Link) (s t e u v : ℕ) (hops : List Hop) → Trail links s hops t → Has (links_on hops) e
    → leads links e u ≡ Some v → Has (nodes_on s hops) u
ends_are_on links s t e u v [] trail h touches = absurd h
ends_are_on links s t e u v (hop ∷ hops) trail h touches = elim h [
  | inl same ↦ elim (same_ends links e s hop.to u v (subst (λ (k : ℕ). leads links k s ≡ Some hop.to) same trail.0) touches) [
    | inl here ↦ inl (sym here)
    | inr there ↦ inr (inl (sym there))
  ]
  | inr later ↦ inr (ends_are_on links hop.to t e u v hops trail.1 later touches)
]
