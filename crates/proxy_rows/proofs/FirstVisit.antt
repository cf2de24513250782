-- Walks in the graph with the new node, up to their first visit of it.
use Rattle.std.proofs.Common.{◌≡◌, ◌⊎◌, ◌<◌, ℕ, List, [], ◌∷◌, Some, length, inl, inr, refl, subst, arith}
use Rattle.mrt_graph.specs.declared.link.Element.{Element}
use Rattle.mrt_graph.specs.declared.link.Element.TheVariants as elements
use Rattle.mrt_graph.specs.Hop.{Hop}
use Rattle.mrt_graph.specs.Leads.{leads}
use Rattle.mrt_graph.specs.Topology.{Topology}
use Rattle.mrt_graph.proofs.Hops.{cut, on_front}
use Rattle.mrt_graph.proofs.Trails.{On, Parts, Trail}
use Rattle.proxy_rows.specs.declared.attachment.Attachment.{Attachment}
use Rattle.proxy_rows.specs.GraphWith.{links_with}
use Rattle.proxy_rows.proofs.NewLinks.{leads_old}

-- the front of a walk, in the graph itself, to one of the two routers
pub record Front (g : Topology) (at : Attachment) (s : ℕ) (hops : List Hop) : Type 0 where
  pub router : ℕ
  pub which : (router ≡ at.lower) ⊎ (router ≡ at.upper)
  pub front : List Hop
  pub trail : Trail g.links s front router
  pub on_all : (x : Element) → On s front x → On s hops x

onward_on : (s : ℕ) (hop : Hop) (front hops : List Hop) → ((x : Element) → On hop.to front x → On hop.to hops x) → (x : Element)
    → On s (hop ∷ front) x → On s (hop ∷ hops) x
onward_on s hop front hops on (elements.Link e) h = elim h [ inl same ↦ inl same | inr later ↦ inr (on (elements.Link e) later) ]
onward_on s hop front hops on (elements.Node x) h = elim h [ inl same ↦ inl same | inr later ↦ inr (on (elements.Node x) later) ]

none_on : (s : ℕ) (hops : List Hop) (x : Element) → On s [] x → On s hops x
none_on s hops (elements.Link e) h = absurd h
none_on s hops (elements.Node x) h = elim h [ inl same ↦ inl same | inr none ↦ absurd none ]

-- a walk stays in the graph, or has such a front
pub visit : (g : Topology) (at : Attachment) → ((e u v : ℕ) → leads g.links e u ≡ Some v → v < length g.ids) → (s t : ℕ) → s < length g.ids → (hops : List Hop)
    → Trail (links_with g at) s hops t → Trail g.links s hops t ⊎ Front g at s hops
visit g at ends s t within [] trail = inl trail
visit g at ends s t within (hop ∷ hops) trail =
    elim (leads_old g at hop.link s hop.to (λ same. omega (arith, within, same)) trail.0) [
      | inl old ↦ elim (visit g at ends hop.to t (ends hop.link s hop.to old) hops trail.1) [
        | inl rest ↦ inl (old, rest)
        | inr later ↦ inr (record {
          router = later.router;
          which = later.which;
          front = hop ∷ later.front;
          trail = (old, later.trail);
          on_all = onward_on s hop later.front hops later.on_all;
        })
      ]
      | inr new ↦ inr (record { router = s; which = new.1; front = []; trail = refl; on_all = none_on s (hop ∷ hops) })
    ]

-- x is on each walk from s to the two routers
pub record PartsBoth (g : Topology) (at : Attachment) (x : Element) (s : ℕ) : Type 0 where
  pub lower : Parts g.links x s at.lower
  pub upper : Parts g.links x s at.upper

-- and then on each that has a front
pub on_front_too : (g : Topology) (at : Attachment) (x : Element) (s : ℕ) (hops : List Hop) → PartsBoth g at x s → Front g at s hops → On s hops x
on_front_too g at x s hops parts f = f.on_all x (elim f.which [
  | inl low ↦ parts.lower f.front (subst (Trail g.links s f.front) low f.trail)
  | inr up ↦ parts.upper f.front (subst (Trail g.links s f.front) up f.trail)
])

-- what parts s and e in the graph parts s and v, if e does
pub parts_on : (g : Topology) (x : Element) (s e v : ℕ) → Parts g.links (elements.Node e) s v → Parts g.links x s e → Parts g.links x s v
parts_on g x s e v via parts hops trail =
    let c = cut g.links s e v hops trail (via hops trail) in
    subst (λ (hs : List Hop). On s hs x) c.joined (on_front s x c.front c.back (parts c.front c.front_trail))
