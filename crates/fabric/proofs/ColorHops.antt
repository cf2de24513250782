-- A packet's hop on a color is over the beginning of its way.
use Rattle.std.proofs.Common.{◌≡◌, ◌≢◌, ◌⊎◌, ◌<◌, ◌∙◌, ℕ, false, List, [], ◌∷◌, Option, Some, None, length, slice_get, inl, inr, refl, sym, ap, subst, arith}
use Rattle.std.specs.Prelude.{IsTrue}
use Rattle.std.specs.Option.{option_and_then, option_map}
use Rattle.std.proofs.lemmas.Bool.{cases_eq, eqb-true, or_cases}
use Rattle.std.proofs.lemmas.Option.{same_Some}
use Rattle.fabric.specs.FabricParts.{ArePartsKept, FabricParts, element_at, element_of, link_at, node_at}
use Rattle.fabric.specs.PacketHop.{IsColorHop, IsOver, OverNetwork, Straight, cuts, is_on}
use Rattle.fabric.specs.declared.event.Failure.{Failure}
use Rattle.fabric.specs.declared.event.Failure.TheVariants as failures
use Rattle.fabric.specs.declared.next_hop.Crossing.{Crossing}
use Rattle.fabric.specs.declared.next_hop.NextHop.{NextHop}
use Rattle.fabric.proofs.ColorWays.{next_on}
use Rattle.fabric.proofs.Islands.{network_inside, one_spot}
use Rattle.mrt_graph.specs.declared.cert.Color.{Color}
use Rattle.mrt_graph.specs.declared.link.Element.{Element}
use Rattle.mrt_graph.specs.declared.link.Element.TheVariants as elements
use Rattle.mrt_graph.specs.declared.link.Link.{Link}
use Rattle.mrt_graph.specs.GraphInvariant.{IsLink, IsNetwork}
use Rattle.mrt_graph.specs.Hop.{Hop}
use Rattle.mrt_graph.specs.Leads.{far_node}
use Rattle.mrt_graph.proofs.Bridge.{color_leads}
use Rattle.mrt_graph.proofs.Hops.{far_ends}
use Rattle.mrt_graph.proofs.ListTests.{all_at}
use Rattle.mrt_graph.proofs.Members.{Has}
use Rattle.mrt_graph.proofs.Trails.{Differ, Follows, On, links_on, nodes_behind, nodes_on}

-- an element that hops go over, or a node that they lead to
abbrev pub Ahead : List Hop → Element → Type 0
Ahead hops (elements.Link e) = Has (links_on hops) e
Ahead hops (elements.Node x) = Has (nodes_behind hops) x

-- what has failed is an element of the island that these hops go over
pub record IsAhead (parts : FabricParts) (hops : List Hop) (failure : Option Failure) : Type 0 where
  pub x : Element
  pub is : element_of parts failure ≡ Some x
  pub ahead : Ahead hops x

pub on_ahead : (n : ℕ) (hops : List Hop) (x : Element) → Ahead hops x → On n hops x
on_ahead n hops (elements.Link e) ahead = ahead
on_ahead n hops (elements.Node y) ahead = inr ahead

-- the hop leads to node m, and the rest of the way goes on from there
pub record Onward (parts : FabricParts) (color : Color) (t : ℕ) (hop : NextHop) (d : ℕ) (hops : List Hop) : Type 0 where
  pub m : ℕ
  pub at : node_at parts hop.next ≡ Some m
  pub rest : List Hop
  pub follows : Follows (next_on parts color d) d m rest
  pub nodes : (y : ℕ) → Has (nodes_on m rest) y → Has (nodes_behind hops) y
  pub links : (e : ℕ) → Has (links_on rest) e → Has (links_on hops) e
  pub differ : (n : ℕ) → Differ (nodes_on n hops) → Differ (nodes_on m rest)
  pub shorter : length rest < length hops
  pub ahead : (failure : Option Failure) → IsTrue (cuts failure hop) → IsAhead parts hops failure
  pub ends : (hop.next ≡ t) ⊎ (¬ IsNetwork parts.area.ids hop.next)

module _ (parts : FabricParts) (are : ArePartsKept parts) (color : Color) where
  same_over : (n d n' d' : ℕ) (c : Crossing) → n' ≡ n → d' ≡ d → IsOver parts color n' d' c → IsOver parts color n d c
  same_over n d n' d' c one other over = subst (λ (y : ℕ). IsOver parts color n y c) other (subst (λ (y : ℕ). IsOver parts color y d' c) one over)

  -- a link of a network leads to a router
  to_router : (d n v next : ℕ) (hop : Hop) → next_on parts color d n ≡ Some hop → node_at parts v ≡ Some n → IsNetwork parts.area.ids v
      → node_at parts next ≡ Some hop.to → ¬ IsNetwork parts.area.ids next
  to_router d n v next hop row at network to other =
      go (slice_get parts.island.links hop.link) refl (color_leads parts.island.links parts.rows color d n hop row)
    where
      near : IsNetwork parts.island.ids n
      near = network_inside parts are v n at network

      far : IsNetwork parts.island.ids hop.to
      far = network_inside parts are next hop.to to other

      go : (o : Option Link) → slice_get parts.island.links hop.link ≡ o → option_and_then (far_node n) o ≡ Some hop.to → ⊥
      go None there is = cc
      go (Some link) there is =
          let kept = all_at (IsLink parts.island.ids) parts.island.links hop.link link are.island_kept.links_kept there in
          elim (far_ends link n hop.to is) [
            | inl up ↦ kept.not_both_networks (subst (λ (y : ℕ). IsNetwork parts.island.ids y) (sym up.0) near) (subst (λ (y : ℕ). IsNetwork parts.island.ids y) (sym up.1) far)
            | inr down ↦ kept.not_both_networks (subst (λ (y : ℕ). IsNetwork parts.island.ids y) (sym down.1) far) (subst (λ (y : ℕ). IsNetwork parts.island.ids y) (sym down.0) near)
          ]

  -- what is on a crossing of the way is ahead
  crossed : (failed : Failure) (c : Crossing) (h : Hop) (hops : List Hop) → link_at parts c.bond ≡ Some h.link → node_at parts c.node ≡ Some h.to → Has (links_on hops) h.link
      → Has (nodes_behind hops) h.to → IsTrue (is_on failed c) → IsAhead parts hops (Some failed)
  crossed (failures.Bond b) c h hops link node e v on = record {
    x = elements.Link h.link;
    is = ap (λ (y : ℕ). element_at parts (failures.Bond y)) (eqb-true b c.bond on) ∙ ap (λ (o : Option ℕ). option_map (λ e. elements.Link e) o) link;
    ahead = e;
  }
  crossed (failures.Node s) c h hops link node e v on = record {
    x = elements.Node h.to;
    is = ap (λ (y : ℕ). element_at parts (failures.Node y)) (eqb-true s c.node on) ∙ ap (λ (o : Option ℕ). option_map (λ n. elements.Node n) o) node;
    ahead = v;
  }

  -- a crossing, and the hop of the way that it is
  record IsAt (c : Crossing) (h : Hop) : Type 0 where
    link : link_at parts c.bond ≡ Some h.link
    node : node_at parts c.node ≡ Some h.to

  at_hop : (n d : ℕ) (c : Crossing) (h : Hop) → next_on parts color d n ≡ Some h → IsOver parts color n d c → IsAt c h
  at_hop n d c h row over =
      let same : over.hop ≡ h = same_Some _ _ (sym over.row ∙ row) in
      record { link = over.link ∙ ap (λ (k : Hop). Some k.link) same; node = over.node ∙ ap (λ (k : Hop). Some k.to) same }

  straight : (t n d : ℕ) (first : Crossing) (h : Hop) (rest : List Hop) → Follows (next_on parts color d) d n (h ∷ rest) → IsOver parts color n d first
      → ¬ (IsNetwork parts.area.ids first.node × (first.node ≢ t)) → Onward parts color t (record { first = first; second = None; next = first.node }) d (h ∷ rest)
  straight t n d first h rest f over direct =
      let one = at_hop n d first h f.1.0 over in
      record {
        m = h.to;
        at = one.node;
        rest = rest;
        follows = f.1.1;
        nodes = λ y has. has;
        links = λ e has. inr has;
        differ = λ n differ. differ.1;
        shorter = omega arith;
        ahead = ahead;
        ends = elim (cases_eq first.node t) [ inl here ↦ inl here | inr other ↦ inr (λ network. direct (network, other)) ];
      }
    where
      ahead : (failure : Option Failure) → IsTrue (cuts failure (record { first = first; second = None; next = first.node })) → IsAhead parts (h ∷ rest) failure
      ahead None cut = cc
      ahead (Some failed) cut =
          let one = at_hop n d first h f.1.0 over in
          elim (or_cases (is_on failed first) false cut) [ inl on ↦ crossed failed first h (h ∷ rest) one.link one.node (inl refl) (inl refl) on | inr none ↦ cc ]

  over_network : (t n d m : ℕ) (first second : Crossing) (h h' : Hop) (rest : List Hop) → Follows (next_on parts color d) d n (h ∷ h' ∷ rest)
      → IsOver parts color n d first → IsNetwork parts.area.ids first.node → node_at parts first.node ≡ Some m → IsOver parts color m d second
      → Onward parts color t (record { first = first; second = Some second; next = second.node }) d (h ∷ h' ∷ rest)
  over_network t n d m first second h h' rest f over network at on = record {
    m = h'.to;
    at = two.node;
    rest = rest;
    follows = f.1.1.1.1;
    nodes = λ y has. inr has;
    links = λ e has. inr (inr has);
    differ = λ n differ. differ.1.1;
    shorter = omega arith;
    ahead = ahead;
    ends = inr (to_router d m first.node second.node on.hop on.row at network on.node);
  }
    where
      one : IsAt first h
      one = at_hop n d first h f.1.0 over

      two : IsAt second h'
      two = at_hop h.to d second h' f.1.1.1.0 (subst (λ (y : ℕ). IsOver parts color y d second) (same_Some _ _ (sym at ∙ one.node)) on)

      ahead : (failure : Option Failure) → IsTrue (cuts failure (record { first = first; second = Some second; next = second.node })) → IsAhead parts (h ∷ h' ∷ rest) failure
      ahead None cut = cc
      ahead (Some failed) cut = elim (or_cases (is_on failed first) (is_on failed second) cut) [
        | inl before ↦ crossed failed first h (h ∷ h' ∷ rest) one.link one.node (inl refl) (inl refl) before
        | inr after ↦ crossed failed second h' (h ∷ h' ∷ rest) two.link two.node (inr (inl refl)) (inr (inl refl)) after
      ]

  pub onward : (x t n d : ℕ) (hop : NextHop) (hops : List Hop) → node_at parts x ≡ Some n → node_at parts t ≡ Some d → x ≢ t
      → Follows (next_on parts color d) d n hops → IsColorHop parts color x t hop → Onward parts color t hop d hops
  onward x t n d hop [] at to apart f is = absurd (apart (one_spot parts are x t d (at ∙ ap (λ (y : ℕ). Some y) f) to))
  onward x t n d hop (h ∷ rest) at to apart f (Straight n' d' first at' to' over direct) =
      straight t n d first h rest f (same_over n d n' d' first (same_Some _ _ (sym at' ∙ at)) (same_Some _ _ (sym to' ∙ to)) over) direct
  onward x t n d hop (h ∷ []) at to apart f (OverNetwork n' d' m first second at' to' over network other at_v on) =
      let one = at_hop n d first h f.1.0 (same_over n d n' d' first (same_Some _ _ (sym at' ∙ at)) (same_Some _ _ (sym to' ∙ to)) over) in
      absurd (other (one_spot parts are first.node t d (one.node ∙ ap (λ (y : ℕ). Some y) f.1.1) to))
  onward x t n d hop (h ∷ h' ∷ rest) at to apart f (OverNetwork n' d' m first second at' to' over network other at_v on) =
      over_network t n d m first second h h' rest f (same_over n d n' d' first (same_Some _ _ (sym at' ∙ at)) (same_Some _ _ (sym to' ∙ to)) over) network at_v
      (same_over m d m d' second refl (same_Some _ _ (sym to' ∙ to)) on)
