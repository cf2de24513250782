-- A packet has one hop or none, and one repair.
use Rattle.std.proofs.Common.{◌≡◌, ◌∙◌, ℕ, List, Option, Some, None, length, inl, inr, refl, sym, ap, subst, arith}
use Rattle.std.proofs.lemmas.Option.{same_Some}
use Rattle.fabric.specs.FabricParts.{ArePartsKept, FabricParts, element_of, node_at}
use Rattle.fabric.specs.Handling.{IsHopOrNone, IsInside, IsOutside, IsRepair}
use Rattle.fabric.specs.PacketHop.{IsColorHop, IsHop, IsOver, OverNetwork, Straight, hop_over}
use Rattle.fabric.specs.declared.event.Failure.{Failure}
use Rattle.fabric.specs.declared.next_hop.Crossing.{Crossing}
use Rattle.fabric.specs.declared.next_hop.NextHop.{NextHop}
use Rattle.fabric.specs.declared.packet.Mode.{Mode}
use Rattle.fabric.specs.declared.packet.Mode.TheVariants as modes
use Rattle.fabric.specs.declared.packet.Packet.{Packet}
use Rattle.fabric.proofs.Islands.{one_bond, one_spot}
use Rattle.fabric.proofs.Nearer.{hop_walks}
use Rattle.mrt_graph.specs.Alternate.{IsAlternate}
use Rattle.mrt_graph.specs.Hop.{Hop}
use Rattle.mrt_graph.specs.Rows.{Rows}
use Rattle.mrt_graph.specs.declared.cert.Color.{Color}
use Rattle.mrt_graph.specs.declared.link.Element.{Element}
use Rattle.mrt_graph.specs.declared.link.Link.{Link}
use Rattle.primary_alt.specs.declared.shortest.Primary.{Primary}
use Rattle.primary_alt.proofs.PrimariesLead.{one_entry}

abbrev pub one_over : Crossing → NextHop
one_over first = record { first = first; second = None; next = first.node }

abbrev pub two_over : Crossing → Crossing → NextHop
two_over first second = record { first = first; second = Some second; next = second.node }

module _ (parts : FabricParts) (are : ArePartsKept parts) (color : Color) where
  -- a hop over a link is over one bond, to one node
  same_over : (n d n' d' : ℕ) (c c' : Crossing) → ◌≡◌ {A = Option ℕ} (Some n) (Some n') → ◌≡◌ {A = Option ℕ} (Some d) (Some d') → IsOver parts color n d c → IsOver parts color n' d' c' → c ≡ c'
  same_over n d n' d' c c' same same' over over' =
      let one : IsOver parts color n' d' c =
      subst (λ (y : ℕ). IsOver parts color n' y c) (same_Some d d' same') (subst (λ (y : ℕ). IsOver parts color y d c) (same_Some n n' same) over) in
      let hops : one.hop ≡ over'.hop = same_Some _ _ (sym one.row ∙ over'.row) in
      let bond = one_bond parts are c.bond c'.bond over'.hop.link (one.link ∙ ap (λ (h : Hop). Some h.link) hops) over'.link in
      let node = one_spot parts are c.node c'.node over'.hop.to (one.node ∙ ap (λ (h : Hop). Some h.to) hops) over'.node in
      λ i. record { bond = bond i; node = node i }

  one_color_hop : (x t : ℕ) (hop other : NextHop) → IsColorHop parts color x t hop → IsColorHop parts color x t other → hop ≡ other
  one_color_hop x t hop other (Straight n d first at to over direct) (Straight n' d' first' at' to' over' direct') =
      ap one_over (same_over n d n' d' first first' (sym at ∙ at') (sym to ∙ to') over over')
  one_color_hop x t hop other (Straight n d first at to over direct) (OverNetwork n' d' m first' second at' to' over' network apart at_v on) =
      absurd (direct (rw (same_over n d n' d' first first' (sym at ∙ at') (sym to ∙ to') over over') (network, apart)))
  one_color_hop x t hop other (OverNetwork n d m first second at to over network apart at_v on) (Straight n' d' first' at' to' over' direct) =
      absurd (direct (rw (same_over n' d' n d first' first (sym at' ∙ at) (sym to' ∙ to) over' over) (network, apart)))
  one_color_hop x t hop other (OverNetwork n d m first second at to over network apart at_v on) (OverNetwork n' d' m' first' second' at' to' over' network' apart' at_v' on') =
      let same = same_over n d n' d' first first' (sym at ∙ at') (sym to ∙ to') over over' in
      let mid = sym at_v ∙ ap (λ (c : Crossing). node_at parts c.node) same ∙ at_v' in
      ap (λ (c : Crossing). two_over c second) same ∙ ap (two_over first') (same_over m d m' d' second second' mid (sym to ∙ to') on on')

module _ (parts : FabricParts) (are : ArePartsKept parts) where
  -- where there is a primary hop a walk leads
  hop_or_none : (mode : Mode) (x t : ℕ) (hop : NextHop) → IsHop parts mode x t hop → IsHopOrNone parts mode x t None → ⊥
  hop_or_none mode x t hop is none =
      let walk = hop_walks parts are x t hop (subst (λ (m : Mode). IsHop parts m x t hop) none.0 is) in none.1 walk.0 walk.1

  pub one_hop : (mode : Mode) (x t : ℕ) (hop other : NextHop) → IsHop parts mode x t hop → IsHop parts mode x t other → hop ≡ other
  one_hop modes.Primary x t hop other is is' =
      let same : is.primary ≡ is'.primary = same_Some _ _ (one_entry parts.area x t (Some is.primary) (Some is'.primary) is.is is'.is) in
      same_Some hop other (sym is.over ∙ ap (λ (p : Primary). hop_over parts.area.arcs p.first p.second p.next) same ∙ is'.over)
  one_hop (modes.Entered color) x t hop other is is' = one_color_hop parts are color x t hop other is is'
  one_hop (modes.Switched color) x t hop other is is' = one_color_hop parts are color x t hop other is is'

  pub one_hop_or_none : (mode : Mode) (x t : ℕ) (hop other : Option NextHop) → IsHopOrNone parts mode x t hop → IsHopOrNone parts mode x t other → hop ≡ other
  one_hop_or_none mode x t None None is is' = refl
  one_hop_or_none mode x t None (Some other) is is' = absurd (hop_or_none mode x t other is' is)
  one_hop_or_none mode x t (Some hop) None is is' = absurd (hop_or_none mode x t hop is is')
  one_hop_or_none mode x t (Some hop) (Some other) is is' = ap (λ (h : NextHop). Some h) (one_hop mode x t hop other is is')

one_alternate : (links : List Link) (n : ℕ) (rows : Rows) (s t : ℕ) (failed : Option Element) (answer other : Option Color)
    → IsAlternate links n rows s t failed answer → IsAlternate links n rows s t failed other → answer ≡ other
one_alternate links n rows s t failed answer other is is' = grind arith

pub one_repair : (parts : FabricParts) (failure : Option Failure) (q : Packet) (repair other : Option (Option Color)) → IsRepair parts failure q repair → IsRepair parts failure q other
    → repair ≡ other
one_repair parts failure q repair other (IsOutside out) (IsOutside out') = refl
one_repair parts failure q repair other (IsOutside out) (IsInside at to answer place destination is) = elim out [ inl none ↦ cc | inr none ↦ cc ]
one_repair parts failure q repair other (IsInside at to answer place destination is) (IsOutside out) = elim out [ inl none ↦ cc | inr none ↦ cc ]
one_repair parts failure q repair other (IsInside at to answer place destination is) (IsInside at' to' answer' place' destination' is') =
    ap (λ (c : Option Color). Some c) (one_alternate parts.island.links (length parts.island.ids) parts.rows at' to' (element_of parts failure) answer answer'
    (rw (same_Some at at' (sym place ∙ place'), same_Some to to' (sym destination ∙ destination')) at is) is')
