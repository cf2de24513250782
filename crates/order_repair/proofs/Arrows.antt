-- The two nodes of a link by its mark are those that its direction tells.
use Rattle.std.proofs.Common.{◌≡◌, ◌≢◌, ◌∙◌, ◌<◌, ℕ, Some, slice_get, refl, ap, arith}
use Rattle.std.proofs.lemmas.Bool.{eq-eqb, ne_eqb}
use Rattle.std.proofs.lemmas.Option.{same_Some, slice_get_within}
use Rattle.mrt_graph.specs.declared.cert.Role.{Role}
use Rattle.mrt_graph.specs.declared.cert.Role.TheVariants.{Closing, Plain, Sole}
use Rattle.mrt_graph.specs.declared.gadag.Mark.{Mark}
use Rattle.mrt_graph.specs.declared.gadag.Way.{Way}
use Rattle.mrt_graph.specs.declared.gadag.Way.TheVariants.{AToB, BToA, Unset}
use Rattle.mrt_graph.specs.declared.link.Link.{Link}
use Rattle.mrt_graph.specs.DirectedLists.{DirectedLists}
use Rattle.mrt_graph.specs.Leads.{far_node, leads}
use Rattle.mrt_graph.specs.Tails.{tail_of}
use Rattle.mrt_graph.specs.Topology.{Topology}
use Rattle.std.specs.Option.{option_and_then}
use Rattle.link_direction.specs.Directions.{Directions, Says}
use Rattle.order_repair.specs.declared.arrow.Arrow.{Arrow}
use Rattle.order_repair.specs.steps.Arrow.{arrow_of}

-- it leads from the tail
pub record IsArrow (g : Topology) (w : Directions) (e : ℕ) (arrow : Arrow) : Type 0 where
  pub from : arrow.from ≡ w.tail e
  pub onward : leads g.links e arrow.from ≡ Some arrow.to

by_way : (link : Link) (way : Way) (tail : ℕ) → link.a < link.b → tail_of link way ≡ Some tail
    → ((arrow_of link way).from ≡ tail) × (far_node (arrow_of link way).from link ≡ Some (arrow_of link way).to)
by_way link Unset tail up is = cc
by_way link AToB tail up is = (same_Some link.a tail is, rw (eq-eqb link.a link.a refl) refl)
by_way link BToA tail up is = (
  same_Some link.b tail is,
  rw (ne_eqb link.a link.b (λ same. omega (arith, up, same)), eq-eqb link.b link.b refl) refl,
)

pub arrow_is : (g : Topology) (d : DirectedLists) (w : Directions) (e : ℕ) (link : Link) (mark : Mark) → Says g d w → link.a < link.b
    → slice_get g.links e ≡ Some link → slice_get d.marks e ≡ Some mark → IsArrow g w e (arrow_of link mark.way)
arrow_is g d w e link mark says up at marked =
    let tails = says.tails e (slice_get_within g.links e link at) in
    let tail : tail_of link mark.way ≡ Some (w.tail e) = rw (at, marked) at tails in
    let it = by_way link mark.way (w.tail e) up tail in
    record {
      from = it.0;
      onward = ap (option_and_then (far_node (arrow_of link mark.way).from)) at ∙ it.1;
    }

-- what is neither closing nor sole is plain
pub plain_role : (role : Role) → role ≢ Closing → role ≢ Sole → role ≡ Plain
plain_role Plain not_closing not_sole = refl
plain_role Sole not_closing not_sole = absurd (not_sole refl)
plain_role Closing not_closing not_sole = absurd (not_closing refl)
