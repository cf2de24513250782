-- What an answer says of each node and each link.
use Rattle.std.proofs.Common.{◌≡◌, ◌∙◌, ℕ, List, Option, Some, length, slice_index_or, sym, ap, arith}
use Rattle.std.specs.Option.{option_map, unwrap_or}
use Rattle.std.proofs.lemmas.Option.{slice_get-get_or}
use Rattle.mrt_graph.specs.declared.cert.Role.TheVariants.{Plain}
use Rattle.mrt_graph.specs.declared.gadag.Mark.{Mark}
use Rattle.mrt_graph.specs.declared.gadag.Place.{Place}
use Rattle.mrt_graph.specs.DirectedLists.{DirectedLists}
use Rattle.mrt_graph.specs.GadagLists.{GadagLists}
use Rattle.mrt_graph.specs.GadagFields.{block_at, head_at, link_block_at, role_at}
use Rattle.mrt_graph.specs.Tails.{tail_at}
use Rattle.mrt_graph.specs.Topology.{Topology}
use Rattle.mrt_graph.proofs.ListTests.{there}
use Rattle.link_direction.specs.Directed.{IsDirected}
use Rattle.link_direction.specs.Directions.{Directions, Says}
use Rattle.link_direction.proofs.FromEarsFacts.{AreGadagFacts}
use Rattle.link_direction.proofs.OneAnswer.{gets_tail}

abbrev pub directions_of : Topology → DirectedLists → Directions
directions_of g d = record {
  order = λ v. slice_index_or d.orders v 0;
  head = λ v. unwrap_or (head_at d.places v) 0;
  block = λ v. unwrap_or (block_at d.places v) 0;
  tail = λ e. unwrap_or (tail_at g.links d.marks e) 0;
  role = λ e. unwrap_or (role_at d.marks e) Plain;
  lies_in = λ e. unwrap_or (link_block_at d.marks e) 0;
}

pub there_or : {X : Type 0} (o : Option X) (x d : X) → o ≡ Some x → o ≡ Some (unwrap_or o d)
there_or {X} o x d is = is ∙ ap (λ y. Some y) (sym (ap (λ (p : Option X). unwrap_or p d) is))

-- an answer says what it says
pub says : (g : Topology) (root : ℕ) (gadag : GadagLists) (d : DirectedLists) → AreGadagFacts g root gadag → IsDirected g root gadag d
    → Says g d (directions_of g d)
says g root gadag d facts it =
    let one_place : length d.places ≡ length g.ids = ap (λ (ps : List Place). length ps) it.places ∙ facts.one_place_each in
    record {
      one_order_each = it.numbers.one_each;
      one_place_each = one_place;
      one_mark_each = it.ways.one_each;
      orders = λ v within. slice_get-get_or d.orders v 0 (omega (arith, within, it.numbers.one_each));
      heads = λ v within.
          let place = there d.places v (omega (arith, within, one_place)) in
          there_or (head_at d.places v) place.0.head 0 (ap (λ (o : Option Place). option_map (λ p. p.head) o) place.1);
      blocks = λ v within.
          let place = there d.places v (omega (arith, within, one_place)) in
          there_or (block_at d.places v) place.0.block 0 (ap (λ (o : Option Place). option_map (λ p. p.block) o) place.1);
      tails = λ e within.
          let tail = gets_tail g root gadag it.order e facts it.whole within in
          there_or (tail_at g.links d.marks e) tail.tail 0 (tail.is d.marks it.ways);
      roles = λ e within.
          let mark = there d.marks e (omega (arith, within, it.ways.one_each)) in
          there_or (role_at d.marks e) mark.0.role Plain (ap (λ (o : Option Mark). option_map (λ m. m.role) o) mark.1);
      link_blocks = λ e within.
          let mark = there d.marks e (omega (arith, within, it.ways.one_each)) in
          there_or (link_block_at d.marks e) mark.0.block 0 (ap (λ (o : Option Mark). option_map (λ m. m.block) o) mark.1);
    }
