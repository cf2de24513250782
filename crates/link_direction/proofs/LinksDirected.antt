-- The directions that the numbers give.
use Rattle.std.proofs.Common.{◌≡◌, ◌<◌, ◌≤◌, ◌+◌, ◌∙◌, ℕ, true, false, List, Option, Some, None, length, nat_lt, get_or, slice_get, slice_index_or, inl, inr, refl, sym, ap, arith}
use Rattle.std.specs.Option.{option_and_then, option_map}
use Rattle.std.proofs.lemmas.Bool.{cases_lt, lt-ltb, le-ltb}
use Rattle.std.proofs.lemmas.Option.{get_or_from_slice_get, same_Some, slice_get_within}
use Rattle.mrt_graph.specs.declared.gadag.Mark.{Mark}
use Rattle.mrt_graph.specs.declared.gadag.Way.{Way}
use Rattle.mrt_graph.specs.declared.gadag.Way.TheVariants.{AToB, BToA, Unset}
use Rattle.mrt_graph.specs.declared.link.Link.{Link}
use Rattle.mrt_graph.specs.GadagFields.{link_block_at, role_at, way_at}
use Rattle.mrt_graph.specs.Leads.{far_node, leads}
use Rattle.mrt_graph.specs.Tails.{tail_at, tail_of}
use Rattle.mrt_graph.specs.Topology.{Topology}
use Rattle.mrt_graph.proofs.Hops.{far_ends}
use Rattle.mrt_graph.proofs.ListTests.{there}
use Rattle.link_direction.specs.Directed.{AreNumbers, AreWays}
use Rattle.link_direction.specs.steps.LinksOfNoEar.{AreLinksDirected, mark_by, direction_by}

-- what holds of the marks link by link, or of marks that are not there
data IsGiven (g : Topology) (numbers : List ℕ) (before after : List Mark) (e : ℕ) : Type 0 where
  There : (link : Link) (mark : Mark) → slice_get g.links e ≡ Some link → slice_get before e ≡ Some mark
      → slice_get after e ≡ Some (mark_by numbers link mark) → IsGiven g numbers before after e
  Nowhere : slice_get after e ≡ slice_get before e → length g.links ≤ e → IsGiven g numbers before after e

is_given : (g : Topology) (numbers : List ℕ) (before after : List Mark) (e : ℕ) → length before ≡ length g.links
    → AreLinksDirected g numbers (length g.links) before after → IsGiven g numbers before after e
is_given g numbers before after e one_each are = elim (cases_lt e (length g.links)) [
  | inl within ↦
      let link = there g.links e within in
      let mark = there before e (omega (arith, within, one_each)) in
      There link.0 mark.0 link.1 mark.1 (are.given e link.0 within link.1 ∙ ap (λ (o : Option Mark). option_map (mark_by numbers link.0) o) mark.1)
  | inr beyond ↦ Nowhere (are.others e beyond) beyond
]

same_role : (g : Topology) (numbers : List ℕ) (before after : List Mark) (e : ℕ) → IsGiven g numbers before after e → role_at after e ≡ role_at before e
same_role g numbers before after e (There link mark at was is) =
    ap (λ (o : Option Mark). option_map (λ m. m.role) o) is ∙ sym (ap (λ (o : Option Mark). option_map (λ m. m.role) o) was)
same_role g numbers before after e (Nowhere same beyond) = ap (λ (o : Option Mark). option_map (λ m. m.role) o) same

same_block : (g : Topology) (numbers : List ℕ) (before after : List Mark) (e : ℕ) → IsGiven g numbers before after e → link_block_at after e ≡ link_block_at before e
same_block g numbers before after e (There link mark at was is) =
    ap (λ (o : Option Mark). option_map (λ m. m.block) o) is ∙ sym (ap (λ (o : Option Mark). option_map (λ m. m.block) o) was)
same_block g numbers before after e (Nowhere same beyond) = ap (λ (o : Option Mark). option_map (λ m. m.block) o) same

-- the tail of a link that is there, with its mark
pub tail_there : (g : Topology) (marks : List Mark) (e : ℕ) (link : Link) (mark : Mark) → slice_get g.links e ≡ Some link → slice_get marks e ≡ Some mark
    → tail_at g.links marks e ≡ tail_of link mark.way
tail_there g marks e link mark at is =
    ap (λ (o : Option Link). option_and_then (λ l. option_and_then (tail_of l) (way_at marks e)) o) at
    ∙ ap (λ (o : Option Mark). option_and_then (tail_of link) (option_map (λ m. m.way) o)) is

kept_way : (numbers : List ℕ) (link : Link) (way : Way) (u : ℕ) → tail_of link way ≡ Some u → tail_of link (direction_by numbers link way) ≡ Some u
kept_way numbers link Unset u is = cc
kept_way numbers link AToB u is = is
kept_way numbers link BToA u is = is

kept_tail : (g : Topology) (numbers : List ℕ) (before after : List Mark) (e u : ℕ) → IsGiven g numbers before after e → tail_at g.links before e ≡ Some u
    → tail_at g.links after e ≡ Some u
kept_tail g numbers before after e u (There link mark at was is) tail =
    tail_there g after e link (mark_by numbers link mark) at is
    ∙ kept_way numbers link mark.way u (sym (tail_there g before e link mark at was) ∙ tail)
kept_tail g numbers before after e u (Nowhere same beyond) tail =
    ap (λ (o : Option Mark). option_and_then (λ l. option_and_then (tail_of l) (option_map (λ m. m.way) o)) (slice_get g.links e)) same ∙ tail

lower_first : (numbers : List ℕ) (link : Link) (u v : ℕ) → slice_index_or numbers u 0 < slice_index_or numbers v 0 → far_node u link ≡ Some v
    → tail_of link (direction_by numbers link Unset) ≡ Some u
lower_first numbers link u v less far = elim (far_ends link u v far) [
  | inl up ↦
      let test : nat_lt (slice_index_or numbers link.a 0) (slice_index_or numbers link.b 0) ≡ true =
      lt-ltb (slice_index_or numbers link.a 0) (slice_index_or numbers link.b 0)
      (omega (arith, less, ap (λ (w : ℕ). get_or numbers w 0) up.0, ap (λ (w : ℕ). get_or numbers w 0) up.1)) in
      rw test (ap (λ (w : ℕ). Some w) up.0)
  | inr down ↦
      let test : nat_lt (slice_index_or numbers link.a 0) (slice_index_or numbers link.b 0) ≡ false =
      le-ltb (slice_index_or numbers link.a 0) (slice_index_or numbers link.b 0)
      (omega (arith, less, ap (λ (w : ℕ). get_or numbers w 0) down.0, ap (λ (w : ℕ). get_or numbers w 0) down.1)) in
      rw test (ap (λ (w : ℕ). Some w) down.0)
]

new_tail : (g : Topology) (numbers : List ℕ) (before after : List Mark) (e u v : ℕ) → IsGiven g numbers before after e → way_at before e ≡ Some Unset
    → leads g.links e u ≡ Some v → slice_index_or numbers u 0 < slice_index_or numbers v 0 → tail_at g.links after e ≡ Some u
new_tail g numbers before after e u v (There link mark at was is) unset onward less =
    let way : mark.way ≡ Unset = same_Some mark.way Unset (sym (ap (λ (o : Option Mark). option_map (λ m. m.way) o) was) ∙ unset) in
    let far : far_node u link ≡ Some v = sym (ap (λ (o : Option Link). option_and_then (far_node u) o) at) ∙ onward in
    tail_there g after e link (mark_by numbers link mark) at is ∙ ap (λ (w : Way). tail_of link (direction_by numbers link w)) way ∙ lower_first numbers link u v less far
new_tail g numbers before after e u v (Nowhere same beyond) unset onward less = absurd (nowhere (slice_get g.links e) refl onward)
  where
    nowhere : (o : Option Link) → slice_get g.links e ≡ o → option_and_then (far_node u) o ≡ Some v → ⊥
    nowhere None at is = cc
    nowhere (Some link) at is = omega (arith, beyond, slice_get_within g.links e link at)

-- links of no ear lead from the lower to the higher order
pub links_directed : (g : Topology) (order numbers : List ℕ) (before after : List Mark) → length before ≡ length g.links → AreNumbers g order numbers
    → AreLinksDirected g numbers (length g.links) before after → AreWays g order before after
links_directed g order numbers before after one_each numbered are = record {
  one_each = are.one_each ∙ one_each;
  roles = λ e. same_role g numbers before after e (is_given g numbers before after e one_each are);
  blocks = λ e. same_block g numbers before after e (is_given g numbers before after e one_each are);
  of_ears = λ e u tail. kept_tail g numbers before after e u (is_given g numbers before after e one_each are) tail;
  of_none = λ e u v k l unset onward at_k at_l less. new_tail g numbers before after e u v (is_given g numbers before after e one_each are) unset onward
      (omega (arith, get_or_from_slice_get numbers u (k + 1) 0 (numbered.places k u at_k), get_or_from_slice_get numbers v (l + 1) 0 (numbered.places l v at_l), less));
}
