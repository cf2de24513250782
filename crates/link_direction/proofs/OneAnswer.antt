-- A GADAG has one answer.
use Rattle.std.proofs.Common.{◌≡◌, ◌<◌, ◌∙◌, ℕ, suc, List, [], ◌∷◌, Option, Some, length, slice_get, inl, inr, refl, sym, ap, subst, arith}
use Rattle.std.specs.Option.{option_map}
use Rattle.std.proofs.lemmas.Bool.{cases_order}
use Rattle.std.proofs.lemmas.Option.{same_Some}
use Rattle.mrt_graph.specs.declared.gadag.Mark.{Mark}
use Rattle.mrt_graph.specs.declared.gadag.Way.{Way}
use Rattle.mrt_graph.specs.declared.gadag.Way.TheVariants.{AToB, BToA, Unset}
use Rattle.mrt_graph.specs.declared.link.Link.{Link}
use Rattle.mrt_graph.specs.DirectedLists.{DirectedLists}
use Rattle.mrt_graph.specs.GadagLists.{GadagLists}
use Rattle.mrt_graph.specs.GadagFields.{way_at}
use Rattle.mrt_graph.specs.GraphInvariant.{IsLink}
use Rattle.mrt_graph.specs.Tails.{tail_at, tail_of}
use Rattle.mrt_graph.specs.Topology.{Topology}
use Rattle.mrt_graph.proofs.Hops.{lead_back}
use Rattle.mrt_graph.proofs.ListPlaces.{place_of}
use Rattle.mrt_graph.proofs.ListTests.{all_at, there}
use Rattle.lowpoint_dfs.proofs.WholeTree.{leads_within}
use Rattle.gadag_ears.proofs.LinkBlocks.{leads_over}
use Rattle.link_direction.specs.Directed.{AreNumbers, AreWays, IsDirected}
use Rattle.link_direction.specs.GadagOrder.{IsWholeOrder}
use Rattle.link_direction.proofs.EachInOrder.{each_in_order}
use Rattle.link_direction.proofs.FromEarsFacts.{AreGadagFacts}
use Rattle.link_direction.proofs.OneOrder.{one_order_list}
use Rattle.link_direction.proofs.LinksDirected.{tail_there}

-- lists of one length with the same at each place are one
same_places : {X : Type 0} (xs ys : List X) → length xs ≡ length ys → ((k : ℕ) → k < length xs → slice_get xs k ≡ slice_get ys k) → xs ≡ ys
same_places [] [] long same = refl
same_places [] (y ∷ ys) long same = absurd (omega (arith, long))
same_places (x ∷ xs) [] long same = absurd (omega (arith, long))
same_places (x ∷ xs) (y ∷ ys) long same =
    let first : x ≡ y = same_Some x y (same 0 (omega arith)) in
    let rest : xs ≡ ys = same_places xs ys (omega (arith, long)) (λ k within. same (suc k) (omega (arith, within))) in
    cc

-- the order numbers are one list
same_numbers : (g : Topology) (root : ℕ) (gadag : GadagLists) (order numbers numbers' : List ℕ) → AreGadagFacts g root gadag
    → IsWholeOrder g root gadag.marks order → AreNumbers g order numbers → AreNumbers g order numbers' → numbers ≡ numbers'
same_numbers g root gadag order numbers numbers' facts whole one two =
    same_places numbers numbers' (one.one_each ∙ sym two.one_each) (λ v within.
    let place = place_of order v (each_in_order g root gadag order v facts whole (omega (arith, within, one.one_each))) in
    one.places place.0 v place.1 ∙ sym (two.places place.0 v place.1))

-- a direction is known by its tail
one_way : (link : Link) (way way' : Way) (u : ℕ) → link.a < link.b → tail_of link way ≡ Some u → tail_of link way' ≡ Some u → way ≡ way'
one_way link Unset way' u less one two = absurd (cc)
one_way link AToB Unset u less one two = absurd (cc)
one_way link AToB AToB u less one two = refl
one_way link AToB BToA u less one two = absurd (omega (arith, less, same_Some link.a u one, same_Some link.b u two))
one_way link BToA Unset u less one two = absurd (cc)
one_way link BToA AToB u less one two = absurd (omega (arith, less, same_Some link.b u one, same_Some link.a u two))
one_way link BToA BToA u less one two = refl

-- the tail that a link gets
pub record HasTail (g : Topology) (root : ℕ) (gadag : GadagLists) (order : List ℕ) (e : ℕ) : Type 0 where
  pub tail : ℕ
  pub is : (marks : List Mark) → AreWays g order gadag.marks marks → tail_at g.links marks e ≡ Some tail

has_tail : (g : Topology) (root : ℕ) (gadag : GadagLists) (order : List ℕ) (e : ℕ) (link : Link) (mark : Mark) → AreGadagFacts g root gadag
    → IsWholeOrder g root gadag.marks order → slice_get g.links e ≡ Some link → slice_get gadag.marks e ≡ Some mark
    → (way : Way) → mark.way ≡ way → HasTail g root gadag order e
has_tail g root gadag order e link mark facts whole at is AToB way = record {
  tail = link.a;
  is = λ marks are. are.of_ears e link.a (tail_there g gadag.marks e link mark at is ∙ ap (λ (w : Way). tail_of link w) way);
}
has_tail g root gadag order e link mark facts whole at is BToA way = record {
  tail = link.b;
  is = λ marks are. are.of_ears e link.b (tail_there g gadag.marks e link mark at is ∙ ap (λ (w : Way). tail_of link w) way);
}
has_tail g root gadag order e link mark facts whole at is Unset way =
    let unset : way_at gadag.marks e ≡ Some Unset = ap (λ (o : Option Mark). option_map (λ m. m.way) o) is ∙ ap (λ (w : Way). Some w) way in
    let onward = leads_over g e link at in
    let within = leads_within g e link.a link.b facts.kept onward in
    let a_at = place_of order link.a (each_in_order g root gadag order link.a facts whole within.0) in
    let b_at = place_of order link.b (each_in_order g root gadag order link.b facts whole within.1) in
    elim (cases_order a_at.0 b_at.0) [
      | inl same ↦
          let two : link.a ≡ link.b = same_Some link.a link.b (sym a_at.1 ∙ ap (λ (k : ℕ). slice_get order k) same ∙ b_at.1) in
          absurd (omega (arith, two, (all_at (IsLink g.ids) g.links e link facts.kept.links_kept at).ascending))
      | inr (inl less) ↦ record {
        tail = link.a;
        is = λ marks are. are.of_none e link.a link.b a_at.0 b_at.0 unset onward a_at.1 b_at.1 less;
      }
      | inr (inr more) ↦ record {
        tail = link.b;
        is = λ marks are. are.of_none e link.b link.a b_at.0 a_at.0 unset (lead_back g.links e link.a link.b onward) b_at.1 a_at.1 more;
      }
    ]

-- each link gets a tail
pub gets_tail : (g : Topology) (root : ℕ) (gadag : GadagLists) (order : List ℕ) (e : ℕ) → AreGadagFacts g root gadag
    → IsWholeOrder g root gadag.marks order → e < length g.links → HasTail g root gadag order e
gets_tail g root gadag order e facts whole within =
    let link = there g.links e within in
    let mark = there gadag.marks e (omega (arith, within, facts.one_mark_each)) in
    has_tail g root gadag order e link.0 mark.0 facts whole link.1 mark.1 mark.0.way refl

-- the marks are one list
same_marks : (g : Topology) (root : ℕ) (gadag : GadagLists) (order : List ℕ) (marks marks' : List Mark) → AreGadagFacts g root gadag
    → IsWholeOrder g root gadag.marks order → AreWays g order gadag.marks marks → AreWays g order gadag.marks marks' → marks ≡ marks'
same_marks g root gadag order marks marks' facts whole one two =
    same_places marks marks' (one.one_each ∙ sym two.one_each) (λ e e_within.
    let within : e < length g.links = omega (arith, e_within, one.one_each) in
    let link = there g.links e within in
    let m = there marks e e_within in
    let m' = there marks' e (omega (arith, within, two.one_each)) in
    let tail = gets_tail g root gadag order e facts whole within in
    let way : m.0.way ≡ m'.0.way =
    one_way link.0 m.0.way m'.0.way tail.tail (all_at (IsLink g.ids) g.links e link.0 facts.kept.links_kept link.1).ascending
    (sym (tail_there g marks e link.0 m.0 link.1 m.1) ∙ tail.is marks one) (sym (tail_there g marks' e link.0 m'.0 link.1 m'.1) ∙ tail.is marks' two) in
    let role : m.0.role ≡ m'.0.role =
    same_Some m.0.role m'.0.role (sym (ap (λ (o : Option Mark). option_map (λ x. x.role) o) m.1) ∙ one.roles e ∙ sym (two.roles e)
    ∙ ap (λ (o : Option Mark). option_map (λ x. x.role) o) m'.1) in
    let block : m.0.block ≡ m'.0.block =
    same_Some m.0.block m'.0.block (sym (ap (λ (o : Option Mark). option_map (λ x. x.block) o) m.1) ∙ one.blocks e ∙ sym (two.blocks e)
    ∙ ap (λ (o : Option Mark). option_map (λ x. x.block) o) m'.1) in
    m.1 ∙ ap (λ (x : Mark). Some x) (same_mark m.0 m'.0 way role block) ∙ sym m'.1)
  where
    same_mark : (x y : Mark) → x.way ≡ y.way → x.role ≡ y.role → x.block ≡ y.block → x ≡ y
    same_mark x y way role block = λ i. record { way = way i; role = role i; block = block i }

pub one_answer : (g : Topology) (root : ℕ) (gadag : GadagLists) (d other : DirectedLists) → AreGadagFacts g root gadag
    → IsDirected g root gadag d → IsDirected g root gadag other → d ≡ other
one_answer g root gadag d other facts one two =
    let order : two.order ≡ one.order = one_order_list g root gadag.marks two.order one.order two.whole one.whole in
    let numbers : d.orders ≡ other.orders =
    same_numbers g root gadag one.order d.orders other.orders facts one.whole one.numbers (subst (λ (xs : List ℕ). AreNumbers g xs other.orders) order two.numbers) in
    let marks : d.marks ≡ other.marks =
    same_marks g root gadag one.order d.marks other.marks facts one.whole one.ways (subst (λ (xs : List ℕ). AreWays g xs gadag.marks other.marks) order two.ways) in
    let places : d.places ≡ other.places = one.places ∙ sym two.places in
    same_lists_of d other numbers places marks
  where
    same_lists_of : (x y : DirectedLists) → x.orders ≡ y.orders → x.places ≡ y.places → x.marks ≡ y.marks → x ≡ y
    same_lists_of x y orders places marks = λ i. record { orders = orders i; places = places i; marks = marks i }
