-- A GADAG has an answer.
use Rattle.std.proofs.Common.{◌≡◌, ◌+◌, ◌∙◌, ℕ, zero, suc, List, [], ◌∷◌, Some, length, slice_get, inl, inr, refl, sym, ap, arith}
use Rattle.std.specs.Option.{option_map}
use Rattle.std.proofs.lemmas.Option.{same_Some, slice_get_past}
use Rattle.mrt_graph.specs.declared.gadag.Mark.{Mark}
use Rattle.mrt_graph.specs.declared.link.Link.{Link}
use Rattle.mrt_graph.specs.DirectedLists.{DirectedLists}
use Rattle.mrt_graph.specs.GadagLists.{GadagLists}
use Rattle.mrt_graph.specs.Topology.{Topology}
use Rattle.mrt_graph.proofs.ListPlaces.{contains_at, place_of}
use Rattle.mrt_graph.proofs.Members.{listed_or_not}
use Rattle.link_direction.specs.Directed.{AreNumbers, IsDirected}
use Rattle.link_direction.specs.steps.LinksOfNoEar.{AreLinksDirected, mark_by}
use Rattle.link_direction.proofs.EachInOrder.{whole_sound}
use Rattle.link_direction.proofs.FromEarsFacts.{AreGadagFacts}
use Rattle.link_direction.proofs.OrderExists.{length-table, order_exists, table, table_at}
use Rattle.link_direction.proofs.OrderSound.{IsSound}
use Rattle.link_direction.specs.steps.Counting.{StandOnce}
use Rattle.link_direction.proofs.LinksDirected.{links_directed}

-- the place of a node in a list, from 1
record HasNumber (order : List ℕ) (v : ℕ) : Type 0 where
  number : ℕ
  is : (k : ℕ) → slice_get order k ≡ Some v → number ≡ k + 1

has_number : (order : List ℕ) → StandOnce order → (v : ℕ) → HasNumber order v
has_number order once v = elim (listed_or_not order v) [
  | inl listed ↦ let at = place_of order v listed in record { number = at.0 + 1; is = λ k there. omega (arith, once at.0 k v at.1 there) }
  | inr outside ↦ record { number = 0; is = λ k there. absurd (outside (contains_at order k v there)) }
]

numbers_exist : (g : Topology) (root : ℕ) (marks : List Mark) (order : List ℕ) → IsSound g root marks order → (numbers : List ℕ) × AreNumbers g order numbers
numbers_exist g root marks order sound =
    let number : ℕ → ℕ = λ v. (has_number order sound.once v).number in (
      table number (length g.ids),
      record {
        one_each = length-table number (length g.ids);
        places = λ k v at. table_at number (length g.ids) v (sound.within v (contains_at order k v at))
            ∙ ap (λ (n : ℕ). Some n) ((has_number order sound.once v).is k at);
      },
    )

-- each mark with its direction
abbrev given : List ℕ → List Link → List Mark → List Mark
given numbers [] marks = []
given numbers (link ∷ links) [] = []
given numbers (link ∷ links) (mark ∷ marks) = mark_by numbers link mark ∷ given numbers links marks

length-given : (numbers : List ℕ) (links : List Link) (marks : List Mark) → length marks ≡ length links → length (given numbers links marks) ≡ length marks
length-given numbers [] [] long = refl
length-given numbers [] (mark ∷ marks) long = absurd (omega (arith, long))
length-given numbers (link ∷ links) [] long = absurd (omega (arith, long))
length-given numbers (link ∷ links) (mark ∷ marks) long = omega (arith, length-given numbers links marks (omega (arith, long)))

given_at : (numbers : List ℕ) (links : List Link) (marks : List Mark) (e : ℕ) (link : Link) → length marks ≡ length links → slice_get links e ≡ Some link
    → slice_get (given numbers links marks) e ≡ option_map (mark_by numbers link) (slice_get marks e)
given_at numbers [] marks e link long at = absurd (cc)
given_at numbers (l ∷ links) [] e link long at = absurd (omega (arith, long))
given_at numbers (l ∷ links) (mark ∷ marks) zero link long at = ap (λ (x : Link). Some (mark_by numbers x mark)) (same_Some l link at)
given_at numbers (l ∷ links) (mark ∷ marks) (suc e) link long at = given_at numbers links marks e link (omega (arith, long)) at

ways_exist : (g : Topology) (numbers : List ℕ) (marks : List Mark) → length marks ≡ length g.links
    → (marks' : List Mark) × AreLinksDirected g numbers (length g.links) marks marks'
ways_exist g numbers marks long =
    let long' = length-given numbers g.links marks long in (
      given numbers g.links marks,
      record {
        one_each = long';
        given = λ e link within at. given_at numbers g.links marks e link long at;
        others = λ e beyond. slice_get_past (given numbers g.links marks) e (omega (arith, beyond, long, long'))
            ∙ sym (slice_get_past marks e (omega (arith, beyond, long)));
      },
    )

pub some_answer : (g : Topology) (root : ℕ) (gadag : GadagLists) → AreGadagFacts g root gadag → (d : DirectedLists) × IsDirected g root gadag d
some_answer g root gadag facts =
    let order = order_exists g root gadag facts in
    let numbers = numbers_exist g root gadag.marks order.0 (whole_sound g root gadag order.0 facts order.1) in
    let marks = ways_exist g numbers.0 gadag.marks facts.one_mark_each in (
      record { orders = numbers.0; places = gadag.places; marks = marks.0 },
      record {
        order = order.0;
        whole = order.1;
        numbers = numbers.1;
        places = refl;
        ways = links_directed g order.0 numbers.0 gadag.marks marks.0 facts.one_mark_each numbers.1 marks.1;
      },
    )
