-- The numbers of flags that are set, told one after another, and those of an area's bonds.
use Rattle.std.proofs.Common.{◌≡◌, ◌<◌, ◌+◌, ◌∙◌, ℕ, zero, suc, Bool, true, false, cond, List, [], ◌∷◌, length, get_or, map, take, Option, Some, None, refl, sym, ap, arith}
use Rattle.std.specs.Prelude.{slice_get}
use Rattle.std.specs.List.{count_by}
use Rattle.std.specs.Option.{option_map}
use Rattle.std.proofs.lemmas.List.{length-map, same_lists}
use Rattle.std.proofs.lemmas.List.Sums.{sum_by-cons}
use Rattle.std.proofs.lemmas.Option.{get_or_from_slice_get, slice_get-map, slice_get_within}
use Rattle.area_graph.specs.Parts.{AreaParts}
use Rattle.area_graph.specs.declared.area_types.Bond.{Bond}
use Rattle.mrt_graph.proofs.ListTests.{there}
use Rattle.mrt_graph.proofs.Tallies.{one_if}
use Rattle.mrt_island.specs.Policy.{Policy}
use Rattle.mrt_island.specs.steps.Numbering.{AreFlagNumbers, number_at}
use Rattle.mrt_island.specs.Numbering.{AreLinkNumbers, is_link, number_inside}
use Rattle.mrt_island.proofs.Counting.{number_none, number_one, set_cons}

-- of each flag the number of those that are set, from that number on; none where it is not set
abbrev pub numbers_from : ℕ → List Bool → List (Option ℕ)
numbers_from number [] = []
numbers_from number (true ∷ flags) = Some number ∷ numbers_from (number + 1) flags
numbers_from number (false ∷ flags) = None ∷ numbers_from number flags

-- the same of the bonds of an area that are links
abbrev pub link_numbers : Policy → AreaParts → List Bool → List (Option ℕ)
link_numbers policy area inside = numbers_from 0 (map (is_link policy area.ids inside) area.bonds)

pub length_numbers : (number : ℕ) (flags : List Bool) → length (numbers_from number flags) ≡ length flags
length_numbers number [] = refl
length_numbers number (true ∷ flags) = omega (arith, length_numbers (number + 1) flags)
length_numbers number (false ∷ flags) = omega (arith, length_numbers number flags)

-- the number at a place
number_there : (number : ℕ) (flags : List Bool) (k : ℕ) → k < length flags
    → slice_get (numbers_from number flags) k ≡ Some (cond (get_or flags k false) (Some (number + number_inside flags k)) None)
number_there number [] k within = absurd (omega (arith, within))
number_there number (true ∷ flags) zero within = ap (λ (n : ℕ). Some (Some n)) (omega arith)
number_there number (false ∷ flags) zero within = refl
number_there number (true ∷ flags) (suc k) within =
    number_there (number + 1) flags k (omega (arith, within))
    ∙ ap (λ (n : ℕ). Some (cond (get_or flags k false) (Some n) None)) (omega (arith, number_one flags k))
number_there number (false ∷ flags) (suc k) within =
    number_there number flags k (omega (arith, within))
    ∙ ap (λ (n : ℕ). Some (cond (get_or flags k false) (Some n) None)) (omega (arith, number_none flags k))

pub flag_numbers : (flags : List Bool) → AreFlagNumbers flags (numbers_from 0 flags)
flag_numbers flags = record {
  one_each = length_numbers 0 flags;
  each = λ k within. number_there 0 flags k within ∙ ap (λ (n : ℕ). Some (cond (get_or flags k false) (Some n) None)) (omega arith);
}

-- there is one list of such numbers
pub are_numbers : (flags : List Bool) (numbers : List (Option ℕ)) → AreFlagNumbers flags numbers → numbers ≡ numbers_from 0 flags
are_numbers flags numbers are =
    same_lists numbers (numbers_from 0 flags) (are.one_each ∙ sym (length_numbers 0 flags))
    (λ k d within.
    let inside : k < length flags = omega (arith, within, are.one_each) in
    get_or_from_slice_get numbers k (number_at flags k) d (are.each k inside)
    ∙ sym (get_or_from_slice_get (numbers_from 0 flags) k (number_at flags k) d ((flag_numbers flags).each k inside)))

-- how many before a place pass a test
passed_before : (p : Bond → Bool) (bonds : List Bond) (k : ℕ) → number_inside (map p bonds) k ≡ count_by p (take k bonds)
passed_before p [] zero = refl
passed_before p [] (suc k) = refl
passed_before p (bond ∷ bonds) zero = refl
passed_before p (bond ∷ bonds) (suc k) =
    set_cons (p bond) (take k (map p bonds)) ∙ ap (λ (n : ℕ). one_if (p bond) + n) (passed_before p bonds k)
    ∙ sym (sum_by-cons (λ (b : Bond). one_if (p b)) bond (take k bonds))

number_of_bond : (p : Bond → Bool) (bonds : List Bond) (k : ℕ) (bond : Bond) → slice_get bonds k ≡ Some bond
    → number_at (map p bonds) k ≡ cond (p bond) (Some (count_by p (take k bonds))) None
number_of_bond p bonds k bond at =
    ap (λ (b : Bool). cond b (Some (number_inside (map p bonds) k)) None)
    (get_or_from_slice_get (map p bonds) k (p bond) false (slice_get-map p bonds k ∙ ap (option_map p) at))
    ∙ ap (λ (n : ℕ). cond (p bond) (Some n) None) (passed_before p bonds k)

-- numbers of flags that tell which bonds are links are numbers of links
pub links_numbered : (policy : Policy) (area : AreaParts) (inside : List Bool) → AreLinkNumbers policy area inside (link_numbers policy area inside)
links_numbered policy area inside =
    let p = is_link policy area.ids inside in
    let are = flag_numbers (map p area.bonds) in
    record {
      one_each = are.one_each ∙ length-map area.bonds p;
      each = λ k bond at.
          are.each k (omega (arith, slice_get_within area.bonds k bond at, length-map area.bonds p)) ∙ ap Some (number_of_bond p area.bonds k bond at);
    }

-- and there is one list of these
pub are_link_numbers : (policy : Policy) (area : AreaParts) (inside : List Bool) (link_of : List (Option ℕ)) → AreLinkNumbers policy area inside link_of
    → link_of ≡ link_numbers policy area inside
are_link_numbers policy area inside link_of numbered =
    let p = is_link policy area.ids inside in
    are_numbers (map p area.bonds) link_of (record {
      one_each = numbered.one_each ∙ sym (length-map area.bonds p);
      each = λ k within.
          let found = there area.bonds k (omega (arith, within, length-map area.bonds p)) in
          numbered.each k found.0 found.1 ∙ ap Some (sym (number_of_bond p area.bonds k found.0 found.1));
    })
