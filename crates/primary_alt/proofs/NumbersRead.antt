-- What is read of a list that has a number for some nodes.
use Rattle.std.proofs.Common.{◌≡◌, ◌<◌, ◌∙◌, ℕ, List, Option, None, Some, length, get_or, refl, sym, subst}
use Rattle.std.proofs.lemmas.List.{get_or_default}
use Rattle.std.proofs.lemmas.Option.{get_or_from_slice_get, same_Some, slice_get_read}
use Rattle.primary_alt.specs.Distances.{HasDistance}

-- what was read for a node is its number
pub number_read : (numbers : List (Option ℕ)) (at v number : ℕ) → at ≡ v → v < length numbers → get_or numbers at None ≡ Some number → HasDistance numbers v number
number_read numbers at v number same within read =
    slice_get_read numbers (length numbers) v (Some number) refl within
    (sym (subst (λ (i : ℕ). get_or numbers i None ≡ Some number) same read) ∙ get_or_default numbers v None (Some number) within)

-- its number is what is read for it
pub read_of : (numbers : List (Option ℕ)) (at v number : ℕ) → at ≡ v → HasDistance numbers v number → get_or numbers at None ≡ Some number
read_of numbers at v number same has = subst (λ (i : ℕ). get_or numbers i None ≡ Some number) (sym same) (get_or_from_slice_get numbers v (Some number) None has)

-- a node has one number
pub one_number : (numbers : List (Option ℕ)) (v a b : ℕ) → HasDistance numbers v a → HasDistance numbers v b → a ≡ b
one_number numbers v a b at other = same_Some a b (same_Some (Some a) (Some b) (sym at ∙ other))
