-- The arcs of shortest paths, found one after another.
use Rattle.std.proofs.Common.{◌≡◌, ◌<◌, ◌≤◌, ◌+◌, ◌∙◌, ◌++◌, ℕ, List, [], ◌∷◌, Option, Some, length, slice_get, inl, inr, sym, ap, subst, arith}
use Rattle.std.specs.Prelude.{Contains, IsPermutation}
use Rattle.std.proofs.lemmas.Bool.{cases_lt}
use Rattle.std.proofs.lemmas.List.Elements.{Contains-append_left, Contains-push, Contains-push_cases}
use Rattle.std.proofs.lemmas.List.Sorted.{Contains-permutation, IsPermutation-sym}
use Rattle.std.proofs.lemmas.Option.{same_Some}
use Rattle.area_graph.specs.declared.area_types.Arc.{Arc}
use Rattle.primary_alt.specs.declared.onward.Onward.{Onward}
use Rattle.primary_alt.specs.steps.Onward.{AreOnward, IsOnward}
use Rattle.primary_alt.proofs.NumbersRead.{one_number}

-- the arc of the last number is this one
last_arc : (arcs : List Arc) (count number : ℕ) (arc other : Arc) → slice_get arcs count ≡ Some arc → slice_get arcs number ≡ Some other → count ≤ number → number < count + 1
    → (number ≡ count) × (other ≡ arc)
last_arc arcs count number arc other at there upto low =
    let same : number ≡ count = omega (arith, upto, low) in
    (same, same_Some other arc (sym there ∙ ap (λ (i : ℕ). slice_get arcs i) same ∙ at))

-- an arc has one sum
one_sum : (known : List (Option ℕ)) (arc : Arc) (a b : ℕ) → IsOnward known arc a → IsOnward known arc b → a ≡ b
one_sum known arc a b one other = omega (arith, one.is, other.is, one_number known arc.tail one.near other.near one.tail other.tail)

pub one_onward : (arcs : List Arc) (known : List (Option ℕ)) (onward : List Onward) (next : Onward) (arc : Arc) → slice_get arcs next.number ≡ Some arc → IsOnward known arc next.sum
    → AreOnward arcs known next.number onward → AreOnward arcs known (next.number + 1) (onward ++ next ∷ [])
one_onward arcs known onward next arc at is are = record {
  all = λ number sum a low there is'. elim (cases_lt number next.number) [
    | inl early ↦ Contains-append_left onward (next ∷ []) _ (are.all number sum a early there is')
    | inr upto ↦
        let last = last_arc arcs next.number number arc a at there upto low in
        let same : sum ≡ next.sum = one_sum known arc sum next.sum (subst (λ (b : Arc). IsOnward known b sum) last.1 is') is in
        subst (λ (n : ℕ). Contains (onward ++ next ∷ []) (record { number = n; sum = sum })) (sym last.0)
        (subst (λ (n : ℕ). Contains (onward ++ next ∷ []) (record { number = next.number; sum = n })) (sym same) (Contains-push onward next))
  ];
  only = λ other has. elim (Contains-push_cases onward next other has) [
    | inl held ↦ are.only other held
    | inr last ↦ subst (λ (o : Onward). (a : Arc) × (slice_get arcs o.number ≡ Some a) × IsOnward known a o.sum) last (arc, at, is)
  ];
}

pub one_left : (arcs : List Arc) (known : List (Option ℕ)) (onward : List Onward) (count : ℕ) (arc : Arc) → slice_get arcs count ≡ Some arc → ((sum : ℕ) → ¬ IsOnward known arc sum)
    → AreOnward arcs known count onward → AreOnward arcs known (count + 1) onward
one_left arcs known onward count arc at none are = record {
  all = λ number sum other low there is. elim (cases_lt number count) [
    | inl early ↦ are.all number sum other early there is
    | inr upto ↦
        let last = last_arc arcs count number arc other at there upto low in
        absurd (none sum (subst (λ (a : Arc). IsOnward known a sum) last.1 is))
  ];
  only = are.only;
}

-- all of them
pub onward_all : (arcs : List Arc) (known : List (Option ℕ)) (onward : List Onward) (count : ℕ) → length arcs ≤ count → AreOnward arcs known count onward
    → AreOnward arcs known (length arcs) onward
onward_all arcs known onward count all are = record { all = λ number sum arc low. are.all number sum arc (omega (arith, low, all)); only = are.only }

-- in another order
pub onward_moved : (arcs : List Arc) (known : List (Option ℕ)) (count : ℕ) (onward moved : List Onward) → IsPermutation onward moved → AreOnward arcs known count onward
    → AreOnward arcs known count moved
onward_moved arcs known count onward moved p are = record {
  all = λ number sum arc low there is. Contains-permutation onward moved _ p (are.all number sum arc low there is);
  only = λ next has. are.only next (Contains-permutation moved onward next (IsPermutation-sym onward moved p) has);
}
