-- Lists of numbers: what each has, what two share, which have none twice.
use Rattle.std.proofs.Common.{◌≡◌, ◌≢◌, ◌<◌, ◌≤◌, ◌+◌, inl, inr, ℕ, Bool, List, [], ◌∷◌, ◌++◌, length, take, get_or, sym, ◌∙◌, ap, subst, arith}
use Rattle.std.specs.Prelude.{Contains, ◌==◌}
use Rattle.std.specs.Bool.{Decides}
use Rattle.std.specs.List.{IsAnyAnswer}
use Rattle.std.proofs.lemmas.Bool.{cases_lt}
use Rattle.std.proofs.lemmas.Bool.Decides.{Decides-eqb}
use Rattle.std.proofs.lemmas.List.{take_more, get_or_default}
use Rattle.std.proofs.lemmas.List.Elements.{contains_decides, Decides-contains}
use Rattle.std.proofs.lemmas.List.Quantifiers.{all_pairs_push}
use Rattle.mrt_graph.specs.Reaches.{AreDifferent}

-- what `contains` answers
pub contains_tells : (xs : List ℕ) (x : ℕ) (r : Bool) → IsAnyAnswer (λ (y : ℕ) (b : Bool). (y == x) ≡ b) xs r → Decides r (Contains xs x)
contains_tells xs x r answer = Decides-contains xs x r (contains_decides (λ (a b : ℕ). a == b) Decides-eqb xs x r answer)

-- a list of different nodes, and one more that it does not contain
pub different_more : (nodes : List ℕ) (i x : ℕ) → i < length nodes → x ≡ get_or nodes i x → AreDifferent (take i nodes) → (Contains (take i nodes) x → ⊥) → AreDifferent (take (i + 1) nodes)
different_more nodes i x within here so_far new =
    let last : get_or nodes i x ≡ x = sym here in
    let pushed : AreDifferent (take i nodes ++ x ∷ []) = all_pairs_push (λ (a b : ℕ). a ≢ b) (take i nodes) x so_far
    (λ k d before same. new (k, before, get_or_default (take i nodes) k x d before ∙ same))
    in subst AreDifferent (sym (take_more nodes i x within ∙ ap (λ (y : ℕ). take i nodes ++ y ∷ []) last)) pushed

-- P holds of the first n that are shared
pub record SharedBelow (P : ℕ → Type 0) (one other : List ℕ) (n : ℕ) : Type 0 where
  pub each : (k : ℕ) → k < n → Contains other (get_or one k 0) → P (get_or one k 0)

-- and of one more
pub shared_more : (P : ℕ → Type 0) (one other : List ℕ) (i x : ℕ) → i < length one → x ≡ get_or one i x → SharedBelow P one other i → (Contains other x → P x) → SharedBelow P one other (i + 1)
shared_more P one other i x within here so_far this = record {
  each = λ k below has. elim (cases_lt k i) [
    | inl past ↦ so_far.each k past has
    | inr now ↦
        let last : k ≡ i = omega arith in
        let it : x ≡ get_or one k 0 = here ∙ get_or_default one i x 0 within ∙ ap (λ (j : ℕ). get_or one j 0) (sym last) in
        subst P it (this (subst (λ (y : ℕ). Contains other y) (sym it) has))
  ];
}

-- and of all
pub shared_all : (P : ℕ → Type 0) (one other : List ℕ) (n : ℕ) → length one ≤ n → SharedBelow P one other n → (x : ℕ) → Contains one x → Contains other x → P x
shared_all P one other n over so_far x c has =
    let it : get_or one c.0 0 ≡ x = get_or_default one c.0 0 x c.1 ∙ c.2
    in subst P it (so_far.each c.0 (omega (arith, c.1, over)) (subst (λ (y : ℕ). Contains other y) (sym it) has))

-- what was read at a place is an element
pub contains_read : (xs : List ℕ) (i x : ℕ) → i < length xs → x ≡ get_or xs i x → Contains xs x
contains_read xs i x within here = (i, within, sym here)
