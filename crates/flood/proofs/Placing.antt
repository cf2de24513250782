-- LSAs with their places in the file, one after another.
use Rattle.std.proofs.Common.{◌≡◌, ◌∙◌, ◌<◌, ◌+◌, ℕ, zero, suc, List, [], ◌∷◌, ◌++◌, length, map, take, drop, set, get_or, inl, inr, refl, sym, ap, subst, arith, add-one}
use Rattle.std.proofs.lemmas.List.{length-append}
use Rattle.mrt_graph.proofs.Members.{Has}
use Rattle.ospf_lsa.specs.declared.lsa.Lsa.{Lsa}
use Rattle.ospf_lsa.specs.Lsas.{AreLsas}
use Rattle.ospf_lsa.specs.LsaText.{lsa_text, lsa_length, lsas_text}
use Rattle.ospf_lsa.proofs.OneReading.{length_lsa}

-- one more element is mapped in its place
pub mapped_on : {X : Type 0} (f : X → X) (xs : List X) (i : ℕ) (d : X) → i < length xs
    → set (map f (take i xs) ++ drop i xs) i (f (get_or (map f (take i xs) ++ drop i xs) i d))
    ≡ map f (take (suc i) xs) ++ drop (suc i) xs
mapped_on f [] i d lt = absurd (omega (arith, lt))
mapped_on f (x ∷ xs) zero d lt = refl
mapped_on {X = X} f (x ∷ xs) (suc i) d lt = ap (λ (ys : List X). f x ∷ ys) (mapped_on f xs i d (omega (arith, lt)))

-- and stands there as it was before
pub unmapped_at : {X : Type 0} (f : X → X) (xs : List X) (i : ℕ) (d : X) → i < length xs
    → Has xs (get_or (map f (take i xs) ++ drop i xs) i d)
unmapped_at f [] i d lt = absurd (omega (arith, lt))
unmapped_at f (x ∷ xs) zero d lt = inl refl
unmapped_at f (x ∷ xs) (suc i) d lt = inr (unmapped_at f xs i d (omega (arith, lt)))

-- LSAs one after another begin before the end of their bytes
pub at_within : (start : ℕ) (lsas : List Lsa) (lsa : Lsa) → AreLsas start lsas → Has lsas lsa
    → lsa.at < start + length (lsas_text lsas)
at_within start [] lsa are has = absurd has
at_within start (first ∷ lsas) lsa are (inl same) =
    let here : lsa.at ≡ start = ap (λ (l : Lsa). l.at) (sym same) ∙ are.0 in
    omega (arith, here, length-append (lsa_text first) (lsas_text lsas), length_lsa first)
at_within start (first ∷ lsas) lsa are (inr has) =
    let later = at_within (start + lsa_length first) lsas lsa are.2 has in
    omega (arith, later, length-append (lsa_text first) (lsas_text lsas), length_lsa first)

-- the same, one index on
pub mapped_next : {X : Type 0} (f : X → X) (xs ys : List X) (i : ℕ) (d : X) → i < length xs
    → ys ≡ map f (take i xs) ++ drop i xs
    → set ys i (f (get_or ys i d)) ≡ map f (take (i + 1) xs) ++ drop (i + 1) xs
mapped_next {X = X} f xs ys i d lt is =
    subst (λ (zs : List X). set zs i (f (get_or zs i d)) ≡ map f (take (i + 1) xs) ++ drop (i + 1) xs) (sym is)
    (subst (λ (n : ℕ). set (map f (take i xs) ++ drop i xs) i (f (get_or (map f (take i xs) ++ drop i xs) i d))
    ≡ map f (take n xs) ++ drop n xs) (sym (add-one i)) (mapped_on f xs i d lt))
