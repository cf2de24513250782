-- How gains add up.
use Rattle.std.proofs.Common.{
  ◌≡◌,
  ◌<◌,
  ◌+◌,
  ◌-◌,
  ◌++◌,
  ℕ,
  List,
  Option,
  Some,
  None,
  length,
  take,
  drop,
  subst,
  sym,
  ◌∙◌,
  ap,
  arith,
  append_assoc,
}
use Rattle.std.proofs.lemmas.Grind.{common_steps}
use Rattle.std.proofs.Math.Seq.{take-add}
use Rattle.mrt_io.specs.Writing.{Gained}

-- a gain, and then another
pub Gained-append : (first second : List ℕ) (old mid new : Option (List ℕ))
    → Gained old first mid → Gained mid second new → Gained old (first ++ second) new
Gained-append first second None mid new untold more =
    subst (λ (o : Option (List ℕ)). Gained o second new) untold more
Gained-append first second (Some bytes) mid new gained more =
    let both : new ≡ Some ((bytes ++ first) ++ second) =
    subst (λ (o : Option (List ℕ)). Gained o second new) gained more in
    both ∙ ap (λ (xs : List ℕ). Some xs) (append_assoc bytes first second)

-- the first i bytes, and then the first k of the rest
pub Gained-take : (i k : ℕ) (bytes : List ℕ) (old mid new : Option (List ℕ))
    → Gained old (take i bytes) mid → Gained mid (take k (take (length bytes - i) (drop i bytes))) new
    → Gained old (take (i + k) bytes) new
Gained-take i k bytes old mid new gained more =
    let piece : take (length bytes - i) (drop i bytes) ≡ drop i bytes = grind (arith, common_steps) in
    let behind : Gained mid (take k (drop i bytes)) new =
    subst (λ (p : List ℕ). Gained mid (take k p) new) piece more in
    subst (λ (p : List ℕ). Gained old p new) (sym (take-add i k bytes))
    (Gained-append (take i bytes) (take k (drop i bytes)) old mid new gained behind)

-- what is left of bytes of which not all were taken
pub some_left : (i : ℕ) (bytes : List ℕ) → i < length bytes → 0 < length (take (length bytes - i) (drop i bytes))
some_left i bytes below = grind (arith, common_steps)
