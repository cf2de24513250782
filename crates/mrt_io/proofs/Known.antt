-- What a reader tells of its bytes, after it gave some of them.
use Rattle.std.proofs.Common.{◌≡◌, ◌∙◌, ◌<◌, ◌++◌, ℕ, List, [], Option, Some, None, length, refl, sym, ap, subst, append-nil, append_assoc, length-append, arith}
use Rattle.std.specs.Prelude.{IfSome}
use Rattle.std.specs.Io.KnownBytes.{Consumes, IsAtEnd}

-- nothing yet
pub none_consumed : (known : Option (List ℕ)) → Consumes known known []
none_consumed None = tt
none_consumed (Some xs) = refl

-- some, and then more
pub consumed_both : (a b c : Option (List ℕ)) (first second : List ℕ) → Consumes a b first → Consumes b c second → Consumes a c (first ++ second)
consumed_both None b c first second one two = tt
consumed_both (Some xs) None c first second one two = absurd one
consumed_both (Some xs) (Some ys) None first second one two = absurd two
consumed_both (Some xs) (Some ys) (Some zs) first second one two =
    one ∙ ap (λ (rest : List ℕ). first ++ rest) two ∙ sym (append_assoc first second zs)

pub went_on : (a b c : Option (List ℕ)) (first second all : List ℕ) → all ≡ first ++ second → Consumes a b first → Consumes b c second → Consumes a c all
went_on a b c first second all added one two = subst (Consumes a c) (sym added) (consumed_both a b c first second one two)

-- at the end they are all
pub consumed_all : (a b c : Option (List ℕ)) (first : List ℕ) → Consumes a b first → Consumes b c [] → IsAtEnd c → IfSome a (λ left. first ≡ left)
consumed_all None b c first one two end = tt
consumed_all (Some xs) None c first one two end = absurd one
consumed_all (Some xs) (Some ys) None first one two end = absurd two
consumed_all (Some xs) (Some ys) (Some zs) first one two end =
    sym (one ∙ ap (λ (rest : List ℕ). first ++ rest) (two ∙ end) ∙ append-nil first)

pub ended_with : (a b c : Option (List ℕ)) (first second all : List ℕ) → all ≡ first ++ second → second ≡ [] → Consumes a b first → Consumes b c second
    → IsAtEnd c → IfSome a (λ left. all ≡ left)
ended_with a b c first second all added none one two end =
    let same : all ≡ first = added ∙ ap (λ (more : List ℕ). first ++ more) none ∙ append-nil first in
    subst (λ (l : List ℕ). IfSome a (λ left. l ≡ left)) (sym same) (consumed_all a b c first one (subst (Consumes b c) none two) end)

-- and there are at least as many
pub consumed_fewer : (a b : Option (List ℕ)) (first : List ℕ) (limit : ℕ) → Consumes a b first → limit < length first → IfSome a (λ left. limit < length left)
consumed_fewer None b first limit one more = tt
consumed_fewer (Some xs) None first limit one more = absurd one
consumed_fewer (Some xs) (Some ys) first limit one more =
    let count : length xs ≡ length (first ++ ys) = ap (λ (l : List ℕ). length l) one in
    omega (arith, more, count, length-append first ys)
