-- What an order by two tests tells of each of them.
use Rattle.std.proofs.Common.{◌≡◌, ℕ, false, refl, sym, subst}
use Rattle.std.specs.declared.cmp.Ordering.{Ordering}
use Rattle.std.specs.declared.cmp.Ordering.TheVariants.{Less, Equal, Greater}
use Rattle.std.specs.Cmp.{nat_cmp_is}
use Rattle.std.specs.Ordering.{is_lt, nat_cmp, ordering_then}
use Rattle.std.proofs.lemmas.Cmp.{ranked}

-- what is not below by both tests is not below by the first
pub first_not_lt : (o p : Ordering) → is_lt (ordering_then o p) ≡ false → is_lt o ≡ false
first_not_lt Less p h = h
first_not_lt Equal p h = refl
first_not_lt Greater p h = refl

-- nor by the second, where the first ties
pub second_not_lt : (o p : Ordering) → o ≡ Equal → is_lt (ordering_then o p) ≡ false → is_lt p ≡ false
second_not_lt o p tie h = subst (λ q. is_lt (ordering_then q p) ≡ false) tie h

-- what ties by both tests ties by each
pub then_tie : (o p : Ordering) → ordering_then o p ≡ Equal → (o ≡ Equal) × (p ≡ Equal)
then_tie Less p h = absurd cc
then_tie Equal p h = (refl, h)
then_tie Greater p h = absurd cc

-- numbers tie just where they are equal
pub nat_tie : (a b : ℕ) → nat_cmp a b ≡ Equal → a ≡ b
nat_tie a b h = ranked a b Equal (sym h)

pub tie_of_equals : (a b : ℕ) → a ≡ b → nat_cmp a b ≡ Equal
tie_of_equals a b same = sym (nat_cmp_is a b Equal same)

pub less_not_equal : (o : Ordering) → o ≡ Less → o ≡ Equal → ⊥
less_not_equal o less equal = absurd cc

pub greater_not_equal : (o : Ordering) → o ≡ Greater → o ≡ Equal → ⊥
greater_not_equal o greater equal = absurd cc
