-- A fresh checksum is good: with it both sums are 0.
use Rattle.std.proofs.Common.{◌≡◌, ◌≢◌, ◌<◌, ◌≤◌, ℕ, ◌+◌, ◌-◌, ◌*◌, ◌/◌, ◌%◌, ◌^◌, true, List, [], ◌∷◌, ◌++◌, length, inl, inr, refl, sym, ap, subst, ◌∙◌, arith}
use Rattle.std.proofs.lemmas.Bool.{eq-eqb, ne_eqb}
use Rattle.std.proofs.lemmas.Bool.Decides.{eqb_tells}
use Rattle.std.proofs.lemmas.List.{length-append}
use Rattle.std.proofs.lemmas.Nat.{mul-mod_second}
use Rattle.ospf_lsa.specs.Checksum.{sums_from, sums_of, is_good, check_byte, first_check, second_check, fresh_checksum}

-- two numbers with one remainder modulo 255
abbrev AreAlike : ℕ → ℕ → Type 0
AreAlike a b = a % 255 ≡ b % 255

alike_products : (n a b : ℕ) → AreAlike a b → AreAlike (n * a) (n * b)
alike_products n a b alike = sym (mul-mod_second n a 255) ∙ ap (λ (x : ℕ). (n * x) % 255) alike ∙ mul-mod_second n b 255

-- both sums are below 255
record AreSmall (sums : ℕ × ℕ) : Type 0 where
  first : sums.0 < 255
  second : sums.1 < 255

sums_small : (bytes : List ℕ) (c0 c1 : ℕ) → c0 < 255 → c1 < 255 → AreSmall (sums_from c0 c1 bytes)
sums_small [] c0 c1 first second = record { first = first; second = second }
sums_small (byte ∷ bytes) c0 c1 first second = sums_small bytes ((c0 + byte) % 255) ((c1 + (c0 + byte) % 255) % 255)
    (omega arith) (omega arith)

-- the sums of bytes and of those after them
sums_behind : (front rest : List ℕ) (c0 c1 : ℕ)
    → sums_from c0 c1 (front ++ rest) ≡ sums_from (sums_from c0 c1 front).0 (sums_from c0 c1 front).1 rest
sums_behind [] rest c0 c1 = refl
sums_behind (byte ∷ front) rest c0 c1 = sums_behind front rest ((c0 + byte) % 255) ((c1 + (c0 + byte) % 255) % 255)

-- sums that are higher than others by so much
record AreHigher (lower higher : ℕ × ℕ) (by0 by1 : ℕ) : Type 0 where
  first : AreAlike higher.0 (lower.0 + by0)
  second : AreAlike higher.1 (lower.1 + by1)

-- a run over bytes that is begun higher ends higher
ends_higher : (bytes : List ℕ) (c0 c1 d0 d1 by0 by1 : ℕ) → AreAlike d0 (c0 + by0) → AreAlike d1 (c1 + by1)
    → AreHigher (sums_from c0 c1 bytes) (sums_from d0 d1 bytes) by0 (by1 + length bytes * by0)
ends_higher [] c0 c1 d0 d1 by0 by1 first second = record { first = first; second = omega (arith, second) }
ends_higher (byte ∷ bytes) c0 c1 d0 d1 by0 by1 first second =
    let one : AreAlike ((d0 + byte) % 255) ((c0 + byte) % 255 + by0) = omega (arith, first) in
    let two : AreAlike ((d1 + (d0 + byte) % 255) % 255) ((c1 + (c0 + byte) % 255) % 255 + (by1 + by0)) =
    omega (arith, second, one) in
    let later = ends_higher bytes ((c0 + byte) % 255) ((c1 + (c0 + byte) % 255) % 255) ((d0 + byte) % 255)
    ((d1 + (d0 + byte) % 255) % 255) by0 (by1 + by0) one two in
    record {
      first = later.first;
      second = later.second
          ∙ ap (λ (n : ℕ). ((sums_from c0 c1 (byte ∷ bytes)).1 + n) % 255) (omega arith);
    }

-- the sums with a field of these two bytes, over those with a field of zeros
field_higher : (front tail : List ℕ) (x y : ℕ)
    → AreHigher (sums_of (front ++ (0 ∷ 0 ∷ tail))) (sums_of (front ++ (x ∷ y ∷ tail))) (x + y)
    (2 * x + y + length tail * (x + y))
field_higher front tail x y =
    let begun : AreHigher (sums_from (sums_of front).0 (sums_of front).1 (0 ∷ 0 ∷ tail))
    (sums_from (sums_of front).0 (sums_of front).1 (x ∷ y ∷ tail)) (x + y) (2 * x + y + length tail * (x + y)) =
    after (sums_of front).0 (sums_of front).1 in
    rw (sums_behind front (0 ∷ 0 ∷ tail) 0 0, sums_behind front (x ∷ y ∷ tail) 0 0) begun
  where
    after : (c0 c1 : ℕ)
        → AreHigher (sums_from c0 c1 (0 ∷ 0 ∷ tail)) (sums_from c0 c1 (x ∷ y ∷ tail)) (x + y)
        (2 * x + y + length tail * (x + y))
    after c0 c1 = ends_higher tail _ _ _ _ (x + y) (2 * x + y) (omega arith) (omega arith)

-- what is known of a check byte
record IsCheck (number byte : ℕ) : Type 0 where
  least : 1 ≤ byte
  most : byte ≤ 255
  alike : AreAlike byte number

check_is : (number : ℕ) → IsCheck number (check_byte number)
check_is number = elim (eqb_tells (number % 255) 0) [
  | inl none ↦ rw (none.0) (record { least = omega arith; most = omega arith; alike = omega (arith, none.1) })
  | inr some ↦ rw (some.0) (record { least = omega (arith, some.1); most = omega arith; alike = omega arith })
]

-- the two sums with the check bytes of sums c0 and c1 over so many bytes after the field
sums_vanish : (n c0 c1 x y : ℕ) → c0 < 255 → c1 < 255 → AreAlike x ((n + 1) * c0 + (255 - c1))
    → AreAlike y (c1 + (n + 2) * (255 - c0))
    → AreAlike (c0 + (x + y)) 0 × AreAlike (c1 + (2 * x + y + n * (x + y))) 0
sums_vanish n c0 c1 x y small0 small1 is_x is_y =
    by_negatives (255 - c0) (255 - c1) (omega arith) (omega arith) is_x is_y
  where
    by_negatives : (a b : ℕ) → c0 + a ≡ 255 → c1 + b ≡ 255 → AreAlike x ((n + 1) * c0 + b)
        → AreAlike y (c1 + (n + 2) * a)
        → AreAlike (c0 + (x + y)) 0 × AreAlike (c1 + (2 * x + y + n * (x + y))) 0
    by_negatives a b e f is_x is_y =
        let n0 : n * c0 + n * a ≡ n * 255 = omega (arith, ap (λ (s : ℕ). n * s) e) in
        let n1 : n * c1 + n * b ≡ n * 255 = omega (arith, ap (λ (s : ℕ). n * s) f) in
        let nn : n * (n * c0) + n * (n * a) ≡ n * (n * 255) = omega (arith, ap (λ (s : ℕ). n * (n * s)) e) in
        let px = alike_products n x ((n + 1) * c0 + b) is_x in
        let py = alike_products n y (c1 + (n + 2) * a) is_y in
        (omega (arith, e, f, n0, is_x, is_y), omega (arith, e, f, n0, n1, nn, is_x, is_y, px, py))

-- a small number like 0 is 0
none_left : (sum higher : ℕ) → sum < 255 → AreAlike sum higher → AreAlike higher 0 → sum ≡ 0
none_left sum higher small alike none = omega (arith, small, alike, none)

-- the two check bytes of these bytes with a field of zeros
record AreChecks (front tail : List ℕ) (x y : ℕ) : Type 0 where
  first : IsCheck
      ((length tail + 1) * (sums_of (front ++ (0 ∷ 0 ∷ tail))).0 + (255 - (sums_of (front ++ (0 ∷ 0 ∷ tail))).1)) x
  second : IsCheck
      ((sums_of (front ++ (0 ∷ 0 ∷ tail))).1 + (length tail + 2) * (255 - (sums_of (front ++ (0 ∷ 0 ∷ tail))).0)) y
  whole : fresh_checksum (front ++ (0 ∷ 0 ∷ tail)) ≡ 256 * x + y

checks_are : (front tail : List ℕ) → length front ≡ 14
    → AreChecks front tail (first_check (length (front ++ (0 ∷ 0 ∷ tail))) (sums_of (front ++ (0 ∷ 0 ∷ tail))))
    (second_check (length (front ++ (0 ∷ 0 ∷ tail))) (sums_of (front ++ (0 ∷ 0 ∷ tail))))
unfolding fresh_checksum
checks_are front tail placed =
    let size : length (front ++ (0 ∷ 0 ∷ tail)) ≡ 16 + length tail =
    omega (arith, placed, length-append front (0 ∷ 0 ∷ tail)) in
    let one : length (front ++ (0 ∷ 0 ∷ tail)) - 15 ≡ length tail + 1 = omega (arith, size) in
    let two : length (front ++ (0 ∷ 0 ∷ tail)) - 14 ≡ length tail + 2 = omega (arith, size) in
    let c0 : ℕ = (sums_of (front ++ (0 ∷ 0 ∷ tail))).0 in
    let c1 : ℕ = (sums_of (front ++ (0 ∷ 0 ∷ tail))).1 in
    record {
      first = subst
          (λ (n : ℕ). IsCheck (n * c0 + (255 - c1))
          (first_check (length (front ++ (0 ∷ 0 ∷ tail))) (sums_of (front ++ (0 ∷ 0 ∷ tail))))) one
          (check_is ((length (front ++ (0 ∷ 0 ∷ tail)) - 15) * c0 + (255 - c1)));
      second = subst
          (λ (n : ℕ). IsCheck (c1 + n * (255 - c0))
          (second_check (length (front ++ (0 ∷ 0 ∷ tail))) (sums_of (front ++ (0 ∷ 0 ∷ tail))))) two
          (check_is (c1 + (length (front ++ (0 ∷ 0 ∷ tail)) - 14) * (255 - c0)));
      whole = refl;
    }

-- with these check bytes the checksum is good
made_good : (front tail : List ℕ) (x y c0 c1 : ℕ) → c0 < 255 → c1 < 255
    → IsCheck ((length tail + 1) * c0 + (255 - c1)) x → IsCheck (c1 + (length tail + 2) * (255 - c0)) y
    → AreHigher (c0, c1) (sums_of (front ++ (x ∷ y ∷ tail))) (x + y) (2 * x + y + length tail * (x + y))
    → is_good (front ++ (x ∷ y ∷ tail)) (256 * x + y) ≡ true
unfolding is_good
made_good front tail x y c0 c1 small0 small1 first second higher =
    let gone = sums_vanish (length tail) c0 c1 x y small0 small1 first.alike second.alike in
    let small = sums_small (front ++ (x ∷ y ∷ tail)) 0 0 (omega arith) (omega arith) in
    let none0 : (sums_of (front ++ (x ∷ y ∷ tail))).0 ≡ 0 = none_left _ _ small.first higher.first gone.0 in
    let none1 : (sums_of (front ++ (x ∷ y ∷ tail))).1 ≡ 0 = none_left _ _ small.second higher.second gone.1 in
    let some : 256 * x + y ≢ 0 = λ e. omega (arith, first.least, e) in
    rw (eq-eqb _ _ none0, eq-eqb _ _ none1, ne_eqb _ _ some) refl

pub fresh_good : (front tail : List ℕ) → length front ≡ 14
    → is_good (front ++
    (fresh_checksum (front ++ (0 ∷ 0 ∷ tail)) / 256 % 256 ∷ fresh_checksum (front ++ (0 ∷ 0 ∷ tail)) % 256 ∷ tail))
    (fresh_checksum (front ++ (0 ∷ 0 ∷ tail))) ≡ true
fresh_good front tail placed = by_checks _ _ (checks_are front tail placed)
  where
    by_checks : (x y : ℕ) → AreChecks front tail x y
        → is_good (front ++
        (fresh_checksum (front ++ (0 ∷ 0 ∷ tail)) / 256 % 256 ∷ fresh_checksum
        (front ++ (0 ∷ 0 ∷ tail)) % 256 ∷ tail)) (fresh_checksum (front ++ (0 ∷ 0 ∷ tail))) ≡ true
    by_checks x y are =
        let high : fresh_checksum (front ++ (0 ∷ 0 ∷ tail)) / 256 % 256 ≡ x =
        omega (arith, are.whole, are.first.most, are.second.most) in
        let low : fresh_checksum (front ++ (0 ∷ 0 ∷ tail)) % 256 ≡ y = omega (arith, are.whole, are.second.most) in
        let small = sums_small (front ++ (0 ∷ 0 ∷ tail)) 0 0 (omega arith) (omega arith) in
        rw (high, low, are.whole)
        (made_good front tail x y (sums_of (front ++ (0 ∷ 0 ∷ tail))).0
        (sums_of (front ++ (0 ∷ 0 ∷ tail))).1 small.first small.second are.first are.second
        (field_higher front tail x y))

-- it fits its field
pub fresh_small : (front tail : List ℕ) → length front ≡ 14 → fresh_checksum (front ++ (0 ∷ 0 ∷ tail)) < 2 ^ 16
fresh_small front tail placed = by_checks _ _ (checks_are front tail placed)
  where
    by_checks : (x y : ℕ) → AreChecks front tail x y → fresh_checksum (front ++ (0 ∷ 0 ∷ tail)) < 2 ^ 16
    by_checks x y are = omega (arith, are.whole, are.first.most, are.second.most)
