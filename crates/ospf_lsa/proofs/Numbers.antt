-- Numbers in network order are read as they are written, and written as they are read.
use Rattle.std.proofs.Common.{◌≡◌, ℕ, zero, suc, ◌+◌, ◌-◌, ◌*◌, ◌%◌, ◌^◌, ◌<◌, ◌≤◌, List, [], ◌∷◌, ◌++◌, length, get_or, take, drop, inl, inr, refl, sym, ap, subst, ◌∙◌, append_assoc, arith}
use Rattle.std.specs.Int.{Width, w8, w16, w32, byte_len, to_be_bytes}
use Rattle.std.specs.List.{flat_map, AllByRecursion}
use Rattle.std.proofs.lemmas.List.{get_or-take, drop-drop, length-append, length-drop, length-take}
use Rattle.std.proofs.lemmas.Bool.{cases_lt}
use Rattle.std.proofs.lemmas.Nat.{be_bytes_2, be_bytes_4}
use Rattle.mrt_graph.proofs.Bytes.{IsBytes, bytes_after}
use Rattle.byteorder.specs.Endian.{big_number}
use Rattle.byteorder.specs.Numbers.{big_from-lt, big_number-reads_back}
use Rattle.ospf_lsa.specs.Header.{number_at}
use Rattle.ospf_lsa.specs.steps.Reading.{numbers_in}
use Rattle.ospf_lsa.specs.Lsas.{Is32Bits, IsByte}

pub all_bytes : (bytes : List ℕ) → IsBytes bytes → AllByRecursion IsByte bytes
all_bytes [] are = tt
all_bytes (byte ∷ bytes) are = (are 0, all_bytes bytes (λ i. are (suc i)))

pub bytes_of_all : (bytes : List ℕ) → AllByRecursion IsByte bytes → IsBytes bytes
bytes_of_all [] all i = omega arith
bytes_of_all (byte ∷ bytes) all zero = all.0
bytes_of_all (byte ∷ bytes) all (suc i) = bytes_of_all bytes all.1 i

nothing_past : (xs : List ℕ) (k : ℕ) → length xs ≤ k → get_or xs k 0 ≡ 0
nothing_past [] k past = refl
nothing_past (x ∷ xs) zero past = absurd (omega arith)
nothing_past (x ∷ xs) (suc k) past = nothing_past xs k (omega arith)

-- what is taken of bytes is bytes
pub bytes_taken : (n : ℕ) (bytes : List ℕ) → IsBytes bytes → IsBytes (take n bytes)
bytes_taken n bytes are k = elim (cases_lt k (length (take n bytes))) [
  | inl inside ↦ subst (λ (b : ℕ). b < 256) (sym (get_or-take n bytes k 0 (omega (arith, length-take n bytes)))) (are k)
  | inr outside ↦ omega (arith, nothing_past (take n bytes) k outside)
]

-- the numbers of this width are spelled by the bytes that they are read from
pub record IsSpelled (w : Width) : Type 0 where
  pub spelled : (bytes : List ℕ) → byte_len w ≤ length bytes → IsBytes bytes
      → bytes ≡ to_be_bytes w (big_number (byte_len w) bytes) ++ drop (byte_len w) bytes

one_spelled : (bytes : List ℕ) → 1 ≤ length bytes → IsBytes bytes
    → bytes ≡ to_be_bytes w8 (big_number 1 bytes) ++ drop 1 bytes
one_spelled [] len are = absurd (omega arith)
one_spelled (a ∷ r) len are =
    let small : a < 256 = are 0 in
    let same : a ≡ (a * 256 ^ 0 + 0) % 256 = omega arith in
    ap (λ (x : ℕ). x ∷ r) same

two_spelled : (bytes : List ℕ) → 2 ≤ length bytes → IsBytes bytes
    → bytes ≡ to_be_bytes w16 (big_number 2 bytes) ++ drop 2 bytes
two_spelled [] len are = absurd (omega arith)
two_spelled (a ∷ []) len are = absurd (omega arith)
two_spelled (a ∷ b ∷ r) len are =
    let front : to_be_bytes w16 (big_number 2 (a ∷ b ∷ r)) ≡ a ∷ b ∷ [] =
    be_bytes_2 (a ∷ b ∷ []) (big_number 2 (a ∷ b ∷ r)) refl (two a b (are 0) (are 1)) (omega arith) in
    ap (λ (t : List ℕ). t ++ r) (sym front)
  where
    two : (a b : ℕ) → a < 256 → b < 256 → (i : ℕ) → get_or (a ∷ b ∷ []) i 0 < 256
    two a b la lb zero = la
    two a b la lb (suc zero) = lb
    two a b la lb (suc (suc i)) = omega arith

four_spelled : (bytes : List ℕ) → 4 ≤ length bytes → IsBytes bytes
    → bytes ≡ to_be_bytes w32 (big_number 4 bytes) ++ drop 4 bytes
four_spelled [] len are = absurd (omega arith)
four_spelled (a ∷ []) len are = absurd (omega arith)
four_spelled (a ∷ b ∷ []) len are = absurd (omega arith)
four_spelled (a ∷ b ∷ c ∷ []) len are = absurd (omega arith)
four_spelled (a ∷ b ∷ c ∷ d ∷ r) len are =
    let front : to_be_bytes w32 (big_number 4 (a ∷ b ∷ c ∷ d ∷ r)) ≡ a ∷ b ∷ c ∷ d ∷ [] =
    be_bytes_4 (a ∷ b ∷ c ∷ d ∷ []) (big_number 4 (a ∷ b ∷ c ∷ d ∷ r)) refl
    (four a b c d (are 0) (are 1) (are 2) (are 3)) (omega arith) in
    ap (λ (t : List ℕ). t ++ r) (sym front)
  where
    four : (a b c d : ℕ) → a < 256 → b < 256 → c < 256 → d < 256 → (i : ℕ) → get_or (a ∷ b ∷ c ∷ d ∷ []) i 0 < 256
    four a b c d la lb lc ld zero = la
    four a b c d la lb lc ld (suc zero) = lb
    four a b c d la lb lc ld (suc (suc zero)) = lc
    four a b c d la lb lc ld (suc (suc (suc zero))) = ld
    four a b c d la lb lc ld (suc (suc (suc (suc i)))) = omega arith

pub spelled8 : IsSpelled w8
spelled8 = record { spelled = one_spelled }

pub spelled16 : IsSpelled w16
spelled16 = record { spelled = two_spelled }

pub spelled32 : IsSpelled w32
spelled32 = record { spelled = four_spelled }

-- a number at a place is spelled there
pub spelled_at : (w : Width) (p q : ℕ) (bytes : List ℕ) → IsSpelled w → q ≡ p + byte_len w → q ≤ length bytes
    → IsBytes bytes
    → drop p bytes ≡ to_be_bytes w (number_at p (byte_len w) bytes) ++ drop q bytes
spelled_at w p q bytes is e len are =
    let behind : drop (byte_len w) (drop p bytes) ≡ drop q bytes = drop-drop (byte_len w) p bytes
    ∙ ap (λ (n : ℕ). drop n bytes) (sym e) in
    is.spelled (drop p bytes) (simp length-drop (omega arith)) (bytes_after p bytes are)
    ∙ ap (λ (t : List ℕ). to_be_bytes w (number_at p (byte_len w) bytes) ++ t) behind

-- a number in so many bytes
pub number_fits : (n p : ℕ) (bytes : List ℕ) → IsBytes bytes → number_at p n bytes < 256 ^ n
number_fits n p bytes are = big_from-lt 0 n (drop p bytes) (bytes_after p bytes are)

-- numbers of 32 bits, as they were read
pub numbers_spelled : (count : ℕ) (bytes : List ℕ) → 4 * count ≤ length bytes → IsBytes bytes
    → bytes ≡ flat_map (to_be_bytes w32) (numbers_in count bytes) ++ drop (4 * count) bytes
numbers_spelled zero bytes len are = refl
numbers_spelled (suc count) bytes len are =
    let place : 4 * suc count ≡ 4 + 4 * count = omega arith in
    let later = numbers_spelled count (drop 4 bytes) (simp length-drop (omega arith)) (bytes_after 4 bytes are) in
    four_spelled bytes (omega arith) are
    ∙ ap (λ (t : List ℕ). to_be_bytes w32 (big_number 4 bytes) ++ t) later
    ∙ sym (append_assoc (to_be_bytes w32 (big_number 4 bytes))
    (flat_map (to_be_bytes w32) (numbers_in count (drop 4 bytes))) (drop (4 * count) (drop 4 bytes)))
    ∙ ap (λ (t : List ℕ). flat_map (to_be_bytes w32) (numbers_in (suc count) bytes) ++ t)
    (drop-drop (4 * count) 4 bytes ∙ ap (λ (n : ℕ). drop n bytes) (sym place))

pub numbers_many : (count : ℕ) (bytes : List ℕ) → length (numbers_in count bytes) ≡ count
numbers_many zero bytes = refl
numbers_many (suc count) bytes = ap suc (numbers_many count (drop 4 bytes))

pub numbers_fit : (count : ℕ) (bytes : List ℕ) → IsBytes bytes → AllByRecursion Is32Bits (numbers_in count bytes)
numbers_fit zero bytes are = tt
numbers_fit (suc count) bytes are =
    (number_fits 4 0 bytes are, numbers_fit count (drop 4 bytes) (bytes_after 4 bytes are))

-- and as they were written
pub numbers_read : (xs : List ℕ) (rest : List ℕ) → AllByRecursion Is32Bits xs
    → numbers_in (length xs) (flat_map (to_be_bytes w32) xs ++ rest) ≡ xs
numbers_read [] rest fit = refl
numbers_read (x ∷ xs) rest fit =
    let whole : flat_map (to_be_bytes w32) (x ∷ xs) ++ rest
    ≡ to_be_bytes w32 x ++ (flat_map (to_be_bytes w32) xs ++ rest) =
    append_assoc (to_be_bytes w32 x) (flat_map (to_be_bytes w32) xs) rest in
    let here : number_at 0 4 (to_be_bytes w32 x ++ (flat_map (to_be_bytes w32) xs ++ rest)) ≡ x =
    big_number-reads_back 4 x (flat_map (to_be_bytes w32) xs ++ rest) fit.0 in
    let later = numbers_read xs rest fit.1 in
    ap (λ (t : List ℕ). numbers_in (suc (length xs)) t) whole
    ∙ ap (λ (y : ℕ). y ∷ numbers_in (length xs) (flat_map (to_be_bytes w32) xs ++ rest)) here
    ∙ ap (λ (ys : List ℕ). x ∷ ys) later

pub length_numbers : (xs : List ℕ) → length (flat_map (to_be_bytes w32) xs) ≡ 4 * length xs
length_numbers [] = refl
length_numbers (x ∷ xs) =
    omega (arith, length-append (to_be_bytes w32 x) (flat_map (to_be_bytes w32) xs), length_numbers xs)

-- one more number of those that a loop reads
pub numbers_next : (count i x : ℕ) (bytes made made' all : List ℕ) → i < count → x ≡ number_at (4 * i) 4 bytes
    → made' ≡ made ++ x ∷ []
    → made ++ numbers_in (count - i) (drop (4 * i) bytes) ≡ all
    → made' ++ numbers_in (count - (i + 1)) (drop (4 * (i + 1)) bytes) ≡ all
numbers_next count i x bytes made made' all lt is grown so_far =
    let left : count - i ≡ suc (count - (i + 1)) = omega arith in
    let place : 4 * i + 4 ≡ 4 * (i + 1) = omega arith in
    let behind : drop 4 (drop (4 * i) bytes) ≡ drop (4 * (i + 1)) bytes = drop-drop 4 (4 * i) bytes
    ∙ ap (λ (n : ℕ). drop n bytes) place in
    let opened : numbers_in (count - i) (drop (4 * i) bytes) ≡ x ∷ numbers_in (count - (i + 1))
    (drop (4 * (i + 1)) bytes) = rw (left, behind, is) refl in
    ap (λ (t : List ℕ). t ++ numbers_in (count - (i + 1)) (drop (4 * (i + 1)) bytes)) grown
    ∙ append_assoc made (x ∷ []) (numbers_in (count - (i + 1)) (drop (4 * (i + 1)) bytes))
    ∙ ap (λ (t : List ℕ). made ++ t) (sym opened) ∙ so_far
