-- Numbers and addresses as texts.
use Rattle.std.proofs.Common.{◌≤◌, ◌+◌, ◌≡◌, ◌<◌, ◌^◌, ◌∙◌, ◌∷◌, ◌++◌, ◌==◌, ◌&&◌, [], ℕ, List, map, None, ◌/◌, ◌%◌, true, false, ltb, length, get_or, Option, Some, Result, Ok, Err, decimal, refl, ap, sym, subst, arith, inl, inr}
use Rattle.std.specs.Int.{IsInRange, w32, from_be_bytes}
use Rattle.std.specs.List.{All, slice_split, join_with_byte}
use Rattle.std.specs.Option.{IfSome}
use Rattle.std.specs.Result.{OkIff, result_ok}
use Rattle.std.specs.Str.{bytes_eq}
use Rattle.std.specs.Str.Parse.{AllDigits, digits_value}
use Rattle.std.proofs.lemmas.Bool.{cases_Bool, cases_eq, lt-ltb, ltb-true, and_parts}
use Rattle.std.proofs.lemmas.Bool.Decides.{eqb_tells}
use Rattle.std.proofs.lemmas.Fmt.{decimal-digits_value, decimal_digit, decimal_step, first_decimal, length-decimal-le, decimal_nonempty, digits_decimal, digits_value-decimal}
use Rattle.std.proofs.lemmas.List.{get_or_default}
use Rattle.std.proofs.lemmas.List.Splits.{slice_split_at, slice_split_none, join_with_byte-slice_split, length-slice_split}
use Rattle.std.proofs.lemmas.Nat.{from_be_bytes-to_be_bytes_4}
use Rattle.std.proofs.lemmas.Slice.Eq.{bytes_eq-Decides}
use Rattle.text_parts.specs.Spelling.{address_text, if_spelled}
use Rattle.std.proofs.lemmas.Str.Parse.{IsNumeralModel, numerals_by_value, tells_digits, digit_at}

numerals : IsNumeralModel (AllDigits 10) (digits_value 10)
numerals = numerals_by_value (AllDigits 10) tells_digits

-- from one to ten bytes, the first of which is no zero before others
abbrev pub IsPlain : List ℕ → Type 0
IsPlain text = (0 < length text) × (length text ≤ 10) × (get_or text 0 0 ≡ 48 → length text ≡ 1)

-- a spelling is so
pub spelled_plainly : (text : List ℕ) (number : ℕ) → number < 2 ^ 32 → text ≡ decimal number → IsPlain text
spelled_plainly text number small is = subst IsPlain (sym is) (
  decimal_nonempty number (omega arith),
  length-decimal-le 10 number (omega arith) (omega arith) (omega arith),
  λ zero. elim (cases_eq number 0) [
    | inl none ↦ ap length (ap decimal none ∙ decimal_digit 0 (omega arith))
    | inr some ↦ absurd (omega (arith, zero, first_decimal number (omega arith) (omega arith)))
  ],
)

-- and of digits
pub spelled_digits : (text : List ℕ) (number : ℕ) → number < 2 ^ 32 → text ≡ decimal number → AllDigits 10 text
spelled_digits text number small is = subst (AllDigits 10) (sym is) (digits_decimal numerals number (omega arith))

-- the value of a spelling is the number
spelled_value : (text : List ℕ) (number value : ℕ) → number < 2 ^ 32 → text ≡ decimal number → value ≡ digits_value 10 text → value ≡ number
spelled_value text number value small is valued = valued ∙ ap (digits_value 10) is ∙ digits_value-decimal numerals number (omega arith)

-- such a text of digits is the spelling of its value
plain_is_spelled : (text : List ℕ) (value : ℕ) → IsPlain text → AllDigits 10 text → value ≡ digits_value 10 text → value < 2 ^ 32 → text ≡ decimal value
plain_is_spelled text value plain digits valued small =
    sym (decimal-digits_value numerals text digits plain.0 plain.2 (omega (arith, valued))) ∙ ap decimal (sym valued)

-- what is read of its value, where that fits
pub read_is_spelled : {E : Type 0} (text : List ℕ) (value : ℕ) (r : Result ℕ E) (o : Option ℕ) → IsPlain text → AllDigits 10 text → value ≡ digits_value 10 text
    → OkIff r (value < 2 ^ 32) value → o ≡ result_ok r → IfSome o (λ number. (number < 2 ^ 32) × (text ≡ decimal number))
read_is_spelled text value (Ok number) o plain digits valued fits is =
    let small : number < 2 ^ 32 = omega (arith, fits.0, fits.1) in rw is (small, plain_is_spelled text number plain digits (fits.1 ∙ valued) small)
read_is_spelled text value (Err e) o plain digits valued fits is = rw is tt

pub spelled_is_read : {E : Type 0} (text : List ℕ) (number value : ℕ) (r : Result ℕ E) (o : Option ℕ) → number < 2 ^ 32 → text ≡ decimal number
    → value ≡ digits_value 10 text → OkIff r (value < 2 ^ 32) value → o ≡ result_ok r → o ≡ Some number
spelled_is_read text number value (Ok read) o small spelled valued fits is = is ∙ ap Some (fits.1 ∙ spelled_value text number value small spelled valued)
spelled_is_read text number value (Err e) o small spelled valued fits is =
    absurd (fits (subst (λ (n : ℕ). n < 2 ^ 32) (sym (spelled_value text number value small spelled valued)) small))

-- numbers of two and of three digits
pub decimal_two : (n : ℕ) → 10 ≤ n → n < 100 → decimal n ≡ (48 + n / 10) ∷ (48 + n % 10) ∷ []
decimal_two n low high = rw (decimal_step n low (omega arith), decimal_digit (n / 10) (omega arith)) refl

pub decimal_three : (n : ℕ) → 100 ≤ n → n < 1000 → decimal n ≡ (48 + n / 100) ∷ (48 + n % 100 / 10) ∷ (48 + n % 100 % 10) ∷ []
decimal_three n low high =
    let front : n / 10 / 10 ≡ n / 100 = omega arith in
    let middle : n / 10 % 10 ≡ n % 100 / 10 = omega arith in
    let last : n % 10 ≡ n % 100 % 10 = omega arith in
    rw (decimal_step n (omega arith) (omega arith), decimal_two (n / 10) (omega arith) (omega arith), front, middle, last) refl

-- a number has no dot
no_dot : (number : ℕ) → number < 2 ^ 64 → All (λ b. (b == 46) ≡ false) (decimal number)
no_dot number small k d inside =
    let digit : IsInRange 48 57 (get_or (decimal number) k 0) = digit_at (decimal number) k (digits_decimal numerals number small) inside in
    let same : get_or (decimal number) k d ≡ get_or (decimal number) k 0 = get_or_default (decimal number) k d 0 inside in
    elim (eqb_tells (get_or (decimal number) k d) 46) [ inl dot ↦ absurd (omega (arith, dot.1, same, digit.0)) | inr other ↦ other.0 ]

-- a text of a number, a dot and a rest is cut so
split_spelled : (text rest : List ℕ) (number : ℕ) → number < 2 ^ 64 → text ≡ decimal number ++ 46 ∷ rest → slice_split (λ b. b == 46) text ≡ decimal number ∷ slice_split (λ b. b == 46) rest
split_spelled text rest number small is =
    ap (slice_split (λ b. b == 46)) is ∙ slice_split_at (λ b. b == 46) (decimal number) 46 rest (no_dot number small) refl

pub cut_spelled : (text front behind rest : List ℕ) (number : ℕ) → number < 2 ^ 64 → text ≡ decimal number ++ 46 ∷ rest
    → slice_split (λ b. b == 46) text ≡ front ∷ slice_split (λ b. b == 46) behind → (front ≡ decimal number) × (behind ≡ rest)
cut_spelled text front behind rest number small is cut =
    let spelled = split_spelled text rest number small is in
    let parts : slice_split (λ b. b == 46) behind ≡ slice_split (λ b. b == 46) rest = cc in (
      cc,
      sym (join_with_byte-slice_split 46 behind) ∙ ap (join_with_byte 46) parts ∙ join_with_byte-slice_split 46 rest,
    )

pub uncut_spelled : (text rest : List ℕ) (number : ℕ) → number < 2 ^ 64 → text ≡ decimal number ++ 46 ∷ rest → slice_split (λ b. b == 46) text ≡ text ∷ [] → ⊥
uncut_spelled text rest number small is uncut =
    let spelled = split_spelled text rest number small is in
    let parts : slice_split (λ b. b == 46) rest ≡ [] = cc in
    let none : length (slice_split (λ b. b == 46) rest) ≡ 0 = ap length parts in
    omega (arith, length-slice_split (λ b. b == 46) rest)

-- what is read of each spelling, and of nothing else, is the number that the text spells
pub value_is : (spelling : ℕ → List ℕ) (value : List ℕ → ℕ) (text : List ℕ) (r : Option ℕ) → ((number : ℕ) → number < 2 ^ 32 → value (spelling number) ≡ number)
    → IfSome r (λ number. (number < 2 ^ 32) × (text ≡ spelling number)) → ((number : ℕ) → number < 2 ^ 32 → text ≡ spelling number → r ≡ Some number)
    → r ≡ if_spelled spelling text (value text)
value_is spelling value text (Some number) valued found only =
    let same : value text ≡ number = ap value found.1 ∙ valued number found.0 in
    let small : ltb (value text) (2 ^ 32) ≡ true = lt-ltb (value text) (2 ^ 32) (omega arith) in
    let spelled : bytes_eq text (spelling (value text)) ≡ true = (bytes_eq-Decides text (spelling (value text))).1 (found.1 ∙ ap spelling (sym same)) in
    rw (small, spelled) (ap Some (sym same))
value_is spelling value text None valued found only = elim (cases_Bool (ltb (value text) (2 ^ 32) && bytes_eq text (spelling (value text)))) [
  | inl spelled ↦ let parts = and_parts (ltb (value text) (2 ^ 32)) (bytes_eq text (spelling (value text))) spelled in
      let never : ◌≡◌ {A = Option ℕ} None (Some (value text)) = only (value text) (ltb-true (value text) (2 ^ 32) parts.0) ((bytes_eq-Decides text (spelling (value text))).0 parts.1) in
      absurd cc
  | inr other ↦ rw other refl
]

-- the digits of a number count it
pub digits_count : (number : ℕ) → number < 2 ^ 32 → digits_value 10 (decimal number) ≡ number
digits_count number small = digits_value-decimal numerals number (omega arith)

-- the parts of an address
address_parts : (a b c d : ℕ) → a < 256 → b < 256 → c < 256 → d < 256
    → map (digits_value 10) (slice_split (λ byte. byte == 46) (decimal a ++ 46 ∷ (decimal b ++ 46 ∷ (decimal c ++ 46 ∷ decimal d)))) ≡ a ∷ b ∷ c ∷ d ∷ []
address_parts a b c d a_small b_small c_small d_small =
    rw (
      split_spelled _ (decimal b ++ 46 ∷ (decimal c ++ 46 ∷ decimal d)) a (omega arith) refl,
      split_spelled _ (decimal c ++ 46 ∷ decimal d) b (omega arith) refl,
      split_spelled _ (decimal d) c (omega arith) refl,
      slice_split_none (λ b. b == 46) (decimal d) (no_dot d (omega arith)),
      digits_count a (omega arith),
      digits_count b (omega arith),
      digits_count c (omega arith),
      digits_count d (omega arith),
    ) refl

pub address_counts : (number : ℕ) → number < 2 ^ 32 → from_be_bytes w32 (map (digits_value 10) (slice_split (λ byte. byte == 46) (address_text number))) ≡ number
address_counts number small =
    ap (from_be_bytes w32) (address_parts (number / 16777216 % 256) (number / 65536 % 256) (number / 256 % 256) (number % 256) (omega arith) (omega arith) (omega arith) (omega arith))
    ∙ from_be_bytes-to_be_bytes_4 number small
