-- What is read of most lines: `step`, one space, and a number.
use Rattle.std.proofs.Common.{◌≡◌, ◌<◌, ◌^◌, ◌∙◌, ◌∷◌, ◌++◌, ◌==◌, if◌then◌else◌, [], ℕ, false, List, Option, Some, None, inl, inr, codes, decimal, drop, get_or, length, take, take-append-drop, refl, ap, sym, true, arith}
use Rattle.std.specs.Prelude.{nat_lt}
use Rattle.std.specs.Int.{IsInRange}
use Rattle.std.specs.List.{All}
use Rattle.std.specs.Option.{IfSome, option_and_then, option_map}
use Rattle.std.specs.Str.{bytes_eq}
use Rattle.std.specs.Str.Parse.{AllDigits, digits_value}
use Rattle.std.proofs.lemmas.Bool.Decides.{eqb_tells}
use Rattle.std.proofs.lemmas.Fmt.{decimal_nonempty, digits_decimal}
use Rattle.std.proofs.lemmas.List.{get_or_default}
use Rattle.std.proofs.lemmas.List.Splits.{slice_split_none}
use Rattle.std.proofs.lemmas.Slice.Eq.{bytes_eq-Decides}
use Rattle.std.proofs.lemmas.Str.Parse.{digit_at, numerals_by_value, tells_digits}
use Rattle.text_parts.specs.Spelling.{number_in}
use Rattle.text_parts.specs.TextLines.{is_blank, words_of}
use Rattle.fabric_script.specs.ScriptLines.{event_in, event_in_words, packet_in}
use Rattle.fabric_script.specs.declared.event.ScriptEvent.TheVariants.{Step}
use Rattle.fabric_script.proofs.SpellingsTold.{spelling_told}

-- a number has no blank
no_blank : (number : ℕ) → number < 2 ^ 32 → All (λ byte. is_blank byte ≡ false) (decimal number)
no_blank number small k d inside =
    let digit : IsInRange 48 57 (get_or (decimal number) k 0) =
    digit_at (decimal number) k (digits_decimal (numerals_by_value (AllDigits 10) tells_digits) number (omega arith)) inside in
    let same : get_or (decimal number) k d ≡ get_or (decimal number) k 0 = get_or_default (decimal number) k d 0 inside in
    elim (eqb_tells (get_or (decimal number) k d) 32) [
      | inl space ↦ absurd (omega (arith, space.1, same, digit.0))
      | inr other ↦ elim (eqb_tells (get_or (decimal number) k d) 9) [
        | inl tab ↦ absurd (omega (arith, tab.1, same, digit.0))
        | inr neither ↦ rw (other.0, neither.0) refl
      ]
    ]

-- and is a word
no_gap : (number : ℕ) → number < 2 ^ 32 → (length (decimal number) == 0) ≡ false
no_gap number small = elim (eqb_tells (length (decimal number)) 0) [
  | inl none ↦ absurd (omega (arith, none.1, decimal_nonempty number (omega arith)))
  | inr some ↦ some.0
]

-- so the line has two words
two_words : (number : ℕ) → number < 2 ^ 32 → words_of (codes "step " ++ decimal number) ≡ codes "step" ∷ decimal number ∷ []
two_words number small = rw (slice_split_none is_blank (decimal number) (no_blank number small), no_gap number small) refl

number_told : (word : List ℕ) (number : ℕ) → number_in word ≡ Some number → (number < 2 ^ 32) × (word ≡ decimal number)
unfolding number_in
number_told word number is = spelling_told decimal word (digits_value 10 word) number is

step_is : (word : List ℕ) (packet : ℕ) → packet_in word ≡ Some packet → event_in (codes "step " ++ word) ≡ Some (Step packet)
step_is word packet is = go (number_in word) refl is
  where
    go : (o : Option ℕ) → number_in word ≡ o → option_and_then (λ number. if nat_lt number (2 ^ 16) then Some number else None) o ≡ Some packet
        → event_in (codes "step " ++ word) ≡ Some (Step packet)
    go None there gives = cc
    go (Some number) there gives =
        let told = number_told word number there in
        let words : words_of (codes "step " ++ word) ≡ codes "step" ∷ word ∷ [] = rw told.1 (two_words number told.0) in
        ap event_in_words words ∙ ap (option_map (λ (p : ℕ). Step p)) is

-- and so is a line that begins so
pub begins_so : (line front word : List ℕ) (o : Option ℕ) → front ≡ codes "step " → bytes_eq (take (length front) line) front ≡ true
    → word ≡ drop (length front) line → o ≡ packet_in word → IfSome o (λ packet. event_in line ≡ Some (Step packet))
begins_so line front word None step same rest is = tt
begins_so line front word (Some packet) step same rest is =
    let whole : line ≡ codes "step " ++ word = sym (take-append-drop (length front) line)
    ∙ ap (λ (first : List ℕ). first ++ drop (length front) line) ((bytes_eq-Decides (take (length front) line) front).0 same ∙ step)
    ∙ ap (λ (last : List ℕ). codes "step " ++ last) (sym rest) in
    rw whole (step_is word packet (sym is))
