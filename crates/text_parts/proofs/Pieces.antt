-- Texts cut into lines and words.
use Rattle.std.proofs.Common.{◌≡◌, ◌<◌, ◌≤◌, ◌+◌, ◌∙◌, ◌∷◌, ◌++◌, [], ℕ, suc, List, Bool, true, false, not, cond, length, take, drop, get_or, ◌==◌, ltb, Option, Some, None, add-zero, refl, ap, sym, subst, arith, inl, inr}
use Rattle.std.specs.List.{filter, slice_split, prefix_len, position, position_or_len, after_first, All}
use Rattle.std.specs.Str.Lines.{lines_of_parts, strip_carriage_return}
use Rattle.std.proofs.lemmas.Bool.{cases_Bool, cases_lt, cases_eq, false≢true, lt-ltb, le-ltb, not-true, eqb-true}
use Rattle.std.proofs.lemmas.Bool.Decides.{eqb_tells}
use Rattle.std.proofs.lemmas.List.Splits.{slice_split_first, slice_split_none, length-slice_split}
use Rattle.std.proofs.lemmas.List.Sums.{passes_at_first, fails_before_first, prefix_len-le-length}
use Rattle.std.proofs.lemmas.List.{length-take-le, length-drop, get_or-drop}
use Rattle.std.proofs.Math.ListN.{drop_of_length-le}
use Rattle.std.proofs.Math.Numerals.{add-one}
use Rattle.std.proofs.Math.Seq.{drop-cons, split_at, take-length}
use Rattle.std.specs.Option.{unwrap_or}
use Rattle.text_parts.specs.TextLines.{text_lines, words_of, is_blank}

-- the pieces between the elements that pass, but those that are empty
abbrev pub words_by : (ℕ → Bool) → List ℕ → List (List ℕ)
words_by p line = filter (λ word. not (length word == 0)) (slice_split p line)

-- one more that passes in front, or none
one_more : (p : ℕ → Bool) (byte : ℕ) (line : List ℕ) → p byte ≡ true → prefix_len p (byte ∷ line) ≡ suc (prefix_len p line)
one_more p byte line passes = rw passes (omega arith)

no_more : (p : ℕ → Bool) (byte : ℕ) (line : List ℕ) → p byte ≡ false → prefix_len p (byte ∷ line) ≡ 0
no_more p byte line fails = rw fails refl

-- elements that pass change nothing in front
behind_one : (p : ℕ → Bool) (byte : ℕ) (line : List ℕ) → p byte ≡ true → words_by p (byte ∷ line) ≡ words_by p line
behind_one p byte line blank = rw blank refl

pub behind_all : (p : ℕ → Bool) (line : List ℕ) → words_by p line ≡ words_by p (drop (position_or_len (λ b. not (p b)) line) line)
behind_all p [] = refl
behind_all p (byte ∷ line) = elim (cases_Bool (p byte)) [
  | inl blank ↦ behind_one p byte line blank ∙ behind_all p line
      ∙ ap (λ (k : ℕ). words_by p (drop k (byte ∷ line))) (sym (one_more (λ b. not (not (p b))) byte line (rw blank refl)))
  | inr other ↦ ap (λ (k : ℕ). words_by p (drop k (byte ∷ line))) (sym (no_more (λ b. not (not (p b))) byte line (rw other refl)))
]

filled : (word : List ℕ) (words : List (List ℕ)) → 0 < length word → filter (λ word. not (length word == 0)) (word ∷ words) ≡ word ∷ filter (λ word. not (length word == 0)) words
filled word words some = elim (eqb_tells (length word) 0) [ inl none ↦ absurd (omega (arith, none.1)) | inr more ↦ rw more.0 refl ]

whole_part : (p : ℕ → Bool) (word : List ℕ) → 0 < length word → All (λ x. p x ≡ false) word → words_by p word ≡ word ∷ []
whole_part p word some others = ap (filter (λ word. not (length word == 0))) (slice_split_none p word others) ∙ filled word [] some

first_of_more : (p : ℕ → Bool) (line : List ℕ) → position_or_len p line < length line → p (get_or line 0 0) ≡ false
    → words_by p line ≡ take (position_or_len p line) line ∷ words_by p (drop (position_or_len p line) line)
first_of_more p line inside other =
    let passes = passes_at_first p line 0 inside in
    let some : 0 < position_or_len p line = elim (cases_eq (position_or_len p line) 0) [
      | inl none ↦ let P : ℕ → Type 0 = λ k. p (get_or line k 0) ≡ true in absurd (false≢true (sym other ∙ subst P none passes))
      | inr more ↦ omega arith
    ] in
    let whole : length (take (position_or_len p line) line) ≡ position_or_len p line = length-take-le (position_or_len p line) line (omega arith) in
    ap (filter (λ word. not (length word == 0))) (slice_split_first p line 0 inside)
    ∙ filled (take (position_or_len p line) line) (slice_split p (after_first p line)) (omega arith)
    ∙ ap (λ (words : List (List ℕ)). take (position_or_len p line) line ∷ words)
    (sym (ap (words_by p) (drop-cons line (position_or_len p line) 0 inside) ∙ behind_one p _ (drop (suc (position_or_len p line)) line) passes
    ∙ ap (λ (k : ℕ). words_by p (drop k line)) (sym (add-one (position_or_len p line)))))

only_piece : (p : ℕ → Bool) (line : List ℕ) → 0 < length line → length line ≤ position_or_len p line
    → words_by p line ≡ take (position_or_len p line) line ∷ words_by p (drop (position_or_len p line) line)
only_piece p line some all =
    let at_end : position_or_len p line ≡ length line = omega (arith, prefix_len-le-length (λ b. not (p b)) line) in
    whole_part p line some (λ k d inside. fails_before_first p line k d (omega arith))
    ∙ ap (λ (word : List ℕ). word ∷ []) (sym (take-length line) ∙ ap (λ (k : ℕ). take k line) (sym at_end))
    ∙ ap (λ (rest : List ℕ). take (position_or_len p line) line ∷ words_by p rest) (sym (drop_of_length-le line all))

-- where the first element does not pass, the elements before the first one that passes are the first piece
pub first_piece : (p : ℕ → Bool) (line : List ℕ) → 0 < length line → p (get_or line 0 0) ≡ false
    → words_by p line ≡ take (position_or_len p line) line ∷ words_by p (drop (position_or_len p line) line)
first_piece p line some other = elim (cases_lt (position_or_len p line) (length line)) [
  | inl inside ↦ first_of_more p line inside other
  | inr all ↦ only_piece p line some all
]

-- a place that was found is the first that passes
pub found_place : (p : ℕ → Bool) (line : List ℕ) (place : ℕ) → position p line ≡ Some place → (place ≡ position_or_len p line) × (place < length line)
found_place p line place found = elim (cases_lt (position_or_len p line) (length line)) [
  | inl inside ↦ let at : cond (ltb (position_or_len p line) (length line)) (Some (position_or_len p line)) None ≡ Some place = found in
      let same : place ≡ position_or_len p line = cc (rw (lt-ltb _ _ inside) at at) in (same, subst (λ (k : ℕ). k < length line) (sym same) inside)
  | inr all ↦ let at : cond (ltb (position_or_len p line) (length line)) (Some (position_or_len p line)) None ≡ Some place = found in
      absurd (cc (rw (le-ltb _ _ all) at at))
]

-- where no place was found, none passes
pub no_place : (p : ℕ → Bool) (line : List ℕ) → position p line ≡ None → length line ≤ position_or_len p line
no_place p line none = elim (cases_lt (position_or_len p line) (length line)) [
  | inl inside ↦ let at : cond (ltb (position_or_len p line) (length line)) (Some (position_or_len p line)) None ≡ None = none in
      absurd (cc (rw (lt-ltb _ _ inside) at at))
  | inr all ↦ all
]

-- the end of a word is the first place that passes, or the end of all
word_end : (p : ℕ → Bool) (line : List ℕ) (place : Option ℕ) (end : ℕ) → position p line ≡ place → end ≡ unwrap_or place (length line) → end ≡ position_or_len p line
word_end p line None end none is = let all : length line ≤ position_or_len p line = no_place p line none in omega (arith, prefix_len-le-length (λ b. not (p b)) line)
word_end p line (Some place) end found is = is ∙ (found_place p line place found).0

pub first_word_is : (line : List ℕ) (start end : ℕ) → position (λ b. not (is_blank b)) line ≡ Some start
    → end ≡ unwrap_or (position is_blank (drop start line)) (length (drop start line))
    → words_of line ≡ take end (drop start line) ∷ words_of (drop end (drop start line))
first_word_is line start end found is =
    let at = found_place (λ b. not (is_blank b)) line start found in
    let passes : not (is_blank (get_or line start 0)) ≡ true = subst (λ (k : ℕ). not (is_blank (get_or line k 0)) ≡ true) (sym at.0)
    (passes_at_first (λ b. not (is_blank b)) line 0 (subst (λ (k : ℕ). k < length line) at.0 at.1)) in
    let first : get_or (drop start line) 0 0 ≡ get_or line start 0 = get_or-drop start line 0 0 ∙ ap (λ (k : ℕ). get_or line k 0) (add-zero start) in
    let other : is_blank (get_or (drop start line) 0 0) ≡ false = ap is_blank first ∙ not-true _ passes in
    let ends : end ≡ position_or_len is_blank (drop start line) = word_end is_blank (drop start line) _ end refl is in
    behind_all is_blank line ∙ ap (λ (k : ℕ). words_by is_blank (drop k line)) (sym at.0)
    ∙ first_piece is_blank (drop start line) (omega (arith, length-drop start line, at.1)) other
    ∙ ap (λ (k : ℕ). take k (drop start line) ∷ words_by is_blank (drop k (drop start line))) (sym ends)

pub no_word_is : (line : List ℕ) → position (λ b. not (is_blank b)) line ≡ None → words_of line ≡ []
no_word_is line none =
    behind_all is_blank line ∙ ap (words_by is_blank) (drop_of_length-le line (no_place (λ b. not (is_blank b)) line none))

-- a text cut at the first such byte
pub cut_is : (text : List ℕ) (byte place : ℕ) → position (λ b. b == byte) text ≡ Some place
    → (text ≡ take place text ++ byte ∷ drop (place + 1) text) × (slice_split (λ b. b == byte) text ≡ take place text ∷ slice_split (λ b. b == byte) (drop (place + 1) text))
cut_is text byte place found =
    let at = found_place (λ b. b == byte) text place found in
    let inside : position_or_len (λ b. b == byte) text < length text = subst (λ (k : ℕ). k < length text) at.0 at.1 in
    let is_byte : get_or text place 0 ≡ byte =
    eqb-true _ _ (subst (λ (k : ℕ). (get_or text k 0 == byte) ≡ true) (sym at.0) (passes_at_first (λ b. b == byte) text 0 inside)) in (
      split_at text place 0 at.1 ∙ ap (λ (b : ℕ). take place text ++ b ∷ drop (suc place) text) is_byte ∙ ap (λ (k : ℕ). take place text ++ byte ∷ drop k text) (sym (add-one place)),
      slice_split_first (λ b. b == byte) text 0 inside
          ∙ ap (λ (k : ℕ). take k text ∷ slice_split (λ b. b == byte) (drop (k + 1) text)) (sym at.0),
    )

pub uncut_is : (text : List ℕ) (byte : ℕ) → position (λ b. b == byte) text ≡ None → slice_split (λ b. b == byte) text ≡ text ∷ []
uncut_is text byte none = slice_split_none (λ b. b == byte) text (λ k d inside. fails_before_first (λ b. b == byte) text k d (omega (arith, no_place (λ b. b == byte) text none)))

-- a piece before a line feed is a line
line_of : (piece : List ℕ) (pieces : List (List ℕ)) → 0 < length pieces → lines_of_parts (piece ∷ pieces) ≡ strip_carriage_return piece ∷ lines_of_parts pieces
line_of piece [] some = absurd (omega arith)
line_of piece (next ∷ pieces) some = refl

pub first_line_is : (text line rest : List ℕ) → slice_split (λ b. b == 10) text ≡ line ∷ slice_split (λ b. b == 10) rest → text_lines text ≡ strip_carriage_return line ∷ text_lines rest
first_line_is text line rest cut =
    ap lines_of_parts cut ∙ line_of line (slice_split (λ b. b == 10) rest) (omega (arith, length-slice_split (λ b. b == 10) rest))
