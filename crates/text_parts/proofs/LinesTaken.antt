-- The lines of a text, taken in one after another.
use Rattle.std.proofs.Common.{◌≡◌, ◌⊎◌, ◌<◌, ◌≤◌, ◌+◌, ◌-◌, ◌∙◌, ◌∷◌, ◌++◌, [], ℕ, zero, suc, List, length, take, drop, get_or, ◌==◌, slice_get, Some, Result, Ok, Err, refl, ap, sym, subst, arith, inl, inr}
use Rattle.std.specs.List.{fold, slice_split}
use Rattle.std.specs.Result.{result_map_both}
use Rattle.std.specs.Str.Lines.{lines_of_parts}
use Rattle.std.proofs.lemmas.Bool.{cases_lt}
use Rattle.std.proofs.lemmas.Bool.Decides.{eqb_tells}
use Rattle.std.proofs.lemmas.List.{take_all, take_more}
use Rattle.std.proofs.lemmas.List.Splits.{length-slice_split}
use Rattle.std.proofs.lemmas.List.Sums.{count_by-le-length, fold-append}
use Rattle.std.proofs.lemmas.Option.{get_or_from_slice_get, slice_get-get_or}
use Rattle.std.proofs.Math.ListN.{drop_of_length-le}
use Rattle.std.proofs.Math.Numerals.{add-one}
use Rattle.std.proofs.Math.Seq.{drop-cons}
use Rattle.text_parts.specs.TextLines.{text_lines}
use Rattle.text_parts.specs.declared.line_error.LineError.{LineError}
use Rattle.text_parts.specs.declared.line_error.LineError.TheVariants as errors
use Rattle.text_parts.specs.TextRead.{Reads}
use Rattle.text_parts.specs.steps.TextRead.{Takes}
use Rattle.text_parts.specs.TextRule.{IsFirstFault, IsText, OfEnd, OfLine, TextRule, said_by, with_line}

-- so many lines were taken in, which say so much, and these are left
pub record AreTaken {S W F : Type 0} (rule : TextRule S W F) (lines : List (List ℕ)) (number : ℕ) (rest : List (List ℕ))
    (said : S) : Type 0 where
  pub left : rest ≡ drop number lines
  pub within : number ≤ length lines
  pub say : said_by rule (take number lines) ≡ Ok said

pub none_taken : {S W F : Type 0} (rule : TextRule S W F) (lines : List (List ℕ)) → AreTaken rule lines 0 lines rule.start
none_taken rule lines = record { left = refl; within = omega arith; say = refl }

-- where a line is left, it is the next one
next_line : (lines : List (List ℕ)) (number : ℕ) (line : List ℕ) (rest : List (List ℕ)) → line ∷ rest ≡ drop number lines
    → (number < length lines) × (slice_get lines number ≡ Some line) × (rest ≡ drop (suc number) lines)
next_line lines number line rest left =
    let inside : number < length lines = elim (cases_lt number (length lines)) [
      | inl below ↦ below
      | inr past ↦ let none = drop_of_length-le lines past in absurd cc
    ] in
    let parts : drop number lines ≡ get_or lines number line ∷ drop (suc number) lines = drop-cons lines number line inside in
    let first : get_or lines number line ≡ line = cc in
    (inside, slice_get-get_or lines number line inside ∙ ap Some first, cc)

-- the first lines with one more
pub take_next : (lines : List (List ℕ)) (number : ℕ) (line : List ℕ) → number < length lines → slice_get lines number ≡ Some line
    → take (number + 1) lines ≡ take number lines ++ line ∷ []
take_next lines number line inside there =
    take_more lines number line inside
    ∙ ap (λ (l : List ℕ). take number lines ++ l ∷ []) (get_or_from_slice_get lines number line line there)

pub one_more_taken : {S W F : Type 0} (rule : TextRule S W F) (lines rest : List (List ℕ)) (number : ℕ) (line : List ℕ)
    (said after : S) → AreTaken rule lines number (line ∷ rest) said → with_line rule (Ok said) line ≡ Ok after
    → AreTaken rule lines (number + 1) rest after
one_more_taken {S = S} {F = F} rule lines rest number line said after taken one =
    let next = next_line lines number line rest taken.left in record {
      left = next.2 ∙ ap (λ (k : ℕ). drop k lines) (sym (add-one number));
      within = omega (arith, next.0);
      say = ap (said_by rule) (take_next lines number line next.0 next.1)
          ∙ fold-append (with_line rule) (Ok rule.start) (take number lines) (line ∷ [])
          ∙ ap (λ (so_far : Result S F). with_line rule so_far line) taken.say
          ∙ one;
    }

-- a line with a fault after those that were taken in is the first
fault_found : {S W F : Type 0} (rule : TextRule S W F) (lines rest : List (List ℕ)) (number : ℕ) (line : List ℕ) (said : S)
    (fault : F) → AreTaken rule lines number (line ∷ rest) said → with_line rule (Ok said) line ≡ Err fault
    → IsFirstFault rule lines (number + 1) fault
fault_found rule lines rest number line said fault taken one =
    let next = next_line lines number line rest taken.left in
    let same : number ≡ number + 1 - 1 = omega arith in
    OfLine said line (omega arith) (subst (λ (n : ℕ). said_by rule (take n lines) ≡ Ok said) same taken.say)
    (subst (λ (n : ℕ). slice_get lines n ≡ Some line) same next.1) one

pub fault_told : {S W F : Type 0} (rule : TextRule S W F) (lines rest : List (List ℕ)) (number : ℕ) (line : List ℕ)
    (said after : S) (error : LineError F) → AreTaken rule lines number (line ∷ rest) said
    → Takes rule said line (number + 1) (Err error) after → Reads rule lines (Err error)
fault_told rule lines rest number line said after (errors.Fault told fault) taken takes =
    rw takes.0 (fault_found rule lines rest number line said fault taken takes.1)
fault_told rule lines rest number line said after errors.NoMemory taken takes = tt

-- where no line is left, all were taken in
all_lines : {S W F : Type 0} (rule : TextRule S W F) (lines : List (List ℕ)) (number : ℕ) (said : S)
    → AreTaken rule lines number [] said → (number ≡ length lines) × (said_by rule lines ≡ Ok said)
all_lines rule lines number said taken =
    let all : length lines ≤ number = elim (cases_lt number (length lines)) [
      | inl inside ↦ let parts = drop-cons lines number [] inside in let none = taken.left in absurd cc
      | inr past ↦ past
    ] in
    (omega (arith, all, taken.within), ap (said_by rule) (sym (take_all number lines all)) ∙ taken.say)

-- what the text says that ends there, or the fault of ending there
abbrev pub ending : {W F : Type 0} → ℕ → Result W F → Result W (LineError F)
ending number end = result_map_both (λ text. text) (λ fault. errors.Fault number fault) end

pub all_taken : {S W F : Type 0} (rule : TextRule S W F) (lines : List (List ℕ)) (number : ℕ) (said : S) (end : Result W F)
    → AreTaken rule lines number [] said → rule.ends said ≡ end → Reads rule lines (ending (number + 1) end)
all_taken rule lines number said (Ok text) taken is =
    record { said = said; say = (all_lines rule lines number said taken).1; whole = is }
all_taken rule lines number said (Err fault) taken is =
    let all = all_lines rule lines number said taken in
    OfEnd said (ap (λ (n : ℕ). n + 1) all.0) all.1 is

pub one_left : {S W F : Type 0} (rule : TextRule S W F) (lines rest : List (List ℕ)) (number : ℕ) (line : List ℕ) (said : S)
    → AreTaken rule lines number (line ∷ rest) said → number < length lines
one_left rule lines rest number line said taken = (next_line lines number line rest taken.left).0

-- no text has more lines than bytes, and one
few_parts : (parts : List (List ℕ)) → length (lines_of_parts parts) ≤ length parts
few_parts [] = omega arith
few_parts (part ∷ []) = elim (eqb_tells (length part) 0) [ inl none ↦ rw none.0 (omega arith) | inr some ↦ rw some.0 (omega arith) ]
few_parts (part ∷ next ∷ parts) = let fewer = few_parts (next ∷ parts) in omega arith

pub few_lines : (text : List ℕ) → length (text_lines text) ≤ length text + 1
few_lines text = omega (arith, few_parts (slice_split (λ b. b == 10) text), length-slice_split (λ b. b == 10) text, count_by-le-length (λ b. b == 10) text)

-- what lines come to after so many lines: the whole text, or the number of the first line with a fault and that fault
abbrev outcome : {S W F : Type 0} → TextRule S W F → ℕ → Result S F → List (List ℕ) → Result W (ℕ × F)
outcome rule number (Err fault) lines = Err (number, fault)
outcome rule number (Ok said) [] = result_map_both (λ text. text) (λ fault. (suc number, fault)) (rule.ends said)
outcome rule number (Ok said) (line ∷ lines) = outcome rule (suc number) (with_line rule (Ok said) line) lines

pub fault_stays : {S W F : Type 0} (rule : TextRule S W F) (fault : F) (lines : List (List ℕ))
    → fold (with_line rule) (Err fault) lines ≡ Err fault
fault_stays rule fault [] = refl
fault_stays rule fault (line ∷ lines) = fault_stays rule fault lines

-- of lines without a fault it is what their end comes to
outcome_of_end : {S W F : Type 0} (rule : TextRule S W F) (number : ℕ) (here : Result S F) (lines : List (List ℕ)) (said : S)
    → fold (with_line rule) here lines ≡ Ok said
    → outcome rule number here lines
    ≡ result_map_both (λ (text : W). text) (λ (fault : F). (suc (number + length lines), fault)) (rule.ends said)
outcome_of_end {S = S} {W = W} {F = F} rule number (Err fault) lines said say = let stays = fault_stays rule fault lines in absurd cc
outcome_of_end {S = S} {W = W} {F = F} rule number (Ok here) [] said say =
    let same : here ≡ said = cc in
    let on : suc number ≡ suc (number + 0) = omega arith in
    ap (λ (s : S). result_map_both (λ (text : W). text) (λ (fault : F). (suc number, fault)) (rule.ends s)) same
    ∙ ap (λ (n : ℕ). result_map_both (λ (text : W). text) (λ (fault : F). (n, fault)) (rule.ends said)) on
outcome_of_end {S = S} {W = W} {F = F} rule number (Ok here) (line ∷ lines) said say =
    let on : suc (suc number + length lines) ≡ suc (number + suc (length lines)) = omega arith in
    outcome_of_end rule (suc number) (with_line rule (Ok here) line) lines said say
    ∙ ap (λ (n : ℕ). result_map_both (λ (text : W). text) (λ (fault : F). (n, fault)) (rule.ends said)) on

-- and otherwise the first fault
outcome_of_line : {S W F : Type 0} (rule : TextRule S W F) (number : ℕ) (here : Result S F) (lines : List (List ℕ)) (place : ℕ)
    (line : List ℕ) (said : S) (fault : F) → fold (with_line rule) here (take place lines) ≡ Ok said
    → slice_get lines place ≡ Some line → with_line rule (Ok said) line ≡ Err fault
    → outcome rule number here lines ≡ Err (suc (number + place), fault)
outcome_of_line {S = S} {W = W} {F = F} rule number (Err before) lines place line said fault say there wrong =
    let stays = fault_stays rule before (take place lines) in absurd cc
outcome_of_line {S = S} {W = W} {F = F} rule number (Ok here) [] place line said fault say there wrong = absurd cc
outcome_of_line {S = S} {W = W} {F = F} rule number (Ok here) (first ∷ lines) zero line said fault say there wrong =
    let same : here ≡ said = cc in
    let is : first ≡ line = cc in
    let on : suc number ≡ suc (number + 0) = omega arith in
    ap (λ (l : List ℕ). outcome rule (suc number) (with_line rule (Ok here) l) lines) is
    ∙ ap (λ (s : S). outcome rule (suc number) (with_line rule (Ok s) line) lines) same
    ∙ ap (λ (r : Result S F). outcome rule (suc number) r lines) wrong
    ∙ ap (λ (n : ℕ). Err (n, fault)) on
outcome_of_line {S = S} {W = W} {F = F} rule number (Ok here) (first ∷ lines) (suc place) line said fault say there wrong =
    let on : suc (suc number + place) ≡ suc (number + suc place) = omega arith in
    outcome_of_line rule (suc number) (with_line rule (Ok here) first) lines place line said fault say there wrong
    ∙ ap (λ (n : ℕ). Err (n, fault)) on

outcome_of_text : {S W F : Type 0} (rule : TextRule S W F) (lines : List (List ℕ)) (text : W) → IsText rule lines text
    → outcome rule 0 (Ok rule.start) lines ≡ Ok text
outcome_of_text {W = W} {F = F} rule lines text is =
    outcome_of_end rule 0 (Ok rule.start) lines is.said is.say
    ∙ ap (result_map_both (λ (t : W). t) (λ (fault : F). (suc (0 + length lines), fault))) is.whole

outcome_of_fault : {S W F : Type 0} (rule : TextRule S W F) (lines : List (List ℕ)) (number : ℕ) (fault : F)
    → IsFirstFault rule lines number fault → outcome rule 0 (Ok rule.start) lines ≡ Err (number, fault)
outcome_of_fault {W = W} {F = F} rule lines number fault (OfLine said line counted say there wrong) =
    let same : suc (0 + (number - 1)) ≡ number = omega arith in
    outcome_of_line rule 0 (Ok rule.start) lines (number - 1) line said fault say there wrong
    ∙ ap (λ (n : ℕ). Err (n, fault)) same
outcome_of_fault {W = W} {F = F} rule lines number fault (OfEnd said counted say wrong) =
    let same : suc (0 + length lines) ≡ number = omega (arith, counted) in
    outcome_of_end rule 0 (Ok rule.start) lines said say
    ∙ ap (result_map_both (λ (t : W). t) (λ (f : F). (suc (0 + length lines), f))) wrong
    ∙ ap (λ (n : ℕ). Err (n, fault)) same

-- so lines are a text or have a first fault, never both, and each in one way
pub never_both : {S W F : Type 0} (rule : TextRule S W F) (lines : List (List ℕ)) (text : W) (number : ℕ) (fault : F)
    → IsText rule lines text → IsFirstFault rule lines number fault → ⊥
never_both rule lines text number fault is wrong =
    let one = outcome_of_text rule lines text is in let other = outcome_of_fault rule lines number fault wrong in absurd cc

pub one_text : {S W F : Type 0} (rule : TextRule S W F) (lines : List (List ℕ)) (text other : W) → IsText rule lines text
    → IsText rule lines other → text ≡ other
one_text rule lines text other is is' =
    let one = outcome_of_text rule lines text is in let two = outcome_of_text rule lines other is' in cc

pub one_fault : {S W F : Type 0} (rule : TextRule S W F) (lines : List (List ℕ)) (number place : ℕ) (fault other : F)
    → IsFirstFault rule lines number fault → IsFirstFault rule lines place other → (number ≡ place) × (fault ≡ other)
one_fault {F = F} rule lines number place fault other wrong wrong' =
    let one = outcome_of_fault rule lines number fault wrong in
    let two = outcome_of_fault rule lines place other wrong' in
    let same : (number, fault) ≡ (place, other) = cc in
    (ap (λ (p : ℕ × F). p.0) same, ap (λ (p : ℕ × F). p.1) same)

-- lines are a text, or one of them is the first with a fault
abbrev pub Ends : {S W F : Type 0} → TextRule S W F → List (List ℕ) → Type 0
Ends {W = W} {F = F} rule lines = ((text : W) × IsText rule lines text) ⊎ ((number : ℕ) × (fault : F) × IsFirstFault rule lines number fault)

ends_at : {S W F : Type 0} (rule : TextRule S W F) (lines : List (List ℕ)) (number : ℕ) (said : S) (end : Result W F)
    → AreTaken rule lines number [] said → rule.ends said ≡ end → Ends rule lines
ends_at rule lines number said (Ok text) taken is = inl (text, all_taken rule lines number said (Ok text) taken is)
ends_at rule lines number said (Err fault) taken is =
    inr (number + 1, fault, all_taken rule lines number said (Err fault) taken is)

go_on : {S W F : Type 0} (rule : TextRule S W F) (lines rest : List (List ℕ)) (number : ℕ) (said : S)
    → AreTaken rule lines number rest said → Ends rule lines
go_on {S = S} {F = F} rule lines [] number said taken = ends_at rule lines number said (rule.ends said) taken refl
go_on {S = S} {F = F} rule lines (line ∷ rest) number said taken =
    next (with_line rule (Ok said) line) refl (λ after is. go_on rule lines rest (number + 1) after
    (one_more_taken rule lines rest number line said after taken is))
  where
    next : (known : Result S F) → with_line rule (Ok said) line ≡ known
        → ((after : S) → with_line rule (Ok said) line ≡ Ok after → Ends rule lines) → Ends rule lines
    next (Err fault) is onward = inr (number + 1, fault, fault_found rule lines rest number line said fault taken is)
    next (Ok after) is onward = onward after is

pub either : {S W F : Type 0} (rule : TextRule S W F) (lines : List (List ℕ)) → Ends rule lines
either rule lines = go_on rule lines lines 0 rule.start (none_taken rule lines)
