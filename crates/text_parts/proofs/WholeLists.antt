-- What lines say one after another, said of the whole list of those that are not passed over.
use Rattle.std.proofs.Common.{◌≡◌, ◌⊎◌, ◌<◌, ◌+◌, ◌-◌, ◌∙◌, ◌∷◌, ◌↔◌, [], ℕ, true, List, take, get_or, slice_get, Some, Result, Ok, Err, refl, ap, sym, subst, arith, inl, inr}
use Rattle.std.specs.List.{fold, list_all}
use Rattle.std.specs.Result.{IfOk, result_map_both}
use Rattle.std.proofs.lemmas.Bool.{cases_Bool, false≢true}
use Rattle.std.proofs.lemmas.List.Sums.{fold-append}
use Rattle.std.proofs.lemmas.Option.{slice_get-get_or, slice_get_within}
use Rattle.text_parts.specs.TextLines.{is_passed_over}
use Rattle.text_parts.specs.declared.line_error.LineError.{LineError}
use Rattle.text_parts.specs.declared.line_error.LineError.TheVariants as errors
use Rattle.text_parts.specs.LinesRead.{IsBeginning, IsFirstWrong, NoFirst, Wrong, lines_read}
use Rattle.text_parts.specs.TextRead.{Reads}
use Rattle.text_parts.specs.TextRule.{IsFirstFault, IsText, OfEnd, OfLine, TextRule, said_by, with_line}
use Rattle.text_parts.proofs.LinesTaken.{either, fault_stays, never_both, one_fault, one_text, take_next}

-- after one more line that is not passed over; a fault stays
abbrev pub with_told : {S W F : Type 0} → TextRule S W F → Result S F → List ℕ → Result S F
with_told rule (Err fault) line = Err fault
with_told rule (Ok said) line = rule.after said line

pub told_stays : {S W F : Type 0} (rule : TextRule S W F) (fault : F) (lines : List (List ℕ))
    → fold (with_told rule) (Err fault) lines ≡ Err fault
told_stays rule fault [] = refl
told_stays rule fault (line ∷ lines) = told_stays rule fault lines

-- lines say what those of them say that are not passed over
by_told : {S W F : Type 0} (rule : TextRule S W F) (here : Result S F) (lines : List (List ℕ))
    → fold (with_line rule) here lines ≡ fold (with_told rule) here (lines_read lines)
by_told rule here [] = refl
by_told rule (Err fault) (line ∷ lines) = fault_stays rule fault lines ∙ sym (told_stays rule fault (lines_read (line ∷ lines)))
by_told rule (Ok said) (line ∷ lines) = elim (cases_Bool (is_passed_over line)) [
  | inl passed ↦ rw passed (by_told rule (Ok said) lines)
  | inr other ↦ rw other (by_told rule (rule.after said line) lines)
]

pub said_by_told : {S W F : Type 0} (rule : TextRule S W F) (lines : List (List ℕ))
    → said_by rule lines ≡ fold (with_told rule) (Ok rule.start) (lines_read lines)
said_by_told rule lines = by_told rule (Ok rule.start) lines

-- none is told exactly where all are passed over
pub none_told : (lines : List (List ℕ)) → list_all is_passed_over lines ≡ true → lines_read lines ≡ []
none_told [] all = refl
none_told (first ∷ lines) all = elim (cases_Bool (is_passed_over first)) [
  | inl passed ↦ rw passed (none_told lines (rw passed at all))
  | inr other ↦ absurd (false≢true (rw other at all))
]

pub all_passed : (lines : List (List ℕ)) → lines_read lines ≡ [] → list_all is_passed_over lines ≡ true
all_passed [] none = refl
all_passed (first ∷ lines) none = elim (cases_Bool (is_passed_over first)) [
  | inl passed ↦ rw passed (all_passed lines (rw passed at none))
  | inr other ↦ let some = rw other at none in absurd cc
]

-- the texts of a rule and their first faults are these
pub record Means {S W F : Type 0} (rule : TextRule S W F) (Is : List (List ℕ) → W → Type 0)
    (IsFault : List (List ℕ) → ℕ → F → Type 0) : Type 0 where
  pub texts : (lines : List (List ℕ)) (text : W) → IsText rule lines text ↔ Is lines text
  pub faults : (lines : List (List ℕ)) (number : ℕ) (fault : F) → IsFirstFault rule lines number fault ↔ IsFault lines number fault

-- ---- texts that have a first line and may end after each

-- a rule reads such texts
pub record IsRuleOf {S W : Type 0} (rule : TextRule S W (Unit {0})) (Is : List (List ℕ) → W → Type 0) : Type 0 where
  pub texts : (lines : List (List ℕ)) (text : W) → IsText rule lines text ↔ Is lines text
  pub begins : (lines : List (List ℕ)) (said : S) → said_by rule lines ≡ Ok said → IsBeginning Is lines
  pub none : rule.ends rule.start ≡ Err tt

-- the first lines say what those before the last of them say, and that one
one_more : {S W F : Type 0} (rule : TextRule S W F) (lines : List (List ℕ)) (number : ℕ) (line : List ℕ) (said : S)
    → 0 < number → slice_get lines (number - 1) ≡ Some line → said_by rule (take (number - 1) lines) ≡ Ok said
    → said_by rule (take number lines) ≡ with_line rule (Ok said) line
one_more {S = S} {F = F} rule lines number line said counted there say =
    let same : number ≡ number - 1 + 1 = omega arith in
    ap (λ (n : ℕ). said_by rule (take n lines)) same
    ∙ ap (said_by rule) (take_next lines (number - 1) line (slice_get_within lines (number - 1) line there) there)
    ∙ fold-append (with_line rule) (Ok rule.start) (take (number - 1) lines) (line ∷ [])
    ∙ ap (λ (so_far : Result S F). with_line rule so_far line) say

-- where all are passed over, nothing is said
none_said : {S W F : Type 0} (rule : TextRule S W F) (lines : List (List ℕ)) → list_all is_passed_over lines ≡ true
    → said_by rule lines ≡ Ok rule.start
none_said rule lines all = said_by_told rule lines ∙ ap (fold (with_told rule) (Ok rule.start)) (none_told lines all)

begun : {S W : Type 0} (rule : TextRule S W (Unit {0})) (Is : List (List ℕ) → W → Type 0) → IsRuleOf rule Is
    → (lines : List (List ℕ)) → IsBeginning Is lines → (said : S) × (said_by rule lines ≡ Ok said)
begun rule Is of lines (inl all) = (rule.start, none_said rule lines all)
begun rule Is of lines (inr text) = let is = (of.texts lines text.0).1 text.1 in (is.said, is.say)

first_wrong : {S W : Type 0} (rule : TextRule S W (Unit {0})) (Is : List (List ℕ) → W → Type 0) → IsRuleOf rule Is
    → (lines : List (List ℕ)) (number : ℕ) (fault : Unit {0}) → IsFirstFault rule lines number fault → IsFirstWrong Is lines number
first_wrong rule Is of lines number fault (OfLine said line counted say there wrong) =
    Wrong counted (omega (arith, slice_get_within lines (number - 1) line there)) (of.begins (take (number - 1) lines) said say)
    (λ begins.
    let b = begun rule Is of (take number lines) begins in
    let some = b.1 in
    let none = one_more rule lines number line said counted there say ∙ wrong in
    absurd cc)
first_wrong {S = S} rule Is of lines number fault (OfEnd said counted say wrong) = NoFirst counted (elim (of.begins lines said say) [
  | inl all ↦ all
  | inr text ↦
      let is = (of.texts lines text.0).1 text.1 in
      let says = is.say in
      let same : is.said ≡ said = cc in
      let whole = sym is.whole ∙ ap rule.ends same ∙ wrong in
      absurd cc
])

wrong_first : {S W : Type 0} (rule : TextRule S W (Unit {0})) (Is : List (List ℕ) → W → Type 0) → IsRuleOf rule Is
    → (lines : List (List ℕ)) (number : ℕ) (fault : Unit {0}) → IsFirstWrong Is lines number → IsFirstFault rule lines number fault
wrong_first {S = S} rule Is of lines number fault (Wrong counted within before not) =
    next (with_line rule (Ok b.0) line) refl
  where
    b : (said : S) × (said_by rule (take (number - 1) lines) ≡ Ok said)
    b = begun rule Is of (take (number - 1) lines) before

    line : List ℕ
    line = get_or lines (number - 1) []

    there : slice_get lines (number - 1) ≡ Some line
    there = slice_get-get_or lines (number - 1) [] (omega (arith, counted, within))

    next : (known : Result S (Unit {0})) → with_line rule (Ok b.0) line ≡ known → IsFirstFault rule lines number fault
    next (Ok after) is = absurd (not (of.begins (take number lines) after (one_more rule lines number line b.0 counted there b.1 ∙ is)))
    next (Err other) is = OfLine b.0 line counted b.1 there is
wrong_first rule Is of lines number fault (NoFirst counted all) = OfEnd rule.start counted (none_said rule lines all) of.none

pub means : {S W : Type 0} (rule : TextRule S W (Unit {0})) (Is : List (List ℕ) → W → Type 0) → IsRuleOf rule Is
    → Means rule Is (λ lines number fault. IsFirstWrong Is lines number)
means rule Is of = record {
  texts = of.texts;
  faults = λ lines number fault. (first_wrong rule Is of lines number fault, wrong_first rule Is of lines number fault);
}

-- ---- what a reading tells, in the words of such definitions, and with its errors under other names

-- what a reading of lines tells, with its errors under such names
pub record ReadingTells {W F E : Type 0} (Is : List (List ℕ) → W → Type 0) (IsFault : List (List ℕ) → ℕ → F → Type 0) (lines : List (List ℕ))
    (error : LineError F → E) (read : Result W E) : Type 0 where
  pub found : IfOk read (Is lines)
  pub only : (text : W) → Is lines text → (read ≡ Ok text) ⊎ (read ≡ Err (error errors.NoMemory))
  pub fault : (number : ℕ) (kind : F) → read ≡ Err (error (errors.Fault number kind)) → IsFault lines number kind
  pub faulty : (number : ℕ) (kind : F) → IsFault lines number kind
      → (read ≡ Err (error (errors.Fault number kind))) ⊎ (read ≡ Err (error errors.NoMemory))

module _ {S W F : Type 0} {rule : TextRule S W F} {Is : List (List ℕ) → W → Type 0}
    {IsFault : List (List ℕ) → ℕ → F → Type 0} (means : Means rule Is IsFault) (lines : List (List ℕ)) where
  pub either_of : ((text : W) × Is lines text) ⊎ ((number : ℕ) × (fault : F) × IsFault lines number fault)
  either_of = elim (either rule lines) [
    | inl text ↦ inl (text.0, (means.texts lines text.0).0 text.1)
    | inr first ↦ inr (first.0, first.1, (means.faults lines first.0 first.1).0 first.2)
  ]

  pub never_both_of : (text : W) (number : ℕ) (fault : F) → Is lines text → IsFault lines number fault → ⊥
  never_both_of text number fault is first =
      never_both rule lines text number fault ((means.texts lines text).1 is) ((means.faults lines number fault).1 first)

  pub one_text_of : (text other : W) → Is lines text → Is lines other → text ≡ other
  one_text_of text other is is' =
      one_text rule lines text other ((means.texts lines text).1 is) ((means.texts lines other).1 is')

  pub one_fault_of : (number place : ℕ) (fault other : F) → IsFault lines number fault → IsFault lines place other
      → (number ≡ place) × (fault ≡ other)
  one_fault_of number place fault other first first' =
      one_fault rule lines number place fault other ((means.faults lines number fault).1 first)
      ((means.faults lines place other).1 first')

  module _ {E : Type 0} (error : LineError F → E) where
    pub text_is_found : (read : Result W (LineError F)) → Reads rule lines read
        → IfOk (result_map_both (λ (text : W). text) error read) (Is lines)
    text_is_found (Ok text) reads = (means.texts lines text).0 reads
    text_is_found (Err fault) reads = tt

    pub text_is_read : (read : Result W (LineError F)) → Reads rule lines read → (text : W) → Is lines text
        → (result_map_both (λ (t : W). t) error read ≡ Ok text)
        ⊎ (result_map_both (λ (t : W). t) error read ≡ Err (error errors.NoMemory))
    text_is_read (Ok other) reads text is =
        inl (ap Ok (one_text rule lines other text reads ((means.texts lines text).1 is)))
    text_is_read (Err (errors.Fault number fault)) reads text is =
        absurd (never_both rule lines text number fault ((means.texts lines text).1 is) reads)
    text_is_read (Err errors.NoMemory) reads text is = inr refl

    pub fault_is_told : (read : Result W (LineError F)) → Reads rule lines read → (number : ℕ) (fault : F)
        → IsFault lines number fault
        → (result_map_both (λ (t : W). t) error read ≡ Err (error (errors.Fault number fault)))
        ⊎ (result_map_both (λ (t : W). t) error read ≡ Err (error errors.NoMemory))
    fault_is_told (Ok text) reads number fault first =
        absurd (never_both rule lines text number fault reads ((means.faults lines number fault).1 first))
    fault_is_told (Err (errors.Fault place other)) reads number fault first =
        let one = one_fault rule lines place number other fault reads ((means.faults lines number fault).1 first) in
        let same : errors.Fault place other ≡ errors.Fault number fault = cc in
        inl (ap (λ (lines_read : LineError F). Err (error lines_read)) same)
    fault_is_told (Err errors.NoMemory) reads number fault first = inr refl

    pub fault_is_first : ((one other : LineError F) → error one ≡ error other → one ≡ other)
        → (read : Result W (LineError F)) → Reads rule lines read → (number : ℕ) (fault : F)
        → result_map_both (λ (t : W). t) error read ≡ Err (error (errors.Fault number fault)) → IsFault lines number fault
    fault_is_first same (Ok text) reads number fault is = absurd cc
    fault_is_first same (Err one) reads number fault is =
        let lines_read : one ≡ errors.Fault number fault = same one (errors.Fault number fault) cc in
        (means.faults lines number fault).0 (subst (λ (e : LineError F). Reads {W = W} rule lines (Err e)) lines_read reads)

    pub reading_tells : ((one other : LineError F) → error one ≡ error other → one ≡ other) → (read : Result W (LineError F)) → Reads rule lines read
        → (named : Result W E) → named ≡ result_map_both (λ (text : W). text) error read → ReadingTells Is IsFault lines error named
    reading_tells one_error read reads named is = subst (ReadingTells Is IsFault lines error) (sym is) (record {
      found = text_is_found read reads;
      only = text_is_read read reads;
      fault = fault_is_first one_error read reads;
      faulty = fault_is_told read reads;
    })

-- ---- where a fault has no kind

-- two errors of one name are one
pub one_line_error : {E : Type 0} (error : LineError (Unit {0}) → E)
    → ((number place : ℕ) → error (errors.Fault number tt) ≡ error (errors.Fault place tt) → number ≡ place)
    → ((number : ℕ) → error (errors.Fault number tt) ≡ error errors.NoMemory → ⊥)
    → (one other : LineError (Unit {0})) → error one ≡ error other → one ≡ other
one_line_error error one_number apart (errors.Fault number fault) (errors.Fault place other) same = ap (λ (n : ℕ). errors.Fault n tt) (one_number number place same)
one_line_error error one_number apart (errors.Fault number fault) errors.NoMemory same = absurd (apart number same)
one_line_error error one_number apart errors.NoMemory (errors.Fault number fault) same = absurd (apart number (sym same))
one_line_error error one_number apart errors.NoMemory errors.NoMemory same = refl

module _ {S W : Type 0} {rule : TextRule S W (Unit {0})} {Is : List (List ℕ) → W → Type 0}
    {IsFault : List (List ℕ) → ℕ → Unit {0} → Type 0} (means : Means rule Is IsFault) (lines : List (List ℕ)) where
  pub either_line : ((text : W) × Is lines text) ⊎ ((number : ℕ) × IsFault lines number tt)
  either_line = elim (either_of means lines) [ inl text ↦ inl text | inr first ↦ inr (first.0, first.2) ]

  pub never_both_line : (text : W) (number : ℕ) → Is lines text → IsFault lines number tt → ⊥
  never_both_line text number = never_both_of means lines text number tt

  pub one_line_of : (number place : ℕ) → IsFault lines number tt → IsFault lines place tt → number ≡ place
  one_line_of number place first first' = (one_fault_of means lines number place tt tt first first').0
