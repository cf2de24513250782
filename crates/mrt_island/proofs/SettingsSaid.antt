-- What the lines of a profile say one after another is what the whole list of them says.
use Rattle.std.proofs.Common.{◌≡◌, ◌<◌, ◌≤◌, ◌-◌, ◌∙◌, ◌∷◌, ◌++◌, [], ℕ, zero, suc, List, length, take, get_or, slice_get, Option, Some, None, Result, Ok, Err, refl, ap, sym, arith, inl, inr}
use Rattle.std.specs.List.{cons_option, list_any}
use Rattle.std.specs.Option.{option_and_then, option_map_or}
use Rattle.std.specs.Result.{result_ok}
use Rattle.std.proofs.lemmas.Bool.{cases_Bool, cases_lt}
use Rattle.std.proofs.lemmas.List.{append-nil, take_all}
use Rattle.std.proofs.lemmas.List.Elements.{filter_map-append}
use Rattle.std.proofs.lemmas.List.Sums.{fold-append}
use Rattle.std.proofs.lemmas.Option.{slice_get-get_or, slice_get_past, slice_get_within}
use Rattle.std.proofs.Math.Numerals.{add-one}
use borrow.Author.Count.{below_more}
use Rattle.text_parts.specs.TextLines.{is_passed_over}
use Rattle.text_parts.specs.TextRule.{IsFirstFault, IsText, OfEnd, OfLine, said_by, with_line}
use Rattle.text_parts.proofs.LinesTaken.{take_next}
use Rattle.text_parts.proofs.WholeLists.{Means}
use Rattle.mrt_island.specs.declared.profile_error.ProfileKind.{ProfileKind}
use Rattle.mrt_island.specs.declared.setting.Setting.{Setting}
use Rattle.mrt_island.specs.ProfileFaults.{AreSettings, IsFirstProfileFault, fault_at, fault_behind, fault_in, setting_of, settings_of}
use Rattle.mrt_island.specs.ProfileLines.{line_setting}
use Rattle.mrt_island.specs.ProfileTaking.{profile_rule, with_setting}
use Rattle.mrt_island.specs.Settings.{same_subject}

-- a fault, or else these settings
abbrev or_else : List Setting → Option ProfileKind → Result (List Setting) ProfileKind
or_else settings fault = option_map_or (λ (kind : ProfileKind). Err kind) fault (Ok settings)

-- what one line says after settings, or its fault
one_line : (earlier : List Setting) (line : List ℕ)
    → with_line profile_rule (Ok earlier) line ≡ or_else (earlier ++ settings_of (line ∷ [])) (fault_behind earlier line)
one_line earlier line = elim (cases_Bool (is_passed_over line)) [
  | inl passed ↦ rw passed (ap Ok (sym (append-nil earlier)))
  | inr other ↦ rw other (by (line_setting line))
]
  where
    by : (says : Result Setting ProfileKind)
        → with_setting earlier says ≡ or_else (earlier ++ cons_option (result_ok says) []) (fault_in earlier says)
    by (Err kind) = refl
    by (Ok setting) = elim (cases_Bool (list_any (same_subject setting) earlier)) [
      | inl again ↦ rw again refl
      | inr new ↦ rw new refl
    ]

module _ (lines : List (List ℕ)) (number : ℕ) (inside : number < length lines) where
  abbrev line : List ℕ
  line = get_or lines number []

  there : slice_get lines number ≡ Some line
  there = slice_get-get_or lines number [] inside

  one_more : take (suc number) lines ≡ take number lines ++ line ∷ []
  one_more = ap (λ (n : ℕ). take n lines) (sym (add-one number)) ∙ take_next lines number line inside there

  one_more_said : settings_of (take (suc number) lines) ≡ settings_of (take number lines) ++ settings_of (line ∷ [])
  one_more_said = ap settings_of one_more ∙ filter_map-append setting_of (take number lines) (line ∷ [])

  next_said : said_by profile_rule (take (suc number) lines)
      ≡ with_line profile_rule (said_by profile_rule (take number lines)) line
  next_said = ap (said_by profile_rule) one_more ∙ fold-append (with_line profile_rule) (Ok []) (take number lines) (line ∷ [])

  fault_there : fault_at lines number ≡ fault_behind (settings_of (take number lines)) line
  fault_there = ap (option_and_then (fault_behind (settings_of (take number lines)))) there

-- the first lines say what the list of them says, and none of them has a fault
record AreRight (lines : List (List ℕ)) (number : ℕ) (settings : List Setting) : Type 0 where
  said : settings ≡ settings_of (take number lines)
  faultless : (place : ℕ) → place < number → fault_at lines place ≡ None

right_first : (lines : List (List ℕ)) (number : ℕ) (settings : List Setting) → number ≤ length lines
    → said_by profile_rule (take number lines) ≡ Ok settings → AreRight lines number settings
right_first lines zero settings within say =
    let none : settings ≡ [] = cc in record { said = none; faultless = λ place below. absurd (omega (arith, below)) }
right_first lines (suc number) settings within say =
    next (said_by profile_rule (take number lines)) (sym (next_said lines number within) ∙ say) (λ before is. right_first lines number before (omega (arith, within)) is) refl
  where
    last : (before : List Setting) → AreRight lines number before → (fault : Option ProfileKind)
        → fault_behind before (line lines number within) ≡ fault
        → or_else (before ++ settings_of (line lines number within ∷ [])) fault ≡ Ok settings → AreRight lines (suc number) settings
    last before right (Some kind) at is = absurd cc
    last before right None at is =
        let same : before ++ settings_of (line lines number within ∷ []) ≡ settings = cc in
        let none : fault_at lines number ≡ None =
        fault_there lines number within ∙ ap (λ (s : List Setting). fault_behind s (line lines number within)) (sym right.said) ∙ at in
        let all = below_more (λ (place : ℕ). fault_at lines place ≡ None) number right.faultless none in record {
          said = sym same ∙ ap (λ (s : List Setting). s ++ settings_of (line lines number within ∷ [])) right.said
              ∙ sym (one_more_said lines number within);
          faultless = λ place below. all place (omega (arith, below));
        }

    next : (before : Result (List Setting) ProfileKind) → with_line profile_rule before (line lines number within) ≡ Ok settings
        → ((so_far : List Setting) → said_by profile_rule (take number lines) ≡ Ok so_far → AreRight lines number so_far)
        → said_by profile_rule (take number lines) ≡ before → AreRight lines (suc number) settings
    next (Err kind) is earlier known = absurd cc
    next (Ok before) is earlier known =
        last before (earlier before known) (fault_behind before (line lines number within)) refl
        (sym (one_line before (line lines number within)) ∙ is)

first_right : (lines : List (List ℕ)) (number : ℕ) → number ≤ length lines
    → ((place : ℕ) → place < number → fault_at lines place ≡ None)
    → said_by profile_rule (take number lines) ≡ Ok (settings_of (take number lines))
first_right lines zero within faultless = refl
first_right lines (suc number) within faultless =
    next_said lines number within
    ∙ ap (λ (so_far : Result (List Setting) ProfileKind). with_line profile_rule so_far (line lines number within))
    (first_right lines number (omega (arith, within)) (λ place below. faultless place (omega (arith, below))))
    ∙ one_line (settings_of (take number lines)) (line lines number within)
    ∙ ap (or_else (settings_of (take number lines) ++ settings_of (line lines number within ∷ [])))
    (sym (fault_there lines number within) ∙ faultless number (omega arith))
    ∙ ap Ok (sym (one_more_said lines number within))

-- all lines
are_settings : (lines : List (List ℕ)) (settings : List Setting) → IsText profile_rule lines settings → AreSettings lines settings
are_settings lines settings is =
    let all : take (length lines) lines ≡ lines = take_all (length lines) lines (omega arith) in
    let right = right_first lines (length lines) is.said (omega arith) (ap (said_by profile_rule) all ∙ is.say) in
    let whole = is.whole in
    let same : is.said ≡ settings = cc in record {
      faultless = λ place. elim (cases_lt place (length lines)) [
        | inl below ↦ right.faultless place below
        | inr past ↦ ap (option_and_then (fault_behind (settings_of (take place lines)))) (slice_get_past lines place past)
      ];
      said = sym same ∙ right.said ∙ ap settings_of all;
    }

is_text : (lines : List (List ℕ)) (settings : List Setting) → AreSettings lines settings → IsText profile_rule lines settings
is_text lines settings are =
    let all : take (length lines) lines ≡ lines = take_all (length lines) lines (omega arith) in record {
      said = settings;
      say = ap (said_by profile_rule) (sym all) ∙ first_right lines (length lines) (omega arith) (λ place below. are.faultless place)
          ∙ ap (λ (ls : List (List ℕ)). Ok (settings_of ls)) all ∙ ap Ok (sym are.said);
      whole = refl;
    }

-- a first fault
is_first : (lines : List (List ℕ)) (number : ℕ) (kind : ProfileKind) → IsFirstFault profile_rule lines number kind
    → IsFirstProfileFault lines number kind
is_first lines number kind (OfLine said one counted say there wrong) =
    let inside = slice_get_within lines (number - 1) one there in
    let right = right_first lines (number - 1) said (omega (arith, inside)) say in record {
      counted = counted;
      fault = ap (option_and_then (fault_behind (settings_of (take (number - 1) lines)))) there
          ∙ ap (λ (s : List Setting). fault_behind s one) (sym right.said)
          ∙ is_fault (fault_behind said one) (sym (one_line said one) ∙ wrong);
      first = right.faultless;
    }
  where
    is_fault : (fault : Option ProfileKind) → or_else (said ++ settings_of (one ∷ [])) fault ≡ Err kind → fault ≡ Some kind
    is_fault None is = absurd cc
    is_fault (Some other) is = cc
is_first lines number kind (OfEnd said counted say wrong) = absurd cc

is_first_by : (lines : List (List ℕ)) (number : ℕ) (kind : ProfileKind) → IsFirstProfileFault lines number kind
    → IsFirstFault profile_rule lines number kind
is_first_by lines number kind first = elim (cases_lt (number - 1) (length lines)) [
  | inl inside ↦
      let one = line lines (number - 1) inside in
      OfLine (settings_of (take (number - 1) lines)) one first.counted
      (first_right lines (number - 1) (omega (arith, inside)) first.first) (there lines (number - 1) inside)
      (one_line (settings_of (take (number - 1) lines)) one
      ∙ ap (or_else (settings_of (take (number - 1) lines) ++ settings_of (one ∷ [])))
      (sym (fault_there lines (number - 1) inside) ∙ first.fault))
  | inr past ↦
      let none = ap (option_and_then (fault_behind (settings_of (take (number - 1) lines)))) (slice_get_past lines (number - 1) past) in
      let some = first.fault in
      absurd cc
]

pub profile_means : Means profile_rule AreSettings (λ lines number kind. IsFirstProfileFault lines number kind)
profile_means = record {
  texts = λ lines settings. (are_settings lines settings, is_text lines settings);
  faults = λ lines number kind. (is_first lines number kind, is_first_by lines number kind);
}
