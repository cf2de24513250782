-- What the lines of a script say one after another is the script that the whole list of them is.
use Rattle.std.proofs.Common.{◌≡◌, ◌∙◌, ◌∷◌, ◌++◌, [], ℕ, List, map, Option, Some, None, Ok, refl, ap, sym, subst, append_assoc, inl, inr}
use Rattle.std.specs.List.{fold}
use Rattle.std.specs.Option.{ok_or, option_map}
use Rattle.std.proofs.lemmas.List.{append-nil}
use Rattle.text_parts.specs.LinesRead.{IsBeginning, lines_read}
use Rattle.text_parts.specs.TextRule.{IsText, said_by}
use Rattle.text_parts.proofs.WholeLists.{Means, all_passed, means, said_by_told, told_stays, with_told}
use Rattle.fabric_script.specs.declared.event.ScriptEvent.{ScriptEvent}
use Rattle.fabric_script.specs.declared.line.Start.{Start}
use Rattle.fabric_script.specs.declared.script.Script.{Script}
use Rattle.fabric_script.specs.ScriptFaults.{IsFirstScriptFault, IsScript}
use Rattle.fabric_script.specs.ScriptLines.{event_in, start_in}
use Rattle.fabric_script.specs.steps.Taking.{TakenLines, no_lines_taken, taken_lines, script_of, script_rule, wrong}

-- a script of these parts
abbrev script_with : ℕ → ℕ → List ScriptEvent → Script
script_with router room events = record { router = router; room = room; events = events }

-- what lines say: none is told, or they are a script
abbrev Say : List (List ℕ) → Option Start → List ScriptEvent → Type 0
Say lines None events = lines_read lines ≡ []
Say lines (Some start) events = IsScript lines (script_with start.router start.room events)

-- what is said after later lines, each of which is an event
after_events : (start : Start) (events : List ScriptEvent) (others : List (List ℕ)) (after : TakenLines)
    → fold (with_told script_rule) (Ok (taken_lines (Some start) events)) others ≡ Ok after
    → (more : List ScriptEvent) × (map event_in others ≡ map (λ (event : ScriptEvent). Some event) more)
    × (after ≡ taken_lines (Some start) (events ++ more))
after_events start events [] after is =
    let same : taken_lines (Some start) events ≡ after = cc in
    ([], refl, sym same ∙ ap (taken_lines (Some start)) (sym (append-nil events)))
after_events start events (line ∷ others) after is =
    next (event_in line) refl is (λ event rest. after_events start (events ++ event ∷ []) others after rest)
  where
    next : (here : Option ScriptEvent) → event_in line ≡ here
        → fold (with_told script_rule)
        (ok_or (option_map (λ (event : ScriptEvent). taken_lines (Some start) (events ++ event ∷ [])) here) wrong) others
        ≡ Ok after
        → ((event : ScriptEvent)
        → fold (with_told script_rule) (Ok (taken_lines (Some start) (events ++ event ∷ []))) others ≡ Ok after
        → (more : List ScriptEvent) × (map event_in others ≡ map (λ (event : ScriptEvent). Some event) more)
        × (after ≡ taken_lines (Some start) ((events ++ event ∷ []) ++ more)))
        → (more : List ScriptEvent) × (map event_in (line ∷ others) ≡ map (λ (event : ScriptEvent). Some event) more)
        × (after ≡ taken_lines (Some start) (events ++ more))
    next None there is onward = let none = sym (told_stays script_rule wrong others) ∙ is in absurd cc
    next (Some event) there is onward =
        let rest = onward event is in (
          event ∷ rest.0,
          ap (λ (o : Option ScriptEvent). o ∷ map event_in others) there
              ∙ ap (λ (os : List (Option ScriptEvent)). Some event ∷ os) rest.1,
          rest.2 ∙ ap (taken_lines (Some start)) (append_assoc events (event ∷ []) rest.0),
        )

events_taken : (start : Start) (events more : List ScriptEvent) (others : List (List ℕ))
    → map event_in others ≡ map (λ (event : ScriptEvent). Some event) more
    → fold (with_told script_rule) (Ok (taken_lines (Some start) events)) others ≡ Ok (taken_lines (Some start) (events ++ more))
events_taken start events [] [] are = ap (λ (es : List ScriptEvent). Ok (taken_lines (Some start) es)) (sym (append-nil events))
events_taken start events [] (line ∷ others) are = absurd cc
events_taken start events (event ∷ more) [] are = absurd cc
events_taken start events (event ∷ more) (line ∷ others) are =
    let first : event_in line ≡ Some event = cc in
    ap (λ (o : Option ScriptEvent). fold (with_told script_rule)
    (ok_or (option_map (λ (e : ScriptEvent). taken_lines (Some start) (events ++ e ∷ [])) o) wrong) others) first
    ∙ events_taken start (events ++ event ∷ []) more others (cc)
    ∙ ap (λ (es : List ScriptEvent). Ok (taken_lines (Some start) es)) (append_assoc events (event ∷ []) more)

says : (lines : List (List ℕ)) (so_far : TakenLines) → said_by script_rule lines ≡ Ok so_far → Say lines so_far.start so_far.events
says lines so_far say = by (lines_read lines) refl (sym (said_by_told script_rule lines) ∙ say)
  where
    begun : (first : List ℕ) (others : List (List ℕ)) (here : Option Start) → lines_read lines ≡ first ∷ others
        → start_in first ≡ here
        → fold (with_told script_rule) (ok_or (option_map (λ (start : Start). taken_lines (Some start) []) here) wrong) others
        ≡ Ok so_far
        → Say lines so_far.start so_far.events
    begun first others None are is say = let none = sym (told_stays script_rule wrong others) ∙ say in absurd cc
    begun first others (Some start) are is say =
        let after = after_events start [] others so_far say in
        subst (λ (s : TakenLines). Say lines s.start s.events) (sym after.2)
        (record { first = first; others = others; told_are = are; start = is; events = after.1 })

    by : (lines_told : List (List ℕ)) → lines_read lines ≡ lines_told
        → fold (with_told script_rule) (Ok no_lines_taken) lines_told ≡ Ok so_far → Say lines so_far.start so_far.events
    by [] none say =
        let same : no_lines_taken ≡ so_far = cc in subst (λ (s : TakenLines). Say lines s.start s.events) same none
    by (first ∷ others) are say = begun first others (start_in first) are refl say

-- so the script that the lines are is what they say, and they begin one as long as they say something
is_script : (lines : List (List ℕ)) (script : Script) → IsText script_rule lines script → IsScript lines script
is_script lines script is = ended is.said.start is.said.events (says lines is.said is.say) is.whole
  where
    ended : (start : Option Start) (events : List ScriptEvent) → Say lines start events
        → ok_or (script_of start events) wrong ≡ Ok script → IsScript lines script
    ended None events say whole = absurd cc
    ended (Some start) events say whole =
        let same : script_with start.router start.room events ≡ script = cc in subst (IsScript lines) same say

is_text : (lines : List (List ℕ)) (script : Script) → IsScript lines script → IsText script_rule lines script
is_text lines script is =
    let start : Start = record { router = script.router; room = script.room } in record {
      said = taken_lines (Some start) script.events;
      say = said_by_told script_rule lines
          ∙ ap (fold (with_told script_rule) (Ok no_lines_taken)) is.told_are
          ∙ ap (λ (o : Option Start). fold (with_told script_rule)
          (ok_or (option_map (λ (s : Start). taken_lines (Some s) []) o) wrong) is.others) is.start
          ∙ events_taken start [] script.events is.others is.events;
      whole = refl;
    }

begins : (lines : List (List ℕ)) (so_far : TakenLines) → said_by script_rule lines ≡ Ok so_far → IsBeginning IsScript lines
begins lines so_far say = by so_far.start so_far.events (says lines so_far say)
  where
    by : (start : Option Start) (events : List ScriptEvent) → Say lines start events → IsBeginning IsScript lines
    by None events none = inl (all_passed lines none)
    by (Some start) events is = inr (script_with start.router start.room events, is)

pub script_means : Means script_rule IsScript (λ lines number fault. IsFirstScriptFault lines number)
script_means = means script_rule IsScript (record {
  texts = λ lines script. (is_script lines script, is_text lines script);
  begins = begins;
  none = refl;
})
