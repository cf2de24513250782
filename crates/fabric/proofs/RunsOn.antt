-- Runs that go on.
use Rattle.std.proofs.Common.{◌≡◌, ◌∙◌, ◌++◌, ◌+◌, ◌<◌, ◌≤◌, ℕ, List, [], ◌∷◌, Option, Some, None, ap, get_or, length, map, refl, take, subst, sym, inl, inr}
use Rattle.std.specs.Prelude.{IfOk, Result, Ok, Err}
use Rattle.std.specs.Option.{option_and_then, option_map}
use Rattle.std.proofs.lemmas.Bool.{cases_Bool}
use Rattle.std.proofs.lemmas.List.{append-nil, append_assoc, map-append, take_all, take_more}
use Rattle.std.proofs.lemmas.Option.{same_Some}
use Rattle.fabric.specs.declared.event.Event.{Event}
use Rattle.fabric.specs.declared.event.Event.TheVariants.{Step}
use Rattle.fabric.specs.declared.event.Outcome.{Outcome}
use Rattle.fabric.specs.Course.{handles, steps_of}
use Rattle.fabric.specs.FabricParts.{FabricParts}
use Rattle.fabric.specs.FabricState.{Answer, FabricState}
use Rattle.fabric.specs.Runs.{FabricStep, IsRun}
use Rattle.fabric.specs.OutcomeText.{answer_line, run_text}
use Rattle.fabric.specs.steps.Printed.{HasLines, IsPrinted}

-- one run after another
pub run_on : (parts : FabricParts) (old mid new : FabricState) (events more : List Event) (answers others : List Answer)
    → IsRun parts old events answers mid → IsRun parts mid more others new
    → IsRun parts old (events ++ more) (answers ++ others) new
run_on parts old mid new [] more [] others run rest = subst (λ (s : FabricState). IsRun parts s more others new) run rest
run_on parts old mid new (event ∷ events) more (answer ∷ answers) others run rest =
    (run.0, run.1, run_on parts run.0 mid new events more answers others run.2 rest)
run_on parts old mid new [] more (answer ∷ answers) others run rest = absurd run
run_on parts old mid new (event ∷ events) more [] others run rest = absurd run

-- lines after lines
pub lines_on : (parts : FabricParts) (answers others : List Answer) (before mid after : List ℕ)
    → HasLines parts answers before mid → HasLines parts others mid after → HasLines parts (answers ++ others) before after
lines_on parts [] others before mid after one two = subst (λ (t : List ℕ). HasLines parts others t after) one two
lines_on parts (answer ∷ answers) others before mid after one two = (one.0, one.1, lines_on parts answers others one.0 mid after one.2 two)

pub told_on : (parts : FabricParts) (old mid new : FabricState) (events more : List Event) (before between after : List ℕ)
    → IsPrinted parts old events mid before between → IsPrinted parts mid more new between after
    → IsPrinted parts old (events ++ more) new before after
told_on parts old mid new events more before between after one two = record {
  answers = one.answers ++ two.answers;
  run = run_on parts old mid new events more one.answers two.answers one.run two.run;
  lines = lines_on parts one.answers two.answers before between after one.lines two.lines;
}

pub told_none : (parts : FabricParts) (state : FabricState) (text : List ℕ) → IsPrinted parts state [] state text text
told_none parts state text = record { answers = []; run = refl; lines = refl }

pub told_one : {T E : Type 0} (result : Result T E) (parts : FabricParts) (old new : FabricState) (event : Event) (answer : Answer) (before after : List ℕ)
    → FabricStep parts old event answer new → IfOk result (λ _. option_map (λ line. before ++ line) (answer_line parts.area.ids answer) ≡ Some after)
    → IfOk result (λ _. IsPrinted parts old (event ∷ []) new before after)
told_one (Ok done) parts old new event answer before after step line = record { answers = answer ∷ []; run = (new, step, refl); lines = (after, line, refl) }
told_one (Err error) parts old new event answer before after step line = tt

-- the first events of a list, and one more
pub one_more_told : {X : Type 0} (parts : FabricParts) (old mid new : FabricState) (f : X → Event) (xs : List X) (d : X) (i : ℕ) (before between after : List ℕ) → i < length xs
    → IsPrinted parts old (map f (take i xs)) mid before between → IsPrinted parts mid (f (get_or xs i d) ∷ []) new between after
    → IsPrinted parts old (map f (take (i + 1) xs)) new before after
one_more_told parts old mid new f xs d i before between after inside so_far one =
    rw (take_more xs i d inside, map-append f (take i xs) (get_or xs i d ∷ []))
    (told_on parts old mid new (map f (take i xs)) (f (get_or xs i d) ∷ []) before between after so_far one)

-- all of them
pub all_told : {X : Type 0} (parts : FabricParts) (old new : FabricState) (f : X → Event) (xs : List X) (i : ℕ)
    (before after : List ℕ) → length xs ≤ i → IsPrinted parts old (map f (take i xs)) new before after
    → IsPrinted parts old (map f xs) new before after
all_told parts old new f xs i before after past told =
    subst (λ (front : List _). IsPrinted parts old (map f front) new before after) (take_all i xs past) told

-- of a text that was empty
lines_of : (parts : FabricParts) (answers : List Answer) (before after : List ℕ) → HasLines parts answers before after
    → option_map (λ lines. before ++ lines) (run_text parts.area.ids answers) ≡ Some after
lines_of parts [] before after is = ap (λ (t : List ℕ). Some t) (append-nil before ∙ sym is)
lines_of parts (answer ∷ answers) before after lines =
    go (answer_line parts.area.ids answer) (run_text parts.area.ids answers) lines.1 (lines_of parts answers lines.0 after lines.2)
  where
    go : (front back : Option (List ℕ)) → option_map (λ line. before ++ line) front ≡ Some lines.0 → option_map (λ rest. lines.0 ++ rest) back ≡ Some after
        → option_map (λ text. before ++ text) (option_and_then (λ line. option_map (λ rest. line ++ rest) back) front) ≡ Some after
    go None back one two = cc
    go (Some line) None one two = cc
    go (Some line) (Some rest) one two =
        ap (λ (t : List ℕ). Some t) (sym (append_assoc before line rest)) ∙ ap (λ (t : List ℕ). Some (t ++ rest)) (same_Some (before ++ line) lines.0 one) ∙ two

pub whole_text : (parts : FabricParts) (answers : List Answer) (text : List ℕ) → HasLines parts answers [] text
    → run_text parts.area.ids answers ≡ Some text
whole_text parts answers text lines = go (run_text parts.area.ids answers) (lines_of parts answers [] text lines)
  where
    go : (lines : Option (List ℕ)) → option_map (λ l. [] ++ l) lines ≡ Some text → lines ≡ Some text
    go None is = is
    go (Some lines) is = is

-- an answered step more of packet 0
pub one_step_more : (outcome : Outcome) (events : List Event) (answers : List Answer) (parts : FabricParts) (old end : FabricState) → IsRun parts old events answers end
    → steps_of 0 (events ++ Step 0 ∷ []) (answers ++ Ok outcome ∷ []) ≡ steps_of 0 events answers + 1
one_step_more outcome [] [] parts old end run = refl
one_step_more outcome (event ∷ events) (answer ∷ answers) parts old end run = elim (cases_Bool (handles 0 event answer)) [
  | inl own ↦ rw own (ap (λ (n : ℕ). n + 1) (one_step_more outcome events answers parts run.0 end run.2))
  | inr other ↦ rw other (one_step_more outcome events answers parts run.0 end run.2)
]
one_step_more outcome [] (answer ∷ answers) parts old end run = absurd run
one_step_more outcome (event ∷ events) [] parts old end run = absurd run
