use Rattle.std.proofs.Common.{◌≡◌, ◌∙◌, ◌<◌, ◌≤◌, ℕ, List, [], ◌∷◌, Some, length, get_or, refl, sym, ap, arith}
use Rattle.std.specs.Option.{option_and_then}
use Rattle.fabric_script.specs.Names.{failure_in}
use Rattle.fabric_script.specs.declared.event.FailureName.{FailureName}
use Rattle.mrt_args.specs.Form.{trace_in, trace_of}
use Rattle.mrt_args.proofs.form_reading.read_trace.Goals as goal

-- what three words are, and four
three : (words : List (List ℕ)) (a b c : List ℕ) → 3 ≤ length words → length words < 4 → a ≡ get_or words 0 a → b ≡ get_or words 1 b
    → c ≡ get_or words 2 c → words ≡ a ∷ b ∷ c ∷ []
three [] a b c least most ia ib ic = absurd (omega (arith, least))
three (x ∷ []) a b c least most ia ib ic = absurd (omega (arith, least))
three (x ∷ y ∷ []) a b c least most ia ib ic = absurd (omega (arith, least))
three (x ∷ y ∷ z ∷ []) a b c least most ia ib ic = rw (ia, ib, ic) refl
three (x ∷ y ∷ z ∷ more ∷ words) a b c least most ia ib ic = absurd (omega (arith, most))

four : (words : List (List ℕ)) (a b c d : List ℕ) → 4 ≤ length words → length words < 5 → a ≡ get_or words 0 a → b ≡ get_or words 1 b
    → c ≡ get_or words 2 c → d ≡ get_or words 3 d → words ≡ a ∷ b ∷ c ∷ d ∷ []
four [] a b c d least most ia ib ic id = absurd (omega (arith, least))
four (w ∷ words) a b c d least most ia ib ic id =
    rw ia (ap (λ (more : List (List ℕ)). w ∷ more) (three words b c d (omega (arith, least)) (omega (arith, most)) ib ic id))

pub returns-in-len3 : goal.returns-in-len3
returns-in-len3 c =
    c.trace_of.ensures
    ∙ ap trace_in (sym (three c.args.words.now _ _ _ c.in-len3.len_at_least c.in-len3.len_below c.from-item.is c.to-item.is c.entry-item.is))

pub returns-in_ok-failed-in-len4 : goal.returns-in_ok-failed-in-len4
returns-in_ok-failed-in-len4 c =
    c.trace_of-in-len4.ensures
    ∙ ap (option_and_then (λ (name : FailureName). trace_of c.from-item-then-words-lt5.result c.to-item-then-words-lt5.result c.entry-item-then-words-lt5.result (Some name)))
    (c.in_ok-failed-in-len4.ensures.value ∙ ap failure_in c.bytes.ensures)
    ∙ ap trace_in (sym (four c.args.words.now _ _ _ _ c.in-len4.len_at_least c.in-len4.len_below c.from-item-then-words-lt5.is c.to-item-then-words-lt5.is c.entry-item-then-words-lt5.is c.failed-item.is))

pub returns-in_err-failed-in-len4 : goal.returns-in_err-failed-in-len4
returns-in_err-failed-in-len4 c =
    c.from_residual.ensures
    ∙ ap (option_and_then (λ (name : FailureName). trace_of c.from-item-then-words-lt5.result c.to-item-then-words-lt5.result c.entry-item-then-words-lt5.result (Some name)))
    (c.in_err-failed-in-len4.ensures.value ∙ ap failure_in c.bytes.ensures)
    ∙ ap trace_in (sym (four c.args.words.now _ _ _ _ c.in-len4.len_at_least c.in-len4.len_below c.from-item-then-words-lt5.is c.to-item-then-words-lt5.is c.entry-item-then-words-lt5.is c.failed-item.is))
