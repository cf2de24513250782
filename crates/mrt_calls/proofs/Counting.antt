-- How long the text is that comes of a step.
use Rattle.std.proofs.Common.{◌≡◌, ◌<◌, ℕ, List, Ok, length, subst, arith}
use Rattle.mrt_exit.specs.AnswerSteps.{IsOne, Step}
use Rattle.mrt_exit.proofs.Stepping.{one_value}
use Rattle.mrt_answer.specs.TextBytes.{HasText, IsTextOf}
use Rattle.mrt_answer.specs.declared.text.Text.{Text}
use Rattle.mrt_answer.proofs.TextsHeld.{some_bytes}
use Rattle.mrt_calls.specs.steps.Putting.{IsHeldIn}

-- a count of a text is that of what comes
pub counted : (step : Step (List ℕ)) (text : Text) (count : ℕ) → HasText (λ bytes. step (Ok bytes)) text
    → ((bytes : List ℕ) → IsTextOf text bytes → count ≡ length bytes) → (bytes : List ℕ) × step (Ok bytes) × (count ≡ length bytes)
counted step text count has is =
    let some = some_bytes (λ bytes. step (Ok bytes)) text has in
    (some.bytes, some.held, is some.bytes some.are)

-- what was put is what comes
pub put_held : (step : Step (List ℕ)) (text : Text) (count : ℕ) (buffer : List ℕ) → HasText (λ bytes. step (Ok bytes)) text
    → ((bytes : List ℕ) → IsTextOf text bytes → IsHeldIn buffer count bytes) → (bytes : List ℕ) × step (Ok bytes) × IsHeldIn buffer count bytes
put_held step text count buffer has is =
    let some = some_bytes (λ bytes. step (Ok bytes)) text has in
    (some.bytes, some.held, is some.bytes some.are)

-- how much room a text asked for that there was none for
pub room_is : (text : Text) (before after : List ℕ) (P : List ℕ → Type 0) → HasText P text
    → ((bytes : List ℕ) → IsTextOf text bytes → length after ≡ length before) → length after ≡ length before
room_is text before after P has is = let some = some_bytes P text has in is some.bytes some.are

-- where there was no room, only the count is said
pub no_room : (step : Step (List ℕ)) → IsOne step → (text : Text) (before after : List ℕ) (count : ℕ) → HasText (λ bytes. step (Ok bytes)) text
    → ((bytes : List ℕ) → IsTextOf text bytes → length after ≡ length before) → ((bytes : List ℕ) → IsTextOf text bytes → length before < length bytes)
    → (bytes : List ℕ) × step (Ok bytes) × (count ≡ length bytes)
    → (bytes : List ℕ) × step (Ok bytes) × IsHeldIn after count bytes
no_room step one text before after count has room short (bytes, on, is) =
    let some = some_bytes (λ bytes. step (Ok bytes)) text has in
    let same : some.bytes ≡ bytes = one_value step one some.bytes bytes some.held on in
    let more : length before < length bytes = subst (λ (xs : List ℕ). length before < length xs) same (short some.bytes some.are) in
    (bytes, on, (is, λ fits. absurd (omega (arith, more, fits, room some.bytes some.are))))
