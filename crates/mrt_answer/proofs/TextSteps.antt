-- Texts that come of steps.
use Rattle.std.proofs.Common.{◌≡◌, ℕ, List, Result, Ok, Err, refl, subst, sym, inl, inr}
use Rattle.std.specs.Prelude.{IfErr, IfOk}
use Rattle.std.specs.Result.{IsErrAnd}
use Rattle.std.specs.declared.alloc.Global.{Global}
use Rattle.std.specs.declared.vec.Vec.{Vec}
use Rattle.mrt_exit.specs.Due.{IsDue}
use Rattle.mrt_exit.specs.AnswerSteps.{IsAnswer, Step, ◌▸◌}
use Rattle.mrt_exit.specs.declared.exit.Exit.{Exit}
use Rattle.mrt_exit.specs.declared.exit.Exit.TheVariants as exits
use Rattle.mrt_graph.specs.declared.no_memory.NoMemory.{NoMemory}
use Rattle.mrt_answer.specs.TextBytes.{HasText, IsTextAnswer}
use Rattle.mrt_answer.specs.declared.text.Text.{Text}
use Rattle.mrt_answer.specs.declared.text.Text.TheVariants.{Bytes}
use Rattle.mrt_answer.proofs.TextsHeld.{has_also}

module _ {A : Type 0} (first : Step A) (next : A → Step (List ℕ)) where
  -- a call that ends at the first step has answered both
  pub ends_first : (exit : Exit) → IsAnswer first (Err exit) → IsTextAnswer (first ▸ next) (Err exit)
  ends_first exit (inl said) = inl (inl said)
  ends_first exit (inr memory) = inr memory

  -- and where a value came of it, the answer to the second step is that to both
  pub ends_second : (x : A) → first (Ok x) → (answer : Result Text Exit) → IsTextAnswer (next x) answer → IsTextAnswer (first ▸ next) answer
  ends_second x on (Ok text) said =
      has_also (λ (bytes : List ℕ). next x (Ok bytes)) (λ (bytes : List ℕ). (first ▸ next) (Ok bytes)) (λ bytes of. (x, on, of)) text said
  ends_second x on (Err exit) (inl said) = inl (inr (x, on, said))
  ends_second x on (Err exit) (inr memory) = inr memory

  -- a call that hands on the exit of the first step
  pub handed_on : (answer : Result Text Exit) (exit : Exit) → IsErrAnd answer (λ told. told ≡ exit) → IsAnswer first (Err exit)
      → IsTextAnswer (first ▸ next) answer
  handed_on (Ok text) exit is said = absurd is
  handed_on (Err told) exit is said = subst (λ (e : Exit). IsTextAnswer (first ▸ next) (Err e)) (sym is) (ends_first exit said)

-- bytes that come of a step, or want of memory for them
pub of_bytes : (step : Step (List ℕ)) (bytes : Result (Vec ℕ Global) NoMemory) (answer : Result Text Exit) → IfOk bytes (λ it. step (Ok it.items))
    → IfOk bytes (λ it. answer ≡ Ok (Bytes it)) → IfErr bytes (λ none. answer ≡ Err exits.NoMemory) → IsTextAnswer step answer
of_bytes step (Ok it) answer holds is none = subst (IsTextAnswer step) (sym is) holds
of_bytes step (Err e) answer holds is none = subst (IsTextAnswer step) (sym none) (inr refl)

-- what comes of a step, of a text or of an exit
pub texts_of : (step : Step (List ℕ)) (answer : Result Text Exit) → IsTextAnswer step answer
    → IfOk answer (HasText (λ bytes. step (Ok bytes)))
texts_of step (Ok text) said = said
texts_of step (Err exit) said = tt

pub exits_of : (step : Step (List ℕ)) (answer : Result Text Exit) → IsTextAnswer step answer
    → IfErr answer (IsDue (λ due. step (Err due)))
exits_of step (Ok text) said = tt
exits_of step (Err exit) said = said
