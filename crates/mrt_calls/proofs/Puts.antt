-- What is put into a buffer, as a call tells it.
use Rattle.std.proofs.Common.{◌≡◌, ◌⊎◌, ◌<◌, ◌≤◌, ℕ, List, Ok, Err, length, refl, sym, subst, inl, inr, arith}
use Rattle.mrt_exit.specs.Due.{IsDue}
use Rattle.mrt_exit.specs.AnswerSteps.{Step}
use Rattle.mrt_exit.specs.declared.exit.Exit.{Exit}
use Rattle.mrt_exit.specs.declared.exit.Exit.TheVariants.{Done, WriteFault}
use Rattle.mrt_calls.specs.Putting.{Gives, PutsIn}
use Rattle.mrt_calls.specs.steps.Putting.{IsHeldIn}

-- done where there is room for so many, else that there is none
abbrev pub Fits : ℕ → ℕ → Exit → Type 0
Fits wanted room exit = ((wanted ≤ room) × (exit ≡ Done)) ⊎ ((room < wanted) × (exit ≡ WriteFault room))

module _ {A : Type 0} (buffer them : List A) (wanted room : ℕ) (exit : Exit) where
  pub puts_in : IsHeldIn buffer wanted them → room ≡ length buffer → Fits wanted room exit → PutsIn buffer them exit
  puts_in held is (inl (fits, done)) =
      let below : length them ≤ length buffer = omega (arith, fits, held.0, is) in
      subst (PutsIn buffer them) (sym done) (below, held.1 below)
  puts_in held is (inr (none, fault)) =
      let above : length buffer < length them = omega (arith, none, held.0, is) in
      subst (PutsIn buffer them) (sym fault) (is, above)

-- a call that puts what comes
pub gives : {A : Type 0} (step : Step (List A)) (before : ℕ) (buffer : List A) (wanted room : ℕ) (exit : Exit) → length buffer ≡ before
    → (them : List A) × step (Ok them) × IsHeldIn buffer wanted them → room ≡ length buffer → Fits wanted room exit
    → Gives step before buffer wanted exit
gives step before buffer wanted room exit same (them, on, held) is fits = record {
  same_room = same;
  answer = Ok them;
  comes = on;
  put = (held.0, puts_in buffer them wanted room exit held is fits);
}

-- and one that is refused
pub gives_none : {A : Type 0} (step : Step (List A)) (before : ℕ) (buffer : List A) (exit : Exit) → length buffer ≡ before
    → IsDue (λ due. step (Err due)) exit → Gives step before buffer 0 exit
gives_none step before buffer exit same due = record { same_room = same; answer = Err exit; comes = due; put = (refl, refl) }
