-- What a call puts into a buffer.
use Rattle.std.specs.Prelude.{◌≡◌, ◌<◌, ◌≤◌, ℕ, List, Result, Ok, Err, length, take}
use Rattle.mrt_exit.specs.AnswerSteps.{IsAnswer, Step}
use Rattle.mrt_exit.specs.declared.exit.Exit.{Exit}
use Rattle.mrt_exit.specs.declared.exit.Exit.TheVariants.{Done, WriteFault}

-- a buffer begins with these where there is room for them; else the exit is that there is none, and says how much there is
abbrev pub PutsIn : {A : Type 0} → List A → List A → Exit → Type 0
PutsIn buffer them Done = (length them ≤ length buffer) × (take (length them) buffer ≡ them)
PutsIn buffer them (WriteFault room) = (room ≡ length buffer) × (length buffer < length them)
PutsIn buffer them _ = ⊥

-- a call answers what comes of a step: these, and how many there are; or none, and why
abbrev pub IsPut : {A : Type 0} → List A → ℕ → Exit → Result (List A) Exit → Type 0
IsPut buffer count exit (Ok them) = (count ≡ length them) × PutsIn buffer them exit
IsPut buffer count exit (Err why) = (count ≡ 0) × (exit ≡ why)

-- what comes of a step, or want of memory, is put into a buffer with this room
pub record Gives {A : Type 0} (step : Step (List A)) (room : ℕ) (buffer : List A) (count : ℕ) (exit : Exit) : Type 0 where
  pub same_room : length buffer ≡ room
  pub answer : Result (List A) Exit
  pub comes : IsAnswer step answer
  pub put : IsPut buffer count exit answer

-- a call answers what comes of a step, or want of memory: a value, or that there is none, and why
abbrev pub IsGiven : {A : Type 0} → A → Exit → Result A Exit → Type 0
IsGiven value exit (Ok it) = (value ≡ it) × (exit ≡ Done)
IsGiven value exit (Err why) = exit ≡ why

pub record Answers {A : Type 0} (step : Step A) (value : A) (exit : Exit) : Type 0 where
  pub answer : Result A Exit
  pub comes : IsAnswer step answer
  pub given : IsGiven value exit answer
