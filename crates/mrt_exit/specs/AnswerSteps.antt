-- Answers as steps, one after another.
use Rattle.std.specs.Prelude.{◌≡◌, ◌⊎◌, Result, Ok, Err}
use Rattle.mrt_exit.specs.Due.{IsDue}
use Rattle.mrt_exit.specs.declared.exit.Exit.{Exit}

-- what may come of something: a value, or an exit that says why there is none
abbrev pub Step : Type 0 → Type 1
Step A = Result A Exit → Type 0

infixr 20 ◌▸◌
-- one step, and then another one by the value that came of it; where an exit comes of the first, it is what comes of both
abbrev pub ◌▸◌ : {A B : Type 0} → Step A → (A → Step B) → Step B
◌▸◌ first next (Ok y) = (x : _) × first (Ok x) × next x (Ok y)
◌▸◌ first next (Err exit) = first (Err exit) ⊎ ((x : _) × first (Ok x) × next x (Err exit))

-- a value of which something holds; no exit comes of it
abbrev pub such : {A : Type 0} → (A → Type 0) → Step A
such Holds (Ok x) = Holds x
such Holds (Err exit) = ⊥

-- a call answers what comes of a step, or that there was no memory
abbrev pub IsAnswer : {A : Type 0} → Step A → Result A Exit → Type 0
IsAnswer step (Ok x) = step (Ok x)
IsAnswer step (Err exit) = IsDue (λ due. step (Err due)) exit

-- at most one thing comes of a step
abbrev pub IsOne : {A : Type 0} → Step A → Type 0
IsOne step = (answer other : _) → step answer → step other → answer ≡ other
