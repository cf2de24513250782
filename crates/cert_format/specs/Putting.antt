-- What a writer to a sink has done.
use Rattle.std.specs.Prelude.{◌≡◌, ◌≤◌, ◌+◌, ◌-◌, ◌++◌, ℕ, List, Option, Result, length, IsOk, IfErr, OnOk}
use Rattle.mrt_io.specs.Counts.{Rose}
use Rattle.mrt_io.specs.Writing.{Gained, GainedPart}
use Rattle.mrt_io.specs.declared.device.PutError.{PutError}

-- a writer: the version of the file, how many bytes went out, and those that it holds
pub record Writer : Type 0 where
  pub version : ℕ
  pub gone : ℕ
  pub held : List ℕ

-- of all the bytes that the writer was given, the sink gained the first ones since it told `before`, and the others are
-- held
pub record IsGiven (before now : Option (List ℕ)) (given : List ℕ) (writer : Writer) : Type 0 where
  pub first : List ℕ
  pub parts : given ≡ first ++ writer.held
  pub gained : Gained before first now
  pub counted : writer.gone ≡ length first

-- The writer is given more bytes. The sink told `told` before and tells `tells` now, its count of faults was `was` and is
-- `is`, and it was healthy for these numbers of bytes and is for those.
pub record Puts (told tells : Option (List ℕ)) (was is : ℕ) (healthy stays : ℕ → Type 0) (more : List ℕ) (old new : Writer)
    (result : Result Unit PutError) : Type 0 where
  -- all that was given went out or is held
  pub given : (before : Option (List ℕ)) (bytes : List ℕ) → IsGiven before told bytes old
      → OnOk result (IsGiven before tells (bytes ++ more) new)
  -- else the sink gained some of it, fewer than all, also of what was to follow
  pub part : (before : Option (List ℕ)) (bytes later : List ℕ) → IsGiven before told bytes old
      → IfErr result (GainedPart before (bytes ++ (more ++ later)) tells)
  pub cause : IfErr result (λ _. Rose was is)
  pub count : was ≤ is
  -- over a sink that is healthy for all the bytes
  pub succeeds : (n : ℕ) → healthy (n - old.gone) → old.gone + length (old.held ++ more) ≤ n → IsOk result
  pub no_fault : (n : ℕ) → healthy (n - old.gone) → old.gone + length (old.held ++ more) ≤ n → is ≡ was
  pub stays_healthy : (n : ℕ) → healthy (n - old.gone) → old.gone + length (old.held ++ more) ≤ n → stays (n - new.gone)
  pub size : OnOk result (new.gone + length new.held ≡ old.gone + length (old.held ++ more))
  pub same : new.version ≡ old.version
