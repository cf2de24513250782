-- A reader that reads on.
use Rattle.std.specs.Prelude.{◌≡◌, ◌≤◌, ◌++◌, ℕ, Bool, false, List, [], Option, length}
use Rattle.std.specs.Io.KnownBytes.{Consumes, IsAtEnd}

-- a reader read on: it gave at most so many bytes, which came to the end of these, and were the first that it tells to be left; where
-- no more may be left it gave none, and tells none
pub record IsReadOn (before now : Option (List ℕ)) (room : ℕ) (old new : List ℕ) (more : Bool) : Type 0 where
  pub taken : List ℕ
  pub few : length taken ≤ room
  pub added : new ≡ old ++ taken
  pub consumed : Consumes before now taken
  pub end : more ≡ false → (taken ≡ []) × IsAtEnd now
