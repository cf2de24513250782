-- The top call over memory.
use Rattle.std.specs.Prelude.{◌≡◌, ℕ, List, Result, Ok, Err, length, map, take}
use Rattle.mrt_cmd.specs.Comes.{of_words}
use Rattle.mrt_exit.specs.Exits.{line_of}
use Rattle.mrt_exit.specs.AnswerSteps.{IsAnswer}
use Rattle.mrt_exit.specs.declared.exit.Exit.{Exit}
use Rattle.mrt_io.specs.Holding.{Files}
use Rattle.mrt_lent.specs.declared.mrt_file.MrtBytes.{MrtBytes}
use Rattle.mrt_calls.specs.Putting.{PutsIn}
use Rattle.std.specs.Prelude.{Some}

-- the words that these bytes are
abbrev pub words_in : List MrtBytes → List (List ℕ)
words_in words = map (λ word. word.data.now) words

-- a buffer holds an exit's line, or as much of its front as there is room for, and this is how long it is
abbrev pub HoldsLine : List ℕ → ℕ → Exit → Type 0
HoldsLine buffer count exit = (count ≡ length (line_of exit)) × (take count buffer ≡ take (length buffer) (line_of exit))

-- it holds the text, if there is room for it; else the exit is that there is none. Or there is no text, and it holds the line that
-- says why
abbrev pub IsRunIn : List ℕ → ℕ → Exit → Result (List ℕ) Exit → Type 0
IsRunIn buffer count exit (Ok text) = (count ≡ length text) × PutsIn buffer text exit
IsRunIn buffer count exit (Err why) = (exit ≡ why) × HoldsLine buffer count why

-- what comes of the words over these files, or want of memory, is put into a buffer with this room
pub record IsRun (files : Files) (words : List (List ℕ)) (room : ℕ) (buffer : List ℕ) (count : ℕ) (exit : Exit) : Type 0 where
  pub same_room : length buffer ≡ room
  pub answer : Result (List ℕ) Exit
  pub comes : IsAnswer (of_words (Some files) words) answer
  pub run_in : IsRunIn buffer count exit answer
