-- What comes of the words over the files that they name, where memory suffices and no device fails.
use Rattle.std.specs.Prelude.{◌≡◌, ℕ, List, Option, Result, Ok, Err}
use Rattle.mrt_io.specs.Holding.{Files}
use Rattle.mrt_exit.specs.AnswerSteps.{Step, such, ◌▸◌}
use Rattle.mrt_exit.specs.declared.exit.Exit.{Exit}
use Rattle.mrt_exit.specs.declared.exit.Exit.TheVariants.{Done, Usage}
use Rattle.mrt_args.specs.FileBytes.{FileBytes, AreRead}
use Rattle.mrt_args.specs.Files.{Names, files_in, files_of, flood_names, task_names, IsFirstMissing, IsRefusedBy, MayFail, AreThere}
use Rattle.mrt_args.specs.declared.form.Form.{Form}
use Rattle.mrt_args.specs.declared.form.Form.TheVariants.{OfFiles, Survey, Flood}
use Rattle.mrt_args.specs.Spellings.{AreWordsOf}
use Rattle.mrt_answer.specs.Forms.{flooded, over}
use Rattle.mrt_answer.specs.Surveyed.{IsSurveyed}

-- the words spell a form of which this holds
abbrev pub AreOfForm : (Form → Type 0) → List (List ℕ) → Type 0
AreOfForm Is words = (form : Form) × AreWordsOf form words × Is form

-- the words spell no form
abbrev pub AreOfNoForm : List (List ℕ) → Type 0
AreOfNoForm words = (form : Form) → AreWordsOf form words → ⊥

-- the form that the words spell, or the usage, where they spell none
abbrev pub read_as_form : List (List ℕ) → Step Form
read_as_form words (Ok form) = AreWordsOf form words
read_as_form words (Err Usage) = AreOfNoForm words
read_as_form words (Err _) = ⊥

-- the bytes of the files of these names, or what comes of reading them, where not all of them are read
abbrev pub reading : Option Files → Names → Step FileBytes
reading held names (Ok bytes) = AreRead held names bytes
reading held names (Err exit) = IsRefusedBy held (files_in names) exit

-- a form: its files, and then what comes of their bytes. A survey reads none, and is never refused
abbrev pub of_form : Option Files → Form → Step (List ℕ)
of_form held (OfFiles form) = reading held (task_names form) ▸ over form.task
of_form held (Survey number nodes) = such (IsSurveyed number nodes)
of_form held (Flood form) = reading held (flood_names form) ▸ flooded

-- the words: the form that they are, and then what comes of it
abbrev pub of_words : Option Files → List (List ℕ) → Step (List ℕ)
of_words held words = read_as_form words ▸ of_form held

-- the words give this text
abbrev pub GivesText : Option Files → List (List ℕ) → List ℕ → Type 0
GivesText held words text = of_words held words (Ok text)

-- the words are refused with this exit: with the usage where they are no form
abbrev pub IsRefused : Option Files → List (List ℕ) → Exit → Type 0
IsRefused held words exit = of_words held words (Err exit)

-- the exit that tells what came: done where it is a text, else the exit itself
abbrev pub exit_of : Result (List ℕ) Exit → Exit
exit_of (Ok text) = Done
exit_of (Err exit) = exit

-- this exit tells what comes of the words
abbrev pub Comes : Option Files → List (List ℕ) → Exit → Type 0
Comes held words exit = (answer : Result (List ℕ) Exit) × of_words held words answer × (exit ≡ exit_of answer)

-- the words may fail at this one: it names a file, and those before it could be read
abbrev pub FailsAt : Option Files → List (List ℕ) → ℕ → Type 0
FailsAt held words word = AreOfForm (λ form. MayFail held (files_of form) word) words

-- it is told that each file that the words name is held; words of no form name none
abbrev pub NamesHeld : Option Files → List (List ℕ) → Type 0
NamesHeld held words = (form : Form) → AreWordsOf form words → AreThere held (files_of form)

-- it is told that the file that this word names is the first that is not held, and none before it is over its limit
abbrev pub MissesAt : Option Files → List (List ℕ) → ℕ → Type 0
MissesAt held words word = AreOfForm (λ form. IsFirstMissing held (files_of form) word) words
