-- Why the top call ends with each exit, and what the devices gained: over all forms, as one.
use Rattle.std.specs.Prelude.{◌≡◌, ◌⊎◌, ◌↔◌, ℕ, List, Option, IsSome}
use Rattle.mrt_io.specs.Counts.{Rose}
use Rattle.mrt_io.specs.Holding.{Files}
use Rattle.mrt_io.specs.Writing.{Gained}
use Rattle.mrt_exit.specs.declared.exit.Exit.{Exit}
use Rattle.mrt_exit.specs.declared.exit.Exit.TheVariants.{Done, No, Usage, TooLarge, ReadFault, WriteFault, NoMemory}
use Rattle.mrt_exit.specs.declared.exit.What.TheVariants.{DatabaseFile, UpdatesFile, ProfileFile, CertificateFile, ScriptFile}
use Rattle.mrt_cmd.specs.Comes.{AreOfForm, AreOfNoForm, Comes, FailsAt, GivesText, IsRefused, MissesAt, NamesHeld}
use Rattle.mrt_exit.specs.Exits.{line_of}
use Rattle.mrt_args.specs.Form.{AsksVerdict}
use Rattle.mrt_args.specs.Spellings.{AreWordsOf}
use Rattle.mrt_args.specs.declared.form.Form.{Form}
use Rattle.mrt_exit.specs.Telling.{GainedLine, IsCutShort}
use Rattle.mrt_cmd.specs.Run.{IsHealthyForText, IsUndisturbed, WritesNothing}

-- a shelf over a call: what it held, if that is told; whether it was healthy; its count of faults, before and now;
-- and whether it was left as it was
pub record ShelfInCall : Type 1 where
  pub held : Option Files
  pub healthy : Type 0
  pub faults : ℕ
  pub faults_now : ℕ
  pub untouched : Type 0

abbrev pub shelf_over : {F : Type 0} → (F → Option Files) → (F → Type 0) → (F → ℕ) → F → F → ShelfInCall
shelf_over held healthy faults before now = record {
  held = held before;
  healthy = healthy before;
  faults = faults before;
  faults_now = faults now;
  untouched = now ≡ before;
}

-- a sink over a call: for how many bytes it was healthy; its count of faults, before and now; what was written to it,
-- before and now, if that is told; and whether it was left as it was
pub record SinkInCall : Type 1 where
  pub healthy_for : ℕ → Type 0
  pub faults : ℕ
  pub faults_now : ℕ
  pub written : Option (List ℕ)
  pub written_now : Option (List ℕ)
  pub untouched : Type 0

abbrev pub sink_over : {K : Type 0} → (K → ℕ → Type 0) → (K → ℕ) → (K → Option (List ℕ)) → K → K → SinkInCall
sink_over healthy_for faults written before now = record {
  healthy_for = healthy_for before;
  faults = faults before;
  faults_now = faults now;
  written = written before;
  written_now = written now;
  untouched = now ≡ before;
}

-- why the words give no text, by the exit that says so: they are no form, and nothing was read; the shelf failed at a
-- file, after files that could be read; the refusal is what comes of the words over the files, each in its turn (a
-- file over its limit, the database or the packets, the profile, the certificate or the script, the area, the router, the
-- block of two routers), and no is so where the words ask for a verdict alone; or memory was wanted, which may be at any
-- place once the words are a form
abbrev pub HasNoText : List (List ℕ) → ShelfInCall → Exit → Type 0
HasNoText words shelf Usage = AreOfNoForm words × shelf.untouched
HasNoText words shelf (ReadFault word) = FailsAt shelf.held words word × Rose shelf.faults shelf.faults_now
HasNoText words shelf (No rule a b) = IsRefused shelf.held words (No rule a b) × AreOfForm AsksVerdict words
HasNoText words shelf NoMemory = (form : Form) × AreWordsOf form words
HasNoText words shelf Done = ⊥
HasNoText words shelf (WriteFault taken) = ⊥
HasNoText words shelf exit = IsRefused shelf.held words exit

-- why an exit came, and what the output gained: on Done the text; on a fault of the output the text's first bytes,
-- its count having risen and it not having been healthy for the text; else nothing, and the words give no text
abbrev pub HasCause : List (List ℕ) → ShelfInCall → SinkInCall → Exit → Type 0
HasCause words shelf out Done =
    (text : List ℕ) × GivesText shelf.held words text × Gained out.written text out.written_now
HasCause words shelf out (WriteFault taken) =
    (text : List ℕ) × GivesText shelf.held words text
    × IsCutShort out.healthy_for out.faults out.faults_now out.written out.written_now text taken
HasCause words shelf out exit = HasNoText words shelf exit × out.untouched

-- on Done nothing is put to the error stream, else the exit's one line, as far as the stream takes it
abbrev pub IsTold : SinkInCall → Exit → Type 0
IsTold err Done = err.untouched
IsTold err exit = GainedLine err.healthy_for err.faults err.faults_now err.written err.written_now (line_of exit)

-- the exit speaks of the bytes of the files: not of the words, of a file that was not read or is over its limit, or
-- of memory
abbrev pub IsOfBytes : Exit → Type 0
IsOfBytes Usage = ⊥
IsOfBytes (ReadFault word) = ⊥
IsOfBytes (TooLarge DatabaseFile size) = ⊥
IsOfBytes (TooLarge UpdatesFile size) = ⊥
IsOfBytes (TooLarge ProfileFile size) = ⊥
IsOfBytes (TooLarge CertificateFile size) = ⊥
IsOfBytes (TooLarge ScriptFile size) = ⊥
IsOfBytes NoMemory = ⊥
IsOfBytes _ = Unit {0}

-- no fault of the shelf decides
abbrev pub IsShelfCalm : ShelfInCall → Type 0
IsShelfCalm shelf = IsUndisturbed shelf.healthy shelf.faults shelf.faults_now

-- no fault of the output decides
abbrev pub IsOutputCalm : List (List ℕ) → ShelfInCall → SinkInCall → Type 0
IsOutputCalm words shelf out = IsUndisturbed (IsHealthyForText out.healthy_for shelf.held words) out.faults out.faults_now

-- a call ended as it had to: its exit has its cause and its line; and it is complete, that is, each exit comes where
-- it is to come, but for want of memory
pub record IsAnswered (words : List (List ℕ)) (shelf : ShelfInCall) (out err : SinkInCall) (exit : Exit) : Type 0 where
  pub cause : HasCause words shelf out exit
  pub told : IsTold err exit
  -- the usage, exactly where the words are no form
  pub usage : (exit ≡ Usage) ↔ AreOfNoForm words
  -- over a shelf that tells what it holds, an exit that speaks of bytes only where each file that the words name is
  -- held
  pub held : IsSome shelf.held → IsOfBytes exit → NamesHeld shelf.held words
  -- over a healthy shelf that tells what it holds, a fault of reading exactly at the first name that is not held
  pub missing : shelf.healthy → IsSome shelf.held
      → (exit ≡ NoMemory) ⊎ ((word : ℕ) → (exit ≡ ReadFault word) ↔ MissesAt shelf.held words word)
  -- where no fault of the shelf decides and it tells what it holds, each refusal exactly where it is what comes of the
  -- words
  pub refused : IsShelfCalm shelf → IsSome shelf.held
      → (exit ≡ NoMemory)
      ⊎ ((refusal : Exit) → WritesNothing refusal → (exit ≡ refusal) ↔ Comes shelf.held words refusal)
  -- over a shelf that tells what it holds, also where its count rose: unless a file was not read, each refusal exactly
  -- where it is what comes of the words
  pub refused_once_read : IsSome shelf.held
      → (exit ≡ NoMemory) ⊎ ((word : ℕ) × (exit ≡ ReadFault word))
      ⊎ ((refusal : Exit) → WritesNothing refusal → (exit ≡ refusal) ↔ Comes shelf.held words refusal)
  -- where none of the output decides either, the exit is what comes of the words
  pub complete : IsShelfCalm shelf → IsOutputCalm words shelf out → Comes shelf.held words exit ⊎ (exit ≡ NoMemory)
  -- and exactly that one where the shelf tells what it holds
  pub exactly : IsShelfCalm shelf → IsOutputCalm words shelf out → IsSome shelf.held
      → (exit ≡ NoMemory) ⊎ ((other : Exit) → (exit ≡ other) ↔ Comes shelf.held words other)
  -- a healthy shelf has no fault where it holds each name, and neither has an output that is healthy for the text
  pub no_read_fault : shelf.healthy → NamesHeld shelf.held words → shelf.faults_now ≡ shelf.faults
  pub no_write_fault : IsHealthyForText out.healthy_for shelf.held words → out.faults_now ≡ out.faults
