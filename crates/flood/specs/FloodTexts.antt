-- The text of a run of a script: one line for each delivery and each comparison.
use Rattle.std.specs.Prelude.{◌≡◌, ◌++◌, ℕ, List, [], ◌∷◌, Some, None, codes, decimal}
use Rattle.lsdb.specs.Entries.{Database}
use Rattle.flood.specs.declared.answer.Answer.{Answer}
use Rattle.flood.specs.declared.answer.Answer.TheVariants as answers
use Rattle.flood.specs.FloodState.{FloodState, database_of}
use Rattle.flood.specs.FloodStep.{delivered}
use Rattle.flood.specs.Runs.{Delivery}
use Rattle.flood.specs.declared.script.FloodLine.{FloodLine}
use Rattle.flood.specs.declared.script.FloodLine.TheVariants.{Deliver, Same}
use Rattle.flood.specs.declared.verdict.Verdict.{Verdict}
use Rattle.flood.specs.declared.verdict.Verdict.TheVariants as verdicts

-- the line of an answer to a delivery
abbrev pub answer_line : Answer → List ℕ
answer_line (answers.Changed count None) = codes "changed " ++ (decimal count ++ codes "\n")
answer_line (answers.Changed count (Some number)) =
    codes "changed " ++ (decimal count ++ (codes " sent " ++ (decimal number ++ codes "\n")))
answer_line answers.NoSuchPacket = codes "refused no-such-packet\n"
answer_line answers.NoSuchRouter = codes "refused no-such-router\n"

-- the line of what a comparison comes to
abbrev pub verdict_line : Verdict → List ℕ
verdict_line verdicts.None = codes "none\n"
verdict_line verdicts.Same = codes "same\n"
verdict_line verdicts.Different = codes "different\n"

-- of two databases and a router there is one verdict at most
abbrev pub SaysOnce : (Database → Database → ℕ → Verdict → Type 0) → Type 0
SaysOnce says = (its others : Database) (router : ℕ) (verdict other : Verdict) → says its others router verdict
    → says its others router other → verdict ≡ other

-- what two routers' databases come to in a state, where it is so told of two databases and a third router
pub record IsCompared (says : Database → Database → ℕ → Verdict → Type 0) (state : FloodState) (one other router : ℕ)
    (verdict : Verdict) : Type 0 where
  pub its : Database
  pub others : Database
  pub its_are : database_of state one ≡ Some its
  pub others_are : database_of state other ≡ Some others
  pub told : says its others router verdict

-- a line of a script has this text in a state
abbrev pub IsLineText : (Database → Database → ℕ → Verdict → Type 0) → FloodState → FloodLine → List ℕ → Type 0
IsLineText says state (Deliver packet router) text = text ≡ answer_line (delivered state packet router).0
IsLineText says state (Same one other router) text =
    (verdict : Verdict) × IsCompared says state one other router verdict × (text ≡ verdict_line verdict)

-- the state after a line
abbrev pub after_line : FloodState → FloodLine → FloodState
after_line state (Deliver packet router) = (delivered state packet router).1
after_line state (Same one other router) = state

-- the lines of a script have this text, one after another, from a state on
abbrev pub IsFloodText : (Database → Database → ℕ → Verdict → Type 0) → FloodState → List FloodLine → List ℕ → Type 0
IsFloodText says state [] text = text ≡ []
IsFloodText says state (line ∷ lines) text =
    (front : List ℕ) × (rest : List ℕ) × (text ≡ front ++ rest) × IsLineText says state line front
    × IsFloodText says (after_line state line) lines rest

-- the deliveries of a script's lines
abbrev pub deliveries_of : List FloodLine → List Delivery
deliveries_of [] = []
deliveries_of (Deliver packet router ∷ lines) = record { packet = packet; router = router } ∷ deliveries_of lines
deliveries_of (Same one other router ∷ lines) = deliveries_of lines
