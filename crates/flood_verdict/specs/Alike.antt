-- Comparisons of routers that have to tell the same.
use Rattle.std.specs.Prelude.{◌≡◌, ◌⊎◌, ◌++◌, ◌∷◌, ℕ, List}
use Rattle.flood.specs.declared.update.Update.{Update}
use Rattle.flood.specs.FloodState.{started}
use Rattle.flood.specs.Runs.{Delivery, IsFlooded, delivered_to}
use Rattle.flood.specs.declared.script.FloodLine.{FloodLine}
use Rattle.flood.specs.declared.script.FloodLine.TheVariants as lines
use Rattle.flood.specs.declared.script.FloodScript.{FloodScript}
use Rattle.flood.specs.declared.verdict.Verdict.{Verdict}
use Rattle.flood.specs.declared.verdict.Verdict.TheVariants as verdicts
use Rattle.flood.specs.FloodTexts.{IsFloodText, deliveries_of, verdict_line}
use Rattle.lsdb.specs.Entries.{Database}
use Rattle.lsdb.specs.Orders.{HoldTheSame}

-- deliveries of a file's packets brought the same LSAs to two routers, in whatever order and number, the places left out; or
-- after them flooding is done
abbrev pub AreAlike : List Update → ℕ → List Delivery → ℕ → ℕ → Type 0
AreAlike updates count deliveries one other =
    HoldTheSame (delivered_to updates count deliveries one) (delivered_to updates count deliveries other)
    ⊎ IsFlooded updates count deliveries

-- a line of a script compares two routers that are so after the deliveries of the lines before it
pub record ComparesAlike (updates : List Update) (script : FloodScript) : Type 0 where
  pub before : List FloodLine
  pub after : List FloodLine
  pub one : ℕ
  pub other : ℕ
  pub router : ℕ
  pub lines_are : script.lines ≡ before ++ lines.Same one other router ∷ after
  pub alike : AreAlike updates script.routers (deliveries_of before) one other

-- in a text the lines before it have their answers, and then comes its own, which is not `different`
pub record IsToldAlike (says : Database → Database → ℕ → Verdict → Type 0) (updates : List Update) (script : FloodScript)
    (compares : ComparesAlike updates script) (text : List ℕ) : Type 0 where
  pub front : List ℕ
  pub rest : List ℕ
  pub verdict : Verdict
  pub answers : IsFloodText says (started updates script.routers) compares.before front
  pub agrees : verdict ≡ verdicts.Different → ⊥
  pub text_is : text ≡ front ++ (verdict_line verdict ++ rest)
