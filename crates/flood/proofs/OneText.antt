-- There is one text of the lines of a script.
use Rattle.std.proofs.Common.{◌≡◌, ◌∙◌, ◌∷◌, ◌++◌, [], ℕ, List, ap, sym, subst}
use Rattle.std.proofs.lemmas.Option.{same_Some}
use Rattle.lsdb.specs.Entries.{Database}
use Rattle.flood.specs.FloodState.{FloodState}
use Rattle.flood.specs.declared.script.FloodLine.{FloodLine}
use Rattle.flood.specs.declared.script.FloodLine.TheVariants.{Deliver, Same}
use Rattle.flood.specs.declared.verdict.Verdict.{Verdict}
use Rattle.flood.specs.FloodTexts.{IsCompared, IsFloodText, IsLineText, SaysOnce, after_line, verdict_line}

module _ (says : Database → Database → ℕ → Verdict → Type 0) (once : SaysOnce says) where
  one_verdict : (state : FloodState) (one other router : ℕ) (verdict another : Verdict)
      → IsCompared says state one other router verdict → IsCompared says state one other router another
      → verdict ≡ another
  one_verdict state one other router verdict another first second =
      once first.its first.others router verdict another first.told
      (subst (λ (d : Database). says d first.others router another)
      (same_Some second.its first.its (sym second.its_are ∙ first.its_are))
      (subst (λ (d : Database). says second.its d router another)
      (same_Some second.others first.others (sym second.others_are ∙ first.others_are)) second.told))

  one_line_text : (state : FloodState) (line : FloodLine) (text other : List ℕ) → IsLineText says state line text
      → IsLineText says state line other → text ≡ other
  one_line_text state (Deliver packet router) text other first second = first ∙ sym second
  one_line_text state (Same one two router) text other first second =
      first.2 ∙ ap verdict_line (one_verdict state one two router first.0 second.0 first.1 second.1) ∙ sym second.2

  pub one_flood_text : (state : FloodState) (lines : List FloodLine) (text other : List ℕ)
      → IsFloodText says state lines text → IsFloodText says state lines other → text ≡ other
  one_flood_text state [] text other first second = first ∙ sym second
  one_flood_text state (line ∷ lines) text other first second =
      first.2 ∙ ap (λ (t : List ℕ). t ++ first.1) (one_line_text state line first.0 second.0 first.3 second.3)
      ∙ ap (λ (t : List ℕ). second.0 ++ t)
      (one_flood_text (after_line state line) lines first.1 second.1 first.4 second.4)
      ∙ sym second.2
