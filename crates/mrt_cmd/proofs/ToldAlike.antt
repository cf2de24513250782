-- Routers that have to tell the same are told so.
use Rattle.std.proofs.Common.{◌∙◌, ℕ, List, Some, Ok, sym, subst}
use Rattle.std.proofs.lemmas.Option.{same_Some}
use Rattle.flood_verdict.specs.Alike.{ComparesAlike, IsToldAlike}
use Rattle.flood_verdict.specs.Says.{Says}
use Rattle.mrt_io.specs.Holding.{Files}
use Rattle.mrt_args.specs.FileBytes.{FileBytes}
use Rattle.mrt_args.specs.Files.{flood_names}
use Rattle.mrt_args.specs.declared.form.Form.{Form}
use Rattle.mrt_args.specs.declared.form.Form.TheVariants.{Flood}
use Rattle.mrt_answer.specs.Reading.{HoldsFlood}
use Rattle.mrt_answer.specs.Forms.{flooded}
use Rattle.mrt_cmd.specs.Comes.{GivesText, of_form}
use Rattle.mrt_cmd.specs.Headline.{FloodsAlike}
use Rattle.mrt_cmd.proofs.FromFiles.{files_once}
use Rattle.mrt_cmd.proofs.WordsOfForm.{read_as}

-- the law of the layer below on the text of such bytes
abbrev pub AlikeLaw : Type 0
AlikeLaw = (bytes : FileBytes) (text : List ℕ) → flooded bytes (Ok text) → (held : HoldsFlood bytes)
    (compares : ComparesAlike held.updates held.script)
    → IsToldAlike (Says held.settings) held.updates held.script compares text

module _ (law : AlikeLaw) (files : Files) (words : List (List ℕ)) (text : List ℕ)
    (given : GivesText (Some files) words text) (alike : FloodsAlike files words) where
  given_form : of_form (Some files) (Flood alike.form) (Ok text)
  given_form = subst (λ (form : Form). of_form (Some files) form (Ok text))
      (same_Some given.0 (Flood alike.form) (sym (read_as words given.0 given.1) ∙ read_as words (Flood alike.form) alike.words_are)) given.2

  pub told_alike : IsToldAlike (Says alike.held.settings) alike.held.updates alike.held.script alike.compares text
  told_alike =
      law alike.bytes text
      (subst (λ (bytes : FileBytes). flooded bytes (Ok text))
      (files_once files (flood_names alike.form) given_form.0 alike.bytes given_form.1 alike.read) given_form.2)
      alike.held alike.compares
