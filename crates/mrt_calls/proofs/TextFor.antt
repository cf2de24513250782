-- What the top call says of a text, as what comes of the words over files that are held.
use Rattle.std.proofs.Common.{◌≡◌, ◌⊎◌, ℕ, List, Some, Result, Ok, Err, subst, sym, inl, inr}
use Rattle.std.specs.Prelude.{IfErr, IfOk}
use Rattle.mrt_io.specs.Holding.{Files}
use Rattle.mrt_exit.specs.declared.exit.Exit.{Exit}
use Rattle.mrt_exit.specs.declared.exit.Exit.TheVariants as exits
use Rattle.mrt_answer.specs.TextBytes.{HasText, IsTextAnswer}
use Rattle.mrt_answer.specs.declared.text.Text.{Text}
use Rattle.mrt_cmd.specs.Causes.{HasNoText, ShelfInCall}
use Rattle.mrt_cmd.specs.Comes.{Comes, GivesText, IsRefused, of_words}
use Rattle.mrt_cmd.specs.Run.{WritesNothing}

writes_nothing : (words : List (List ℕ)) (shelf : ShelfInCall) (exit : Exit) → HasNoText words shelf exit → WritesNothing exit
writes_nothing words shelf exits.Done none = none
writes_nothing words shelf (exits.WriteFault taken) none = none
writes_nothing words shelf exit none = tt

refused : (files : Files) (words : List (List ℕ)) (exit : Exit) → WritesNothing exit → Comes (Some files) words exit
    → IsRefused (Some files) words exit
refused files words exit nothing (Ok text, given, is) = absurd (subst WritesNothing is nothing)
refused files words exit nothing (Err said, ends, is) = subst (λ (e : Exit). IsRefused (Some files) words e) (sym is) ends

pub text_for_answers : (files : Files) (words : List (List ℕ)) (shelf : ShelfInCall) (answer : Result Text Exit)
    → IfOk answer (HasText (GivesText (Some files) words)) → IfErr answer (HasNoText words shelf)
    → IfErr answer (λ exit. Comes (Some files) words exit ⊎ (exit ≡ exits.NoMemory))
    → IsTextAnswer (of_words (Some files) words) answer
text_for_answers files words shelf (Ok text) given none comes = given
text_for_answers files words shelf (Err exit) given none (inl comes) =
    inl (refused files words exit (writes_nothing words shelf exit none) comes)
text_for_answers files words shelf (Err exit) given none (inr memory) = inr memory
