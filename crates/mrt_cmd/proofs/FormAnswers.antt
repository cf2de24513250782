-- What comes of the bytes of a form's files, as what comes of the form.
use Rattle.std.proofs.Common.{◌≡◌, ℕ, List, [], Option, Result, Ok, Err, refl, sym, subst, inl, inr, arith}
use Rattle.std.specs.Prelude.{IfErr, IfOk}
use Rattle.std.specs.Result.{IsErrAnd}
use Rattle.mrt_exit.specs.Due.{IsDue}
use Rattle.mrt_exit.specs.AnswerSteps.{Step, ◌▸◌}
use Rattle.mrt_exit.specs.declared.exit.Exit.{Exit}
use Rattle.mrt_exit.specs.declared.exit.Exit.TheVariants as exits
use Rattle.mrt_io.specs.Holding.{Files}
use Rattle.mrt_args.specs.declared.form.Form.{Form}
use Rattle.mrt_args.specs.declared.form.Form.TheVariants.{Survey}
use Rattle.mrt_args.specs.FileBytes.{FileBytes, AreRead}
use Rattle.mrt_args.specs.Files.{NamedFile, Names, IsRefusedBy, files_in, files_of}
use Rattle.mrt_args.specs.Reading.{IsDueOrFault, ReadsAs, ReadsFiles}
use Rattle.mrt_args.proofs.Readings.{errs, if_err, reads_also, reads_none}
use Rattle.mrt_answer.specs.declared.text.Text.{Text}
use Rattle.mrt_answer.specs.Surveyed.{IsSurveyed}
use Rattle.mrt_answer.specs.TextBytes.{HasText, IsTextAnswer}
use Rattle.mrt_answer.proofs.TextSteps.{ends_second, exits_of, texts_of}
use Rattle.mrt_cmd.specs.Comes.{of_form, reading}

module _ {S : Type 0} (held : S → Option Files) (faults : S → ℕ) (healthy : S → Type 0) where
  -- a call reads these files, and answers with what comes of a step
  abbrev IsOfStep : S → S → (Option Files → Step (List ℕ)) → List NamedFile → Result Text Exit → Type 0
  IsOfStep old new of named answer =
      ReadsAs held faults healthy old new named (λ told exit. of told (Err exit)) (λ told text. HasText (λ bytes. of told (Ok bytes)) text) answer

  module _ (old new : S) (names : Names) (next : FileBytes → Step (List ℕ)) {T : Type 0} (Kept : Option Files → T → Type 0) where
    -- where the files were read
    pub answers : ((bytes : FileBytes) (word : ℕ) → next bytes (Err (exits.ReadFault word)) → ⊥)
        → (bytes : FileBytes) → AreRead (held old) names bytes
        → (files : T) → ReadsFiles held faults healthy old new (files_in names) Kept (Ok files)
        → (answer : Result Text Exit) → IsTextAnswer (next bytes) answer
        → IsOfStep old new (λ told. reading told names ▸ next) (files_in names) answer
    answers never bytes read files reads answer said =
        let due = exits_of (reading (held old) names ▸ next) answer (ends_second (reading (held old) names) next bytes read answer said) in
        record {
          read = texts_of (reading (held old) names ▸ next) answer (ends_second (reading (held old) names) next bytes read answer said);
          refused = if_err answer (IsDue (λ exit. next bytes (Err exit))) _ or_fault (exits_of (next bytes) answer said);
          calm = λ calm. due;
          in_health = λ well. due;
          count = reads.count;
          unchanged = reads.unchanged;
          no_fault = reads.no_fault;
          stays_healthy = reads.stays_healthy;
        }
      where
        or_fault : (exit : Exit) → IsDue (λ due. next bytes (Err due)) exit
            → IsDueOrFault (λ due. (reading (held old) names ▸ next) (Err due)) (held old) (files_in names) (faults old) (faults new) exit
        or_fault (exits.ReadFault word) (inl refused) = absurd (never bytes word refused)
        or_fault (exits.ReadFault word) (inr memory) = absurd cc
        or_fault exit (inl refused) = inl (inr (bytes, read, refused))
        or_fault exit (inr memory) = inr memory

    -- where they were not
    pub unread : (exit : Exit) → ReadsFiles held faults healthy old new (files_in names) Kept (Err exit)
        → (answer : Result Text Exit) → IsErrAnd answer (λ told. told ≡ exit)
        → IsOfStep old new (λ told. reading told names ▸ next) (files_in names) answer
    unread exit reads answer is =
        let Wants = λ (told : Option Files) (text : Text). HasText (λ bytes. (reading told names ▸ next) (Ok bytes)) text in
        let Ends = λ (told : Option Files) (e : Exit). (reading told names ▸ next) (Err e) in
        errs held faults healthy old new (files_in names) Ends Wants answer exit is
        (reads_also held faults healthy old new (files_in names) (files_in names) (λ told e. IsRefusedBy told (files_in names) e)
        Ends Wants Wants (Err exit) (λ t given. given) (λ e refused. inl refused) (λ word may. may) (λ there. there)
        (reads_none held faults healthy old new (files_in names) (λ told e. IsRefusedBy told (files_in names) e) Kept Wants exit reads))

  -- a survey reads no file
  pub surveys : (at : S) (form : Form) (number nodes : ℕ) → form ≡ Survey number nodes → (answer : Result Text Exit)
      → IfOk answer (HasText (IsSurveyed number nodes)) → IfErr answer (λ exit. exit ≡ exits.NoMemory)
      → IsOfStep at at (λ told. of_form told form) (files_of form) answer
  surveys at form number nodes is answer text none =
      subst (λ (f : Form). IsOfStep at at (λ told. of_form told f) (files_of f) answer) (sym is) survey
    where
      of_memory : (exit : Exit) → exit ≡ exits.NoMemory
          → IsDueOrFault (λ due. of_form (held at) (Survey number nodes) (Err due)) (held at) [] (faults at) (faults at) exit
      of_memory exit memory =
          subst (λ (e : Exit). IsDueOrFault (λ due. of_form (held at) (Survey number nodes) (Err due)) (held at) [] (faults at) (faults at) e)
          (sym memory) (inr refl)

      survey : IsOfStep at at (λ told. of_form told (Survey number nodes)) [] answer
      survey = record {
        read = text;
        refused = if_err answer (λ exit. exit ≡ exits.NoMemory) _ of_memory none;
        calm = λ calm. if_err answer (λ exit. exit ≡ exits.NoMemory) _ (λ exit memory. inr memory) none;
        in_health = λ well. if_err answer (λ exit. exit ≡ exits.NoMemory) _ (λ exit memory. inr memory) none;
        count = omega arith;
        unchanged = refl;
        no_fault = λ well there. refl;
        stays_healthy = λ well there. well;
      }
