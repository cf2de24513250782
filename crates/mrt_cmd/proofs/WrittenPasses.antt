-- What `certify` wrote passes `check` and `upgrade`.
use Rattle.std.proofs.Common.{◌≡◌, ◌∙◌, ◌≤◌, ◌<◌, ◌∷◌, [], ℕ, Bool, true, false, List, Option, Some, None, Ok, length, refl, sym, ap, subst, inl, inr, arith}
use Rattle.std.specs.Prelude.{◌&&◌, codes, nat_lt, if◌then◌else◌}
use Rattle.std.specs.Option.{option_map, option_map_or, option_or}
use Rattle.std.proofs.lemmas.Bool.{lt-ltb}
use Rattle.std.proofs.lemmas.Option.{same_Some}
use Rattle.mrt_io.specs.Holding.{Files}
use Rattle.mrt_exit.specs.declared.exit.Exit.{Exit}
use Rattle.mrt_exit.specs.declared.exit.Exit.TheVariants as exits
use Rattle.mrt_args.specs.FileBytes.{FileBytes, AreRead, IsProfileRead, with_last}
use Rattle.mrt_answer.specs.Forms.{over}
use Rattle.mrt_cmd.specs.Comes.{GivesText, of_form}
use Rattle.text_parts.specs.Spelling.{address_in}
use Rattle.mrt_args.specs.Files.{IsReadAs, certificate_limit, database_file, profile_limit, task_names}
use Rattle.mrt_args.specs.declared.form.FileForm.{FileForm}
use Rattle.mrt_args.specs.declared.form.Form.{Form}
use Rattle.mrt_args.specs.declared.form.Form.TheVariants.{OfFiles}
use Rattle.mrt_args.specs.declared.task.RouterTask.TheVariants.{Certify}
use Rattle.mrt_args.specs.declared.task.Task.TheVariants.{Check, Upgrade, OfRouter}
use Rattle.mrt_args.specs.Form.{Task, form_of, profile_name}
use Rattle.mrt_cmd.specs.Headline.{ChecksWritten, IsPassed, profile_held}
use Rattle.mrt_cmd.specs.Run.{WritesNothing}
use Rattle.mrt_cmd.proofs.WordsOfForm.{read_as, words_are}

-- a form over files of these words
abbrev form_with : List ℕ → List ℕ → Task → FileForm
form_with database profile task = record { database = database; profile = profile_name profile; task = task }

-- words that certify give the text of a router's certificate
record IsCertifyForm (held : Option Files) (database profile text : List ℕ) : Type 0 where
  router : ℕ
  gives : of_form held (OfFiles (form_with database profile (OfRouter (Certify router)))) (Ok text)

certify_form : (held : Option Files) (database profile text : List ℕ) (named : Bool) (address : Option ℕ) (form : Form)
    → option_or (option_map (λ form. OfFiles form) (option_or
    (if named then option_map (λ task. form_with database profile task) (option_map (λ task. OfRouter task) (option_map (λ router. Certify router) address))
    else None) None)) None ≡ Some form → of_form held form (Ok text) → IsCertifyForm held database profile text
certify_form held database profile text true (Some router) form is given = record {
  router = router;
  gives = subst (λ (f : Form). of_form held f (Ok text))
      (sym (same_Some (OfFiles (form_with database profile (OfRouter (Certify router)))) form is)) given;
}
certify_form held database profile text true None form is given = absurd cc
certify_form held database profile text false address form is given = absurd cc

-- words that check or upgrade name both files, and a certificate
check_form : (words : List (List ℕ)) (command database profile certificate : List ℕ) → command ≡ codes "check"
    → words ≡ command ∷ database ∷ profile ∷ certificate ∷ []
    → (0 < length database) × ((0 < length profile) × (0 < length certificate))
    → form_of words ≡ Some (OfFiles (form_with database profile (Check certificate)))
check_form words command database profile certificate asks is named =
    rw (is, asks, lt-ltb 0 (length database) named.0, lt-ltb 0 (length profile) named.1.0, lt-ltb 0 (length certificate) named.1.1) refl

upgrade_form : (words : List (List ℕ)) (command database profile certificate : List ℕ) → command ≡ codes "upgrade"
    → words ≡ command ∷ database ∷ profile ∷ certificate ∷ []
    → (0 < length database) × ((0 < length profile) × (0 < length certificate))
    → form_of words ≡ Some (OfFiles (form_with database profile (Upgrade certificate)))
upgrade_form words command database profile certificate asks is named =
    rw (is, asks, lt-ltb 0 (length database) named.0, lt-ltb 0 (length profile) named.1.0, lt-ltb 0 (length certificate) named.1.1) refl

-- what a profile was read as is what its word stands for, and it is within the limit
profile_was : (files : Files) (word bytes : List ℕ) → IsProfileRead (Some files) (profile_name word) bytes
    → (profile_held files word ≡ Some bytes) × (length bytes ≤ profile_limit)
profile_was files word bytes read = go (profile_name word) read
  where
    go : (name : Option (List ℕ)) → IsProfileRead (Some files) name bytes
        → (option_map_or files name (Some []) ≡ Some bytes) × (length bytes ≤ profile_limit)
    go None read = (ap (λ (b : List ℕ). Some b) (sym read), rw read (omega arith))
    go (Some name) read = read

profile_is : (files : Files) (word bytes : List ℕ) → profile_held files word ≡ Some bytes → length bytes ≤ profile_limit
    → IsProfileRead (Some files) (profile_name word) bytes
profile_is files word bytes held short = go (profile_name word) held
  where
    go : (name : Option (List ℕ)) → option_map_or files name (Some []) ≡ Some bytes
        → IsProfileRead (Some files) name bytes
    go None held = sym (same_Some [] bytes held)
    go (Some name) held = (held, short)

-- the laws of the layer below on what was written
pub record PassLaws : Type 0 where
  pub check : (bytes : FileBytes) (router : ℕ) (certificate text : List ℕ) → over (OfRouter (Certify router)) bytes (Ok text)
      → (line : List ℕ) × over (Check certificate) (with_last bytes text) (Ok line)
  pub upgrade : (bytes : FileBytes) (router : ℕ) (certificate text : List ℕ) → over (OfRouter (Certify router)) bytes (Ok text)
      → over (Upgrade certificate) (with_last bytes text) (Ok text)
  pub short : (bytes : FileBytes) (router : ℕ) (text : List ℕ) → over (OfRouter (Certify router)) bytes (Ok text)
      → length text ≤ certificate_limit

-- the words give a text
pub written_passes : PassLaws → (files : Files) (words : List (List ℕ)) → ChecksWritten files words
    → (line : List ℕ) × GivesText (Some files) words line
written_passes laws files words w =
    let certify : IsCertifyForm (Some w.written.files) w.written.database w.written.profile w.written.text =
    certify_form (Some w.written.files) w.written.database w.written.profile w.written.text
    (nat_lt 0 (length w.written.database) && nat_lt 0 (length w.written.profile)) (address_in w.written.router)
    w.written.gave.0
    (read_as (codes "certify" ∷ w.written.database ∷ w.written.profile ∷ w.written.router ∷ []) w.written.gave.0 w.written.gave.1) w.written.gave.2 in
    let bytes : FileBytes = certify.gives.0 in
    let read : AreRead (Some w.written.files) (task_names (form_with w.written.database w.written.profile (OfRouter (Certify certify.router)))) bytes =
    certify.gives.1 in
    let gave : over (OfRouter (Certify certify.router)) bytes (Ok w.written.text) = certify.gives.2 in
    let short = laws.short bytes certify.router w.written.text gave in
    let profile_read : IsProfileRead (Some files) (profile_name w.profile) bytes.profile =
    let before = profile_was w.written.files w.written.profile bytes.profile read.profile_read in
    profile_is files w.profile bytes.profile (w.same_profile ∙ before.0) before.1 in
    let first_read : IsReadAs (Some files) (database_file w.database) bytes.first = (w.same_database ∙ read.first_read.0, read.first_read.1) in
    elim w.asks [
      | inl asks ↦
          let accepted = laws.check bytes certify.router w.certificate w.written.text gave in (
            accepted.0,
            (
              OfFiles (form_with w.database w.profile (Check w.certificate)),
              words_are words (OfFiles (form_with w.database w.profile (Check w.certificate)))
                  (check_form words w.command w.database w.profile w.certificate asks w.words_are w.named),
              (
                with_last bytes w.written.text,
                record { first_read = first_read; profile_read = profile_read; last_read = (w.held, short) },
                accepted.1,
              ),
            ),
          )
      | inr asks ↦ (
        w.written.text,
        (
          OfFiles (form_with w.database w.profile (Upgrade w.certificate)),
          words_are words (OfFiles (form_with w.database w.profile (Upgrade w.certificate)))
              (upgrade_form words w.command w.database w.profile w.certificate asks w.words_are w.named),
          (
            with_last bytes w.written.text,
            record { first_read = first_read; profile_read = profile_read; last_read = (w.held, short) },
            laws.upgrade bytes certify.router w.certificate w.written.text gave,
          ),
        ),
      )
    ]

-- what is written to a sink says nothing against the certificate
pub passed_written : (exit : Exit) → (WritesNothing exit → ⊥) → IsPassed exit
passed_written exits.Done never = tt
passed_written (exits.ReadFault word) never = tt
passed_written (exits.WriteFault taken) never = tt
passed_written exits.NoMemory never = tt
passed_written exit never = absurd (never tt)
