-- From what the steps of the top call say to the causes of its exit.
use Rattle.std.proofs.Common.{◌≡◌, ◌⊎◌, ◌↔◌, ℕ, List, Option, Some, None, Result, Ok, Err, refl, sym, subst, inl, inr}
use Rattle.std.specs.Prelude.{IfErr, IsSome}
use Rattle.mrt_io.specs.Holding.{Files}
use Rattle.mrt_io.specs.Writing.{Gained}
use Rattle.mrt_exit.specs.declared.exit.Exit.{Exit}
use Rattle.mrt_exit.specs.declared.exit.Exit.TheVariants as exits
use Rattle.mrt_cmd.specs.Causes.{HasCause, HasNoText, IsAnswered, IsOfBytes, IsOutputCalm, IsShelfCalm, IsTold, ShelfInCall, SinkInCall}
use Rattle.mrt_cmd.specs.Comes.{AreOfNoForm, Comes, FailsAt, GivesText, IsRefused, NamesHeld, of_form, read_as_form}
use Rattle.mrt_exit.specs.Exits.{line_of}
use Rattle.mrt_args.specs.Files.{files_of}
use Rattle.mrt_args.specs.declared.form.Form.{Form}
use Rattle.mrt_args.specs.Form.{form_of}
use Rattle.mrt_args.specs.Spellings.{AreWordsOf}
use Rattle.mrt_cmd.specs.Headline.{IsPassed}
use Rattle.mrt_args.specs.Reading.{IsDueOrFault}
use Rattle.mrt_args.proofs.Readings.{if_err}
use Rattle.mrt_exit.specs.Telling.{GainedLine, IsCutShort}
use Rattle.mrt_cmd.specs.Run.{IsHealthyForText, WritesNothing}
use Rattle.mrt_cmd.proofs.Exactly.{ComesOnce, exactly as exactly_one, exactly_missing, none_missing, refusal_comes, text_comes}
use Rattle.mrt_cmd.proofs.FormSays.{form_says, only_verdict}
use Rattle.mrt_cmd.proofs.Held.{given_held, refused_held}
use Rattle.mrt_cmd.proofs.WordsOfForm.{words_are}

-- a refusal of the form of the words says why they give no text
module _ (words : List (List ℕ)) (shelf : ShelfInCall) (form : Form) (is : Some form ≡ form_of words) where
  -- a call is refused as the form is, or a fault of the shelf is told
  abbrev IsDueHere : Exit → Type 0
  IsDueHere = IsDueOrFault (λ due. of_form shelf.held form (Err due)) shelf.held (files_of form) shelf.faults shelf.faults_now

  refused_words : (exit : Exit) → IsDueHere exit → HasNoText words shelf exit
  refused_words exits.Done (inl refused) = absurd (form_says shelf.held form exits.Done refused)
  refused_words exits.Usage (inl refused) = absurd (form_says shelf.held form exits.Usage refused)
  refused_words (exits.WriteFault taken) (inl refused) = absurd (form_says shelf.held form (exits.WriteFault taken) refused)
  refused_words (exits.ReadFault word) said = ((form, words_are words form (sym is), said.0), said.1)
  refused_words exits.NoMemory said = (form, words_are words form (sym is))
  refused_words (exits.No rule a b) (inl refused) =
      let of : IsRefused shelf.held words (exits.No rule a b) = inr (form, words_are words form (sym is), refused) in
      (of, only_verdict shelf.held words rule a b of)
  refused_words exit (inl refused) = inr (form, words_are words form (sym is), refused)
  refused_words exit (inr memory) = absurd cc

  pub refused_over_words : {T : Type 0} (result : Result T Exit) → IfErr result IsDueHere → IfErr result (HasNoText words shelf)
  refused_over_words result said = if_err result IsDueHere (HasNoText words shelf) refused_words said

-- why the words give no text, in short: memory was wanted, a file was not read, or they are refused
abbrev HasReason : List (List ℕ) → ShelfInCall → Exit → Type 0
HasReason words shelf exit =
    ((exit ≡ exits.NoMemory) × ((form : Form) × AreWordsOf form words))
    ⊎ ((word : ℕ) × (exit ≡ exits.ReadFault word) × FailsAt shelf.held words word) ⊎ IsRefused shelf.held words exit

stopped_by : (words : List (List ℕ)) (shelf : ShelfInCall) (exit : Exit) → HasNoText words shelf exit → HasReason words shelf exit
stopped_by words shelf exits.Usage said = inr (inr (inl said.0))
stopped_by words shelf (exits.ReadFault word) said = inr (inl (word, refl, said.0))
stopped_by words shelf (exits.No rule a b) said = inr (inr said.0)
stopped_by words shelf exits.NoMemory said = inl (refl, said)
stopped_by words shelf exits.Done said = absurd said
stopped_by words shelf (exits.WriteFault taken) said = absurd said
stopped_by words shelf exit said = inr (inr said)

-- words of no form are answered with the usage
none_is_usage : (words : List (List ℕ)) (shelf : ShelfInCall) (exit : Exit) → HasReason words shelf exit → AreOfNoForm words
    → exit ≡ exits.Usage
none_is_usage words shelf exit (inl (is, (form, are))) none = absurd (none form are)
none_is_usage words shelf exit (inr (inl (word, is, (form, are, fails)))) none = absurd (none form are)
none_is_usage words shelf exit (inr (inr (inl usage))) none = is_usage exit usage
  where
    is_usage : (exit : Exit) → read_as_form words (Err exit) → exit ≡ exits.Usage
    is_usage exits.Usage usage = refl
    is_usage exit usage = absurd usage
none_is_usage words shelf exit (inr (inr (inr (form, are, refused)))) none = absurd (none form are)

cause_of : (words : List (List ℕ)) (shelf : ShelfInCall) (out : SinkInCall) (exit : Exit) → HasNoText words shelf exit
    → out.untouched → HasCause words shelf out exit
cause_of words shelf out exits.Done said untouched = absurd said
cause_of words shelf out (exits.WriteFault taken) said untouched = absurd said
cause_of words shelf out exit said untouched = (said, untouched)

-- each refusal exactly where it is what comes of the words
abbrev IsExact : Option Files → List (List ℕ) → Exit → Type 0
IsExact held words exit =
    (refusal : Exit) → WritesNothing refusal → (exit ≡ refusal) ↔ Comes held words refusal

-- that, unless memory was wanted, or a file was not read
abbrev IsExactOnceRead : Option Files → List (List ℕ) → Exit → Type 0
IsExactOnceRead held words exit =
    (exit ≡ exits.NoMemory) ⊎ ((word : ℕ) × (exit ≡ exits.ReadFault word)) ⊎ IsExact held words exit

come_exact : (held : Option Files) (words : List (List ℕ)) (exit : Exit) → ComesOnce → Comes held words exit
    → IsSome held → IsExactOnceRead held words exit
come_exact held words exit once comes told = elim (exactly_one held words exit once (inl comes) told) [
  | inl memory ↦ inl memory
  | inr each ↦ inr (inr (λ refusal nothing. each refusal))
]

-- whatever the count: the cause says that a refusal comes of the words
stopped_exact : (once : ComesOnce) (words : List (List ℕ)) (shelf : ShelfInCall) (exit : Exit)
    → HasReason words shelf exit → IsSome shelf.held → IsExactOnceRead shelf.held words exit
stopped_exact once words shelf exit (inl (is, some)) told = inl is
stopped_exact once words shelf exit (inr (inl (word, is, fails))) told = inr (inl (word, is))
stopped_exact once words shelf exit (inr (inr refused)) told =
    come_exact shelf.held words exit once (refusal_comes shelf.held words exit refused) told

-- an exit that speaks of bytes is a refusal
stopped_held : (words : List (List ℕ)) (shelf : ShelfInCall) (exit : Exit) → HasReason words shelf exit
    → IsSome shelf.held → IsOfBytes exit → NamesHeld shelf.held words
stopped_held words shelf exit (inl (is, some)) told of = absurd (subst IsOfBytes is of)
stopped_held words shelf exit (inr (inl (word, is, fails))) told of = absurd (subst IsOfBytes is of)
stopped_held words shelf exit (inr (inr refused)) told of = refused_held shelf.held words exit refused told of

-- where the words give no text, and the output is left as it was
pub stopped : (once : ComesOnce) (words : List (List ℕ)) (shelf : ShelfInCall) (out err : SinkInCall) (exit : Exit)
    → HasNoText words shelf exit → out.untouched → out.faults_now ≡ out.faults → IsTold err exit
    → (IsShelfCalm shelf → Comes shelf.held words exit ⊎ (exit ≡ exits.NoMemory))
    → (shelf.healthy → NamesHeld shelf.held words → shelf.faults_now ≡ shelf.faults)
    → IsAnswered words shelf out err exit
stopped once words shelf out err exit said untouched same of comes calm = record {
  cause = cause_of words shelf out exit said untouched;
  told = of;
  usage = (λ is. (subst (HasNoText words shelf) is said).0, none_is_usage words shelf exit (stopped_by words shelf exit said));
  held = λ told of. stopped_held words shelf exit (stopped_by words shelf exit said) told of;
  missing = λ healthy told. exactly_missing shelf.held words exit once (comes (inr healthy)) told;
  refused = λ spared told. elim (exactly_one shelf.held words exit once (comes spared) told) [
    | inl memory ↦ inl memory
    | inr each ↦ inr (λ refusal nothing. each refusal)
  ];
  refused_once_read = λ told. stopped_exact once words shelf exit (stopped_by words shelf exit said) told;
  complete = λ spared other. comes spared;
  exactly = λ spared other told. exactly_one shelf.held words exit once (comes spared) told;
  no_read_fault = calm;
  no_write_fault = λ healthy. same;
}

-- where the words give a text and something is written, no refusal comes
none_refused : (held : Option Files) (words : List (List ℕ)) (text : List ℕ) (result : Exit) → ComesOnce
    → GivesText held words text → IsSome held → (WritesNothing result → ⊥)
    → (result ≡ exits.NoMemory) ⊎ IsExact held words result
none_refused None words text result once given told never = absurd cc
none_refused (Some files) words text result once given told never =
    inr (λ refusal nothing. (
      λ is. absurd (never (subst WritesNothing (sym is) nothing)),
      λ comes. absurd (subst WritesNothing
          (sym (once files words exits.Done refusal (text_comes (Some files) words text given) comes)) nothing),
    ))

none_refused_once_read : (held : Option Files) (words : List (List ℕ)) (text : List ℕ) (result : Exit) → ComesOnce
    → GivesText held words text → IsSome held → (WritesNothing result → ⊥) → IsExactOnceRead held words result
none_refused_once_read held words text result once given told never =
    elim (none_refused held words text result once given told never) [
      | inl memory ↦ inl memory
      | inr each ↦ inr (inr each)
    ]

written_cause : (words : List (List ℕ)) (shelf : ShelfInCall) (out : SinkInCall) (exit : Exit) (text : List ℕ)
    → GivesText shelf.held words text → (WritesNothing exit → ⊥)
    → (exit ≡ exits.Done → Gained out.written text out.written_now)
    → ((taken : ℕ) → exit ≡ exits.WriteFault taken
    → IsCutShort out.healthy_for out.faults out.faults_now out.written out.written_now text taken)
    → HasCause words shelf out exit
written_cause words shelf out exits.Done text given never done cut = (text, given, done refl)
written_cause words shelf out (exits.WriteFault taken) text given never done cut = (text, given, cut taken refl)
written_cause words shelf out exit text given never done cut = absurd (never tt)

pub told_of : (err : SinkInCall) (exit : Exit) → (exit ≡ exits.Done → err.untouched)
    → ((exit ≡ exits.Done → ⊥)
    → GainedLine err.healthy_for err.faults err.faults_now err.written err.written_now (line_of exit))
    → IsTold err exit
told_of err exits.Done silent line = silent refl
told_of err exit silent line = line (λ is. cc)

-- words that give a text are a form
text_has_form : (held : Option Files) (words : List (List ℕ)) (text : List ℕ) → GivesText held words text → AreOfNoForm words → ⊥
text_has_form held words text (form, are, given) none = none form are

-- where the words give a text
pub written : (once : ComesOnce) (words : List (List ℕ)) (shelf : ShelfInCall) (out err : SinkInCall) (exit : Exit)
    (text : List ℕ) → GivesText shelf.held words text → (WritesNothing exit → ⊥)
    → (exit ≡ exits.Done → Gained out.written text out.written_now)
    → ((taken : ℕ) → exit ≡ exits.WriteFault taken
    → IsCutShort out.healthy_for out.faults out.faults_now out.written out.written_now text taken)
    → IsTold err exit
    → (IsOutputCalm words shelf out → exit ≡ exits.Done)
    → (shelf.healthy → NamesHeld shelf.held words → shelf.faults_now ≡ shelf.faults)
    → (IsHealthyForText out.healthy_for shelf.held words → out.faults_now ≡ out.faults)
    → IsAnswered words shelf out err exit
written once words shelf out err exit text given never done cut told spared calm same =
    let comes : IsOutputCalm words shelf out → Comes shelf.held words exit ⊎ (exit ≡ exits.NoMemory) =
    λ other. inl (Ok text, given, spared other) in
    record {
      cause = written_cause words shelf out exit text given never done cut;
      told = told;
      usage = (
        λ is. absurd (never (subst WritesNothing (sym is) tt)),
        λ none. absurd (text_has_form shelf.held words text given none),
      );
      held = λ known of. given_held shelf.held words text given known;
      missing = λ healthy known. none_missing shelf.held words text exit once given known never;
      refused = λ quiet known. none_refused shelf.held words text exit once given known never;
      refused_once_read = λ known. none_refused_once_read shelf.held words text exit once given known never;
      complete = λ quiet other. comes other;
      exactly = λ quiet other known. exactly_one shelf.held words exit once (comes other) known;
      no_read_fault = calm;
      no_write_fault = same;
    }

-- where the words give a text over what is held, no exit that says why there is none says anything against it
pub passed_stopped : (once : ComesOnce) (files : Files) (words : List (List ℕ)) (shelf : ShelfInCall)
    → shelf.held ≡ Some files → (text : List ℕ) → GivesText (Some files) words text → (exit : Exit)
    → HasNoText words shelf exit → IsPassed exit
passed_stopped once files words shelf told text given exit said = go (stopped_by words shelf exit said)
  where
    go : HasReason words shelf exit → IsPassed exit
    go (inl (is, some)) = subst IsPassed (sym is) tt
    go (inr (inl (word, is, fails))) = subst IsPassed (sym is) tt
    go (inr (inr refused)) =
        subst IsPassed (once files words exits.Done exit (text_comes (Some files) words text given)
        (refusal_comes (Some files) words exit (subst (λ (held : Option Files). IsRefused held words exit) told refused))) tt
