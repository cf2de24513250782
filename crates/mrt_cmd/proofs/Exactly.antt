-- Where one exit comes of the words, each exit comes exactly where it is that.
use Rattle.std.proofs.Common.{◌≡◌, ◌⊎◌, ◌↔◌, ℕ, List, Option, Some, None, Ok, Err, refl, subst, sym, inl, inr}
use Rattle.std.specs.Prelude.{IsSome}
use Rattle.mrt_io.specs.Holding.{Files}
use Rattle.mrt_exit.specs.declared.exit.Exit.{Exit}
use Rattle.mrt_exit.specs.declared.exit.Exit.TheVariants as exits
use Rattle.mrt_answer.proofs.TaskSays.{flooded_says, over_says}
use Rattle.mrt_cmd.specs.Comes.{Comes, GivesText, IsRefused, MissesAt, of_form}
use Rattle.mrt_args.specs.Files.{IsFirstMissing, files_of}
use Rattle.mrt_args.specs.declared.form.Form.{Form}
use Rattle.mrt_args.specs.declared.form.Form.TheVariants.{OfFiles, Survey, Flood}
use Rattle.mrt_cmd.specs.Run.{WritesNothing}

-- one exit comes of the words at most
abbrev pub ComesOnce : Type 0
ComesOnce = (files : Files) (words : List (List ℕ)) (exit other : Exit) → Comes (Some files) words exit
    → Comes (Some files) words other → exit ≡ other

pub exactly : (held : Option Files) (words : List (List ℕ)) (result : Exit) → ComesOnce
    → Comes held words result ⊎ (result ≡ exits.NoMemory) → IsSome held
    → (result ≡ exits.NoMemory) ⊎ ((exit : Exit) → (result ≡ exit) ↔ Comes held words exit)
exactly None words result once comes told = absurd cc
exactly (Some files) words result once (inl comes) told =
    inr (λ exit. (λ is. subst (Comes (Some files) words) is comes, λ other. once files words result exit comes other))
exactly (Some files) words result once (inr memory) told = inl memory

-- a text, and an exit that refuses the words, come as exits
pub text_comes : (held : Option Files) (words : List (List ℕ)) (text : List ℕ) → GivesText held words text → Comes held words exits.Done
text_comes held words text given = (Ok text, given, refl)

pub refusal_comes : (held : Option Files) (words : List (List ℕ)) (exit : Exit) → IsRefused held words exit → Comes held words exit
refusal_comes held words exit refused = (Err exit, refused, refl)

refused_of : (held : Option Files) (words : List (List ℕ)) (exit : Exit) → WritesNothing exit → Comes held words exit
    → IsRefused held words exit
refused_of held words exit nothing (Ok text, given, is) = absurd (subst WritesNothing is nothing)
refused_of held words exit nothing (Err said, refused, is) = subst (λ (e : Exit). IsRefused held words e) (sym is) refused

-- a file that is not held is what comes of a form just where it is the first that is not
first_missing : (files : Files) (form : Form) (word : ℕ) → of_form (Some files) form (Err (exits.ReadFault word))
    → IsFirstMissing (Some files) (files_of form) word
first_missing files (OfFiles form) word (inl missing) = missing
first_missing files (OfFiles form) word (inr (bytes, read, said)) = absurd (over_says ⊥ form.task bytes (exits.ReadFault word) said)
first_missing files (Survey number nodes) word said = absurd said
first_missing files (Flood form) word (inl missing) = missing
first_missing files (Flood form) word (inr (bytes, read, said)) = absurd (flooded_says ⊥ ⊥ bytes (exits.ReadFault word) said)

comes_missing : (files : Files) (form : Form) (word : ℕ) → IsFirstMissing (Some files) (files_of form) word
    → of_form (Some files) form (Err (exits.ReadFault word))
comes_missing files (OfFiles form) word missing = inl missing
comes_missing files (Survey number nodes) word missing = absurd cc
comes_missing files (Flood form) word missing = inl missing

-- so of the words
misses_of : (files : Files) (words : List (List ℕ)) (word : ℕ) → IsRefused (Some files) words (exits.ReadFault word)
    → MissesAt (Some files) words word
misses_of files words word (inl usage) = absurd usage
misses_of files words word (inr (form, are, refused)) = (form, are, first_missing files form word refused)

missing_refused : (files : Files) (words : List (List ℕ)) (word : ℕ) → MissesAt (Some files) words word
    → IsRefused (Some files) words (exits.ReadFault word)
missing_refused files words word (form, are, missing) = inr (form, are, comes_missing files form word missing)

pub exactly_missing : (held : Option Files) (words : List (List ℕ)) (result : Exit) → ComesOnce
    → Comes held words result ⊎ (result ≡ exits.NoMemory) → IsSome held
    → (result ≡ exits.NoMemory) ⊎ ((word : ℕ) → (result ≡ exits.ReadFault word) ↔ MissesAt held words word)
exactly_missing None words result once comes told = absurd cc
exactly_missing (Some files) words result once (inl comes) told =
    inr (λ word. (
      λ is. misses_of files words word
          (refused_of (Some files) words (exits.ReadFault word) tt (subst (Comes (Some files) words) is comes)),
      λ missing. once files words result (exits.ReadFault word) comes
          (refusal_comes (Some files) words (exits.ReadFault word) (missing_refused files words word missing)),
    ))
exactly_missing (Some files) words result once (inr memory) told = inl memory

-- where the words give a text and something is written to a sink, no file is missing
pub none_missing : (held : Option Files) (words : List (List ℕ)) (text : List ℕ) (result : Exit) → ComesOnce
    → GivesText held words text → IsSome held → (WritesNothing result → ⊥)
    → (result ≡ exits.NoMemory) ⊎ ((word : ℕ) → (result ≡ exits.ReadFault word) ↔ MissesAt held words word)
none_missing None words text result once given told never = absurd cc
none_missing (Some files) words text result once given told never =
    inr (λ word. (
      λ is. absurd (never (subst WritesNothing (sym is) tt)),
      λ missing. absurd (subst WritesNothing (sym (once files words exits.Done (exits.ReadFault word)
          (text_comes (Some files) words text given)
          (refusal_comes (Some files) words (exits.ReadFault word) (missing_refused files words word missing)))) tt),
    ))
