-- Files that are read one after another are read as one list of files.
use Rattle.std.proofs.Common.{◌≡◌, ◌∙◌, ◌≤◌, ◌<◌, ◌+◌, ◌++◌, ℕ, Bool, true, false, List, [], ◌∷◌, Option, Some, None, Result, Ok, Err, length, refl, ap, sym, subst, inl, inr, arith}
use Rattle.std.specs.Prelude.{IfErr, IfOk, IfSome, is_some, nat_lt, if◌then◌else◌}
use Rattle.std.specs.List.{AllByRecursion}
use Rattle.std.specs.Option.{IsSomeAnd, option_map, option_map_or, option_to_list}
use Rattle.std.specs.Result.{IsErrAnd}
use Rattle.std.specs.declared.alloc.Global.{Global}
use Rattle.std.specs.declared.vec.Vec.{Vec}
use Rattle.std.proofs.lemmas.Bool.{le-ltb, lt-ltb}
use Rattle.mrt_io.specs.Holding.{Files, IsTooLong}
use Rattle.mrt_exit.specs.declared.exit.Exit.{Exit}
use Rattle.mrt_exit.specs.declared.exit.Exit.TheVariants as exits
use Rattle.mrt_args.specs.FileBytes.{IsProfileRead}
use Rattle.mrt_args.specs.Files.{NamedFile, Names, AreThere, IsReadAs, IsRefusedBy, MayFail, SaysOneOf, files_in, profile_file, refusal_of}
use Rattle.mrt_exit.specs.Due.{IsDue}
use Rattle.mrt_args.specs.Reading.{IsDueOrFault, ReadsAs, ReadsFiles}

-- what follows of an error, and of a value
pub if_err : {T : Type 0} (result : Result T Exit) (P Q : Exit → Type 0) → ((exit : Exit) → P exit → Q exit) → IfErr result P → IfErr result Q
if_err (Ok t) P Q follows held = tt
if_err (Err exit) P Q follows held = follows exit held

-- ---- lists of files

-- these files were read
abbrev pub AreAllRead : Option Files → List NamedFile → Type 0
AreAllRead held named = AllByRecursion (λ file. (bytes : List ℕ) × IsReadAs held file bytes) named

pub profile_all_read : (held : Option Files) (profile : Option (List ℕ)) (bytes : List ℕ) → IsProfileRead held profile bytes
    → AreAllRead held (option_to_list (option_map profile_file profile))
profile_all_read held None bytes read = tt
profile_all_read held (Some name) bytes read = ((bytes, read), tt)

-- files that were read are there, where that is told
all_there : (files : Files) (named : List NamedFile) → AreAllRead (Some files) named → AreThere (Some files) named
all_there files [] read = tt
all_there files (file ∷ named) read = (ap is_some read.0.1.0, all_there files named read.1)

there_parts : (held : Option Files) (first rest : List NamedFile) → AreThere held (first ++ rest)
    → AreThere held first × AreThere held rest
there_parts held [] rest there = (tt, there)
there_parts held (file ∷ first) rest there =
    let parts = there_parts held first rest there.1 in
    ((there.0, parts.0), parts.1)

-- where the first ones are refused, or may fail, so are all
says_first : (first rest : List NamedFile) (exit : Exit) → SaysOneOf first exit → SaysOneOf (first ++ rest) exit
says_first [] rest exit said = absurd said
says_first (file ∷ first) rest exit (inl said) = inl said
says_first (file ∷ first) rest exit (inr (inl said)) = inr (inl said)
says_first (file ∷ first) rest exit (inr (inr said)) = inr (inr (says_first first rest exit said))

of_one : (file : NamedFile) (one other : Option Exit) (exit : Exit) → (one ≡ Some exit → other ≡ Some exit)
    → (content : Option (List ℕ)) → option_map_or (λ bytes. if nat_lt file.limit (length bytes) then Some
    (exits.TooLarge file.what (file.limit + 1)) else one) content (Some (exits.ReadFault file.place)) ≡ Some exit
    → option_map_or (λ bytes. if nat_lt file.limit (length bytes) then Some (exits.TooLarge file.what (file.limit + 1)) else other)
    content (Some (exits.ReadFault file.place)) ≡ Some exit
of_one file one other exit onward None said = said
of_one file one other exit onward (Some bytes) said = go (nat_lt file.limit (length bytes)) said
  where
    go : (b : Bool) → (if b then Some (exits.TooLarge file.what (file.limit + 1)) else one) ≡ Some exit
        → (if b then Some (exits.TooLarge file.what (file.limit + 1)) else other) ≡ Some exit
    go true said = said
    go false said = onward said

of_first : (files : Files) (first rest : List NamedFile) (exit : Exit) → refusal_of files first ≡ Some exit
    → refusal_of files (first ++ rest) ≡ Some exit
of_first files [] rest exit said = cc
of_first files (file ∷ first) rest exit said =
    of_one file (refusal_of files first) (refusal_of files (first ++ rest)) exit (of_first files first rest exit) (files file.name) said

refused_first : (held : Option Files) (first rest : List NamedFile) (exit : Exit) → IsRefusedBy held first exit
    → IsRefusedBy held (first ++ rest) exit
refused_first None first rest exit said = says_first first rest exit said
refused_first (Some files) first rest exit said = of_first files first rest exit said

may_first : (held : Option Files) (first rest : List NamedFile) (word : ℕ) → MayFail held first word
    → MayFail held (first ++ rest) word
may_first held [] rest word may = absurd may
may_first held (file ∷ first) rest word (inl is) = inl is
may_first held (file ∷ first) rest word (inr may) = inr (may.0, may_first held first rest word may.1)

-- where files were read and those after them are refused, or may fail, so are all
passed : (held : Option Files) (file : NamedFile) (rest : List NamedFile) (bytes : List ℕ) (exit : Exit)
    → IsReadAs held file bytes → IsRefusedBy held rest exit → IsRefusedBy held (file ∷ rest) exit
passed None file rest bytes exit read said = inr (inr said)
passed (Some files) file rest bytes exit read said = rw (read.0, le-ltb file.limit (length bytes) read.1) said

refused_rest : (held : Option Files) (first rest : List NamedFile) (exit : Exit) → AreAllRead held first
    → IsRefusedBy held rest exit → IsRefusedBy held (first ++ rest) exit
refused_rest held [] rest exit read said = said
refused_rest held (file ∷ first) rest exit read said =
    passed held file (first ++ rest) read.0.0 exit read.0.1 (refused_rest held first rest exit read.1 said)

may_rest : (held : Option Files) (first rest : List NamedFile) (word : ℕ) → AreAllRead held first → MayFail held rest word
    → MayFail held (first ++ rest) word
may_rest held [] rest word read may = may
may_rest held (file ∷ first) rest word read may = inr (read.0, may_rest held first rest word read.1 may)

-- where it is not told what is held, a file that may fail is a refusal
may_says : (named : List NamedFile) (word : ℕ) → MayFail None named word → SaysOneOf named (exits.ReadFault word)
may_says [] word may = may
may_says (file ∷ named) word (inl is) = inl (ap exits.ReadFault is)
may_says (file ∷ named) word (inr may) = inr (inr (may_says named word may.1))

-- one file that is not read is refused
too_long : (files : Files) (file : NamedFile) (content : Option (List ℕ)) → files file.name ≡ content
    → IsSomeAnd content (λ bytes. file.limit < length bytes)
    → refusal_of files (file ∷ []) ≡ Some (exits.TooLarge file.what (file.limit + 1))
too_long files file None is long = absurd long
too_long files file (Some bytes) is long = rw (is, lt-ltb file.limit (length bytes) long) refl

pub missing_refused : (held : Option Files) (file : NamedFile) → IfSome held (λ files. files file.name ≡ None)
    → IsRefusedBy held (file ∷ []) (exits.ReadFault file.place)
missing_refused None file missing = inl refl
missing_refused (Some files) file missing = rw missing refl

pub long_refused : (held : Option Files) (file : NamedFile) → IsTooLong held file.name file.limit
    → IsRefusedBy held (file ∷ []) (exits.TooLarge file.what (file.limit + 1))
long_refused None file long = inr (inl refl)
long_refused (Some files) file long = too_long files file (files file.name) refl long

-- ---- what is due

due_also : (P Q : Exit → Type 0) → ((exit : Exit) → P exit → Q exit) → (exit : Exit) → IsDue P exit → IsDue Q exit
due_also P Q follows exit (inl refused) = inl (follows exit refused)
due_also P Q follows exit (inr memory) = inr memory

fault_also : (P Q : Exit → Type 0) (held : Option Files) (named more : List NamedFile) (before between now : ℕ)
    → ((exit : Exit) → P exit → Q exit) → ((word : ℕ) → MayFail held named word → MayFail held more word)
    → before ≤ between → (exit : Exit) → IsDueOrFault P held named between now exit → IsDueOrFault Q held more before now exit
fault_also P Q held named more before between now follows may le (exits.ReadFault word) said =
    (may word said.0, omega (arith, le, said.1))
fault_also P Q held named more before between now follows may le exit said = due_also P Q follows exit said

-- where it is not told what is held, a fault is due
due_untold : (named : List NamedFile) (before now : ℕ) (exit : Exit)
    → IsDueOrFault (IsRefusedBy None named) None named before now exit → IsDue (IsRefusedBy None named) exit
due_untold named before now (exits.ReadFault word) said = inl (may_says named word said.0)
due_untold named before now exit said = said

-- ---- readings

module _ {S : Type 0} (held : S → Option Files) (faults : S → ℕ) (healthy : S → Type 0) where
  -- what is read of some files is read of more, and it is refused in other words
  pub reads_also : {T : Type 0} (old new : S) (named more : List NamedFile) (P Q : Option Files → Exit → Type 0)
      (Gives Wants : Option Files → T → Type 0) (result : Result T Exit)
      → ((t : T) → Gives (held old) t → Wants (held old) t) → ((exit : Exit) → P (held old) exit → Q (held old) exit)
      → ((word : ℕ) → MayFail (held old) named word → MayFail (held old) more word)
      → (AreThere (held old) more → AreThere (held old) named)
      → ReadsAs held faults healthy old new named P Gives result → ReadsAs held faults healthy old new more Q Wants result
  reads_also old new named more P Q Gives Wants (Ok t) gives follows may there reads = record {
    read = gives t reads.read;
    refused = tt;
    calm = λ calm. tt;
    in_health = λ well. tt;
    count = reads.count;
    unchanged = reads.unchanged;
    no_fault = λ well all. reads.no_fault well (there all);
    stays_healthy = λ well all. reads.stays_healthy well (there all);
  }
  reads_also old new named more P Q Gives Wants (Err exit) gives follows may there reads = record {
    read = tt;
    refused = fault_also (P (held old)) (Q (held old)) (held old) named more (faults old) (faults old) (faults new) follows may
        (omega arith) exit reads.refused;
    calm = λ calm. due_also (P (held old)) (Q (held old)) follows exit (reads.calm calm);
    in_health = λ well. due_also (P (held old)) (Q (held old)) follows exit (reads.in_health well);
    count = reads.count;
    unchanged = reads.unchanged;
    no_fault = λ well all. reads.no_fault well (there all);
    stays_healthy = λ well all. reads.stays_healthy well (there all);
  }

  -- an error says nothing of the value that was to come
  pub reads_none : {T U : Type 0} (old new : S) (named : List NamedFile) (P : Option Files → Exit → Type 0)
      (Gives : Option Files → T → Type 0) (Wants : Option Files → U → Type 0) (exit : Exit)
      → ReadsAs held faults healthy old new named P Gives (Err exit) → ReadsAs held faults healthy old new named P Wants (Err exit)
  reads_none old new named P Gives Wants exit reads = record {
    read = tt;
    refused = reads.refused;
    calm = reads.calm;
    in_health = reads.in_health;
    count = reads.count;
    unchanged = reads.unchanged;
    no_fault = reads.no_fault;
    stays_healthy = reads.stays_healthy;
  }

  pub reads_ok : {T U : Type 0} (old new : S) (named : List NamedFile) (P Q : Option Files → Exit → Type 0)
      (Gives : Option Files → T → Type 0) (Wants : Option Files → U → Type 0) (t : T) (u : U)
      → (Gives (held old) t → Wants (held old) u) → ReadsAs held faults healthy old new named P Gives (Ok t)
      → ReadsAs held faults healthy old new named Q Wants (Ok u)
  reads_ok old new named P Q Gives Wants t u follows reads = record {
    read = follows reads.read;
    refused = tt;
    calm = λ calm. tt;
    in_health = λ well. tt;
    count = reads.count;
    unchanged = reads.unchanged;
    no_fault = reads.no_fault;
    stays_healthy = reads.stays_healthy;
  }

  -- an error, handed on
  pub errs : {T : Type 0} (old new : S) (named : List NamedFile) (P : Option Files → Exit → Type 0)
      (Gives : Option Files → T → Type 0) (result : Result T Exit) (exit : Exit) → IsErrAnd result (λ told. told ≡ exit)
      → ReadsAs held faults healthy old new named P Gives (Err exit) → ReadsAs held faults healthy old new named P Gives result
  errs old new named P Gives (Ok t) exit is reads = absurd is
  errs old new named P Gives (Err told) exit is reads =
      subst (λ (e : Exit). ReadsAs held faults healthy old new named P Gives (Err e)) (sym is) reads

  -- where the first files are refused, so are all
  pub reads_first : {T U : Type 0} (old new : S) (first rest : List NamedFile) (Gives : Option Files → T → Type 0)
      (Wants : Option Files → U → Type 0) (exit : Exit) → ReadsFiles held faults healthy old new first Gives (Err exit)
      → ReadsFiles held faults healthy old new (first ++ rest) Wants (Err exit)
  reads_first old new first rest Gives Wants exit reads =
      reads_also old new first (first ++ rest) (λ files. IsRefusedBy files first) (λ files. IsRefusedBy files (first ++ rest)) Wants Wants
      (Err exit) (λ u given. given) (refused_first (held old) first rest) (may_first (held old) first rest)
      (λ there. (there_parts (held old) first rest there).0)
      (reads_none old new first (λ files. IsRefusedBy files first) Gives Wants exit reads)

  -- where the first files were read, and then the others
  module _ {T U : Type 0} (old between new : S) (first rest : List NamedFile) (Gives : Option Files → T → Type 0)
      (Wants : Option Files → U → Type 0) (t : T) (result : Result U Exit)
      (before : ReadsFiles held faults healthy old between first Gives (Ok t)) (read : AreAllRead (held old) first)
      (after : ReadsFiles held faults healthy between new rest Wants result) where
    rest_refused : IfErr result (IsDueOrFault (IsRefusedBy (held old) rest) (held old) rest (faults between) (faults new))
    rest_refused =
        subst (λ (told : Option Files). IfErr result (IsDueOrFault (IsRefusedBy told rest) told rest (faults between) (faults new)))
        before.unchanged after.refused

    all_due : IfErr result (IsDue (IsRefusedBy (held between) rest)) → IfErr result (IsDue (IsRefusedBy (held old) (first ++ rest)))
    all_due due =
        if_err result (IsDue (IsRefusedBy (held old) rest)) (IsDue (IsRefusedBy (held old) (first ++ rest)))
        (due_also (IsRefusedBy (held old) rest) (IsRefusedBy (held old) (first ++ rest))
        (λ exit said. refused_rest (held old) first rest exit read said))
        (subst (λ (told : Option Files). IfErr result (IsDue (IsRefusedBy told rest))) before.unchanged due)

    rest_there : AreThere (held old) (first ++ rest) → AreThere (held between) rest
    rest_there there =
        subst (λ (told : Option Files). AreThere told rest) (sym before.unchanged) (there_parts (held old) first rest there).1

    first_there : AreThere (held old) (first ++ rest) → AreThere (held old) first
    first_there there = (there_parts (held old) first rest there).0

    due_in_health : healthy old → (told : Option Files) → held old ≡ told
        → IfErr result (IsDue (IsRefusedBy (held old) (first ++ rest)))
    due_in_health well None is =
        all_due (subst (λ (told : Option Files). IfErr result (IsDue (IsRefusedBy told rest))) (sym (before.unchanged ∙ is))
        (if_err result (IsDueOrFault (IsRefusedBy None rest) None rest (faults between) (faults new)) (IsDue (IsRefusedBy None rest))
        (due_untold rest (faults between) (faults new))
        (subst (λ (told : Option Files). IfErr result (IsDueOrFault (IsRefusedBy told rest) told rest (faults between) (faults new)))
        is rest_refused)))
    due_in_health well (Some files) is =
        all_due (after.in_health (before.stays_healthy well (subst (λ (told : Option Files). AreThere told first) (sym is)
        (all_there files first (subst (λ (told : Option Files). AreAllRead told first) is read)))))

    pub reads_then : ReadsFiles held faults healthy old new (first ++ rest) Wants result
    reads_then = record {
      read = subst (λ (told : Option Files). IfOk result (Wants told)) before.unchanged after.read;
      refused = if_err result (IsDueOrFault (IsRefusedBy (held old) rest) (held old) rest (faults between) (faults new))
          (IsDueOrFault (IsRefusedBy (held old) (first ++ rest)) (held old) (first ++ rest) (faults old) (faults new))
          (fault_also (IsRefusedBy (held old) rest) (IsRefusedBy (held old) (first ++ rest)) (held old) rest (first ++ rest)
          (faults old) (faults between) (faults new) (λ exit said. refused_rest (held old) first rest exit read said)
          (λ word said. may_rest (held old) first rest word read said) before.count) rest_refused;
      calm = λ calm. all_due (after.calm (λ rose. calm (omega (arith, before.count, rose))));
      in_health = λ well. due_in_health well (held old) refl;
      count = omega (arith, before.count, after.count);
      unchanged = after.unchanged ∙ before.unchanged;
      no_fault = λ well there.
          after.no_fault (before.stays_healthy well (first_there there)) (rest_there there) ∙ before.no_fault well (first_there there);
      stays_healthy = λ well there. after.stays_healthy (before.stays_healthy well (first_there there)) (rest_there there);
    }

  -- the files of a form: the first was not read
  pub first_stops : {T U : Type 0} (names : Names) (file : NamedFile) → file ≡ names.first → (old new : S)
      (Gives : Option Files → T → Type 0) (Wants : Option Files → U → Type 0) (exit : Exit) (result : Result U Exit)
      → IsErrAnd result (λ told. told ≡ exit) → ReadsFiles held faults healthy old new (file ∷ []) Gives (Err exit)
      → ReadsFiles held faults healthy old new (files_in names) Wants result
  first_stops names file is old new Gives Wants exit result told reads =
      errs old new (files_in names) (λ files e. IsRefusedBy files (files_in names) e) Wants result exit told
      (reads_first old new (names.first ∷ [])
      (option_to_list (option_map profile_file names.profile) ++ option_to_list names.last) Gives Wants exit
      (subst (λ (f : NamedFile). ReadsFiles held faults healthy old new (f ∷ []) Gives (Err exit)) is reads))

  -- the first was read
  module _ (names : Names) (file : NamedFile) (is : file ≡ names.first) (old one : S) (bytes : Vec ℕ Global)
      (first : ReadsFiles held faults healthy old one (file ∷ []) (λ told it. IsReadAs told file it.items) (Ok bytes)) where
    abbrev profile_files : List NamedFile
    profile_files = option_to_list (option_map profile_file names.profile)

    abbrev last_files : List NamedFile
    last_files = option_to_list names.last

    pub first_is : IsReadAs (held old) names.first bytes.items
    first_is = subst (λ (f : NamedFile). IsReadAs (held old) f bytes.items) is first.read

    after_first : {U : Type 0} (new : S) (Wants : Option Files → U → Type 0) (result : Result U Exit)
        → ReadsFiles held faults healthy one new (profile_files ++ last_files) Wants result
        → ReadsFiles held faults healthy old new (files_in names) Wants result
    after_first new Wants result reads =
        reads_then old one new (names.first ∷ []) (profile_files ++ last_files) (λ told it. IsReadAs told file it.items) Wants bytes
        result (subst (λ (f : NamedFile). ReadsFiles held faults healthy old one (f ∷ []) (λ told it. IsReadAs told file it.items) (Ok bytes))
        is first) ((bytes.items, first_is), tt) reads

    pub profile_stops : {T U : Type 0} (new : S) (Gives : Option Files → T → Type 0) (Wants : Option Files → U → Type 0)
        (exit : Exit) (result : Result U Exit) → IsErrAnd result (λ told. told ≡ exit)
        → ReadsFiles held faults healthy one new profile_files Gives (Err exit)
        → ReadsFiles held faults healthy old new (files_in names) Wants result
    profile_stops new Gives Wants exit result told reads =
        errs old new (files_in names) (λ files e. IsRefusedBy files (files_in names) e) Wants result exit told
        (after_first new Wants (Err exit) (reads_first one new profile_files last_files Gives Wants exit reads))

    -- and the profile
    module _ (two : S) (lines : Vec ℕ Global)
        (profile : ReadsFiles held faults healthy one two profile_files (λ told it. IsProfileRead told names.profile it.items)
        (Ok lines)) where
      pub profile_is : IsProfileRead (held old) names.profile lines.items
      profile_is = subst (λ (told : Option Files). IsProfileRead told names.profile lines.items) first.unchanged profile.read

      pub last_reads : {U : Type 0} (new : S) (Wants : Option Files → U → Type 0) (result : Result U Exit)
          → ReadsFiles held faults healthy two new last_files Wants result
          → ReadsFiles held faults healthy old new (files_in names) Wants result
      last_reads new Wants result reads =
          after_first new Wants result
          (reads_then one two new profile_files last_files (λ told it. IsProfileRead told names.profile it.items) Wants lines result
          profile (profile_all_read (held one) names.profile lines.items profile.read) reads)
