-- Words that spell a form have that form.
use Rattle.std.proofs.Common.{◌≡◌, ◌≢◌, ◌==◌, ◌∙◌, ℕ, Bool, true, false, List, [], ◌∷◌, Option, Some, None, inl, inr, length, arith, refl, ap}
use Rattle.std.specs.Prelude.{◌&&◌, ◌≤◌, codes, nat_le, nat_lt, if◌then◌else◌}
use Rattle.std.specs.Option.{option_and_then, option_map}
use Rattle.std.specs.Str.{bytes_eq}
use Rattle.std.proofs.lemmas.Bool.{eqb-true, le-leb, lt-ltb}
use Rattle.std.proofs.lemmas.Slice.Eq.{bytes_eq-Decides}
use Rattle.fabric_script.specs.declared.event.FailureName.{FailureName}
use Rattle.fabric_script.specs.declared.trace.Trace.{Trace as PacketTrace}
use Rattle.fabric_script.specs.Names.{node_in}
use Rattle.fabric_script.specs.ScriptLines.{entry_in}
use Rattle.text_parts.specs.Spelling.{address_in, number_in}
use Rattle.mrt_args.specs.declared.form.FileForm.{FileForm}
use Rattle.mrt_args.specs.declared.form.Form.{Form}
use Rattle.mrt_args.specs.declared.form.Form.TheVariants.{OfFiles, Survey, Flood}
use Rattle.mrt_args.specs.declared.task.RouterTask.{RouterTask}
use Rattle.mrt_args.specs.declared.task.RouterTask.TheVariants.{Certify, Table, Trace, Order, Proxy, Lfa}
use Rattle.mrt_args.specs.declared.task.Task.TheVariants.{OfRouter, Check, Fabric, Upgrade}
use Rattle.mrt_args.specs.Form.{Task, IsNetworkSize, file_form_of, form_of, nodes_in, profile_name, task_form_of, task_in, trace_in, trace_of}
use Rattle.mrt_args.specs.Spellings.{AreFailureWords, AreLfaWords, AreTaskWords, AreWordsOf, AreWordsUnderProfile, NamesProfile}

long : (word : List ℕ) → word ≢ [] → nat_lt 0 (length word) ≡ true
long [] some = absurd (some refl)
long (byte ∷ bytes) some = lt-ltb 0 (length (byte ∷ bytes)) (omega arith)

-- the task of words, the first of which is the command
abbrev task_words : List (List ℕ) → Option Task
task_words [] = None
task_words (command ∷ words) = task_in command words

trace_is : (trace : PacketTrace) (from to entry : List ℕ) → address_in from ≡ Some trace.from → node_in to ≡ Some trace.to
    → entry_in entry ≡ Some trace.entry → trace_of from to entry trace.failed ≡ Some (Trace trace)
trace_is trace from to entry from_is to_is entry_is = rw (from_is, to_is, entry_is) refl

failing : (trace : PacketTrace) (from to entry : List ℕ) (failed : Option FailureName) (words : List (List ℕ)) → AreFailureWords failed words
    → trace_of from to entry failed ≡ Some (Trace trace)
    → trace_in (from ∷ to ∷ entry ∷ words) ≡ Some (Trace trace)
failing trace from to entry None words are is = ap (λ (more : List (List ℕ)). trace_in (from ∷ to ∷ entry ∷ more)) are ∙ is
failing trace from to entry (Some failed) words are is =
    ap (λ (more : List (List ℕ)). trace_in (from ∷ to ∷ entry ∷ more)) are.1
    ∙ ap (option_and_then (λ (name : FailureName). trace_of from to entry (Some name))) are.2 ∙ is

different : (one other : ℕ) → one ≢ other → (one == other) ≡ false
different one other apart = go (one == other) refl
  where
    go : (b : Bool) → (one == other) ≡ b → b ≡ false
    go false is = refl
    go true is = absurd (apart (eqb-true one other is))

task_is : (task : Task) (words : List (List ℕ)) → AreTaskWords task words → task_words words ≡ Some task
task_is (Check name) words are = ap task_words are.0 ∙ rw (long name are.1) refl
task_is (Upgrade name) words are = ap task_words are.0 ∙ rw (long name are.1) refl
task_is (Fabric name) words are = ap task_words are.0 ∙ rw (long name are.1) refl
task_is (OfRouter (Certify router)) words are = ap task_words are.1 ∙ rw are.2 refl
task_is (OfRouter (Table router)) words are = ap task_words are.1 ∙ rw are.2 refl
task_is (OfRouter (Order router)) words are = ap task_words are.1 ∙ rw are.2 refl
task_is (OfRouter (Lfa router)) words are = absurd are
task_is (OfRouter (Trace trace)) words are =
    ap task_words are.are
    ∙ ap (option_map (λ (task : RouterTask). OfRouter task)) (failing trace are.from are.to are.entry trace.failed are.failed are.failed_are
    (trace_is trace are.from are.to are.entry are.from_is are.to_is are.entry_is))
task_is (OfRouter (Proxy router first second)) words are =
    ap task_words are.are ∙ rw (are.router_is, are.first_is, are.second_is, different first second are.different) refl

profile_word : (profile : Option (List ℕ)) (word : List ℕ) → NamesProfile profile word → (profile_name word ≡ profile) × (nat_lt 0 (length word) ≡ true)
profile_word None word is = (ap profile_name is, ap (λ (w : List ℕ). nat_lt 0 (length w)) is)
profile_word (Some name) word is = (ap profile_name is.0 ∙ go (bytes_eq name (codes "-")) refl, ap (λ (w : List ℕ). nat_lt 0 (length w)) is.0 ∙ long name is.2)
  where
    go : (b : Bool) → bytes_eq name (codes "-") ≡ b → (if b then None else Some name) ≡ Some name
    go false same = refl
    go true same = absurd (is.1 ((bytes_eq-Decides name (codes "-")).0 same))

under_profile : (form : FileForm) (words : List (List ℕ)) → AreWordsUnderProfile form words → task_form_of words ≡ Some form
under_profile form words are =
    let profile = profile_word form.profile are.profile are.profile_is in
    ap task_form_of are.are
    ∙ rw (long form.database are.named, profile.1, profile.0, task_is form.task (are.command ∷ are.more) are.task_is) refl

-- words that name no task under a profile
no_task : (b : Bool) (make : Task → FileForm) → (if b then option_map make None else None) ≡ None
no_task true make = refl
no_task false make = refl

lfa_is : (form : FileForm) (words : List (List ℕ)) → AreLfaWords form words → file_form_of words ≡ Some form
lfa_is form words are =
    ap file_form_of are.are
    ∙ rw (no_task (nat_lt 0 (length form.database) && nat_lt 0 (length are.address)) (λ task. record { database = form.database; profile = profile_name are.address; task = task }))
    (rw (long form.database are.named, are.router_is, are.no_profile, are.task_is) refl)

nodes_are : (word : List ℕ) (nodes : ℕ) → number_in word ≡ Some nodes → IsNetworkSize nodes → nodes_in word ≡ Some nodes
nodes_are word nodes is within = rw (is, le 4 nodes within.0, le nodes 2048 within.1) refl
  where
    le : (m n : ℕ) → m ≤ n → nat_le m n ≡ true
    le m n low = le-leb m n low

pub form_is : (form : Form) (words : List (List ℕ)) → AreWordsOf form words → form_of words ≡ Some form
form_is (OfFiles form) words (inl are) = rw (under_profile form words are) refl
form_is (OfFiles form) words (inr are) = rw (lfa_is form words are) refl
form_is (Survey number nodes) words are =
    ap form_of are.are
    ∙ rw (no_task (nat_lt 0 (length are.seed) && nat_lt 0 (length are.size)) (λ task. record { database = are.seed; profile = profile_name are.size; task = task }))
    (rw (are.number_is, nodes_are are.size nodes are.nodes_are are.within) refl)
form_is (Flood form) words are =
    let profile = profile_word form.profile are.profile are.profile_is in
    ap form_of are.are
    ∙ rw (no_task (nat_lt 0 (length form.updates) && nat_lt 0 (length are.profile)) (λ task. record { database = form.updates; profile = profile_name are.profile; task = task }))
    (rw (long form.updates are.named, profile.1, long form.script are.script_named, profile.0) refl)
