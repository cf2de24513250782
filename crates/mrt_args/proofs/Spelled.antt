-- The form of the words is one that they spell, and it is as it has to be.
use Rattle.std.proofs.Common.{◌≡◌, ◌≢◌, ◌==◌, ℕ, Bool, true, false, List, [], ◌∷◌, Option, Some, None, inl, inr, length, refl, sym, ap, subst}
use Rattle.std.specs.Prelude.{◌&&◌, IfSome, codes, nat_le, nat_lt, if◌then◌else◌}
use Rattle.std.specs.Option.{option_and_then, option_map, option_or}
use Rattle.std.specs.Str.{bytes_eq}
use Rattle.std.proofs.lemmas.Bool.{eqb-false, leb-true}
use Rattle.std.proofs.lemmas.Slice.Eq.{bytes_eq-Decides}
use Rattle.fabric_script.specs.declared.event.FailureName.{FailureName}
use Rattle.fabric_script.specs.Names.{failure_in, node_in}
use Rattle.fabric_script.specs.ScriptLines.{entry_in}
use Rattle.text_parts.specs.Spelling.{address_in, number_in}
use Rattle.mrt_args.specs.declared.form.FileForm.{FileForm}
use Rattle.mrt_args.specs.declared.form.FloodForm.{FloodForm}
use Rattle.mrt_args.specs.declared.form.Form.{Form}
use Rattle.mrt_args.specs.declared.form.Form.TheVariants.{OfFiles, Flood}
use Rattle.mrt_args.specs.declared.task.RouterTask.{RouterTask}
use Rattle.mrt_args.specs.declared.task.RouterTask.TheVariants.{Certify, Table, Order, Proxy}
use Rattle.mrt_args.specs.declared.task.Task.TheVariants.{OfRouter, Check, Fabric, Upgrade}
use Rattle.mrt_args.specs.Form.{Task, IsNetworkSize, IsTaskWithin, file_form_of, file_task_in, flood_of, form_of, lfa_of, name_in, nodes_in, other_form_of, profile_name, proxy_in, router_in, router_task_in, survey_of, task_form_of, task_in, trace_in, trace_of}
use Rattle.mrt_args.specs.Spellings.{AreFailureWords, AreFloodWords, AreNameWords, AreRouterWords, AreTaskWords, AreWordsOf, NamesProfile}

-- a test that holds, and what comes where it does; else what comes next
branch : {A : Type 0} (P : A → Type 0) (b : Bool) (one other : Option A) → (b ≡ true → IfSome one P) → IfSome other P
    → IfSome (if b then one else other) P
branch P true one other first second = first refl
branch P false one other first second = second

made : {A B : Type 0} (P : B → Type 0) (make : A → B) (o : Option A) → ((a : A) → o ≡ Some a → P (make a)) → IfSome (option_map make o) P
made P make None each = tt
made P make (Some a) each = each a refl

next : {A B : Type 0} (P : B → Type 0) (go : A → Option B) (o : Option A) → ((a : A) → o ≡ Some a → IfSome (go a) P)
    → IfSome (option_and_then go o) P
next P go None each = tt
next P go (Some a) each = each a refl

or_else : {A : Type 0} (P : A → Type 0) (one other : Option A) → IfSome one P → IfSome other P → IfSome (option_or one other) P
or_else P None other first second = second
or_else P (Some a) other first second = first

both : (a b : Bool) → (a && b) ≡ true → (a ≡ true) × (b ≡ true)
both true b is = (refl, is)
both false b is = cc

named : (word : List ℕ) → nat_lt 0 (length word) ≡ true → word ≢ []
named [] is = cc
named (byte ∷ bytes) is = λ same. cc

-- a command that is this one, before others
command_is : (command key : List ℕ) (words : List (List ℕ)) → bytes_eq command key ≡ true → command ∷ words ≡ key ∷ words
command_is command key words same = ap (λ (c : List ℕ). c ∷ words) ((bytes_eq-Decides command key).0 same)

name_words : (P : Task → Type 0) (make : List ℕ → Task) (command key : List ℕ) (words : List (List ℕ)) → bytes_eq command key ≡ true
    → ((name : List ℕ) → AreNameWords key name (command ∷ words) → P (make name)) → IfSome (option_map make (name_in words)) P
name_words P make command key [] same each = tt
name_words P make command key (last ∷ []) same each = go (nat_lt 0 (length last)) refl
  where
    go : (b : Bool) → nat_lt 0 (length last) ≡ b → IfSome (option_map make (if b then Some last else None)) P
    go true long = each last (command_is command key (last ∷ []) same, named last long)
    go false short = tt
name_words P make command key (last ∷ more ∷ words) same each = tt

router_words : (P : RouterTask → Type 0) (make : ℕ → RouterTask) (command key : List ℕ) (words : List (List ℕ)) → bytes_eq command key ≡ true
    → ((router : ℕ) → AreRouterWords key router (command ∷ words) → P (make router)) → IfSome (option_map make (router_in words)) P
router_words P make command key [] same each = tt
router_words P make command key (last ∷ []) same each =
    made P make (address_in last) (λ router is. each router (last, command_is command key (last ∷ []) same, is))
router_words P make command key (last ∷ more ∷ words) same each = tt

-- the task of a command and of what follows is one that they spell
abbrev Spelled : List (List ℕ) → Task → Type 0
Spelled words task = AreTaskWords task words

abbrev RouterSpelled : List (List ℕ) → RouterTask → Type 0
RouterSpelled words task = AreTaskWords (OfRouter task) words

file_task_spelled : (command : List ℕ) (words : List (List ℕ)) → IfSome (file_task_in command words) (Spelled (command ∷ words))
file_task_spelled command words =
    let P = Spelled (command ∷ words) in
    branch P (bytes_eq command (codes "check")) _ _
    (λ same. name_words P (λ certificate. Check certificate) command (codes "check") words same (λ name are. are))
    (branch P (bytes_eq command (codes "upgrade")) _ _
    (λ same. name_words P (λ certificate. Upgrade certificate) command (codes "upgrade") words same (λ name are. are))
    (branch P (bytes_eq command (codes "fabric")) _ _
    (λ same. name_words P (λ script. Fabric script) command (codes "fabric") words same (λ name are. are)) tt))

trace_of_spelled : (command from to entry : List ℕ) (failed : Option FailureName) (words : List (List ℕ))
    → bytes_eq command (codes "trace") ≡ true → AreFailureWords failed words
    → IfSome (trace_of from to entry failed) (RouterSpelled (command ∷ from ∷ to ∷ entry ∷ words))
trace_of_spelled command from to entry failed words same fails =
    let P = RouterSpelled (command ∷ from ∷ to ∷ entry ∷ words) in
    next P _ (address_in from)
    (λ router from_is. next P _ (node_in to)
    (λ node to_is. made P _ (entry_in entry)
    (λ how entry_is. record {
      from = from;
      to = to;
      entry = entry;
      failed = words;
      are = command_is command (codes "trace") (from ∷ to ∷ entry ∷ words) same;
      from_is = from_is;
      to_is = to_is;
      entry_is = entry_is;
      failed_are = fails;
    })))

trace_spelled : (command : List ℕ) (words : List (List ℕ)) → bytes_eq command (codes "trace") ≡ true
    → IfSome (trace_in words) (RouterSpelled (command ∷ words))
trace_spelled command [] same = tt
trace_spelled command (from ∷ []) same = tt
trace_spelled command (from ∷ to ∷ []) same = tt
trace_spelled command (from ∷ to ∷ entry ∷ []) same = trace_of_spelled command from to entry None [] same refl
trace_spelled command (from ∷ to ∷ entry ∷ failed ∷ []) same =
    next (RouterSpelled (command ∷ from ∷ to ∷ entry ∷ failed ∷ [])) _ (failure_in failed)
    (λ name is. trace_of_spelled command from to entry (Some name) (failed ∷ []) same (failed, refl, is))
trace_spelled command (from ∷ to ∷ entry ∷ failed ∷ more ∷ words) same = tt

proxy_spelled : (command : List ℕ) (words : List (List ℕ)) → bytes_eq command (codes "proxy") ≡ true
    → IfSome (proxy_in words) (RouterSpelled (command ∷ words))
proxy_spelled command [] same = tt
proxy_spelled command (router ∷ []) same = tt
proxy_spelled command (router ∷ first ∷ []) same = tt
proxy_spelled command (router_word ∷ first_word ∷ second_word ∷ []) same =
    let P = RouterSpelled (command ∷ router_word ∷ first_word ∷ second_word ∷ []) in
    next P _ (address_in router_word)
    (λ router router_is. next P _ (address_in first_word)
    (λ first first_is. next P _ (address_in second_word)
    (λ second second_is. go router first second router_is first_is second_is (first == second) refl)))
  where
    go : (router first second : ℕ) → address_in router_word ≡ Some router → address_in first_word ≡ Some first
        → address_in second_word ≡ Some second → (b : Bool) → (first == second) ≡ b
        → IfSome (if b then None else Some (Proxy router first second))
        (RouterSpelled (command ∷ router_word ∷ first_word ∷ second_word ∷ []))
    go router first second router_is first_is second_is true is = tt
    go router first second router_is first_is second_is false is = record {
      router_word = router_word;
      first_word = first_word;
      second_word = second_word;
      are = command_is command (codes "proxy") (router_word ∷ first_word ∷ second_word ∷ []) same;
      router_is = router_is;
      first_is = first_is;
      second_is = second_is;
      different = eqb-false first second is;
    }
proxy_spelled command (router ∷ first ∷ second ∷ more ∷ words) same = tt

router_task_spelled : (command : List ℕ) (words : List (List ℕ)) → IfSome (router_task_in command words) (RouterSpelled (command ∷ words))
router_task_spelled command words =
    let P = RouterSpelled (command ∷ words) in
    branch P (bytes_eq command (codes "certify")) _ _
    (λ same. router_words P (λ router. Certify router) command (codes "certify") words same (λ router are. are))
    (branch P (bytes_eq command (codes "table")) _ _
    (λ same. router_words P (λ router. Table router) command (codes "table") words same (λ router are. are))
    (branch P (bytes_eq command (codes "order")) _ _
    (λ same. router_words P (λ router. Order router) command (codes "order") words same (λ router are. are))
    (branch P (bytes_eq command (codes "trace")) _ _ (λ same. trace_spelled command words same)
    (branch P (bytes_eq command (codes "proxy")) _ _ (λ same. proxy_spelled command words same) tt))))

mapped : {A B : Type 0} (P : A → Type 0) (Q : B → Type 0) (make : A → B) (o : Option A) → ((a : A) → P a → Q (make a)) → IfSome o P
    → IfSome (option_map make o) Q
mapped P Q make None each is = tt
mapped P Q make (Some a) each is = each a is

task_spelled : (command : List ℕ) (words : List (List ℕ)) → IfSome (task_in command words) (Spelled (command ∷ words))
task_spelled command words =
    or_else (Spelled (command ∷ words)) (file_task_in command words) (option_map (λ task. OfRouter task) (router_task_in command words))
    (file_task_spelled command words)
    (mapped (RouterSpelled (command ∷ words)) (Spelled (command ∷ words)) (λ task. OfRouter task) (router_task_in command words)
    (λ task are. are) (router_task_spelled command words))

profile_is : (word : List ℕ) → word ≢ [] → NamesProfile (profile_name word) word
profile_is word some = go (bytes_eq word (codes "-")) refl
  where
    go : (b : Bool) → bytes_eq word (codes "-") ≡ b → NamesProfile (if b then None else Some word) word
    go true is = (bytes_eq-Decides word (codes "-")).0 is
    go false is = (refl, λ same. differ ((bytes_eq-Decides word (codes "-")).1 same) is, some)
      where
        differ : bytes_eq word (codes "-") ≡ true → bytes_eq word (codes "-") ≡ false → ⊥
        differ holds fails = cc

-- a form over files is spelled in one of two ways
abbrev FileSpelled : List (List ℕ) → FileForm → Type 0
FileSpelled words form = AreWordsOf (OfFiles form) words

under_profile : (words : List (List ℕ)) → IfSome (task_form_of words) (FileSpelled words)
under_profile [] = tt
under_profile (command ∷ []) = tt
under_profile (command ∷ database ∷ []) = tt
under_profile (command ∷ database ∷ profile ∷ words) =
    let P = FileSpelled (command ∷ database ∷ profile ∷ words) in
    branch P (nat_lt 0 (length database) && nat_lt 0 (length profile)) _ _
    (λ long. let names = both (nat_lt 0 (length database)) (nat_lt 0 (length profile)) long in
    made P _ (task_in command words)
    (λ task is. inl (record {
      command = command;
      profile = profile;
      more = words;
      are = refl;
      named = named database names.0;
      profile_is = profile_is profile (named profile names.1);
      task_is = subst (λ (found : Option Task). IfSome found (Spelled (command ∷ words))) is (task_spelled command words);
    }))) tt

lfa_spelled : (words : List (List ℕ)) → IfSome (lfa_of words) (FileSpelled words)
lfa_spelled [] = tt
lfa_spelled (command ∷ []) = tt
lfa_spelled (command ∷ database ∷ []) = tt
lfa_spelled (command ∷ database ∷ router ∷ []) =
    let P = FileSpelled (command ∷ database ∷ router ∷ []) in
    branch P (bytes_eq command (codes "lfa") && nat_lt 0 (length database)) _ _
    (λ tested. let is = both (bytes_eq command (codes "lfa")) (nat_lt 0 (length database)) tested in
    made P _ (address_in router)
    (λ number router_is. inr (record {
      router = number;
      address = router;
      are = command_is command (codes "lfa") (database ∷ router ∷ []) is.0;
      named = named database is.1;
      no_profile = refl;
      task_is = refl;
      router_is = router_is;
    }))) tt
lfa_spelled (command ∷ database ∷ router ∷ more ∷ words) = tt

nodes_are : (word : List ℕ) (nodes : ℕ) → nodes_in word ≡ Some nodes → (number_in word ≡ Some nodes) × IsNetworkSize nodes
nodes_are word nodes is = go (number_in word) refl is
  where
    go : (found : Option ℕ) → number_in word ≡ found
        → option_and_then (λ (count : ℕ). if nat_le 4 count && nat_le count 2048 then Some count else None) found ≡ Some nodes
        → (number_in word ≡ Some nodes) × IsNetworkSize nodes
    go None there told = cc
    go (Some count) there told = within (nat_le 4 count) (nat_le count 2048) refl refl told
      where
        within : (low high : Bool) → nat_le 4 count ≡ low → nat_le count 2048 ≡ high → (if low && high then Some count else None) ≡ Some nodes
            → (number_in word ≡ Some nodes) × IsNetworkSize nodes
        within false high four most told = cc
        within true false four most told = cc
        within true true four most told =
            let same : count ≡ nodes = same_count told in
            subst (λ (n : ℕ). (number_in word ≡ Some n) × IsNetworkSize n) same (there, (leb-true 4 count four, leb-true count 2048 most))
          where
            same_count : Some count ≡ Some nodes → count ≡ nodes
            same_count told = cc

survey_spelled : (words : List (List ℕ)) → IfSome (survey_of words) (λ form. AreWordsOf form words)
survey_spelled [] = tt
survey_spelled (command ∷ []) = tt
survey_spelled (command ∷ number ∷ []) = tt
survey_spelled (command ∷ number ∷ nodes ∷ []) =
    let P = λ (form : Form). AreWordsOf form (command ∷ number ∷ nodes ∷ []) in
    branch P (bytes_eq command (codes "survey")) _ _
    (λ same. next P _ (number_in number)
    (λ seed number_is. made P _ (nodes_in nodes)
    (λ count is. let of = nodes_are nodes count is in
    record {
      seed = number;
      size = nodes;
      are = command_is command (codes "survey") (number ∷ nodes ∷ []) same;
      number_is = number_is;
      nodes_are = of.0;
      within = of.1;
    }))) tt
survey_spelled (command ∷ number ∷ nodes ∷ more ∷ words) = tt

flood_spelled : (words : List (List ℕ)) → IfSome (flood_of words) (λ form. AreFloodWords form words)
flood_spelled [] = tt
flood_spelled (command ∷ []) = tt
flood_spelled (command ∷ updates ∷ []) = tt
flood_spelled (command ∷ updates ∷ profile ∷ []) = tt
flood_spelled (command ∷ updates ∷ profile ∷ script ∷ []) =
    branch (λ (form : FloodForm). AreFloodWords form (command ∷ updates ∷ profile ∷ script ∷ []))
    (bytes_eq command (codes "flood") && nat_lt 0 (length updates) && nat_lt 0 (length profile) && nat_lt 0 (length script)) _ _
    (λ tested.
    let four = both (bytes_eq command (codes "flood") && nat_lt 0 (length updates) && nat_lt 0 (length profile)) (nat_lt 0 (length script)) tested in
    let three = both (bytes_eq command (codes "flood") && nat_lt 0 (length updates)) (nat_lt 0 (length profile)) four.0 in
    let two = both (bytes_eq command (codes "flood")) (nat_lt 0 (length updates)) three.0 in
    record {
      profile = profile;
      are = command_is command (codes "flood") (updates ∷ profile ∷ script ∷ []) two.0;
      named = named updates two.1;
      profile_is = profile_is profile (named profile three.1);
      script_named = named script four.1;
    }) tt
flood_spelled (command ∷ updates ∷ profile ∷ script ∷ more ∷ words) = tt

pub file_spelled : (words : List (List ℕ)) → IfSome (file_form_of words) (FileSpelled words)
file_spelled words = or_else (FileSpelled words) (task_form_of words) (lfa_of words) (under_profile words) (lfa_spelled words)

pub form_spelled : (words : List (List ℕ)) → IfSome (form_of words) (λ form. AreWordsOf form words)
form_spelled words =
    or_else (λ (form : Form). AreWordsOf form words) (option_map (λ form. OfFiles form) (file_form_of words)) (other_form_of words)
    (mapped (FileSpelled words) (λ (form : Form). AreWordsOf form words) (λ form. OfFiles form) (file_form_of words) (λ form are. are)
    (file_spelled words))
    (or_else (λ (form : Form). AreWordsOf form words) (survey_of words) (option_map (λ form. Flood form) (flood_of words)) (survey_spelled words)
    (mapped (λ (form : FloodForm). AreFloodWords form words) (λ (form : Form). AreWordsOf form words) (λ form. Flood form) (flood_of words)
    (λ form are. are) (flood_spelled words)))

-- a task that is spelled is as it has to be
task_within : (task : Task) (words : List (List ℕ)) → AreTaskWords task words → IsTaskWithin task
task_within (OfRouter (Proxy router first second)) words are = are.different
task_within task words are = tt

spelled_within : (words : List (List ℕ)) (form : FileForm) → FileSpelled words form → IsTaskWithin form.task
spelled_within words form (inl are) = task_within form.task (are.command ∷ are.more) are.task_is
spelled_within words form (inr are) = subst IsTaskWithin (sym are.task_is) tt

pub form_within : (words : List (List ℕ)) → IfSome (file_form_of words) (λ form. IsTaskWithin form.task)
form_within words = within (file_form_of words) (file_spelled words)
  where
    within : (found : Option FileForm) → IfSome found (FileSpelled words) → IfSome found (λ form. IsTaskWithin form.task)
    within None are = tt
    within (Some form) are = spelled_within words form are
