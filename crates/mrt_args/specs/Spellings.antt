-- The table of the forms: the words that spell each of them.
use Rattle.std.specs.Prelude.{◌≡◌, ◌≢◌, ◌⊎◌, ℕ, List, [], ◌∷◌, Option, Some, None, codes}
use Rattle.fabric_script.specs.declared.event.FailureName.{FailureName}
use Rattle.fabric_script.specs.declared.trace.Trace.{Trace as PacketTrace}
use Rattle.fabric_script.specs.Names.{failure_in, node_in}
use Rattle.fabric_script.specs.ScriptLines.{entry_in}
use Rattle.text_parts.specs.Spelling.{address_in, number_in}
use Rattle.mrt_args.specs.declared.form.FileForm.{FileForm}
use Rattle.mrt_args.specs.declared.form.FloodForm.{FloodForm}
use Rattle.mrt_args.specs.declared.form.Form.{Form}
use Rattle.mrt_args.specs.declared.form.Form.TheVariants.{OfFiles, Survey, Flood}
use Rattle.mrt_args.specs.declared.task.RouterTask.TheVariants.{Certify, Table, Trace, Lfa, Order, Proxy}
use Rattle.mrt_args.specs.declared.task.Task.TheVariants.{Check, Fabric, Upgrade, OfRouter}
use Rattle.mrt_args.specs.Form.{Task, IsNetworkSize}

-- the word stands for a profile: its name, which is not empty, or `-` for none
abbrev pub NamesProfile : Option (List ℕ) → List ℕ → Type 0
NamesProfile None word = word ≡ codes "-"
NamesProfile (Some name) word = (word ≡ name) × (name ≢ codes "-") × (name ≢ [])

-- a command and a file's name, which is not empty
abbrev pub AreNameWords : List ℕ → List ℕ → List (List ℕ) → Type 0
AreNameWords command name words = (words ≡ command ∷ name ∷ []) × (name ≢ [])

-- a command and a router's address
abbrev pub AreRouterWords : List ℕ → ℕ → List (List ℕ) → Type 0
AreRouterWords command router words =
    (address : List ℕ) × (words ≡ command ∷ address ∷ []) × (address_in address ≡ Some router)

-- what has failed, if anything has
abbrev pub AreFailureWords : Option FailureName → List (List ℕ) → Type 0
AreFailureWords None words = words ≡ []
AreFailureWords (Some failed) words = (name : List ℕ) × (words ≡ name ∷ []) × (failure_in name ≡ Some failed)

-- `trace FROM TO ENTRY`, then nothing or what has failed
pub record AreTraceWords (trace : PacketTrace) (words : List (List ℕ)) : Type 0 where
  pub from : List ℕ
  pub to : List ℕ
  pub entry : List ℕ
  pub failed : List (List ℕ)
  pub are : words ≡ codes "trace" ∷ from ∷ to ∷ entry ∷ failed
  pub from_is : address_in from ≡ Some trace.from
  pub to_is : node_in to ≡ Some trace.to
  pub entry_is : entry_in entry ≡ Some trace.entry
  pub failed_are : AreFailureWords trace.failed failed

-- `proxy ROUTER A B`, of two different routers A and B
pub record AreProxyWords (router first second : ℕ) (words : List (List ℕ)) : Type 0 where
  pub router_word : List ℕ
  pub first_word : List ℕ
  pub second_word : List ℕ
  pub are : words ≡ codes "proxy" ∷ router_word ∷ first_word ∷ second_word ∷ []
  pub router_is : address_in router_word ≡ Some router
  pub first_is : address_in first_word ≡ Some first
  pub second_is : address_in second_word ≡ Some second
  pub different : first ≢ second

-- the words of a task, without the names of the database and of the profile; `lfa` has no profile
abbrev pub AreTaskWords : Task → List (List ℕ) → Type 0
AreTaskWords (Check certificate) words = AreNameWords (codes "check") certificate words
AreTaskWords (OfRouter (Certify router)) words = AreRouterWords (codes "certify") router words
AreTaskWords (OfRouter (Table router)) words = AreRouterWords (codes "table") router words
AreTaskWords (OfRouter (Trace trace)) words = AreTraceWords trace words
AreTaskWords (Fabric script) words = AreNameWords (codes "fabric") script words
AreTaskWords (Upgrade certificate) words = AreNameWords (codes "upgrade") certificate words
AreTaskWords (OfRouter (Lfa router)) words = ⊥
AreTaskWords (OfRouter (Order router)) words = AreRouterWords (codes "order") router words
AreTaskWords (OfRouter (Proxy router first second)) words = AreProxyWords router first second words

-- the command, the names of the database and of the profile, and what else the task has; no name is empty
pub record AreWordsUnderProfile (form : FileForm) (words : List (List ℕ)) : Type 0 where
  pub command : List ℕ
  pub profile : List ℕ
  pub more : List (List ℕ)
  pub are : words ≡ command ∷ form.database ∷ profile ∷ more
  pub named : form.database ≢ []
  pub profile_is : NamesProfile form.profile profile
  pub task_is : AreTaskWords form.task (command ∷ more)

-- `lfa DB ROUTER`
pub record AreLfaWords (form : FileForm) (words : List (List ℕ)) : Type 0 where
  pub router : ℕ
  pub address : List ℕ
  pub are : words ≡ codes "lfa" ∷ form.database ∷ address ∷ []
  pub named : form.database ≢ []
  pub no_profile : form.profile ≡ None
  pub task_is : form.task ≡ OfRouter (Lfa router)
  pub router_is : address_in address ≡ Some router

-- `survey NUMBER NODES`, of a size that a network can have
pub record AreSurveyWords (number nodes : ℕ) (words : List (List ℕ)) : Type 0 where
  pub seed : List ℕ
  pub size : List ℕ
  pub are : words ≡ codes "survey" ∷ seed ∷ size ∷ []
  pub number_is : number_in seed ≡ Some number
  pub nodes_are : number_in size ≡ Some nodes
  pub within : IsNetworkSize nodes

-- `flood UPDATES PROFILE SCRIPT`
pub record AreFloodWords (form : FloodForm) (words : List (List ℕ)) : Type 0 where
  pub profile : List ℕ
  pub are : words ≡ codes "flood" ∷ form.updates ∷ profile ∷ form.script ∷ []
  pub named : form.updates ≢ []
  pub profile_is : NamesProfile form.profile profile
  pub script_named : form.script ≢ []

-- the words spell the form
abbrev pub AreWordsOf : Form → List (List ℕ) → Type 0
AreWordsOf (OfFiles form) words = AreWordsUnderProfile form words ⊎ AreLfaWords form words
AreWordsOf (Survey number nodes) words = AreSurveyWords number nodes words
AreWordsOf (Flood form) words = AreFloodWords form words
