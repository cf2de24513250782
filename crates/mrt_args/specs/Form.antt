-- The forms of the words: what each asks for, and how the words are read.
use Rattle.std.specs.Prelude.{◌&&◌, ◌==◌, ◌≢◌, ◌≤◌, ℕ, List, [], ◌∷◌, Option, Some, None}
use Rattle.std.specs.Prelude.{codes, length, nat_le, nat_lt, if◌then◌else◌}
use Rattle.std.specs.Option.{option_and_then, option_map, option_or}
use Rattle.std.specs.Str.{bytes_eq}
use Rattle.fabric_script.specs.declared.event.FailureName.{FailureName}
use Rattle.fabric_script.specs.Names.{failure_in, node_in}
use Rattle.fabric_script.specs.ScriptLines.{entry_in}
use Rattle.text_parts.specs.Spelling.{address_in, number_in}
use Rattle.mrt_args.specs.declared.form.FileForm.{FileForm}
use Rattle.mrt_args.specs.declared.form.FloodForm.{FloodForm}
use Rattle.mrt_args.specs.declared.form.Form.{Form}
use Rattle.mrt_args.specs.declared.form.Form.TheVariants.{OfFiles, Survey, Flood}
use Rattle.mrt_args.specs.declared.task.RouterTask.{RouterTask}
use Rattle.mrt_args.specs.declared.task.RouterTask.TheVariants.{Certify, Table, Trace, Lfa, Order, Proxy}
use Rattle.mrt_args.specs.declared.task.Task.{Task as TaskOver}
use Rattle.mrt_args.specs.declared.task.Task.TheVariants.{Check, Upgrade, Fabric, OfRouter}

-- what is asked of a database, a certificate or a script by the name of its file
abbrev pub Task : Type 0
Task = TaskOver (List ℕ) (List ℕ)

-- the task asks for the verdict on a certificate
abbrev pub AsksVerdictTask : Task → Type 0
AsksVerdictTask (Check certificate) = Unit {0}
AsksVerdictTask (Upgrade certificate) = Unit {0}
AsksVerdictTask _ = ⊥

-- the form asks for the verdict on a certificate
abbrev pub AsksVerdict : Form → Type 0
AsksVerdict (OfFiles form) = AsksVerdictTask form.task
AsksVerdict _ = ⊥

-- the form is a survey
abbrev pub IsSurvey : Form → Type 0
IsSurvey (Survey number nodes) = Unit {0}
IsSurvey _ = ⊥

-- a network of so many routers can be made
abbrev pub IsNetworkSize : ℕ → Type 0
IsNetworkSize nodes = (4 ≤ nodes) × (nodes ≤ 2048)

-- the two routers of a prefix differ
abbrev pub IsRouterTaskWithin : RouterTask → Type 0
IsRouterTaskWithin (Proxy router first second) = first ≢ second
IsRouterTaskWithin _ = Unit {0}

abbrev pub IsTaskWithin : Task → Type 0
IsTaskWithin (OfRouter asked) = IsRouterTaskWithin asked
IsTaskWithin _ = Unit {0}

-- a survey is of a network that can be made, and a task is as it has to be
abbrev pub IsWithin : Form → Type 0
IsWithin (OfFiles form) = IsTaskWithin form.task
IsWithin (Survey number nodes) = IsNetworkSize nodes
IsWithin (Flood form) = Unit {0}

-- the name of a profile; `-` names none
abbrev pub profile_name : List ℕ → Option (List ℕ)
profile_name word = if bytes_eq word (codes "-") then None else Some word

-- the name of a file, which is not empty
abbrev pub name_in : List (List ℕ) → Option (List ℕ)
name_in (name ∷ []) = if nat_lt 0 (length name) then Some name else None
name_in _ = None

-- a router's address
abbrev pub router_in : List (List ℕ) → Option ℕ
router_in (router ∷ []) = address_in router
router_in _ = None

-- from a router to a node, how a packet enters, then nothing or what has failed
abbrev pub trace_of : List ℕ → List ℕ → List ℕ → Option FailureName → Option RouterTask
trace_of from to entry failed =
    option_and_then (λ router. option_and_then (λ node. option_map (λ how. Trace (record { from = router; to = node; entry = how; failed = failed }))
    (entry_in entry)) (node_in to)) (address_in from)

abbrev pub trace_in : List (List ℕ) → Option RouterTask
trace_in (from ∷ to ∷ entry ∷ []) = trace_of from to entry None
trace_in (from ∷ to ∷ entry ∷ failed ∷ []) = option_and_then (λ name. trace_of from to entry (Some name)) (failure_in failed)
trace_in _ = None

-- the address of a router, and those of two others, which differ
abbrev pub proxy_in : List (List ℕ) → Option RouterTask
proxy_in (router_word ∷ first_word ∷ second_word ∷ []) =
    option_and_then (λ router. option_and_then (λ first. option_and_then
    (λ second. if first == second then None else Some (Proxy router first second))
    (address_in second_word)) (address_in first_word)) (address_in router_word)
proxy_in _ = None

-- what follows the names of a database and of a profile, by the command: the tasks that name a file, and those that name none
abbrev pub file_task_in : List ℕ → List (List ℕ) → Option Task
file_task_in command words =
    if bytes_eq command (codes "check") then option_map (λ certificate. Check certificate) (name_in words)
    else (if bytes_eq command (codes "upgrade") then option_map (λ certificate. Upgrade certificate) (name_in words)
    else (if bytes_eq command (codes "fabric") then option_map (λ script. Fabric script) (name_in words) else None))

abbrev pub router_task_in : List ℕ → List (List ℕ) → Option RouterTask
router_task_in command words =
    if bytes_eq command (codes "certify") then option_map (λ router. Certify router) (router_in words)
    else (if bytes_eq command (codes "table") then option_map (λ router. Table router) (router_in words)
    else (if bytes_eq command (codes "order") then option_map (λ router. Order router) (router_in words)
    else (if bytes_eq command (codes "trace") then trace_in words
    else (if bytes_eq command (codes "proxy") then proxy_in words else None))))

abbrev pub task_in : List ℕ → List (List ℕ) → Option Task
task_in command words =
    option_or (file_task_in command words) (option_map (λ task. OfRouter task) (router_task_in command words))

-- a command, the names of a database and of a profile, neither of them empty, and what else the task has
abbrev pub task_form_of : List (List ℕ) → Option FileForm
task_form_of (command ∷ database ∷ profile ∷ words) =
    if nat_lt 0 (length database) && nat_lt 0 (length profile)
    then option_map (λ task. record { database = database; profile = profile_name profile; task = task }) (task_in command words)
    else None
task_form_of _ = None

-- `lfa DB ROUTER`: it reads no profile
abbrev pub lfa_of : List (List ℕ) → Option FileForm
lfa_of (command ∷ database ∷ router ∷ []) =
    if bytes_eq command (codes "lfa") && nat_lt 0 (length database)
    then option_map (λ number. record { database = database; profile = None; task = OfRouter (Lfa number) }) (address_in router)
    else None
lfa_of _ = None

-- a form over files
abbrev pub file_form_of : List (List ℕ) → Option FileForm
file_form_of words = option_or (task_form_of words) (lfa_of words)

-- how many routers a network is to have, from 4 to 2,048
abbrev pub nodes_in : List ℕ → Option ℕ
nodes_in word =
    option_and_then (λ nodes. if nat_le 4 nodes && nat_le nodes 2048 then Some nodes else None) (number_in word)

-- `survey NUMBER NODES`
abbrev pub survey_of : List (List ℕ) → Option Form
survey_of (command ∷ number ∷ nodes ∷ []) =
    if bytes_eq command (codes "survey")
    then option_and_then (λ seed. option_map (λ count. Survey seed count) (nodes_in nodes)) (number_in number)
    else None
survey_of _ = None

-- `flood UPDATES PROFILE SCRIPT`; no name is empty
abbrev pub flood_of : List (List ℕ) → Option FloodForm
flood_of (command ∷ updates ∷ profile ∷ script ∷ []) =
    if bytes_eq command (codes "flood") && nat_lt 0 (length updates) && nat_lt 0 (length profile) && nat_lt 0 (length script)
    then Some (record { updates = updates; profile = profile_name profile; script = script })
    else None
flood_of _ = None

-- a form that names no database: a survey, or one over packets
abbrev pub other_form_of : List (List ℕ) → Option Form
other_form_of words = option_or (survey_of words) (option_map (λ form. Flood form) (flood_of words))

-- a form over files, or another
abbrev pub form_of : List (List ℕ) → Option Form
form_of words = option_or (option_map (λ form. OfFiles form) (file_form_of words)) (other_form_of words)
