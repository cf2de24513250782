-- What a line of a script says.
use Rattle.std.specs.Prelude.{◌^◌, ℕ, List, [], ◌∷◌, Option, Some, None, codes, nat_lt, if◌then◌else◌}
use Rattle.std.specs.Option.{option_and_then, option_map}
use Rattle.std.specs.Str.{bytes_eq}
use Rattle.text_parts.specs.Spelling.{address_in, number_in}
use Rattle.text_parts.specs.TextLines.{words_of}
use Rattle.fabric_script.specs.declared.entry.Entry.{Entry}
use Rattle.fabric_script.specs.declared.entry.Entry.TheVariants.{Blue, Red, Repair}
use Rattle.fabric_script.specs.declared.event.ScriptEvent.{ScriptEvent}
use Rattle.fabric_script.specs.declared.event.ScriptEvent.TheVariants.{Fail, Inject, Step}
use Rattle.fabric_script.specs.declared.line.Start.{Start}
use Rattle.fabric_script.specs.Names.{failure_in, node_in}

-- the number from 0 to 65,535 that a word spells, if it does
abbrev pub packet_in : List ℕ → Option ℕ
packet_in word = option_and_then (λ number. if nat_lt number (2 ^ 16) then Some number else None) (number_in word)

-- the same, from 1
abbrev pub room_in : List ℕ → Option ℕ
room_in word = option_and_then (λ number. if nat_lt 0 number then Some number else None) (packet_in word)

-- how a packet enters, as a word says it
abbrev pub entry_in : List ℕ → Option Entry
entry_in word =
    if bytes_eq word (codes "blue") then Some Blue
    else (if bytes_eq word (codes "red") then Some Red else (if bytes_eq word (codes "repair") then Some Repair else None))

-- what the words of the first line say: `island ROUTER ROOM`
abbrev pub start_in_words : List (List ℕ) → Option Start
start_in_words (command ∷ router ∷ room ∷ []) =
    if bytes_eq command (codes "island")
    then option_and_then (λ id. option_map (λ number. record { router = id; room = number }) (room_in room)) (address_in router)
    else None
start_in_words _ = None

-- the packet that enters at a router, for a node
abbrev pub injection_in : List ℕ → List ℕ → List ℕ → Option ScriptEvent
injection_in router to entry =
    option_and_then (λ id. option_and_then (λ node. option_map (λ how. Inject id node how) (entry_in entry)) (node_in to))
    (address_in router)

-- what the words of any later line say: `inject ROUTER NODE` and how, `step N`, or `fail` and a name
abbrev pub event_in_words : List (List ℕ) → Option ScriptEvent
event_in_words (command ∷ word ∷ []) =
    if bytes_eq command (codes "step") then option_map (λ packet. Step packet) (packet_in word)
    else (if bytes_eq command (codes "fail") then option_map (λ failed. Fail failed) (failure_in word) else None)
event_in_words (command ∷ router ∷ to ∷ entry ∷ []) =
    if bytes_eq command (codes "inject") then injection_in router to entry else None
event_in_words _ = None

-- of a line
abbrev pub start_in : List ℕ → Option Start
start_in line = start_in_words (words_of line)

abbrev pub event_in : List ℕ → Option ScriptEvent
event_in line = event_in_words (words_of line)
