-- There is room for at least one packet.
use Rattle.std.proofs.Common.{◌≡◌, ◌≤◌, ℕ, Bool, true, false, List, [], ◌∷◌, Option, Some, None, arith, refl, subst, inl, inr}
use Rattle.std.specs.Prelude.{IfOk, Result, Ok, Err, codes, nat_lt, if◌then◌else◌}
use Rattle.std.specs.Option.{option_and_then, option_map}
use Rattle.std.specs.Str.{bytes_eq}
use Rattle.std.proofs.lemmas.Bool.{cases_Bool, ltb-true}
use Rattle.std.proofs.lemmas.Option.{none-some, same_Some}
use Rattle.text_parts.specs.Spelling.{address_in}
use Rattle.text_parts.specs.TextLines.{words_of}
use Rattle.fabric_script.specs.declared.line.Start.{Start}
use Rattle.fabric_script.specs.declared.script.Script.{Script}
use Rattle.fabric_script.specs.declared.script_error.ScriptError.{ScriptError}
use Rattle.fabric_script.specs.ScriptFaults.{IsScript}
use Rattle.fabric_script.specs.ScriptLines.{packet_in, room_in, start_in_words}

least_room : (number : Option ℕ) (room : ℕ) → option_and_then (λ n. if nat_lt 0 n then Some n else None) number ≡ Some room
    → 1 ≤ room
least_room None room is = absurd (none-some room is)
least_room (Some number) room is = elim (cases_Bool (nat_lt 0 number)) [
  | inl some ↦
      let same : number ≡ room = same_Some number room (rw some at is) in
      omega (arith, ltb-true 0 number some, same)
  | inr none ↦ absurd (none-some room (rw none at is))
]

-- a first line with this router and this room
abbrev start_with : ℕ → ℕ → Start
start_with router room = record { router = router; room = room }

least_start : (begins : Bool) (router room : Option ℕ) (start : Start)
    → (if begins then option_and_then (λ id. option_map (λ number. start_with id number) room) router else None) ≡ Some start
    → ((number : ℕ) → room ≡ Some number → 1 ≤ number) → 1 ≤ start.room
least_start false router room start is least = absurd (none-some start is)
least_start true None room start is least = absurd (none-some start is)
least_start true (Some id) None start is least = absurd (none-some start is)
least_start true (Some id) (Some number) start is least =
    let same : start_with id number ≡ start = same_Some (start_with id number) start is in
    subst (λ (s : Start). 1 ≤ s.room) same (least number refl)

in_words : (words : List (List ℕ)) (start : Start) → start_in_words words ≡ Some start → 1 ≤ start.room
in_words [] start is = absurd (none-some start is)
in_words (a ∷ []) start is = absurd (none-some start is)
in_words (a ∷ b ∷ []) start is = absurd (none-some start is)
in_words (command ∷ router ∷ room ∷ []) start is =
    least_start (bytes_eq command (codes "island")) (address_in router) (room_in room) start is
    (λ number there. least_room (packet_in room) number there)
in_words (a ∷ b ∷ c ∷ d ∷ more) start is = absurd (none-some start is)

script_has_room : (lines : List (List ℕ)) (script : Script) → IsScript lines script → 1 ≤ script.room
script_has_room lines script is = in_words (words_of is.first) (start_with script.router script.room) is.start

pub read_has_room : (lines : List (List ℕ)) (read : Result Script ScriptError) → IfOk read (IsScript lines)
    → IfOk read (λ script. 1 ≤ script.room)
read_has_room lines (Ok script) is = script_has_room lines script is
read_has_room lines (Err error) is = tt
