-- What a line of a profile file says (its terms: RFC 7812, section 8).
use Rattle.std.specs.Prelude.{ℕ, Bool, ◌==◌, ◌||◌, ◌&&◌, nat_le, nat_lt, codes, List, [], ◌∷◌, Option, Some, None, Result, Ok, Err, if◌then◌else◌}
use Rattle.std.specs.List.{list_all}
use Rattle.std.specs.Option.{option_and_then, option_map_or}
use Rattle.std.specs.Str.{bytes_eq}
use Rattle.text_parts.specs.Spelling.{address_in, number_in}
use Rattle.text_parts.specs.TextLines.{words_of}
use Rattle.mrt_island.specs.declared.profile_error.ProfileKind.{ProfileKind}
use Rattle.mrt_island.specs.declared.profile_error.ProfileKind.TheVariants.{Bytes, Words, Address, Number}
use Rattle.mrt_island.specs.declared.setting.Setting.{Setting}
use Rattle.mrt_island.specs.declared.setting.Setting.TheVariants.{Priority, NoMrt, Ineligible}

-- whether a byte may stand in a line: a tab, or 32 to 126
abbrev pub is_allowed : ℕ → Bool
is_allowed byte = (byte == 9) || (nat_le 32 byte && nat_le byte 126)

-- the number from 0 to 255 that a word spells, if it does
abbrev pub priority_in : List ℕ → Option ℕ
priority_in word = option_and_then (λ number. if nat_lt number 256 then Some number else None) (number_in word)

-- a word that should be an address is one, and what is said of it follows
abbrev pub with_address : List ℕ → (ℕ → Result Setting ProfileKind) → Result Setting ProfileKind
with_address word said = option_map_or said (address_in word) (Err Address)

-- a word that should be a number from 0 to 255 is one, and what is said of it follows
abbrev pub with_priority : List ℕ → (ℕ → Result Setting ProfileKind) → Result Setting ProfileKind
with_priority word said = option_map_or said (priority_in word) (Err Number)

-- what words say, or their first fault: `no-mrt ROUTER`, `priority ROUTER N` or `ineligible ROUTER DATA`
abbrev pub setting_in_words : List (List ℕ) → Result Setting ProfileKind
setting_in_words (command ∷ router ∷ []) =
    if bytes_eq command (codes "no-mrt") then with_address router (λ id. Ok (NoMrt id)) else Err Words
setting_in_words (command ∷ router ∷ last ∷ []) =
    if bytes_eq command (codes "priority") then with_address router (λ id. with_priority last (λ priority. Ok (Priority id priority)))
    else (if bytes_eq command (codes "ineligible") then with_address router (λ id. with_address last (λ link_data. Ok (Ineligible id link_data)))
    else Err Words)
setting_in_words _ = Err Words

-- what a line says, or its first fault that it has without the lines before it
abbrev pub line_setting : List ℕ → Result Setting ProfileKind
line_setting line = if list_all is_allowed line then setting_in_words (words_of line) else Err Bytes
