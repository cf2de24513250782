-- What a line of a script of deliveries says.
use Rattle.std.specs.Prelude.{◌^◌, ℕ, List, [], ◌∷◌, Option, Some, None, codes, nat_le, nat_lt, if◌then◌else◌}
use Rattle.std.specs.Option.{option_and_then, option_map}
use Rattle.std.specs.Str.{bytes_eq}
use Rattle.text_parts.specs.Spelling.{address_in, number_in}
use Rattle.text_parts.specs.TextLines.{words_of}
use Rattle.flood.specs.declared.script.FloodLine.{FloodLine}
use Rattle.flood.specs.declared.script.FloodLine.TheVariants.{Deliver, Same}

-- the number from 0 to 65,535 that a word spells, if it does
abbrev pub number_of_router : List ℕ → Option ℕ
number_of_router word =
    option_and_then (λ number. if nat_lt number (2 ^ 16) then Some number else None) (number_in word)

-- the number from 1 to 64 that a word spells, if it does
abbrev pub count_in : List ℕ → Option ℕ
count_in word =
    option_and_then (λ count. if nat_lt 0 count then (if nat_le count 64 then Some count else None) else None)
    (number_of_router word)

-- what the words of the first line say: `routers N`, with N from 1 to 64
abbrev pub routers_in_words : List (List ℕ) → Option ℕ
routers_in_words (command ∷ count ∷ []) = if bytes_eq command (codes "routers") then count_in count else None
routers_in_words _ = None

-- a packet, with a number of 32 bits, to a router
abbrev pub delivery_in : List ℕ → List ℕ → Option FloodLine
delivery_in packet router =
    option_and_then (λ p. option_map (λ r. Deliver p r) (number_of_router router)) (number_in packet)

-- two routers, and the address of a third
abbrev pub comparison_in : List ℕ → List ℕ → List ℕ → Option FloodLine
comparison_in one other router =
    option_and_then
    (λ r. option_and_then (λ q. option_map (λ id. Same r q id) (address_in router)) (number_of_router other))
    (number_of_router one)

-- what the words of any later line say: `deliver P R`, or `same R Q ROUTER`
abbrev pub line_in_words : List (List ℕ) → Option FloodLine
line_in_words (command ∷ packet ∷ router ∷ []) =
    if bytes_eq command (codes "deliver") then delivery_in packet router else None
line_in_words (command ∷ one ∷ other ∷ router ∷ []) =
    if bytes_eq command (codes "same") then comparison_in one other router else None
line_in_words _ = None

-- of a line
abbrev pub routers_in : List ℕ → Option ℕ
routers_in line = routers_in_words (words_of line)

abbrev pub line_in : List ℕ → Option FloodLine
line_in line = line_in_words (words_of line)
