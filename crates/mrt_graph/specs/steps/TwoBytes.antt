-- A number of sixteen bits as two bytes with the low byte first.
use Rattle.std.specs.Prelude.{◌<◌, ℕ, List, [], ◌∷◌, slice_index_or}
use Rattle.std.specs.Int.{w16, from_le_bytes, to_le_bytes}

-- the number that two bytes are
abbrev pub two_byte_number : ℕ → ℕ → ℕ
two_byte_number low high = from_le_bytes w16 (low ∷ high ∷ [])

-- the byte of a number at a place
abbrev pub byte_of : ℕ → ℕ → ℕ
byte_of number place = slice_index_or (to_le_bytes w16 number) place 0

-- they are bytes
abbrev pub AreBytes : List ℕ → Type 0
AreBytes bytes = (i : ℕ) → slice_index_or bytes i 0 < 256
