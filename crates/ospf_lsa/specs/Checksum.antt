-- The Fletcher checksum of an LSA (RFC 2328, section 12.1.7; RFC 905, annex B).
use Rattle.std.specs.Prelude.{ℕ, ◌+◌, ◌-◌, ◌*◌, ◌%◌, Bool, not, ◌&&◌, ◌==◌, List, [], ◌∷◌, length, if◌then◌else◌}

-- the two sums after these bytes, where they were these before: with each byte the first grows by the byte, then the
-- second by the first, both modulo 255
abbrev pub sums_from : ℕ → ℕ → List ℕ → ℕ × ℕ
sums_from c0 c1 [] = (c0, c1)
sums_from c0 c1 (byte ∷ bytes) = sums_from ((c0 + byte) % 255) ((c1 + (c0 + byte) % 255) % 255) bytes

-- the two sums of these bytes, that begin with 0
abbrev pub sums_of : List ℕ → ℕ × ℕ
sums_of bytes = sums_from 0 0 bytes

-- a good checksum: of the bytes that it covers, its field among them, both sums are 0, and the field is not 0
unfoldable pub is_good : List ℕ → ℕ → Bool
is_good covered checksum = ((sums_of covered).0 == 0) && (((sums_of covered).1 == 0) && not (checksum == 0))

-- a check byte: a number modulo 255, where 0 is written as 255
abbrev pub check_byte : ℕ → ℕ
check_byte number = if number % 255 == 0 then 255 else number % 255

-- the first byte of the checksum field of so many covered bytes, by the two sums of these with the field taken as 0:
-- (count - 15) * first - second modulo 255, where 255 less a sum stands for its negative
abbrev pub first_check : ℕ → ℕ × ℕ → ℕ
first_check count sums = check_byte ((count - 15) * sums.0 + (255 - sums.1))

-- the second byte of that field: second - (count - 14) * first modulo 255
abbrev pub second_check : ℕ → ℕ × ℕ → ℕ
second_check count sums = check_byte (sums.1 + (count - 14) * (255 - sums.0))

-- the checksum of these bytes, in which its field is taken as 0
unfoldable pub fresh_checksum : List ℕ → ℕ
fresh_checksum covered =
    256 * first_check (length covered) (sums_of covered) + second_check (length covered) (sums_of covered)
