-- The first field of a certificate file that is not allowed.
use Rattle.std.specs.Prelude.{ℕ, ◌+◌, nat_lt, List, [], ◌∷◌, length, take, drop, Option, Some, None, if◌then◌else◌}
use Rattle.std.specs.Int.{byte_len, from_be_bytes}
use Rattle.cert_format.specs.declared.error.CertKind.{CertKind}
use Rattle.cert_format.specs.declared.error.CertKind.TheVariants.{Truncated, Trailing}
use Rattle.cert_format.specs.Layout.{Field, Form, allows, End, Then, Fails, cert_form}

-- the field's number, which the bytes begin with
abbrev pub field_value : Field → List ℕ → ℕ
field_value field bytes = from_be_bytes field.width (take (byte_len field.width) bytes)

-- of bytes that are to have this form, and their first one's place: the place of the first field that is not allowed, and
-- the fault; after the last field nothing is left (to be unfolded field by field)
unfoldable pub fault_in : Form → ℕ → List ℕ → Option (ℕ × CertKind)
fault_in End at [] = None
fault_in End at (byte ∷ bytes) = Some (at, Trailing)
fault_in (Then field next) at bytes =
    if nat_lt (length bytes) (byte_len field.width) then Some (at, Truncated)
    else (if allows field (field_value field bytes)
    then fault_in (next (field_value field bytes)) (at + byte_len field.width) (drop (byte_len field.width) bytes)
    else Some (at, field.fault))
fault_in (Fails place fault) at bytes = Some (place, fault)

-- of a whole file
abbrev pub first_fault : List ℕ → Option (ℕ × CertKind)
first_fault bytes = fault_in cert_form 0 bytes
