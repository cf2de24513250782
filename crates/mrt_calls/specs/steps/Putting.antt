-- What a buffer holds after a call.
use Rattle.std.specs.Prelude.{◌≡◌, ◌≤◌, ℕ, List, length, take}

-- a buffer holds these where there is room for them, and this is how many there are
abbrev pub IsHeldIn : {A : Type 0} → List A → ℕ → List A → Type 0
IsHeldIn buffer count them = (count ≡ length them) × (length them ≤ length buffer → take (length them) buffer ≡ them)
