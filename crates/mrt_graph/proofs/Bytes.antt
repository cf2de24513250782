-- Lists of bytes.
use Rattle.std.proofs.Common.{◌+◌, ◌<◌, ℕ, List, get_or, drop, sym, subst}
use Rattle.std.proofs.lemmas.List.{get_or-drop}

-- each number of a list is a byte
abbrev pub IsBytes : List ℕ → Type 0
IsBytes bytes = (i : ℕ) → get_or bytes i 0 < 256

-- what is left of bytes is bytes
pub bytes_after : (n : ℕ) (bytes : List ℕ) → IsBytes bytes → IsBytes (drop n bytes)
bytes_after n bytes are i = subst (λ (b : ℕ). b < 256) (sym (get_or-drop n bytes i 0)) (are (n + i))
