-- The two sums, in parts.
use Rattle.std.proofs.Common.{◌≡◌, ℕ, zero, suc, ◌+◌, ◌%◌, List, [], ◌∷◌, take, drop, refl, ap, ◌∙◌}
use Rattle.ospf_lsa.specs.Checksum.{sums_from}

-- the sums of a front and then of what is after it are those of all
pub sums_in_parts : (n c0 c1 : ℕ) (bytes : List ℕ)
    → sums_from (sums_from c0 c1 (take n bytes)).0 (sums_from c0 c1 (take n bytes)).1 (drop n bytes)
    ≡ sums_from c0 c1 bytes
sums_in_parts zero c0 c1 bytes = refl
sums_in_parts (suc n) c0 c1 [] = refl
sums_in_parts (suc n) c0 c1 (byte ∷ bytes) = sums_in_parts n ((c0 + byte) % 255) ((c1 + (c0 + byte) % 255) % 255) bytes

-- one more part, as a loop adds it
pub part_added : (n c0 c1 : ℕ) (front rest bytes : List ℕ) (x : ℕ × ℕ) → front ≡ take n bytes → rest ≡ drop n bytes
    → x ≡ sums_from c0 c1 front
    → sums_from x.0 x.1 rest ≡ sums_from c0 c1 bytes
part_added n c0 c1 front rest bytes x is behind added =
    ap (λ (t : List ℕ). sums_from x.0 x.1 t) behind
    ∙ ap (λ (y : ℕ × ℕ). sums_from y.0 y.1 (drop n bytes)) (added ∙ ap (sums_from c0 c1) is)
    ∙ sums_in_parts n c0 c1 bytes
