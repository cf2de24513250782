-- Parts that are put at the end of a text, one after another.
use Rattle.std.proofs.Common.{◌≡◌, ◌++◌, List, ℕ}
use Rattle.text_parts.proofs.Adding.{joined}

-- four parts
pub four_put : (before m1 m2 m3 m4 p1 p2 p3 p4 : List ℕ) → m1 ≡ before ++ p1 → m2 ≡ m1 ++ p2 → m3 ≡ m2 ++ p3 → m4 ≡ m3 ++ p4
    → m4 ≡ before ++ (p1 ++ (p2 ++ (p3 ++ p4)))
four_put before m1 m2 m3 m4 p1 p2 p3 p4 e1 e2 e3 e4 =
    joined before p1 (p2 ++ (p3 ++ p4)) m1 m4 e1 (joined m1 p2 (p3 ++ p4) m2 m4 e2 (joined m2 p3 p4 m3 m4 e3 e4))
