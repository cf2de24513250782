-- Parts that are put at the end of a text, one after another.
use Rattle.std.proofs.Common.{◌≡◌, ◌++◌, ℕ, List}
use Rattle.text_parts.proofs.Adding.{joined}

-- the parts of the first line, one after another
pub head_joined : (before m1 m2 m3 m4 m5 m6 m7 m8 m9 p1 p2 p3 p4 p5 p6 p7 p8 p9 : List ℕ)
    → m1 ≡ before ++ p1 → m2 ≡ m1 ++ p2 → m3 ≡ m2 ++ p3 → m4 ≡ m3 ++ p4 → m5 ≡ m4 ++ p5 → m6 ≡ m5 ++ p6 → m7 ≡ m6 ++ p7 → m8 ≡ m7 ++ p8 → m9 ≡ m8 ++ p9
    → m9 ≡ before ++ (p1 ++ p2 ++ p3 ++ p4 ++ p5 ++ p6 ++ p7 ++ p8 ++ p9)
head_joined before m1 m2 m3 m4 m5 m6 m7 m8 m9 p1 p2 p3 p4 p5 p6 p7 p8 p9 e1 e2 e3 e4 e5 e6 e7 e8 e9 =
    joined before _ p9 m8 m9 (joined before _ p8 m7 m8 (joined before _ p7 m6 m7 (joined before _ p6 m5 m6 (joined before _ p5 m4 m5
    (joined before _ p4 m3 m4 (joined before _ p3 m2 m3 (joined before p1 p2 m1 m2 e1 e2) e3) e4) e5) e6) e7) e8) e9
