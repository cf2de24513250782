-- Where the two colors lead for one destination, by the tags and the orders of the nodes alone.
use Rattle.std.specs.Prelude.{⊤}
use Rattle.std.proofs.Common.{◌≡◌, ◌≢◌, ◌<◌, ◌≤◌, ◌+◌, ◌-◌, ◌⊎◌, ℕ, inl, inr, refl, arith}
use Rattle.mrt_graph.specs.declared.cert.Color.{Color}
use Rattle.mrt_graph.specs.declared.cert.Color.TheVariants.{Blue, Red}
use Rattle.mrt_graph.specs.declared.cert.Role.{Role}
use Rattle.mrt_graph.specs.declared.cert.Role.TheVariants.{Plain, Closing}
use Rattle.mrt_graph.specs.declared.cert.Tag.{Tag}
use Rattle.mrt_graph.specs.declared.cert.Tag.TheVariants.{Sole, Head, Top, Below, Above, Unordered, Carried}

-- a color leads from a node whose row has the first tag, and which has the first order, to one with the second two
pub data Move : Color → Tag → ℕ → Tag → ℕ → Type 0 where
  BlueHead : (i j : ℕ) → i < j → Move Blue Head i Head j
  BlueTop : (i j : ℕ) → Move Blue Top i Below j
  BlueBelow : (i j : ℕ) → i < j → Move Blue Below i Below j
  BlueAbove : (i j : ℕ) → i < j → Move Blue Above i Above j
  BlueAboveHome : (i j : ℕ) → Move Blue Above i Top j
  BlueUnordered : (i j : ℕ) → j < i → Move Blue Unordered i Unordered j
  BlueUnorderedIn : (i j : ℕ) → Move Blue Unordered i Below j
  BlueUnorderedHome : (i j : ℕ) → Move Blue Unordered i Top j
  RedHead : (i j : ℕ) → j < i → Move Red Head i Head j
  RedTop : (i j : ℕ) → Move Red Top i Above j
  RedBelow : (i j : ℕ) → j < i → Move Red Below i Below j
  RedBelowHome : (i j : ℕ) → Move Red Below i Top j
  RedAbove : (i j : ℕ) → j < i → Move Red Above i Above j
  RedUnordered : (i j : ℕ) → i < j → Move Red Unordered i Unordered j
  RedUnorderedIn : (i j : ℕ) → Move Red Unordered i Above j

-- a color may lead from a node whose row has this tag straight to the destination, over a link of this role
abbrev pub Ends : Color → Tag → Role → Type 0
Ends Blue Head Closing = ⊤
Ends Blue Top Plain = ⊤
Ends Blue Below _ = ⊤
Ends Red Head Plain = ⊤
Ends Red Top Closing = ⊤
Ends Red Above _ = ⊤
Ends _ _ _ = ⊥

-- a number that falls along the moves, where no order is above n
abbrev pub rank : Color → ℕ → Tag → ℕ → ℕ
rank color n Top o = n + 1
rank Blue n Above o = (n + 2) + (n - o)
rank Red n Below o = (n + 2) + o
rank Blue n Unordered o = (n + 2) + o
rank Red n Unordered o = (n + 2) + (n - o)
rank Blue n _ o = n - o
rank Red n _ o = o

-- what a color may meet from a node with the first tag and order: nodes with the second two
abbrev pub Meets : Color → Tag → ℕ → Tag → ℕ → Type 0
Meets Blue Head o Head i = o ≤ i
Meets Blue Top o Top i = ⊤
Meets Blue Top o Below i = ⊤
Meets Blue Below o Below i = o ≤ i
Meets Blue Above o Above i = o ≤ i
Meets Blue Above o Top i = ⊤
Meets Blue Above o Below i = ⊤
Meets Blue Unordered o Unordered i = i ≤ o
Meets Blue Unordered o Top i = ⊤
Meets Blue Unordered o Below i = ⊤
Meets Red Head o Head i = i ≤ o
Meets Red Top o Top i = ⊤
Meets Red Top o Above i = ⊤
Meets Red Below o Below i = i ≤ o
Meets Red Below o Top i = ⊤
Meets Red Below o Above i = ⊤
Meets Red Above o Above i = i ≤ o
Meets Red Unordered o Unordered i = o ≤ i
Meets Red Unordered o Above i = ⊤
Meets _ _ _ _ _ = ⊥

pub rank_falls : {color : Color} {T U : Tag} {i j : ℕ} (n : ℕ) → j ≤ n → Move color T i U j → rank color n U j < rank color n T i
rank_falls n within (BlueHead i j up) = omega arith
rank_falls n within (BlueTop i j) = omega arith
rank_falls n within (BlueBelow i j up) = omega arith
rank_falls n within (BlueAbove i j up) = omega arith
rank_falls n within (BlueAboveHome i j) = omega arith
rank_falls n within (BlueUnordered i j down) = omega arith
rank_falls n within (BlueUnorderedIn i j) = omega arith
rank_falls n within (BlueUnorderedHome i j) = omega arith
rank_falls n within (RedHead i j down) = omega arith
rank_falls n within (RedTop i j) = omega arith
rank_falls n within (RedBelow i j down) = omega arith
rank_falls n within (RedBelowHome i j) = omega arith
rank_falls n within (RedAbove i j down) = omega arith
rank_falls n within (RedUnordered i j up) = omega arith
rank_falls n within (RedUnorderedIn i j) = omega arith

-- what a move leads to is met too
pub meets_on : {color : Color} {T U : Tag} {i j : ℕ} (S : Tag) (o : ℕ) → Move color T i U j → Meets color S o T i → Meets color S o U j
meets_on Head o (BlueHead i j up) met = omega arith
meets_on Top o (BlueTop i j) met = tt
meets_on Above o (BlueTop i j) met = tt
meets_on Unordered o (BlueTop i j) met = tt
meets_on Top o (BlueBelow i j up) met = tt
meets_on Below o (BlueBelow i j up) met = omega arith
meets_on Above o (BlueBelow i j up) met = tt
meets_on Unordered o (BlueBelow i j up) met = tt
meets_on Above o (BlueAbove i j up) met = omega arith
meets_on Above o (BlueAboveHome i j) met = tt
meets_on Unordered o (BlueUnordered i j down) met = omega arith
meets_on Unordered o (BlueUnorderedIn i j) met = tt
meets_on Unordered o (BlueUnorderedHome i j) met = tt
meets_on Head o (RedHead i j down) met = omega arith
meets_on Top o (RedTop i j) met = tt
meets_on Below o (RedTop i j) met = tt
meets_on Below o (RedBelow i j down) met = omega arith
meets_on Below o (RedBelowHome i j) met = tt
meets_on Top o (RedAbove i j down) met = tt
meets_on Below o (RedAbove i j down) met = tt
meets_on Above o (RedAbove i j down) met = omega arith
meets_on Unordered o (RedAbove i j down) met = tt
meets_on Unordered o (RedUnordered i j up) met = omega arith
meets_on Unordered o (RedUnorderedIn i j) met = tt
meets_on Sole o (BlueHead i j up) met = absurd met
meets_on Carried o (BlueHead i j up) met = absurd met
meets_on _ o _ met = absurd met

-- a color meets the node itself, where its row is neither Sole nor Carried
pub meets_itself : (color : Color) (S : Tag) (o : ℕ) → S ≢ Sole → S ≢ Carried → Meets color S o S o
meets_itself _ Sole o not_sole not_carried = absurd (not_sole refl)
meets_itself _ Carried o not_sole not_carried = absurd (not_carried refl)
meets_itself Blue Top o not_sole not_carried = tt
meets_itself Red Top o not_sole not_carried = tt
meets_itself Blue _ o not_sole not_carried = omega arith
meets_itself Red _ o not_sole not_carried = omega arith

-- and no node whose row is Sole
pub meets_no_sole : (color : Color) (S : Tag) (o i : ℕ) → Meets color S o Sole i → ⊥
meets_no_sole Blue Head o i met = met
meets_no_sole Blue _ o i met = met
meets_no_sole Red Head o i met = met
meets_no_sole Red _ o i met = met

-- what both may meet has the order of the node itself, but where both rows are Top
pub both_meet : (S T : Tag) (o i : ℕ) → Meets Blue S o T i → Meets Red S o T i → (i ≡ o) ⊎ ((S ≡ Top) × (T ≡ Top))
both_meet Head Head o i blue red = inl (omega arith)
both_meet Top Top o i blue red = inr (refl, refl)
both_meet Below Below o i blue red = inl (omega arith)
both_meet Above Above o i blue red = inl (omega arith)
both_meet Unordered Unordered o i blue red = inl (omega arith)
both_meet Top Below o i blue red = absurd red
both_meet Above Top o i blue red = absurd red
both_meet Above Below o i blue red = absurd red
both_meet Unordered Top o i blue red = absurd red
both_meet Unordered Below o i blue red = absurd red
both_meet _ _ o i blue red = absurd blue

-- over one link the two colors do not both lead straight to the destination
pub never_both : (T : Tag) (role : Role) → Ends Blue T role → Ends Red T role → ⊥
never_both Head Closing blue red = red
never_both Top Plain blue red = red
never_both Below _ blue red = red
never_both _ _ blue red = blue
