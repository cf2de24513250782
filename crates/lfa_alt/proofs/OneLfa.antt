-- A router has one answer for each node.
use Rattle.std.proofs.Common.{◌≡◌, ◌∙◌, ℕ, Bool, true, false, Option, Some, None, slice_get, refl, sym, ap, subst}
use Rattle.std.specs.Prelude.{unwrap_or}
use Rattle.std.specs.Option.{option_cmp, option_map}
use Rattle.std.specs.Ordering.{is_gt, nat_cmp, ordering_reverse}
use Rattle.std.specs.declared.cmp.Ordering.{Ordering}
use Rattle.std.specs.declared.cmp.Ordering.TheVariants.{Less, Equal, Greater}
use Rattle.area_graph.specs.declared.area_types.Arc.{Arc}
use Rattle.area_graph.specs.Parts.{AreaParts}
use Rattle.mrt_graph.proofs.Ties.{nat_tie, then_tie}
use Rattle.primary_alt.specs.declared.shortest.Primary.{Primary}
use Rattle.primary_alt.proofs.PrimariesLead.{one_entry}
use Rattle.lfa_alt.specs.declared.alternate.FreeCandidate.{FreeCandidate}
use Rattle.lfa_alt.specs.declared.alternate.Lfa.{Lfa}
use Rattle.lfa_alt.specs.Candidates.{Across, Candidate, Straight, ToNeighbour}
use Rattle.lfa_alt.specs.LoopFree.{ByPrimary, IsBest, IsLfa, IsLoopFree, NoPrimary, NoneIs, TheBest, candidate_cmp, alternate_of, rank_of}
use Rattle.lfa_alt.proofs.Bettering.{candidate_total}
use Rattle.lfa_alt.proofs.Chosen.{its_primary}

-- the last arc of a candidate tells where it leads
next_by : (area : AreaParts) (s t : ℕ) (c : Candidate) → ToNeighbour area s t c → option_map (λ (arc : Arc). arc.to) (slice_get area.arcs (unwrap_or c.second c.first)) ≡ Some c.next
next_by area s t c (Straight number arc leaves which) = rw leaves.there refl
next_by area s t c (Across number second arc onward leaves leads on router further) = rw on.there refl

-- neither of two comes before the other: they come together
together : (one other : FreeCandidate) → is_gt (candidate_cmp one other) ≡ false → is_gt (candidate_cmp other one) ≡ false → candidate_cmp one other ≡ Equal
together one other up down = go (candidate_cmp one other) (candidate_cmp other one) up down (candidate_total.antisymm one other)
  where
    go : (x y : Ordering) → is_gt x ≡ false → is_gt y ≡ false → x ≡ ordering_reverse y → x ≡ Equal
    go x Less up down same = let clash : true ≡ false = ap is_gt (sym same) ∙ up in cc
    go x Equal up down same = same
    go x Greater up down same = cc

equal_ranks : (a b : Bool) → rank_of a ≡ rank_of b → a ≡ b
equal_ranks true true same = refl
equal_ranks false false same = refl
equal_ranks true false same = cc
equal_ranks false true same = cc

equal_seconds : (a b : Option ℕ) → option_cmp nat_cmp a b ≡ Equal → a ≡ b
equal_seconds None None same = refl
equal_seconds (Some a) (Some b) same = ap (λ (n : ℕ). Some n) (nat_tie a b same)
equal_seconds None (Some b) same = cc
equal_seconds (Some a) None same = cc

-- two that come first are one
same_lfa : (area : AreaParts) (s t : ℕ) (primary : Primary) (one other : FreeCandidate) → IsLoopFree area s t primary one → IsLoopFree area s t primary other
    → is_gt (candidate_cmp one other) ≡ false → is_gt (candidate_cmp other one) ≡ false → alternate_of one ≡ alternate_of other
same_lfa area s t primary one other free free' up down =
    let tie = then_tie _ _ (together one other up down) in
    let tie' = then_tie _ _ tie.0 in
    let tie'' = then_tie _ _ tie'.0 in
    let node : one.node ≡ other.node = equal_ranks one.node other.node (nat_tie (rank_of one.node) (rank_of other.node) tie''.0) in
    let number : one.first ≡ other.first = nat_tie one.first other.first tie'.1 in
    let second : one.second ≡ other.second = equal_seconds one.second other.second tie.1 in
    let next : one.next ≡ other.next = cc (free.loop_free.is, free'.loop_free.is, next_by area s t free.candidate free.is.leads, next_by area s t free'.candidate free'.is.leads) in
    rw (number, second, next, node) refl

one_best : (area : AreaParts) (s t : ℕ) (primary : Primary) (best other : Option FreeCandidate) → IsBest (IsLoopFree area s t primary) best → IsBest (IsLoopFree area s t primary) other
    → option_map alternate_of best ≡ option_map alternate_of other
one_best area s t primary None None none none' = refl
one_best area s t primary None (Some same) (NoneIs none) (TheBest c free first) = absurd (none c free)
one_best area s t primary (Some same) None (TheBest c free first) (NoneIs none) = absurd (none c free)
one_best area s t primary (Some same) (Some same') (TheBest c free first) (TheBest c' free' first') =
    ap (λ (l : Lfa). Some l) (same_lfa area s t primary c c' free free' (first c' free') (first' c free))

pub one_answer : (area : AreaParts) (s t : ℕ) (entry other : Option Lfa) → IsLfa area s t entry → IsLfa area s t other → entry ≡ other
one_answer area s t entry other (NoPrimary none) (NoPrimary none') = refl
one_answer area s t entry other (NoPrimary none) (ByPrimary p b is best) = let clash : ◌≡◌ {A = Option Primary} None (Some p) = one_entry area s t None (Some p) none is in cc
one_answer area s t entry other (ByPrimary p b is best) (NoPrimary none) = let clash : ◌≡◌ {A = Option Primary} (Some p) None = one_entry area s t (Some p) None is none in cc
one_answer area s t entry other (ByPrimary p b is best) (ByPrimary p' b' is' best') =
    one_best area s t p' b b' (subst (λ (q : Primary). IsBest (IsLoopFree area s t q) b) (its_primary area s t p p' is is') best) best'
