-- One candidate after another.
use Rattle.std.proofs.Common.{◌≡◌, ◌≤◌, ◌+◌, ◌∙◌, ◌⊎◌, ℕ, true, false, List, Option, Some, None, length, map, set, slice_get, get_or, inl, inr, refl, sym, ap, subst, arith}
use Rattle.std.specs.Prelude.{◌↔◌}
use Rattle.std.specs.Ordering.{is_gt, nat_cmp, ordering_reverse}
use Rattle.std.specs.declared.cmp.Ordering.{Ordering}
use Rattle.std.specs.declared.cmp.Ordering.TheVariants.{Less, Equal, Greater}
use Rattle.std.proofs.lemmas.Bool.{cases_Bool, cases_lt}
use Rattle.std.proofs.lemmas.Cmp.{nat_cmp_total, on_total, then_total, tied_itself, upto}
use Rattle.std.proofs.lemmas.Option.{get_or_from_slice_get, same_Some, slice_get-map, slice_get_within}
use Rattle.std.proofs.lemmas.List.{length-map}
use Rattle.std.specs.Option.{option_cmp, option_map}
use Rattle.std.specs.Cmp.{IsTotalOrder, nat_cmp_is}
use Rattle.std.specs.Cmp.Lexicographic.{options_total}
use Rattle.mrt_graph.proofs.ListPlaces.{set_there}
use Rattle.mrt_graph.proofs.ListTests.{there}
use Rattle.mrt_graph.proofs.Ties.{tie_of_equals}
use Rattle.area_graph.specs.Parts.{AreaParts}
use Rattle.lfa_alt.specs.declared.alternate.FreeCandidate.{FreeCandidate}
use Rattle.lfa_alt.specs.declared.destination.Destination.{Destination}
use Rattle.lfa_alt.specs.declared.neighbour_path.NeighbourPath.{NeighbourPath}
use Rattle.lfa_alt.specs.steps.Choosing.{AreBest, IsBetterBy, IsOfferedBy, Offers, better}
use Rattle.lfa_alt.specs.LoopFree.{IsBest, NoneIs, TheBest, candidate_cmp, rank_of}
use Rattle.lfa_alt.specs.steps.NeighbourPaths.{NotLater}

-- the order is total
pub candidate_total : IsTotalOrder candidate_cmp
candidate_total =
    then_total
    (then_total (then_total (on_total (λ (c : FreeCandidate). rank_of c.node) nat_cmp_total) (on_total (λ (c : FreeCandidate). c.cost) nat_cmp_total))
    (on_total (λ (c : FreeCandidate). c.first) nat_cmp_total))
    (on_total (λ (c : FreeCandidate). c.second) (options_total nat_cmp_total))

not_gt : (a b : ℕ) → a ≤ b → is_gt (nat_cmp a b) ≡ false
not_gt a b low = elim (cases_lt a b) [
  | inl below ↦ ap is_gt (sym (nat_cmp_is a b Less below))
  | inr upto ↦ ap is_gt (tie_of_equals a b (omega (arith, low, upto)))
]

-- one that is told the same, but for no later second arc, does not come after the other
seconds_not_after : (one other : Option ℕ) → NotLater one other → is_gt (option_cmp nat_cmp one other) ≡ false
seconds_not_after None None low = refl
seconds_not_after (Some one) (Some other) low = not_gt one other low
seconds_not_after None (Some other) low = refl
seconds_not_after (Some one) None low = absurd low

pub not_after : (one other : FreeCandidate) → one.node ≡ other.node → one.cost ≡ other.cost → one.first ≡ other.first → NotLater one.second other.second
    → is_gt (candidate_cmp one other) ≡ false
not_after one other node cost first second =
    rw (tie_of_equals (rank_of one.node) (rank_of other.node) (ap rank_of node), tie_of_equals one.cost other.cost cost, tie_of_equals one.first other.first first)
    (seconds_not_after one.second other.second second)

-- of two, one is not after the other
other_path : (a b : FreeCandidate) → is_gt (candidate_cmp a b) ≡ true → is_gt (candidate_cmp b a) ≡ false
other_path a b gt = go (candidate_cmp a b) (candidate_cmp b a) gt (candidate_total.antisymm a b)
  where
    go : (x y : Ordering) → is_gt x ≡ true → x ≡ ordering_reverse y → is_gt y ≡ false
    go x Less gt' same = refl
    go x Equal gt' same = refl
    go x Greater gt' same = let clash : false ≡ true = ap is_gt (sym same) ∙ gt' in cc

itself : (a : FreeCandidate) → is_gt (candidate_cmp a a) ≡ false
itself a = ap is_gt (tied_itself candidate_total a)

-- the best of two sorts is the best of both
module _ (P Q R : FreeCandidate → Type 0) (split : (c : FreeCandidate) → R c → P c ⊎ Q c) (left : (c : FreeCandidate) → P c → R c) (right : (c : FreeCandidate) → Q c → R c) where
  pub best_of_both : (best offered : Option FreeCandidate) → IsBest P best → ((c : FreeCandidate) → (offered ≡ Some c) ↔ Q c) → IsBest R (better best offered)
  best_of_both None None (NoneIs none) exactly = NoneIs (λ c is. elim (split c is) [ inl p ↦ none c p | inr q ↦ let clash = (exactly c).1 q in cc ])
  best_of_both None (Some d) (NoneIs none) exactly = TheBest d (right d ((exactly d).0 refl)) (λ c is. elim (split c is) [
    | inl p ↦ absurd (none c p)
    | inr q ↦ subst (λ (x : FreeCandidate). is_gt (candidate_cmp d x) ≡ false) (same_Some d c ((exactly c).1 q)) (itself d)
  ])
  best_of_both (Some same) None (TheBest b p first) exactly = TheBest b (left b p) (λ c is. elim (split c is) [ inl p' ↦ first c p' | inr q ↦ let clash = (exactly c).1 q in cc ])
  best_of_both (Some same) (Some d) (TheBest b p first) exactly = elim (cases_Bool (is_gt (candidate_cmp b d))) [
    | inl after ↦
        let low = other_path b d after in
        rw after
        (TheBest d (right d ((exactly d).0 refl)) (λ c is. elim (split c is) [
          | inl p' ↦ upto candidate_total d b c low (first c p')
          | inr q ↦ subst (λ (x : FreeCandidate). is_gt (candidate_cmp d x) ≡ false) (same_Some d c ((exactly c).1 q)) (itself d)
        ]))
    | inr upto' ↦
        rw upto'
        (TheBest b (left b p) (λ c is. elim (split c is) [
          | inl p' ↦ first c p'
          | inr q ↦ subst (λ (x : FreeCandidate). is_gt (candidate_cmp b x) ≡ false) (same_Some d c ((exactly c).1 q)) upto'
        ]))
  ]

-- at the place that is written
pub better_there : (Is : FreeCandidate → Type 0) (items : List (Option FreeCandidate)) (i : ℕ) (offered made old new now : Option FreeCandidate) → slice_get items i ≡ Some old
    → now ≡ get_or items i now → made ≡ better now offered → slice_get (set items i made) i ≡ Some new → ((choice : FreeCandidate) → (offered ≡ Some choice) ↔ Is choice)
    → IsBetterBy Is old new
better_there Is items i offered made old new now was read is at exactly =
    let same : now ≡ old = read ∙ get_or_from_slice_get items i old now was in
    let new_is : made ≡ new = same_Some made new (sym (set_there items i made (slice_get_within items i old was)) ∙ at) in
    record {
      offered = offered;
      exactly = exactly;
      is = sym new_is ∙ is ∙ ap (λ (o : Option FreeCandidate). better o offered) same;
    }

-- where nothing is offered, the old one stays
pub nothing_more : (Is : FreeCandidate → Type 0) (old new : Option FreeCandidate) → new ≡ old → ((choice : FreeCandidate) → ¬ Is choice) → IsBetterBy Is old new
nothing_more Is old new same none = record {
  offered = None;
  exactly = λ choice. (λ some. cc, λ is. absurd (none choice is));
  is = same ∙ sym (as_before old);
}
  where
    as_before : (o : Option FreeCandidate) → better o None ≡ o
    as_before None = refl
    as_before (Some best) = refl

-- one path more
pub one_more : (area : AreaParts) (s t n : ℕ) (entry : Option Destination) (paths : List NeighbourPath) (path : NeighbourPath) (old new : Option FreeCandidate) → slice_get paths n ≡ Some path
    → IsBest (IsOfferedBy area s t entry paths n) old → IsBetterBy (Offers area s t entry path) old new → IsBest (IsOfferedBy area s t entry paths (n + 1)) new
one_more area s t n entry paths path old new at best by =
    subst (λ (o : Option FreeCandidate). IsBest (IsOfferedBy area s t entry paths (n + 1)) o) (sym by.is)
    (best_of_both (IsOfferedBy area s t entry paths n) (Offers area s t entry path) (IsOfferedBy area s t entry paths (n + 1)) split
    (λ c is. record { number = is.number; path = is.path; low = omega (arith, is.low); there = is.there; offers = is.offers })
    (λ c offers. record { number = n; path = path; low = omega arith; there = at; offers = offers })
    old by.offered best by.exactly)
  where
    split : (c : FreeCandidate) → IsOfferedBy area s t entry paths (n + 1) c → IsOfferedBy area s t entry paths n c ⊎ Offers area s t entry path c
    split c is = elim (cases_lt is.number n) [
      | inl early ↦ inl (record { number = is.number; path = is.path; low = early; there = is.there; offers = is.offers })
      | inr upto' ↦
          let here : is.number ≡ n = omega (arith, is.low, upto') in
          let same : is.path ≡ path = same_Some is.path path (sym is.there ∙ ap (λ (i : ℕ). slice_get paths i) here ∙ at) in
          inr (subst (λ (w : NeighbourPath). Offers area s t entry w c) same is.offers)
    ]

-- none yet
pub none_yet : (area : AreaParts) (s t : ℕ) (entry : Option Destination) (paths : List NeighbourPath) → IsBest (IsOfferedBy area s t entry paths 0) None
none_yet area s t entry paths = NoneIs (λ c is. absurd (omega (arith, is.low)))

-- at first there is none for any node
pub none_best : (area : AreaParts) (s : ℕ) (destinations : List (Option Destination)) (paths : List NeighbourPath) → AreBest area s destinations paths 0 (map (λ _. None) destinations)
none_best area s destinations paths = record {
  one_each = length-map destinations (λ _. None);
  each = λ t entry choice at is.
      subst (λ (o : Option FreeCandidate). IsBest (IsOfferedBy area s t entry paths 0) o)
      (same_Some None choice (sym (slice_get-map (λ (_ : Option Destination). None) destinations t ∙ ap (option_map (λ (_ : Option Destination). None)) at) ∙ is))
      (none_yet area s t entry paths);
}

-- one path more, for all nodes
pub all_more : (area : AreaParts) (s n : ℕ) (destinations : List (Option Destination)) (paths : List NeighbourPath) (path : NeighbourPath) (olds news : List (Option FreeCandidate)) → slice_get paths n ≡ Some path
    → length news ≡ length olds → AreBest area s destinations paths n olds
    → ((t : ℕ) (entry : Option Destination) (old new : Option FreeCandidate) → slice_get destinations t ≡ Some entry → slice_get olds t ≡ Some old → slice_get news t ≡ Some new
    → IsBetterBy (Offers area s t entry path) old new)
    → AreBest area s destinations paths (n + 1) news
all_more area s n destinations paths path olds news at many best by = record {
  one_each = many ∙ best.one_each;
  each = λ t entry choice here is.
      let old = there olds t (omega (arith, slice_get_within news t choice is, many)) in
      one_more area s t n entry paths path old.0 choice at (best.each t entry old.0 here old.1) (by t entry old.0 choice here old.1 is);
}
