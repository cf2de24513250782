-- The newest instances of a key are the same LSAs, ages included, whatever the order.
use Rattle.std.proofs.Common.{◌≡◌, ◌∙◌, ◌&&◌, ◌==◌, Bool, true, false, cond, List, [], ◌∷◌, Contains, map, refl, sym, ap, subst}
use Rattle.std.specs.List.{filter}
use Rattle.std.specs.List.Sorted.{IsPermutation}
use Rattle.std.proofs.lemmas.Bool.{and_parts, and_from, eqb-true}
use Rattle.std.proofs.lemmas.Cmp.{nat_eq_equiv}
use Rattle.std.proofs.lemmas.List.Elements.{filter_agree}
use Rattle.std.proofs.lemmas.List.Sorted.{IsPermutation-sym}
use Rattle.mrt_graph.proofs.Filters.{alike_filter, Contains-filter, Contains-from_filter, passes_from_filter}
use Rattle.ospf_lsa.specs.declared.lsa.Lsa.{Lsa}
use Rattle.lsdb.specs.declared.key.Key.{Key}
use Rattle.lsdb.specs.Keys.{is_of}
use Rattle.lsdb.specs.Newest.{is_newest, newest_of, same_but_age}
use Rattle.lsdb.specs.Orders.{without_place, AreReordered, HoldTheSame}
use Rattle.lsdb.proofs.Agreements.{Agree, IsPlaceless, newest_agrees, reordered_same, same_agree}
use Rattle.lsdb.proofs.Alike.{alike_equiv}
use Rattle.lsdb.proofs.SameCounts.{IsEquality, reordered_from_alike}
use Rattle.lsdb.proofs.Timeless.{lsa_is}

-- ---- without places

moved_by : (b : Bool) (x : Lsa) (kept : List Lsa)
    → map without_place (cond b (x ∷ kept) kept) ≡ cond b (without_place x ∷ map without_place kept)
    (map without_place kept)
moved_by true x kept = refl
moved_by false x kept = refl

kept_without_places : (p : Lsa → Bool) → IsPlaceless p → (lsas : List Lsa)
    → map without_place (filter p lsas) ≡ filter p (map without_place lsas)
kept_without_places p placeless [] = refl
kept_without_places p placeless (x ∷ lsas) =
    moved_by (p x) x (filter p lsas)
    ∙ ap (λ (b : Bool). cond b (without_place x ∷ map without_place (filter p lsas))
    (map without_place (filter p lsas))) (placeless x)
    ∙ ap (λ (rest : List Lsa). cond (p (without_place x)) (without_place x ∷ rest) rest)
    (kept_without_places p placeless lsas)

-- the newest instances of a key in two lists that agree, without their places: those of both lists that pass one test
of_one : (lsas : List Lsa) (key : Key)
    → map without_place (newest_of lsas key) ≡ filter (λ lsa. is_of key lsa && is_newest lsas lsa)
    (map without_place lsas)
of_one lsas key = kept_without_places (λ lsa. is_of key lsa && is_newest lsas lsa) (λ x. refl) lsas

of_other : (lsas others : List Lsa) (key : Key) → Agree lsas others
    → map without_place (newest_of others key) ≡ filter (λ lsa. is_of key lsa && is_newest lsas lsa)
    (map without_place others)
of_other lsas others key agree =
    kept_without_places (λ lsa. is_of key lsa && is_newest others lsa) (λ x. refl) others
    ∙ filter_agree (λ lsa. is_of key lsa && is_newest others lsa) (λ lsa. is_of key lsa && is_newest lsas lsa)
    (λ x. ap (λ (b : Bool). is_of key x && b) (sym (newest_agrees lsas others agree x))) (map without_place others)

-- ---- the laws

-- what passes a test in the one list is in the other, and passes there
carried : (p : Lsa → Bool) (xs ys : List Lsa) (x : Lsa) {kept kept' : List Lsa} → (Contains xs x → Contains ys x)
    → kept ≡ filter p xs → kept' ≡ filter p ys → Contains kept x → Contains kept' x
carried p xs ys x more are are' has =
    let there : Contains (filter p xs) x = subst (λ (ls : List Lsa). Contains ls x) are has in
    subst (λ (ls : List Lsa). Contains ls x) (sym are')
    (Contains-filter p ys x (more (Contains-from_filter p xs x there)) (passes_from_filter p xs x there))

pub same_newest : (lsas others : List Lsa) → HoldTheSame lsas others → (key : Key)
    → HoldTheSame (newest_of lsas key) (newest_of others key)
same_newest lsas others same key lsa =
    let agree = same_agree lsas others same in
    let p : Lsa → Bool = λ x. is_of key x && is_newest lsas x in (
      λ has.
          carried p (map without_place lsas) (map without_place others) lsa (same lsa).0 (of_one lsas key)
          (of_other lsas others key agree) has,
      λ has.
          carried p (map without_place others) (map without_place lsas) lsa (same lsa).1
          (of_other lsas others key agree) (of_one lsas key) has,
    )

same_lsa : Lsa → Lsa → Bool
same_lsa one other = same_but_age one other && ((one.age == other.age) && (one.at == other.at))

lsa_equality : IsEquality same_lsa
unfolding same_lsa
lsa_equality = record {
  own = λ lsa. and_from _ _ (alike_equiv.refl lsa)
      (and_from _ _ (nat_eq_equiv.refl lsa.age) (nat_eq_equiv.refl lsa.at));
  is = λ one other told.
      let alike = and_parts _ _ told in
      let numbers = and_parts _ _ alike.1 in
      lsa_is one other alike.0 (eqb-true _ _ numbers.0) (eqb-true _ _ numbers.1);
}

pub reordered_newest : (lsas others : List Lsa) → AreReordered lsas others → (key : Key)
    → AreReordered (newest_of lsas key) (newest_of others key)
reordered_newest lsas others moves key =
    let agree = same_agree lsas others (reordered_same lsas others moves) in
    let p : Lsa → Bool = λ x. is_of key x && is_newest lsas x in
    subst (λ (ls : List Lsa). IsPermutation ls (map without_place (newest_of others key))) (sym (of_one lsas key))
    (subst (λ (ls : List Lsa). IsPermutation (filter p (map without_place lsas)) ls)
    (sym (of_other lsas others key agree))
    (reordered_from_alike same_lsa lsa_equality (filter p (map without_place lsas))
    (filter p (map without_place others))
    (alike_filter p (map without_place others) (map without_place lsas)
    (IsPermutation-sym (map without_place lsas) (map without_place others) moves))))
