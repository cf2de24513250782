-- Lists that hold the same LSAs, their places left out, answer alike whatever is asked of some LSA without its place.
use Rattle.std.proofs.Common.{◌≡◌, ◌∙◌, ◌||◌, ◌&&◌, Bool, true, false, not, cond, List, [], ◌∷◌, Contains, map, refl, sym, ap}
use Rattle.std.specs.List.{filter, list_all, list_any}
use Rattle.std.proofs.lemmas.List.Folds.{Any-from_list_any, list_any_at}
use Rattle.std.proofs.lemmas.List.Sorted.{Contains-permutation, IsPermutation-sym}
use Rattle.mrt_graph.proofs.Members.{same_tests}
use Rattle.ospf_lsa.specs.declared.lsa.Lsa.{Lsa}
use Rattle.lsdb.specs.declared.key.Key.{Key}
use Rattle.lsdb.specs.Keys.{key_of, is_of}
use Rattle.lsdb.specs.Newest.{are_alike, is_newest, newest_of, same_but_age, IsSettled}
use Rattle.lsdb.specs.Orders.{without_place, AreReordered, HoldTheSame}
use Rattle.lsdb.specs.Rank.{outranks}

-- a test that does not look at the place
abbrev pub IsPlaceless : (Lsa → Bool) → Type 0
IsPlaceless test = (lsa : Lsa) → test lsa ≡ test (without_place lsa)

-- such a test passes of some LSA of the one list exactly where it does of the other
abbrev pub Agree : List Lsa → List Lsa → Type 0
Agree lsas others = (test : Lsa → Bool) → IsPlaceless test → list_any test lsas ≡ list_any test others

any_without_place : (test : Lsa → Bool) → IsPlaceless test → (lsas : List Lsa)
    → list_any test lsas ≡ list_any test (map without_place lsas)
any_without_place test placeless [] = refl
any_without_place test placeless (l ∷ lsas) =
    ap (λ (b : Bool). b || list_any test lsas) (placeless l)
    ∙ ap (λ (b : Bool). test (without_place l) || b) (any_without_place test placeless lsas)

any_of_more : (test : Lsa → Bool) (xs ys : List Lsa) → ((x : Lsa) → Contains xs x → Contains ys x)
    → list_any test xs ≡ true → list_any test ys ≡ true
any_of_more test xs ys more h =
    let found = Any-from_list_any test xs h in
    let there = more found.1 (found.0, found.2, found.3) in
    list_any_at test ys there.0 found.1 there.1 (ap test there.2 ∙ found.4)

pub same_agree : (lsas others : List Lsa) → HoldTheSame lsas others → Agree lsas others
same_agree lsas others same test placeless =
    any_without_place test placeless lsas
    ∙ same_tests _ _ (any_of_more test (map without_place lsas) (map without_place others) (λ x. (same x).0))
    (any_of_more test (map without_place others) (map without_place lsas) (λ x. (same x).1))
    ∙ sym (any_without_place test placeless others)

pub reordered_same : (lsas others : List Lsa) → AreReordered lsas others → HoldTheSame lsas others
reordered_same lsas others reordered lsa = (
  Contains-permutation (map without_place lsas) (map without_place others) lsa reordered,
  Contains-permutation (map without_place others) (map without_place lsas) lsa
      (IsPermutation-sym (map without_place lsas) (map without_place others) reordered),
)

-- none of the one list outranks an LSA of its key exactly where none of the other does
pub newest_agrees : (lsas others : List Lsa) → Agree lsas others → (lsa : Lsa)
    → is_newest lsas lsa ≡ is_newest others lsa
newest_agrees lsas others agree lsa =
    ap not (agree (λ other. is_of (key_of lsa) other && outranks other lsa) (λ x. refl))

all_by : (p q rest : Bool) (x : Lsa) (xs : List Lsa) (test : Lsa → Bool) → test x ≡ q → list_all test xs ≡ not rest
    → list_all test (cond p (x ∷ xs) xs) ≡ not ((p && not q) || rest)
all_by true true rest x xs test is h = ap (λ (b : Bool). b && list_all test xs) is ∙ h
all_by true false rest x xs test is h = ap (λ (b : Bool). b && list_all test xs) is
all_by false q rest x xs test is h = h

-- all that a filter keeps pass a test where none is kept that fails it
all_kept : (keep test : Lsa → Bool) (xs : List Lsa)
    → list_all test (filter keep xs) ≡ not (list_any (λ x. keep x && not (test x)) xs)
all_kept keep test [] = refl
all_kept keep test (x ∷ xs) = all_by (keep x) (test x) _ x (filter keep xs) test refl (all_kept keep test xs)

any_same : (p q : Lsa → Bool) → ((x : Lsa) → p x ≡ q x) → (xs : List Lsa) → list_any p xs ≡ list_any q xs
any_same p q same [] = refl
any_same p q same (x ∷ xs) = ap (λ (b : Bool). b || list_any p xs) (same x)
    ∙ ap (λ (b : Bool). q x || b) (any_same p q same xs)

-- all newest instances of a key pass a test in the one list where they do in the other
all_agree : (lsas others : List Lsa) → Agree lsas others → (key : Key) (test test' : Lsa → Bool)
    → ((x : Lsa) → test x ≡ test' x) → IsPlaceless test'
    → list_all test (newest_of lsas key) ≡ list_all test' (newest_of others key)
all_agree lsas others agree key test test' same placeless =
    all_kept (λ lsa. is_of key lsa && is_newest lsas lsa) test lsas
    ∙ ap not (any_same (λ x. (is_of key x && is_newest lsas x) && not (test x))
    (λ x. (is_of key x && is_newest others x) && not (test' x))
    (λ x. ap (λ (b : Bool). (is_of key x && b) && not (test x)) (newest_agrees lsas others agree x)
    ∙ ap (λ (b : Bool). (is_of key x && is_newest others x) && not b) (same x)) lsas
    ∙ agree (λ x. (is_of key x && is_newest others x) && not (test' x))
    (λ x. ap (λ (b : Bool). (is_of key x && is_newest others x) && not b) (placeless x)))
    ∙ sym (all_kept (λ lsa. is_of key lsa && is_newest others lsa) test' others)

pub alike_agree : (lsas others : List Lsa) → Agree lsas others → (key : Key)
    → are_alike (newest_of lsas key) ≡ are_alike (newest_of others key)
alike_agree lsas others agree key =
    all_agree lsas others agree key (λ one. list_all (same_but_age one) (newest_of lsas key))
    (λ one. list_all (same_but_age one) (newest_of others key))
    (λ one. all_agree lsas others agree key (same_but_age one) (same_but_age one) (λ x. refl) (λ x. refl)) (λ x. refl)

pub settled_agree : (lsas others : List Lsa) → Agree lsas others → IsSettled lsas → IsSettled others
settled_agree lsas others agree settled key = sym (alike_agree lsas others agree key) ∙ settled key
