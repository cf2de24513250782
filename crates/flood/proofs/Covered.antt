-- Which LSAs are new after others, and which of them are sent on.
use Rattle.std.proofs.Common.{◌≡◌, ◌∙◌, ◌+◌, ◌++◌, ◌||◌, ◌&&◌, ◌⊎◌, ℕ, Bool, true, false, not, cond, List, [], ◌∷◌, inl, inr, refl, sym, ap, subst, append_assoc}
use Rattle.std.specs.List.{AllByRecursion, IsDistinct, filter, list_all, list_any}
use Rattle.std.specs.Ordering.{is_eq, is_gt}
use Rattle.std.specs.declared.cmp.Ordering.{Ordering}
use Rattle.std.specs.declared.cmp.Ordering.TheVariants.{Less, Equal, Greater}
use Rattle.std.proofs.lemmas.Bool.{and_parts, and_from, not-true}
use Rattle.std.proofs.lemmas.List.{append-nil}
use Rattle.std.proofs.lemmas.List.Folds.{list_any-append}
use Rattle.mrt_graph.proofs.Members.{Has}
use Rattle.ospf_lsa.specs.declared.lsa.Lsa.{Lsa}
use Rattle.lsdb.specs.declared.change.Change.{Change}
use Rattle.lsdb.specs.declared.change.Change.TheVariants.{Added, Replaced, Older, Same, Clash}
use Rattle.lsdb.specs.declared.key.Key.{Key}
use Rattle.lsdb.specs.Changes.{instances_of}
use Rattle.lsdb.specs.Entries.{Entry}
use Rattle.lsdb.specs.Installing.{installed}
use Rattle.lsdb.specs.Installs.{all_installed}
use Rattle.lsdb.specs.Keys.{key_of, same_key, is_of}
use Rattle.lsdb.specs.Rank.{outranks}
use Rattle.lsdb.proofs.Arrivals.{own_key}
use Rattle.lsdb.proofs.Lists.{any_and, pass_none}
use Rattle.lsdb.proofs.Ranks.{above, flipped, greater_is, none_outranks_itself}
use Rattle.lsdb.proofs.Stores.{key_is}
use Rattle.lsdb.proofs.Tellings.{added, replaced, told}
use Rattle.flood.specs.Routers.{Router}
use Rattle.flood.specs.Receiving.{after_all, after_one, arrived, is_new, is_news, new_router, news}
use Rattle.flood.specs.Runs.{numbered, same_instance}
use Rattle.flood.proofs.InTurn.{after_append}
use Rattle.flood.proofs.InTurn.{first_by as one_news_by}

-- ---- covered

-- whether an LSA is no news after another: they have one key, and it does not outrank the other
abbrev pub covers : Lsa → Lsa → Bool
covers x e = is_of (key_of x) e && not (outranks x e)

pub covers_itself : (x : Lsa) → covers x x ≡ true
covers_itself x = and_from _ _ (own_key (key_of x)) (ap not (none_outranks_itself x))

trans_by : (b : Bool) (x e c : Lsa) → outranks x c ≡ b → outranks x e ≡ false → outranks e c ≡ false
    → outranks x c ≡ false
trans_by true x e c is xe ec =
    let greater : outranks x e ≡ true = ap is_gt (above x e c ec (greater_is _ is)) in absurd cc
trans_by false x e c is xe ec = is

pub covers_trans : (x e c : Lsa) → covers x e ≡ true → covers e c ≡ true → covers x c ≡ true
covers_trans x e c one other =
    let first = and_parts _ _ one in
    let second = and_parts _ _ other in
    and_from _ _ (subst (λ (k : Key). same_key k (key_of c) ≡ true) (key_is (key_of x) (key_of e) first.0) second.0)
    (ap not (trans_by (outranks x c) x e c refl (not-true _ first.1) (not-true _ second.1)))

equal_is : (r : Ordering) → is_eq r ≡ true → r ≡ Equal
equal_is Less h = absurd cc
equal_is Equal h = refl
equal_is Greater h = absurd cc

-- an instance of the same key and rank covers
pub same_covers : (e x : Lsa) → same_instance e x ≡ true → covers x e ≡ true
same_covers e x same =
    let parts = and_parts _ _ same in
    and_from _ _ (subst (λ (k : Key). same_key k (key_of e) ≡ true) (sym (key_is (key_of e) (key_of x) parts.0))
    (own_key (key_of e)))
    (ap not (ap is_gt (flipped e x Equal (equal_is _ parts.1))))

-- ---- what an install tells

none_all : (test : Lsa → Bool) (ls : List Lsa) → list_any (λ l. not (test l)) ls ≡ not (list_all test ls)
none_all test [] = refl
none_all test (l ∷ ls) = by (test l) (list_any (λ m. not (test m)) ls) (list_all test ls) (none_all test ls)
  where
    by : (b some all : Bool) → some ≡ not all → (not b || some) ≡ not (b && all)
    by true some all is = is
    by false some all is = refl

not_new_by : (c : Change) (lsas : List Lsa) (x : Lsa) → told lsas x ≡ c → list_any (is_of (key_of x)) lsas ≡ true
    → list_all (outranks x) (instances_of lsas x) ≡ false → is_new c ≡ false
not_new_by Added lsas x is there some = let none = (added lsas x).0 is in absurd cc
not_new_by Replaced lsas x is there some = let all = ((replaced lsas x).0 is).1 in absurd cc
not_new_by Older lsas x is there some = refl
not_new_by Same lsas x is there some = refl
not_new_by Clash lsas x is there some = refl

covered_all : (lsas : List Lsa) (x : Lsa)
    → list_any (covers x) lsas ≡ not (list_all (outranks x) (instances_of lsas x))
covered_all lsas x =
    any_and (is_of (key_of x)) (λ e. not (outranks x e)) lsas
    ∙ none_all (outranks x) (filter (is_of (key_of x)) lsas)

with_key_by : (b : Bool) (lsas : List Lsa) (x : Lsa) → list_all (outranks x) (instances_of lsas x) ≡ b
    → list_any (is_of (key_of x)) lsas ≡ true → is_new (told lsas x) ≡ b
with_key_by true lsas x is there = ap is_new ((replaced lsas x).1 (there, is))
with_key_by false lsas x is there = not_new_by (told lsas x) lsas x refl there is

double : (b : Bool) → b ≡ not (not b)
double true = refl
double false = refl

told_by : (b : Bool) (lsas : List Lsa) (x : Lsa) → list_any (is_of (key_of x)) lsas ≡ b
    → is_new (told lsas x) ≡ not (list_any (covers x) lsas)
told_by true lsas x is =
    with_key_by (list_all (outranks x) (instances_of lsas x)) lsas x refl is
    ∙ double (list_all (outranks x) (instances_of lsas x)) ∙ sym (ap not (covered_all lsas x))
told_by false lsas x is =
    ap is_new ((added lsas x).1 is)
    ∙ sym (ap not (any_and (is_of (key_of x)) (λ e. not (outranks x e)) lsas
    ∙ ap (list_any (λ e. not (outranks x e))) (pass_none (is_of (key_of x)) lsas is)))

-- an LSA is new after others where none of them covers it
pub new_where_uncovered : (lsas : List Lsa) (x : Lsa) → is_new (told lsas x) ≡ not (list_any (covers x) lsas)
new_where_uncovered lsas x = told_by (list_any (is_of (key_of x)) lsas) lsas x refl

-- ---- a router after LSAs

pub entries_after : (router : Router) (xs : List Lsa)
    → (after_all router xs).database.entries ≡ all_installed router.database.entries (numbered router.arrivals xs)
entries_after router [] = refl
entries_after router (x ∷ xs) = entries_after (after_one router x) xs

any_numbered : (test : Lsa → Bool) → ((n : ℕ) (l : Lsa) → test (arrived n l) ≡ test l) → (n : ℕ) (xs : List Lsa)
    → list_any test (numbered n xs) ≡ list_any test xs
any_numbered test same n [] = refl
any_numbered test same n (x ∷ xs) =
    ap (λ (b : Bool). b || list_any test (numbered (n + 1) xs)) (same n x)
    ∙ ap (λ (b : Bool). test x || b) (any_numbered test same (n + 1) xs)

pub covered_numbered : (x : Lsa) (n : ℕ) (xs : List Lsa)
    → list_any (covers x) (numbered n xs) ≡ list_any (covers x) xs
covered_numbered x n xs = any_numbered (covers x) (λ m l. refl) n xs

pub news_after : (before : List Lsa) (x : Lsa)
    → is_news (after_all new_router before) x ≡ not (list_any (covers x) before)
news_after before x =
    let router : Router = after_all new_router before in
    ap (λ (es : List Entry). is_new (installed es (arrived router.arrivals x)).1) (entries_after new_router before)
    ∙ new_where_uncovered (numbered 0 before) (arrived router.arrivals x)
    ∙ ap not (covered_numbered x 0 before)

-- ---- lists

pub any_has : (test : Lsa → Bool) (xs : List Lsa) (x : Lsa) → Has xs x → test x ≡ true → list_any test xs ≡ true
any_has test [] x has is = absurd has
any_has test (y ∷ ys) x (inl same) is =
    ap (λ (b : Bool). b || list_any test ys) (subst (λ (l : Lsa). test l ≡ true) (sym same) is)
any_has test (y ∷ ys) x (inr later) is = later_true (test y) (list_any test ys) (any_has test ys x later is)
  where
    later_true : (a b : Bool) → b ≡ true → (a || b) ≡ true
    later_true true b h = refl
    later_true false b h = h

-- one of a list that passes a test
pub record Found (test : Lsa → Bool) (xs : List Lsa) : Type 0 where
  pub lsa : Lsa
  pub has : Has xs lsa
  pub passes : test lsa ≡ true

found_by : (b : Bool) (test : Lsa → Bool) (y : Lsa) (ys : List Lsa) → test y ≡ b → (b || list_any test ys) ≡ true
    → (list_any test ys ≡ true → Found test ys) → Found test (y ∷ ys)
found_by true test y ys is h rest = record { lsa = y; has = inl refl; passes = is }
found_by false test y ys is h rest =
    let later = rest h in record { lsa = later.lsa; has = inr later.has; passes = later.passes }

pub found_in : (test : Lsa → Bool) (xs : List Lsa) → list_any test xs ≡ true → Found test xs
found_in test [] h = absurd cc
found_in test (y ∷ ys) h = found_by (test y) test y ys refl h (found_in test ys)

pub any_more : (test : Lsa → Bool) (xs ys : List Lsa) → list_any test xs ≡ true → list_any test (xs ++ ys) ≡ true
any_more test xs ys h =
    list_any-append test xs ys ∙ ap (λ (b : Bool). b || list_any test ys) h

pub has_left : {X : Type 0} (xs ys : List X) (x : X) → Has xs x → Has (xs ++ ys) x
has_left [] ys x has = absurd has
has_left (z ∷ zs) ys x (inl same) = inl same
has_left (z ∷ zs) ys x (inr later) = inr (has_left zs ys x later)

pub has_right : {X : Type 0} (xs ys : List X) (x : X) → Has ys x → Has (xs ++ ys) x
has_right [] ys x has = has
has_right (z ∷ zs) ys x has = inr (has_right zs ys x has)

pub has_either : {X : Type 0} (xs ys : List X) (x : X) → Has (xs ++ ys) x → Has xs x ⊎ Has ys x
has_either [] ys x has = inr has
has_either (z ∷ zs) ys x (inl same) = inl (inl same)
has_either (z ∷ zs) ys x (inr later) =
    elim (has_either zs ys x later) [ inl left ↦ inl (inr left) | inr right ↦ inr right ]

-- ---- each LSA is covered by one that is sent on

-- what was sent so far covers all that came before
abbrev pub Covers : List Lsa → List Lsa → Type 0
Covers out before = (e : Lsa) → Has before e → list_any (covers e) out ≡ true

all_covered_by : (b : Bool) (out before : List Lsa) (x : Lsa) → list_any (covers x) before ≡ not b → Covers out before
    → Covers (out ++ cond b (x ∷ []) []) (before ++ x ∷ [])
all_covered_by true out before x is so_far e has = elim (has_either before (x ∷ []) e has) [
  | inl earlier ↦ any_more (covers e) out (x ∷ []) (so_far e earlier)
  | inr last ↦ elim last [
    | inl same ↦
        any_has (covers e) (out ++ x ∷ []) e
        (has_right out (x ∷ []) e (inl same)) (covers_itself e)
    | inr none ↦ absurd none
  ]
]
all_covered_by false out before x is so_far e has = elim (has_either before (x ∷ []) e has) [
  | inl earlier ↦ any_more (covers e) out [] (so_far e earlier)
  | inr last ↦ elim last [
    | inl same ↦
        let by = found_in (covers x) before is in
        let out_by = found_in (covers by.lsa) out (so_far by.lsa by.has) in
        any_more (covers e) out []
        (subst (λ (l : Lsa). list_any (covers l) out ≡ true) same
        (any_has (covers x) out out_by.lsa out_by.has
        (covers_trans x by.lsa out_by.lsa by.passes out_by.passes)))
    | inr none ↦ absurd none
  ]
]

flip : (a b : Bool) → a ≡ not b → b ≡ not a
flip a true h = ap not (sym h)
flip a false h = ap not (sym h)

pub all_covered : (before xs out : List Lsa) → Covers out before
    → Covers (out ++ news (after_all new_router before) xs) (before ++ xs)
all_covered before [] out so_far =
    subst (λ (ls : List Lsa). Covers ls (before ++ [])) (sym (append-nil out))
    (subst (Covers out) (sym (append-nil before)) so_far)
all_covered before (x ∷ xs) out so_far =
    let b : Bool = is_news (after_all new_router before) x in
    let here : Covers (out ++ cond b (x ∷ []) []) (before ++ x ∷ []) =
    all_covered_by b out before x (flip _ _ (news_after before x)) so_far in
    let on : Covers ((out ++ cond b (x ∷ []) []) ++ news (after_all new_router (before ++ x ∷ [])) xs)
    ((before ++ x ∷ []) ++ xs) = all_covered (before ++ x ∷ []) xs (out ++ cond b (x ∷ []) []) here in
    subst (λ (ls : List Lsa). Covers ls (before ++ x ∷ xs))
    (append_assoc out (cond b (x ∷ []) []) (news (after_all new_router (before ++ x ∷ [])) xs)
    ∙ ap (λ (ls : List Lsa). out ++ ls)
    (ap (λ (r : Router). cond b (x ∷ []) [] ++ news r xs) (after_append new_router before (x ∷ []))
    ∙ sym (one_news_by b x (news (after_one (after_all new_router before) x) xs))))
    (subst (Covers ((out ++ cond b (x ∷ []) []) ++ news (after_all new_router (before ++ x ∷ [])) xs))
    (append_assoc before (x ∷ []) xs) on)

-- ---- no instance is sent on twice

-- none of these is an instance of the same key and rank as one that came before
abbrev pub AreUnlike : List Lsa → List Lsa → Type 0
AreUnlike before out = (e : Lsa) → Has before e → AllByRecursion (λ y. same_instance e y ≡ false) out

pub record AreOnce (before out : List Lsa) : Type 0 where
  pub unlike : AreUnlike before out
  pub distinct : IsDistinct same_instance out

unlike_new : (b : Bool) (before : List Lsa) (x e : Lsa) → list_any (covers x) before ≡ false → Has before e
    → same_instance e x ≡ b → same_instance e x ≡ false
unlike_new true before x e none has is =
    let covered : list_any (covers x) before ≡ true = any_has (covers x) before e has (same_covers e x is) in absurd cc
unlike_new false before x e none has is = is

once_by : (b : Bool) (before : List Lsa) (x : Lsa) (rest : List Lsa) → list_any (covers x) before ≡ not b
    → AreOnce (before ++ x ∷ []) rest → AreOnce before (cond b (x ∷ rest) rest)
unfolding IsDistinct
once_by true before x rest none later = record {
  unlike = λ e has. (
    unlike_new (same_instance e x) before x e none has refl,
    later.unlike e (has_left before (x ∷ []) e has),
  );
  distinct = (later.unlike x (has_right before (x ∷ []) x (inl refl)), later.distinct);
}
once_by false before x rest some later = record {
  unlike = λ e has. later.unlike e (has_left before (x ∷ []) e has);
  distinct = later.distinct;
}

pub sent_once : (before xs : List Lsa) → AreOnce before (news (after_all new_router before) xs)
unfolding IsDistinct
sent_once before [] = record { unlike = λ e has. tt; distinct = tt }
sent_once before (x ∷ xs) =
    let later : AreOnce (before ++ x ∷ []) (news (after_one (after_all new_router before) x) xs) =
    subst (λ (r : Router). AreOnce (before ++ x ∷ []) (news r xs)) (after_append new_router before (x ∷ []))
    (sent_once (before ++ x ∷ []) xs) in
    once_by (is_news (after_all new_router before) x) before x (news (after_one (after_all new_router before) x) xs)
    (flip _ _ (news_after before x)) later
