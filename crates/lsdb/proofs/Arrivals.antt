-- The keys of a list, one LSA at a time.
use Rattle.std.proofs.Common.{◌≡◌, ◌∙◌, ◌++◌, ◌||◌, ◌&&◌, ◌==◌, Bool, true, false, not, cond, List, [], ◌∷◌, if◌then◌else◌, refl, sym, ap, subst}
use Rattle.std.specs.List.{filter, list_any, AllByRecursion}
use Rattle.std.proofs.lemmas.List.{append-nil}
use Rattle.std.proofs.lemmas.List.Elements.{filter-append}
use Rattle.std.proofs.lemmas.Map.Views.{any-filter_same}
use Rattle.std.proofs.lemmas.Bool.{eq-eqb}
use Rattle.ospf_lsa.specs.declared.lsa.Lsa.{Lsa}
use Rattle.lsdb.specs.declared.key.Key.{Key}
use Rattle.lsdb.specs.Keys.{key_of, same_key, is_of, keys_in}
use Rattle.lsdb.proofs.Stores.{key_is}

pub own_key : (key : Key) → same_key key key ≡ true
own_key key =
    ap (λ (b : Bool). b && ((key.id == key.id) && (key.router == key.router))) (eq-eqb key.kind key.kind refl)
    ∙ ap (λ (b : Bool). b && (key.router == key.router)) (eq-eqb key.id key.id refl) ∙ eq-eqb key.router key.router refl

other_way : (b : Bool) (one other : Key) → same_key other one ≡ b → same_key one other ≡ false → b ≡ false
other_way true one other is differ =
    let same : one ≡ other = key_is other one is in
    let told : same_key one other ≡ true = subst (λ (k : Key). same_key one k ≡ true) same (own_key one) in absurd cc
other_way false one other is differ = refl

-- keys that differ, told the other way round
pub differ_both : (one other : Key) → same_key one other ≡ false → same_key other one ≡ false
differ_both one other differ = other_way (same_key other one) one other refl differ

-- the keys but this one
abbrev pub others : Key → List Key → List Key
others first keys = filter (λ key. not (same_key first key)) keys

-- a key that differs from the one left out is there as before
pub any_other : (key first : Key) (keys : List Key) → same_key key first ≡ false
    → list_any (same_key key) (others first keys) ≡ list_any (same_key key) keys
any_other key first keys differ =
    any-filter_same (same_key key) (λ k. not (same_key first k)) true
    (λ k told. ap not
    (subst (λ (x : Key). same_key first x ≡ false) (sym (key_is key k told)) (differ_both key first differ))) keys

pub first_is_there : (b : Bool) (key first : Key) (keys : List Key) → same_key key first ≡ b
    → list_any (same_key key) keys ≡ false → list_any (same_key key) (others first keys) ≡ false
first_is_there true key first keys is none =
    any-filter_same (same_key key) (λ k. not (same_key first k)) false
    (λ k told. ap not
    (subst (λ (x : Key). same_key first x ≡ true) (sym (key_is key k told))
    (subst (λ (x : Key). same_key first x ≡ true) (key_is key first is) (own_key first)))) keys
first_is_there false key first keys is none = any_other key first keys is ∙ none

-- the keys with one more after, where it is new
abbrev pub keys_with : Bool → Key → List Key → List Key
keys_with there key keys = if there then keys else keys ++ key ∷ []

keys_step_there : (there : Bool) (key first : Key) (keys : List Key) → same_key key first ≡ true
    → first ∷ others first (keys_with there key keys) ≡ first ∷ others first keys
keys_step_there true key first keys is = refl
keys_step_there false key first keys is =
    ap (λ (ks : List Key). first ∷ ks)
    (filter-append (λ k. not (same_key first k)) keys (key ∷ [])
    ∙ ap (λ (b : Bool). others first keys ++ cond (not b) (key ∷ []) [])
    (subst (λ (x : Key). same_key first x ≡ true) (key_is key first is) (own_key first))
    ∙ append-nil (others first keys))

keys_step_other : (there : Bool) (key first : Key) (keys : List Key) → same_key key first ≡ false
    → first ∷ others first (keys_with there key keys) ≡ keys_with there key (first ∷ others first keys)
keys_step_other true key first keys is = refl
keys_step_other false key first keys is =
    ap (λ (ks : List Key). first ∷ ks)
    (filter-append (λ k. not (same_key first k)) keys (key ∷ [])
    ∙ ap (λ (b : Bool). others first keys ++ cond (not b) (key ∷ []) []) (differ_both key first is))

keys_step_by : (b : Bool) (key first : Key) (keys : List Key) → same_key key first ≡ b
    → first ∷ others first (keys_with (list_any (same_key key) keys) key keys)
    ≡ keys_with (list_any (same_key key) (first ∷ others first keys)) key (first ∷ others first keys)
keys_step_by true key first keys is =
    keys_step_there (list_any (same_key key) keys) key first keys is
    ∙ sym (ap (λ (b : Bool). keys_with (b || list_any (same_key key) (others first keys)) key
    (first ∷ others first keys)) is)
keys_step_by false key first keys is =
    keys_step_other (list_any (same_key key) keys) key first keys is
    ∙ sym (ap (λ (b : Bool). keys_with (b || list_any (same_key key) (others first keys)) key
    (first ∷ others first keys)) is
    ∙ ap (λ (b : Bool). keys_with b key (first ∷ others first keys)) (any_other key first keys is))

pub keys_step : (lsas : List Lsa) (x : Lsa)
    → keys_in (lsas ++ x ∷ []) ≡ keys_with (list_any (same_key (key_of x)) (keys_in lsas)) (key_of x) (keys_in lsas)
keys_step [] x = refl
keys_step (l ∷ lsas) x =
    ap (λ (ks : List Key). key_of l ∷ others (key_of l) ks) (keys_step lsas x)
    ∙ keys_step_by (same_key (key_of x) (key_of l)) (key_of x) (key_of l) (keys_in lsas) refl

-- no key stands twice
abbrev pub AreDistinct : List Key → Type 0
AreDistinct [] = Unit {0}
AreDistinct (key ∷ keys) = (list_any (same_key key) keys ≡ false) × AreDistinct keys

distinct_by : (b : Bool) (first key : Key) (keys : List Key) → same_key first key ≡ b
    → list_any (same_key key) keys ≡ false → AreDistinct (others first keys)
    → AreDistinct (cond (not b) (key ∷ others first keys) (others first keys))
distinct_by true first key keys is none rest = rest
distinct_by false first key keys is none rest = (first_is_there (same_key key first) key first keys refl none, rest)

pub distinct_others : (first : Key) (keys : List Key) → AreDistinct keys → AreDistinct (others first keys)
distinct_others first [] distinct = tt
distinct_others first (key ∷ keys) distinct = distinct_by (same_key first key) first key keys refl distinct.0
    (distinct_others first keys distinct.1)

pub none_left : (first : Key) (keys : List Key) → list_any (same_key first) (others first keys) ≡ false
none_left first keys = any-filter_same (same_key first) (λ k. not (same_key first k)) false (λ k told. ap not told) keys

pub keys_distinct : (lsas : List Lsa) → AreDistinct (keys_in lsas)
keys_distinct [] = tt
keys_distinct (l ∷ lsas) =
    (none_left (key_of l) (keys_in lsas), distinct_others (key_of l) (keys_in lsas) (keys_distinct lsas))

-- each key has an instance in the list
abbrev pub HaveInstances : List Lsa → List Key → Type 0
HaveInstances lsas keys = AllByRecursion (λ key. list_any (is_of key) lsas ≡ true) keys

or_later : (a b : Bool) → b ≡ true → (a || b) ≡ true
or_later true b h = refl
or_later false b h = h

more_by : (b : Bool) (l : Lsa) (lsas : List Lsa) (first key : Key) (keys : List Key)
    → list_any (is_of key) lsas ≡ true → HaveInstances (l ∷ lsas) (others first keys)
    → HaveInstances (l ∷ lsas) (cond (not b) (key ∷ others first keys) (others first keys))
more_by true l lsas first key keys is rest = rest
more_by false l lsas first key keys is rest = (or_later (is_of key l) _ is, rest)

more_instances : (l : Lsa) (lsas : List Lsa) (first : Key) (keys : List Key) → HaveInstances lsas keys
    → HaveInstances (l ∷ lsas) (others first keys)
more_instances l lsas first [] have = tt
more_instances l lsas first (key ∷ keys) have =
    more_by (same_key first key) l lsas first key keys have.0 (more_instances l lsas first keys have.1)

pub have_instances : (lsas : List Lsa) → HaveInstances lsas (keys_in lsas)
have_instances [] = tt
have_instances (l ∷ lsas) = (
  ap (λ (b : Bool). b || list_any (is_of (key_of l)) lsas) (own_key (key_of l)),
  more_instances l lsas (key_of l)
      (keys_in lsas) (have_instances lsas),
)

-- a key is among the keys of a list where it has an instance there
any_by : (b : Bool) (key first : Key) (keys : List Key) (rest : Bool) → same_key key first ≡ b
    → list_any (same_key key) keys ≡ rest
    → (b || list_any (same_key key) (others first keys)) ≡ (b || rest)
any_by true key first keys rest is same = refl
any_by false key first keys rest is same = any_other key first keys is ∙ same

pub any_key : (key : Key) (lsas : List Lsa) → list_any (same_key key) (keys_in lsas) ≡ list_any (is_of key) lsas
any_key key [] = refl
any_key key (l ∷ lsas) = any_by (same_key key (key_of l)) key (key_of l) (keys_in lsas) _ refl (any_key key lsas)
