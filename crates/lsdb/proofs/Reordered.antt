-- Lists of distinct keys that have the same keys are each the other in another order.
use Rattle.std.proofs.Common.{◌≡◌, ◌∙◌, ◌||◌, Bool, true, false, not, cond, List, [], ◌∷◌, Option, Some, None, map, slice_get, refl, sym, ap, subst}
use Rattle.std.specs.List.{list_any, filter_map, cons_option}
use Rattle.std.specs.List.Sorted.{IsPermutation}
use Rattle.std.specs.Option.{option_map}
use Rattle.std.proofs.lemmas.List.Sorted.{IsPermutation-refl, IsPermutation-sym, IsPermutation-trans, IsPermutation-cons, IsPermutation-middle}
use Rattle.ospf_lsa.specs.declared.lsa.Lsa.{Lsa}
use Rattle.lsdb.specs.declared.key.Key.{Key}
use Rattle.lsdb.specs.Entries.{Entry, entry_of}
use Rattle.lsdb.specs.Keys.{same_key, is_of, keys_in}
use Rattle.lsdb.specs.Newest.{newest_of, IsSettled}
use Rattle.lsdb.specs.Orders.{first_newest, newest_in, timeless}
use Rattle.lsdb.proofs.Agreements.{Agree}
use Rattle.lsdb.proofs.Arrivals.{any_key, any_other, AreDistinct, distinct_others, keys_distinct, none_left, others, own_key}
use Rattle.lsdb.proofs.Orders.{timeless_told}
use Rattle.lsdb.proofs.Stores.{key_is}

cons_both : {X : Type 0} (x : Option X) (xs ys : List X) → IsPermutation xs ys
    → IsPermutation (cons_option x xs) (cons_option x ys)
cons_both None xs ys same = same
cons_both (Some x) xs ys same = IsPermutation-cons x xs ys same

cons_swapped : {X : Type 0} (x y : Option X) (xs : List X)
    → IsPermutation (cons_option x (cons_option y xs)) (cons_option y (cons_option x xs))
cons_swapped None y xs = IsPermutation-refl (cons_option y xs)
cons_swapped (Some x) None xs = IsPermutation-refl (x ∷ xs)
cons_swapped (Some x) (Some y) xs = IsPermutation-middle (x ∷ []) y xs

-- where a key is not there, leaving it out changes nothing
lacking_by : (b : Bool) (key first : Key) (keys : List Key) → same_key key first ≡ b
    → (b || list_any (same_key key) keys) ≡ false
    → (list_any (same_key key) keys ≡ false → others key keys ≡ keys)
    → cond (not b) (first ∷ others key keys) (others key keys) ≡ first ∷ keys
lacking_by true key first keys is none rest = absurd cc
lacking_by false key first keys is none rest = ap (λ (ks : List Key). first ∷ ks) (rest none)

none_to_leave : (key : Key) (keys : List Key) → list_any (same_key key) keys ≡ false → others key keys ≡ keys
none_to_leave key [] none = refl
none_to_leave key (first ∷ keys) none = lacking_by (same_key key first) key first keys refl none
    (none_to_leave key keys)

-- a key that is there, put first
first_by : {X : Type 0} (b : Bool) (told : Key → Option X) (key first : Key) (keys : List Key)
    → same_key key first ≡ b → list_any (same_key first) keys ≡ false
    → (b || list_any (same_key key) keys) ≡ true
    → (list_any (same_key key) keys ≡ true
    → IsPermutation (filter_map told keys) (cons_option (told key) (filter_map told (others key keys))))
    → IsPermutation (filter_map told (first ∷ keys))
    (cons_option (told key) (filter_map told (cond (not b) (first ∷ others key keys) (others key keys))))
first_by {X = X} true told key first keys is none there rest =
    let same : first ≡ key = key_is key first is in
    let gone : others key keys ≡ keys =
    none_to_leave key keys (subst (λ (k : Key). list_any (same_key k) keys ≡ false) same none) in
    subst (λ (ks : List Key). IsPermutation (cons_option (told first) (filter_map told keys))
    (cons_option (told key) (filter_map told ks))) (sym gone)
    (subst (λ (k : Key). IsPermutation (cons_option (told first) (filter_map told keys))
    (cons_option (told k) (filter_map told keys))) same
    (IsPermutation-refl (cons_option (told first) (filter_map told keys))))
first_by {X = X} false told key first keys is none there rest =
    IsPermutation-trans (filter_map told (first ∷ keys))
    (cons_option (told first) (cons_option (told key) (filter_map told (others key keys))))
    (cons_option (told key) (cons_option (told first) (filter_map told (others key keys))))
    (cons_both (told first) (filter_map told keys) (cons_option (told key) (filter_map told (others key keys)))
    (rest there))
    (cons_swapped (told first) (told key) (filter_map told (others key keys)))

put_first : {X : Type 0} (told : Key → Option X) (key : Key) (keys : List Key) → AreDistinct keys
    → list_any (same_key key) keys ≡ true
    → IsPermutation (filter_map told keys) (cons_option (told key) (filter_map told (others key keys)))
put_first told key [] distinct there = absurd cc
put_first told key (first ∷ keys) distinct there =
    first_by (same_key key first) told key first keys refl distinct.0 there (put_first told key keys distinct.1)

-- the same keys
abbrev pub HaveTheSame : List Key → List Key → Type 0
HaveTheSame keys keys' = (key : Key) → list_any (same_key key) keys ≡ list_any (same_key key) keys'

rest_by : (b : Bool) (key first : Key) (keys keys' : List Key) → same_key key first ≡ b
    → list_any (same_key first) keys ≡ false
    → (b || list_any (same_key key) keys) ≡ list_any (same_key key) keys'
    → list_any (same_key key) keys ≡ list_any (same_key key) (others first keys')
rest_by true key first keys keys' is none same =
    let one : first ≡ key = key_is key first is in
    subst (λ (k : Key). list_any (same_key k) keys ≡ list_any (same_key k) (others first keys')) one
    (none ∙ sym (none_left first keys'))
rest_by false key first keys keys' is none same = same ∙ sym (any_other key first keys' is)

pub same_keys_reordered : {X : Type 0} (told : Key → Option X) (keys keys' : List Key) → AreDistinct keys
    → AreDistinct keys' → HaveTheSame keys keys'
    → IsPermutation (filter_map told keys) (filter_map told keys')
same_keys_reordered told [] [] distinct distinct' same = IsPermutation-refl []
same_keys_reordered told [] (key ∷ keys') distinct distinct' same =
    let told_both = same key in
    let here = own_key key in absurd cc
same_keys_reordered told (first ∷ keys) keys' distinct distinct' same =
    let there : list_any (same_key first) keys' ≡ true = sym (same first)
    ∙ ap (λ (b : Bool). b || list_any (same_key first) keys) (own_key first) in
    IsPermutation-trans (cons_option (told first) (filter_map told keys))
    (cons_option (told first) (filter_map told (others first keys'))) (filter_map told keys')
    (cons_both (told first) (filter_map told keys) (filter_map told (others first keys'))
    (same_keys_reordered told keys (others first keys') distinct.1 (distinct_others first keys' distinct')
    (λ key. rest_by (same_key key first) key first keys keys' refl distinct.0 (same key))))
    (IsPermutation-sym (filter_map told keys') (cons_option (told first) (filter_map told (others first keys')))
    (put_first told first keys' distinct' there))

all_some : (keys : List Key) → filter_map (λ (key : Key). Some key) keys ≡ keys
all_some [] = refl
all_some (key ∷ keys) = ap (λ (ks : List Key). key ∷ ks) (all_some keys)

have_the_same : (lsas lsas' : List Lsa) → Agree lsas lsas' → HaveTheSame (keys_in lsas) (keys_in lsas')
have_the_same lsas lsas' agree key = any_key key lsas ∙ agree (is_of key) (λ x. refl) ∙ sym (any_key key lsas')

-- lists that agree have the same keys
pub keys_reordered : (lsas lsas' : List Lsa) → Agree lsas lsas' → IsPermutation (keys_in lsas) (keys_in lsas')
keys_reordered lsas lsas' agree =
    subst (λ (ks : List Key). IsPermutation ks (keys_in lsas')) (all_some (keys_in lsas))
    (subst (λ (ks : List Key). IsPermutation (filter_map (λ (key : Key). Some key) (keys_in lsas)) ks)
    (all_some (keys_in lsas'))
    (same_keys_reordered (λ (key : Key). Some key) (keys_in lsas) (keys_in lsas') (keys_distinct lsas)
    (keys_distinct lsas') (have_the_same lsas lsas' agree)))

-- what is told of the first newest instances of keys
told_of : {X : Type 0} (told : Lsa → X) (ts : List Lsa) (es : List Entry)
    → map told (map (λ (e : Entry). e.lsa) (cons_option (entry_of ts) es))
    ≡ cons_option (option_map told (slice_get ts 0)) (map told (map (λ (e : Entry). e.lsa) es))
told_of told [] es = refl
told_of told (m ∷ ms) es = refl

told_of_newest : {X : Type 0} (told : Lsa → X) (lsas : List Lsa) (keys : List Key)
    → map told (map (λ (e : Entry). e.lsa) (filter_map (λ (key : Key). entry_of (newest_of lsas key)) keys))
    ≡ filter_map (λ (key : Key). option_map told (first_newest lsas key)) keys
told_of_newest told lsas [] = refl
told_of_newest {X = X} told lsas (key ∷ keys) =
    told_of told (newest_of lsas key) (filter_map (λ (k : Key). entry_of (newest_of lsas k)) keys)
    ∙ ap (λ (rest : List X). cons_option (option_map told (first_newest lsas key)) rest) (told_of_newest told lsas keys)

same_told : {X : Type 0} (told told' : Key → Option X) → ((key : Key) → told key ≡ told' key) → (keys : List Key)
    → filter_map told keys ≡ filter_map told' keys
same_told told told' same [] = refl
same_told {X = X} told told' same (key ∷ keys) =
    ap (λ (x : Option X). cons_option x (filter_map told keys)) (same key)
    ∙ ap (λ (rest : List X). cons_option (told' key) rest) (same_told told told' same keys)

-- the newest instances of two lists that agree, of which one is settled
pub newest_reordered : (lsas lsas' : List Lsa) → Agree lsas lsas' → IsSettled lsas
    → IsPermutation (map timeless (newest_in lsas)) (map timeless (newest_in lsas'))
newest_reordered lsas lsas' agree settled =
    let of_one : map timeless (newest_in lsas) ≡ filter_map (λ key. option_map timeless (first_newest lsas' key))
    (keys_in lsas) =
    told_of_newest timeless lsas (keys_in lsas)
    ∙ same_told (λ key. option_map timeless (first_newest lsas key))
    (λ key. option_map timeless (first_newest lsas' key)) (timeless_told lsas lsas' agree settled) (keys_in lsas) in
    subst (λ (ls : List Lsa). IsPermutation ls (map timeless (newest_in lsas'))) (sym of_one)
    (subst (λ (ls : List Lsa). IsPermutation
    (filter_map (λ key. option_map timeless (first_newest lsas' key)) (keys_in lsas)) ls)
    (sym (told_of_newest timeless lsas' (keys_in lsas')))
    (same_keys_reordered (λ key. option_map timeless (first_newest lsas' key)) (keys_in lsas) (keys_in lsas')
    (keys_distinct lsas) (keys_distinct lsas') (have_the_same lsas lsas' agree)))
