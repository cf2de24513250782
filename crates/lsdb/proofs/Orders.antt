-- What a settled list's newest instances are does not hang on the order of its LSAs.
use Rattle.std.proofs.Common.{◌≡◌, ◌∙◌, ◌||◌, ◌&&◌, Bool, true, false, List, [], ◌∷◌, Some, slice_get, refl, sym, ap, subst}
use Rattle.std.specs.List.{list_all, list_any}
use Rattle.std.specs.Option.{option_map}
use Rattle.std.proofs.lemmas.Bool.{and_parts, and_from, not-true}
use Rattle.ospf_lsa.specs.declared.lsa.Lsa.{Lsa}
use Rattle.lsdb.specs.declared.key.Key.{Key}
use Rattle.lsdb.specs.Keys.{key_of, same_key, is_of}
use Rattle.lsdb.specs.Newest.{are_alike, is_newest, newest_of, same_but_age, IsSettled}
use Rattle.lsdb.specs.Orders.{first_newest, timeless}
use Rattle.ospf_lsa.specs.MaxAge.{is_at_max_age}
use Rattle.lsdb.specs.Rank.{outranks}
use Rattle.lsdb.proofs.Agreements.{Agree, newest_agrees, settled_agree}
use Rattle.lsdb.proofs.Alike.{alike_equiv}
use Rattle.lsdb.proofs.Arrivals.{others, own_key}
use Rattle.lsdb.proofs.Lists.{Newest, any_and, newest_is_tops, newest_there, pass_none}
use Rattle.lsdb.proofs.Timeless.{aged_alike, equal_rank, timeless_is}
use Rattle.lsdb.proofs.Tops.{First, first_of_filter, tops}

-- what no LSA of a list passes, its first that a filter lets through does not
not_first_by : (b : Bool) (keep test : Lsa → Bool) (lsas : List Lsa) (m : Lsa) → First keep lsas m
    → list_any test lsas ≡ false → test m ≡ b → test m ≡ false
not_first_by true keep test lsas m first none is = let some = first.among test is in absurd cc
not_first_by false keep test lsas m first none is = is

-- the first newest instances of a key in two lists
pub record BothNewest (lsas others : List Lsa) (key : Key) : Type 0 where
  pub one : Newest lsas key
  pub other : Newest others key

-- of two first newest instances the one does not outrank the other
not_above : (lsas others : List Lsa) (key : Key) → Agree lsas others → (both : BothNewest lsas others key)
    → outranks both.other.first both.one.first ≡ false
not_above lsas others key agree both =
    let m = both.one.first in
    let m' = both.other.first in
    let first = first_of_filter (λ lsa. is_of key lsa && is_newest lsas lsa) lsas m both.one.rest both.one.are in
    let first' =
    first_of_filter (λ lsa. is_of key lsa && is_newest others lsa) others m' both.other.rest both.other.are in
    let free = not-true _ (sym (newest_agrees lsas others agree m) ∙ (and_parts _ _ first.passes).1) in
    let none = not_first_by _ (λ lsa. is_of key lsa && is_newest others lsa)
    (λ other. is_of (key_of m) other && outranks other m) others m' first' free refl in
    sym (ap (λ (k : Key). same_key k (key_of m') && outranks m' m) both.one.of_key
    ∙ ap (λ (k : Key). same_key key k && outranks m' m) both.other.of_key
    ∙ ap (λ (b : Bool). b && outranks m' m) (own_key key)) ∙ none

alike_by : (b c : Bool) (m x m' : Lsa) (xs : List Lsa) → same_but_age m x ≡ b → same_but_age m' x ≡ true
    → (list_any (same_but_age m) xs ≡ true → same_but_age m m' ≡ true) → (b || list_any (same_but_age m) xs) ≡ true
    → same_but_age m m' ≡ true
alike_by true c m x m' xs is is' rest h = alike_equiv.congr m x m' is ∙ alike_equiv.symm x m' ∙ is'
alike_by false c m x m' xs is is' rest h = rest h

-- one that is alike some of a list, all of which are alike a second one, is alike the second
alike_through : (m m' : Lsa) (xs : List Lsa) → list_all (same_but_age m') xs ≡ true
    → list_any (same_but_age m) xs ≡ true → same_but_age m m' ≡ true
alike_through m m' [] all some = absurd cc
alike_through m m' (x ∷ xs) all some =
    let parts = and_parts (same_but_age m' x) _ all in
    alike_by (same_but_age m x) true m x m' xs refl parts.0 (alike_through m m' xs parts.1) some

-- the first newest instances of a key in two lists that agree, of which one is settled
first_alike : (lsas others : List Lsa) (key : Key) → Agree lsas others → (both : BothNewest lsas others key)
    → are_alike (newest_of others key) ≡ true
    → same_but_age both.one.first both.other.first ≡ true
first_alike lsas others key agree both alike =
    let m = both.one.first in
    let first = first_of_filter (λ lsa. is_of key lsa && is_newest lsas lsa) lsas m both.one.rest both.one.are in
    let passes = and_parts (is_of key m) (is_newest lsas m) first.passes in
    let here : list_any (λ x. (is_of key x && is_newest others x) && same_but_age m x) lsas ≡ true =
    first.among (λ x. (is_of key x && is_newest others x) && same_but_age m x)
    (and_from _ _ (and_from _ _ passes.0 (sym (newest_agrees lsas others agree m) ∙ passes.1)) (alike_equiv.refl m)) in
    let there : list_any (same_but_age m) (newest_of others key) ≡ true =
    sym (any_and (λ lsa. is_of key lsa && is_newest others lsa) (same_but_age m) others)
    ∙ sym (agree (λ x. (is_of key x && is_newest others x) && same_but_age m x) (λ x. refl)) ∙ here in
    let whole : are_alike (both.other.first ∷ both.other.rest) ≡ true =
    subst (λ (ts : List Lsa). are_alike ts ≡ true) both.other.are alike in
    alike_through m both.other.first (both.other.first ∷ both.other.rest)
    (and_parts (list_all (same_but_age both.other.first) (both.other.first ∷ both.other.rest)) _ whole).0
    (subst (λ (ts : List Lsa). list_any (same_but_age m) ts ≡ true) both.other.are there)

pub swapped : (lsas others : List Lsa) → Agree lsas others → Agree others lsas
swapped lsas others agree test placeless = sym (agree test placeless)

-- both or neither at MaxAge
first_aged : (lsas others : List Lsa) (key : Key) → Agree lsas others → (both : BothNewest lsas others key)
    → is_at_max_age both.one.first ≡ is_at_max_age both.other.first
first_aged lsas others key agree both =
    aged_alike both.one.first both.other.first
    (equal_rank both.one.first both.other.first
    (not_above others lsas key (swapped lsas others agree) (record { one = both.other; other = both.one }))
    (not_above lsas others key agree both))

told_there : {X : Type 0} (told : Lsa → X) (lsas others : List Lsa) (key : Key) → (both : BothNewest lsas others key)
    → told both.one.first ≡ told both.other.first
    → option_map told (first_newest lsas key) ≡ option_map told (first_newest others key)
told_there {X = X} told lsas others key both same =
    ap (λ (ts : List Lsa). option_map told (slice_get ts 0)) both.one.are
    ∙ ap (λ (x : X). Some x) same
    ∙ sym (ap (λ (ts : List Lsa). option_map told (slice_get ts 0)) both.other.are)

told_nowhere : {X : Type 0} (told : Lsa → X) (lsas others : List Lsa) (key : Key) → list_any (is_of key) lsas ≡ false
    → list_any (is_of key) others ≡ false
    → option_map told (first_newest lsas key) ≡ option_map told (first_newest others key)
told_nowhere told lsas others key none none' =
    ap (λ (ts : List Lsa). option_map told (slice_get ts 0))
    (newest_is_tops lsas key ∙ ap tops (pass_none (is_of key) lsas none))
    ∙ sym (ap (λ (ts : List Lsa). option_map told (slice_get ts 0))
    (newest_is_tops others key ∙ ap tops (pass_none (is_of key) others none')))

told_by : {X : Type 0} (b : Bool) (told : Lsa → X) (lsas others : List Lsa) (key : Key)
    → list_any (is_of key) lsas ≡ b → list_any (is_of key) others ≡ b
    → ((both : BothNewest lsas others key) → told both.one.first ≡ told both.other.first)
    → option_map told (first_newest lsas key) ≡ option_map told (first_newest others key)
told_by true told lsas others key there there' same =
    let both : BothNewest lsas others key =
    record { one = newest_there lsas key there; other = newest_there others key there' } in
    told_there told lsas others key both (same both)
told_by false told lsas others key there there' same = told_nowhere told lsas others key there there'

pub timeless_told : (lsas others : List Lsa) → Agree lsas others → IsSettled lsas → (key : Key)
    → option_map timeless (first_newest lsas key) ≡ option_map timeless (first_newest others key)
timeless_told lsas others agree settled key =
    told_by (list_any (is_of key) lsas) timeless lsas others key refl (sym (agree (is_of key) (λ x. refl)))
    (λ both. timeless_is both.one.first both.other.first
    (first_alike lsas others key agree both (settled_agree lsas others agree settled key))
    (first_aged lsas others key agree both))
