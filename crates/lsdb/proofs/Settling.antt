-- A database has no conflict exactly where its list is settled.
use Rattle.std.proofs.Common.{◌≡◌, ◌∙◌, ◌||◌, ◌&&◌, Bool, true, false, not, cond, List, [], ◌∷◌, Option, Some, None, if◌then◌else◌, refl, sym, ap, subst}
use Rattle.std.specs.List.{list_all, list_any, find, cons_option}
use Rattle.std.specs.Option.{option_map}
use Rattle.std.proofs.lemmas.Bool.{and_parts, and_from}
use Rattle.ospf_lsa.specs.declared.lsa.Lsa.{Lsa}
use Rattle.lsdb.specs.declared.change.Conflict.{Conflict}
use Rattle.lsdb.specs.declared.key.Key.{Key}
use Rattle.lsdb.specs.Conflicts.{conflict_of, earlier, least_conflict}
use Rattle.lsdb.specs.Entries.{entry_of, entries_in}
use Rattle.lsdb.specs.Keys.{same_key, is_of, keys_in}
use Rattle.lsdb.specs.Newest.{are_alike, newest_of, same_but_age, IsSettled}
use Rattle.lsdb.proofs.Alike.{alike_equiv}
use Rattle.lsdb.proofs.Arrivals.{HaveInstances, have_instances, any_key}
use Rattle.lsdb.proofs.Lists.{entries_at, entry_from, newest_is_tops, newest_there, pass_none}
use Rattle.lsdb.proofs.Stores.{key_is}
use Rattle.lsdb.proofs.Tops.{tops}

all_found_by : (b : Bool) (m l : Lsa) (ls : List Lsa)
    → (list_all (same_but_age m) ls ≡ true → find (λ lsa. not (same_but_age m lsa)) ls ≡ None)
    → (b && list_all (same_but_age m) ls) ≡ true
    → cond (not b) (Some l) (find (λ lsa. not (same_but_age m lsa)) ls) ≡ None
all_found_by true m l ls rest h = rest h
all_found_by false m l ls rest h = absurd cc

none_differs : (m : Lsa) (ls : List Lsa) → list_all (same_but_age m) ls ≡ true
    → find (λ lsa. not (same_but_age m lsa)) ls ≡ None
none_differs m [] h = refl
none_differs m (l ∷ ls) h = all_found_by (same_but_age m l) m l ls (none_differs m ls) h

found_all_by : (b : Bool) (m l : Lsa) (ls : List Lsa)
    → (find (λ lsa. not (same_but_age m lsa)) ls ≡ None → list_all (same_but_age m) ls ≡ true)
    → cond (not b) (Some l) (find (λ lsa. not (same_but_age m lsa)) ls) ≡ None
    → (b && list_all (same_but_age m) ls) ≡ true
found_all_by true m l ls rest h = rest h
found_all_by false m l ls rest h = absurd cc

all_alike : (m : Lsa) (ls : List Lsa) → find (λ lsa. not (same_but_age m lsa)) ls ≡ None
    → list_all (same_but_age m) ls ≡ true
all_alike m [] h = refl
all_alike m (l ∷ ls) h = found_all_by (same_but_age m l) m l ls (all_alike m ls) h

as_first : (m one : Lsa) (ls : List Lsa) → same_but_age m one ≡ true → list_all (same_but_age m) ls ≡ true
    → list_all (same_but_age one) ls ≡ true
as_first m one [] same h = refl
as_first m one (l ∷ ls) same h =
    let parts = and_parts (same_but_age m l) _ h in
    and_from _ _ (sym (alike_equiv.congr m one l same) ∙ parts.0) (as_first m one ls same parts.1)

each_alike : (m : Lsa) (all ls : List Lsa) → list_all (same_but_age m) all ≡ true → list_all (same_but_age m) ls ≡ true
    → list_all (λ one. list_all (same_but_age one) all) ls ≡ true
each_alike m all [] whole h = refl
each_alike m all (l ∷ ls) whole h =
    let parts = and_parts (same_but_age m l) _ h in
    and_from _ _ (as_first m l all parts.0 whole) (each_alike m all ls whole parts.1)

alike_from : (m : Lsa) (ms : List Lsa) → find (λ lsa. not (same_but_age m lsa)) ms ≡ None → are_alike (m ∷ ms) ≡ true
alike_from m ms none =
    let whole = and_from _ _ (alike_equiv.refl m) (all_alike m ms none) in each_alike m (m ∷ ms) (m ∷ ms) whole whole

none_from : (m : Lsa) (ms : List Lsa) → are_alike (m ∷ ms) ≡ true → find (λ lsa. not (same_but_age m lsa)) ms ≡ None
none_from m ms alike =
    none_differs m ms (and_parts (same_but_age m m) _ (and_parts (list_all (same_but_age m) (m ∷ ms)) _ alike).0).1

some_by : (c : Bool) (one other : Conflict) → (if c then Some other else Some one) ≡ None → ⊥
some_by true one other h = cc
some_by false one other h = cc

pub none_of_two : (one other : Option Conflict) → earlier one other ≡ None → (one ≡ None) × (other ≡ None)
none_of_two None other h = (refl, h)
none_of_two (Some one) None h = absurd cc
none_of_two (Some one) (Some other) h = absurd (some_by _ one other h)

no_place : (m : Lsa) (found : Option Lsa)
    → conflict_of (record { lsa = m; differing = option_map (λ (l : Lsa). l.at) found }) ≡ None → found ≡ None
no_place m None h = refl
no_place m (Some l) h = absurd cc

conflict_from : (m : Lsa) (ms : List Lsa) → are_alike (m ∷ ms) ≡ true → conflict_of (entry_from m ms) ≡ None
conflict_from m ms alike =
    ap (λ (found : Option Lsa). conflict_of (record { lsa = m; differing = option_map (λ (l : Lsa). l.at) found }))
    (none_from m ms alike)

settled_none : (keys : List Key) (lsas : List Lsa) → HaveInstances lsas keys → IsSettled lsas
    → least_conflict (entries_at lsas keys) ≡ None
settled_none [] lsas have settled = refl
settled_none (key ∷ keys) lsas have settled =
    let newest = newest_there lsas key have.0 in
    ap (λ (ts : List Lsa). least_conflict (cons_option (entry_of ts) (entries_at lsas keys))) newest.are
    ∙ ap (λ (c : Option Conflict). earlier c (least_conflict (entries_at lsas keys)))
    (conflict_from newest.first newest.rest (subst (λ (ts : List Lsa). are_alike ts ≡ true) newest.are (settled key)))
    ∙ settled_none keys lsas have.1 settled

key_by : (b : Bool) (key k : Key) (keys : List Key) (lsas : List Lsa) → same_key key k ≡ b
    → are_alike (newest_of lsas k) ≡ true
    → (list_any (same_key key) keys ≡ true → are_alike (newest_of lsas key) ≡ true)
    → (b || list_any (same_key key) keys) ≡ true
    → are_alike (newest_of lsas key) ≡ true
key_by true key k keys lsas is here rest h = subst (λ (x : Key). are_alike (newest_of lsas x) ≡ true)
    (key_is key k is) here
key_by false key k keys lsas is here rest h = rest h

none_settled : (keys : List Key) (lsas : List Lsa) → HaveInstances lsas keys
    → least_conflict (entries_at lsas keys) ≡ None
    → (key : Key) → list_any (same_key key) keys ≡ true → are_alike (newest_of lsas key) ≡ true
none_settled [] lsas have none key there = absurd cc
none_settled (k ∷ keys) lsas have none key there =
    let newest = newest_there lsas k have.0 in
    let parts = none_of_two (conflict_of (entry_from newest.first newest.rest)) (least_conflict (entries_at lsas keys))
    (sym (ap (λ (ts : List Lsa). least_conflict (cons_option (entry_of ts) (entries_at lsas keys))) newest.are)
    ∙ none) in
    key_by (same_key key k) key k keys lsas refl
    (subst (λ (ts : List Lsa). are_alike ts ≡ true) (sym newest.are)
    (alike_from newest.first newest.rest (no_place newest.first _ parts.0)))
    (none_settled keys lsas have.1 parts.1 key) there

settled_by_key : (b : Bool) (lsas : List Lsa) (key : Key) → list_any (is_of key) lsas ≡ b
    → least_conflict (entries_in lsas) ≡ None → are_alike (newest_of lsas key) ≡ true
settled_by_key true lsas key is none = none_settled (keys_in lsas) lsas (have_instances lsas) none key
    (any_key key lsas ∙ is)
settled_by_key false lsas key is none = ap are_alike (newest_is_tops lsas key ∙ ap tops (pass_none (is_of key) lsas is))

pub no_conflict_settled : (lsas : List Lsa) → least_conflict (entries_in lsas) ≡ None → IsSettled lsas
no_conflict_settled lsas none key = settled_by_key (list_any (is_of key) lsas) lsas key refl none

pub settled_no_conflict : (lsas : List Lsa) → IsSettled lsas → least_conflict (entries_in lsas) ≡ None
settled_no_conflict lsas settled = settled_none (keys_in lsas) lsas (have_instances lsas) settled
