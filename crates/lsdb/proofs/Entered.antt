-- The entries of a list have its keys, each once.
use Rattle.std.proofs.Common.{◌≡◌, ◌∙◌, false, List, [], ◌∷◌, map, refl, sym, ap, subst}
use Rattle.std.specs.List.{list_any, cons_option, AllByRecursion, IsDistinct}
use Rattle.std.proofs.lemmas.Bool.{or_parts}
use Rattle.ospf_lsa.specs.declared.lsa.Lsa.{Lsa}
use Rattle.lsdb.specs.declared.key.Key.{Key}
use Rattle.lsdb.specs.Entries.{Entry, entry_of}
use Rattle.lsdb.specs.Keys.{key_of, same_key, keys_in}
use Rattle.lsdb.specs.Orders.{newest_in}
use Rattle.lsdb.proofs.Arrivals.{AreDistinct, HaveInstances, have_instances, keys_distinct}
use Rattle.lsdb.proofs.Lists.{entries_at, newest_there}

keys_at : (lsas : List Lsa) (keys : List Key) → HaveInstances lsas keys
    → map key_of (map (λ (e : Entry). e.lsa) (entries_at lsas keys)) ≡ keys
keys_at lsas [] have = refl
keys_at lsas (key ∷ keys) have =
    let newest = newest_there lsas key have.0 in
    ap (λ (ts : List Lsa). map key_of
    (map (λ (e : Entry). e.lsa) (cons_option (entry_of ts) (entries_at lsas keys)))) newest.are
    ∙ ap (λ (k : Key). k ∷ map key_of (map (λ (e : Entry). e.lsa) (entries_at lsas keys))) newest.of_key
    ∙ ap (λ (ks : List Key). key ∷ ks) (keys_at lsas keys have.1)

pub keys_of_newest : (lsas : List Lsa) → map key_of (newest_in lsas) ≡ keys_in lsas
keys_of_newest lsas = keys_at lsas (keys_in lsas) (have_instances lsas)

none_alike : (key : Key) (keys : List Key) → list_any (same_key key) keys ≡ false
    → AllByRecursion (λ other. same_key key other ≡ false) keys
none_alike key [] none = tt
none_alike key (first ∷ keys) none = let parts =
    or_parts (same_key key first) _ none in (parts.0, none_alike key keys parts.1)

in_words : (keys : List Key) → AreDistinct keys → IsDistinct same_key keys
unfolding IsDistinct
in_words [] distinct = tt
in_words (key ∷ keys) distinct = (none_alike key keys distinct.0, in_words keys distinct.1)

pub distinct_newest : (lsas : List Lsa) → IsDistinct same_key (map key_of (newest_in lsas))
distinct_newest lsas = subst (IsDistinct same_key) (sym (keys_of_newest lsas))
    (in_words (keys_in lsas) (keys_distinct lsas))
