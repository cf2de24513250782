-- LSAs that move to the front of their list.
use Rattle.std.proofs.Common.{◌≡◌, ◌∙◌, ◌<◌, ◌≤◌, ◌+◌, ◌++◌, ℕ, zero, suc, Bool, true, false, not, List, [], ◌∷◌, Option, Some, None, length, map, take, drop, set, get_or, slice_get, if◌then◌else◌, refl, sym, ap, subst, inl, inr, arith}
use Rattle.std.specs.List.{swap, list_any, position_or_len, AllByRecursion, IsDistinct}
use Rattle.std.specs.Option.{option_map}
use Rattle.std.proofs.lemmas.Bool.{cases_lt, not-false, not-true}
use Rattle.std.proofs.lemmas.List.{drop-set-lt, length-set, length-take-le, length_push, map_push, take-set, take-set-le, take_more_set}
use Rattle.std.proofs.lemmas.List.Edits.{swap_is}
use Rattle.std.proofs.lemmas.Option.{get_or_from_slice_get, slice_get-map}
use Rattle.mrt_graph.proofs.Members.{all_append}
use Rattle.ospf_lsa.specs.declared.lsa.Lsa.{Lsa}
use Rattle.lsdb.specs.declared.change.Change.{Change}
use Rattle.lsdb.specs.declared.change.Change.TheVariants.{Added}
use Rattle.lsdb.specs.declared.key.Key.{Key}
use Rattle.lsdb.specs.Entries.{Entry}
use Rattle.lsdb.specs.Installing.{change_of, changed, installed, IsKept}
use Rattle.lsdb.specs.Keys.{key_of, same_key}
use Rattle.lsdb.specs.steps.Store.{entries_of, front, is_entry_of, IsStore}
use Rattle.lsdb.proofs.Stores.{chosen, entries_added, found_by_insert, installed_new, installed_there, key_is, lacking, parts_of, unchosen, Found}

-- nothing stands at the front yet
pub store_first : (keys : List Key) (lsas : List Lsa) (places : List (Option ℕ)) → keys ≡ [] → places ≡ []
    → IsStore keys (front lsas places) places
unfolding IsDistinct
store_first keys lsas places no_keys none =
    rw (no_keys, none) (record { keyed = refl; distinct = tt; noted = refl; kept = tt })

-- what is written into a list, seen at its front
take_written : {X : Type 0} (xs : List X) (n i : ℕ) (x : X) → take n (set xs i x) ≡ set (take n xs) i x
take_written [] zero i x = refl
take_written [] (suc n) i x = refl
take_written (y ∷ ys) zero i x = refl
take_written (y ∷ ys) (suc n) zero x = refl
take_written {X = X} (y ∷ ys) (suc n) (suc i) x = ap (λ (rest : List X). y ∷ rest) (take_written ys n i x)

-- two elements that change places leave those after them
pub after_swap : {X : Type 0} (xs : List X) (i place : ℕ) (x : X) → i ≤ place → place < length xs
    → drop (place + 1) (swap xs i place) ≡ drop (place + 1) xs
after_swap xs i place x before inside =
    ap (drop (place + 1)) (sym (swap_is xs i place x (omega (arith, before, inside)) inside))
    ∙ drop-set-lt (place + 1) (set xs i (get_or xs place x)) place (get_or xs i x) (omega arith)
    ∙ drop-set-lt (place + 1) xs i (get_or xs place x) (omega (arith, before))

-- an element that changes places with one at the front stands there
set_by_swap : {X : Type 0} (xs : List X) (n i place : ℕ) (x : X) → slice_get xs place ≡ Some x → i < n → n ≤ place
    → place < length xs → take n (swap xs i place) ≡ set (take n xs) i x
set_by_swap {X = X} xs n i place x there below behind inside =
    ap (take n) (sym (swap_is xs i place x (omega (arith, below, behind, inside)) inside))
    ∙ take-set-le n (set xs i (get_or xs place x)) place (get_or xs i x) behind
    ∙ take_written xs n i (get_or xs place x)
    ∙ ap (λ (y : X). set (take n xs) i y) (get_or_from_slice_get xs place x x there)

-- an element that changes places with the first one after the front joins it
joined_by_swap : {X : Type 0} (xs : List X) (n place : ℕ) (x : X) → slice_get xs place ≡ Some x → n ≤ place
    → place < length xs → take (n + 1) (swap xs n place) ≡ take n xs ++ x ∷ []
joined_by_swap {X = X} xs n place x there behind inside =
    ap (take (n + 1)) (sym (swap_is xs n place x (omega (arith, behind, inside)) inside))
    ∙ elim (cases_lt n place) [
      | inl less ↦
          take-set-le (n + 1) (set xs n (get_or xs place x)) place (get_or xs n x) (omega (arith, less))
          ∙ take_more_set xs n (get_or xs place x) (omega (arith, behind, inside))
          ∙ ap (λ (y : X). take n xs ++ y ∷ []) (get_or_from_slice_get xs place x x there)
      | inr not_less ↦
          let same : place ≡ n = omega (arith, not_less, behind) in
          ap (λ (i : ℕ). take (n + 1) (set (set xs n (get_or xs place x)) i (get_or xs n x))) same
          ∙ take_more_set (set xs n (get_or xs place x)) n (get_or xs n x)
          (omega (arith, length-set xs n (get_or xs place x), behind, inside))
          ∙ ap (λ (ys : List X). ys ++ get_or xs n x ∷ []) (take-set xs n (get_or xs place x))
          ∙ ap (λ (y : X). take n xs ++ y ∷ [])
          (ap (λ (i : ℕ). get_or xs i x) (sym same) ∙ get_or_from_slice_get xs place x x there)
    ]

-- what holds of each element holds after one is written
pub all_written : {X : Type 0} (P : X → Type 0) (xs : List X) (i : ℕ) (x : X) → AllByRecursion P xs → P x
    → AllByRecursion P (set xs i x)
all_written P [] i x all one = tt
all_written P (y ∷ ys) zero x all one = (one, all.1)
all_written P (y ∷ ys) (suc i) x all one = (all.0, all_written P ys i x all.1 one)

pub front_noted : (lsas : List Lsa) (places : List (Option ℕ)) → length places ≤ length lsas
    → length places ≡ length (front lsas places)
front_noted lsas places within = sym (length-take-le (length places) lsas within)

-- an instance takes the place of one at the front
pub front_set : (lsas lsas' : List Lsa) (places : List (Option ℕ)) (note : Option ℕ) (i place : ℕ) (lsa : Lsa)
    → slice_get lsas place ≡ Some lsa → i < length places → length places ≤ place → place < length lsas
    → lsas' ≡ swap lsas i place → front lsas' (set places i note) ≡ set (front lsas places) i lsa
front_set lsas lsas' places note i place lsa there below behind inside is =
    ap (λ (n : ℕ). take n lsas') (length-set places i note)
    ∙ ap (take (length places)) is
    ∙ set_by_swap lsas (length places) i place lsa there below behind inside

-- an instance of a new key joins the front
pub front_added : (lsas lsas' : List Lsa) (places places' : List (Option ℕ)) (place : ℕ) (lsa : Lsa)
    → slice_get lsas place ≡ Some lsa → length places ≤ place → place < length lsas
    → lsas' ≡ swap lsas (length places) place → places' ≡ places ++ None ∷ []
    → front lsas' places' ≡ front lsas places ++ lsa ∷ []
front_added lsas lsas' places places' place lsa there behind inside is more =
    ap (λ (n : ℕ). take n lsas') (ap length more ∙ length_push places None)
    ∙ ap (take (length places + 1)) is
    ∙ joined_by_swap lsas (length places) place lsa there behind inside

pub store_added : (keys keys' : List Key) (lsas lsas' : List Lsa) (places places' : List (Option ℕ)) (place : ℕ)
    (lsa : Lsa) → IsStore keys (front lsas places) places
    → slice_get lsas place ≡ Some lsa → length places ≤ place → place < length lsas
    → lsas' ≡ swap lsas (length places) place → places' ≡ places ++ None ∷ []
    → keys' ≡ keys ++ key_of lsa ∷ [] → IsDistinct same_key keys' → IsKept lsa
    → IsStore keys' (front lsas' places') places'
store_added keys keys' lsas lsas' places places' place lsa store there behind inside is more new distinct kept =
    let grown = front_added lsas lsas' places places' place lsa there behind inside is more in
    let keyed : keys' ≡ map key_of (front lsas' places') =
    new ∙ ap (λ (ks : List Key). ks ++ key_of lsa ∷ []) store.keyed ∙ sym (map_push key_of (front lsas places) lsa)
    ∙ ap (map key_of) (sym grown) in
    record {
      keyed = keyed;
      distinct = subst (IsDistinct same_key) keyed distinct;
      noted = omega (
        arith,
        ap length more,
        length_push places None,
        ap length grown,
        length_push (front lsas places) lsa,
        store.noted,
      );
      kept = subst (AllByRecursion IsKept) (sym grown)
          (all_append IsKept (front lsas places) (lsa ∷ []) store.kept (kept, tt));
    }

-- an instance that meets one of its key leaves the keys as they are
pub store_turned : (keys keys' : List Key) (lsas lsas' : List Lsa) (places places' : List (Option ℕ))
    → IsStore keys (front lsas places) places → length places ≤ length lsas
    → length places' ≡ length places → length lsas' ≡ length lsas
    → keys' ≡ keys → map key_of (front lsas' places') ≡ map key_of (front lsas places)
    → AllByRecursion IsKept (front lsas' places') → IsStore keys' (front lsas' places') places'
store_turned keys keys' lsas lsas' places places' store within noted count same keyed kept = record {
  keyed = same ∙ store.keyed ∙ sym keyed;
  distinct = subst (IsDistinct same_key) (sym keyed) store.distinct;
  noted = front_noted lsas' places' (omega (arith, within, noted, count));
  kept = kept;
}

-- the keys after an insert
pub keys_grown : (keys keys' : List Key) (key : Key) (lsa : Lsa) (is_new : Bool)
    → keys' ≡ (if list_any (same_key key) keys then keys else keys ++ key ∷ [])
    → is_new ≡ not (list_any (same_key key) keys) → is_new ≡ true → key ≡ key_of lsa → keys' ≡ keys ++ key_of lsa ∷ []
keys_grown keys keys' key lsa is_new inserted told new is =
    inserted ∙ unchosen (list_any (same_key key) keys) keys (keys ++ key ∷ []) (not-true _ (sym told ∙ new))
    ∙ ap (λ (k : Key). keys ++ k ∷ []) is

pub keys_stay : (keys keys' : List Key) (key : Key) (is_new : Bool)
    → keys' ≡ (if list_any (same_key key) keys then keys else keys ++ key ∷ [])
    → is_new ≡ not (list_any (same_key key) keys) → is_new ≡ false → keys' ≡ keys
keys_stay keys keys' key is_new inserted told old =
    inserted ∙ chosen (list_any (same_key key) keys) keys (keys ++ key ∷ []) (not-false _ (sym told ∙ old))

-- an LSA of a new key is added
pub added_new : (keys : List Key) (key : Key) (lsas : List Lsa) (places : List (Option ℕ)) (lsa : Lsa) (is_new : Bool)
    → IsStore keys (front lsas places) places → key ≡ key_of lsa
    → is_new ≡ not (list_any (same_key key) keys) → is_new ≡ true
    → installed (entries_of (front lsas places) places) lsa
    ≡ (entries_of (front lsas places) places ++ record { lsa = lsa; differing = None } ∷ [], Added)
added_new keys key lsas places lsa is_new store of_key told new =
    installed_new (entries_of (front lsas places) places) lsa
    (subst (λ (k : Key). list_any (is_entry_of k) (entries_of (front lsas places) places) ≡ false) of_key
    (lacking key keys (front lsas places) places
    (record { entries = entries_of (front lsas places) places; greatest = None }) store refl
    ∙ not-true _ (sym told ∙ new)))

pub entries_joined : (keys : List Key) (key : Key) (lsas lsas' : List Lsa) (places places' : List (Option ℕ)) (place : ℕ)
    (lsa : Lsa) (is_new : Bool) → IsStore keys (front lsas places) places
    → slice_get lsas place ≡ Some lsa → length places ≤ place → place < length lsas
    → lsas' ≡ swap lsas (length places) place → places' ≡ places ++ None ∷ [] → key ≡ key_of lsa
    → is_new ≡ not (list_any (same_key key) keys) → is_new ≡ true
    → entries_of (front lsas' places') places' ≡ (installed (entries_of (front lsas places) places) lsa).0
entries_joined keys key lsas lsas' places places' place lsa is_new store there behind inside is more of_key told new =
    ap (λ (ls : List Lsa). entries_of ls places')
    (front_added lsas lsas' places places' place lsa there behind inside is more)
    ∙ ap (entries_of (front lsas places ++ lsa ∷ [])) more
    ∙ entries_added (front lsas places) places lsa None store.noted
    ∙ sym (ap (λ (r : List Entry × Change). r.0)
    (added_new keys key lsas places lsa is_new store of_key told new))

-- the entry that an insert finds
pub met : (keys : List Key) (key : Key) (lsas : List Lsa) (places : List (Option ℕ)) (number : ℕ) (lsa : Lsa)
    (is_new : Bool) → IsStore keys (front lsas places) places → key ≡ key_of lsa
    → is_new ≡ not (list_any (same_key key) keys) → is_new ≡ false → number ≡ position_or_len (same_key key) keys
    → Found (key_of lsa) (entries_of (front lsas places) places) number
met keys key lsas places number lsa is_new store of_key told old at =
    found_by_insert key keys (front lsas places) places number is_new
    (record { entries = entries_of (front lsas places) places; greatest = None }) lsa of_key store refl told old at

read_at_front : {X : Type 0} (xs : List X) (n i : ℕ) (x : X) → slice_get (take n xs) i ≡ Some x → slice_get xs i ≡ Some x
read_at_front xs zero i x there = absurd cc
read_at_front [] (suc n) i x there = absurd cc
read_at_front (y ∷ ys) (suc n) zero x there = there
read_at_front (y ∷ ys) (suc n) (suc i) x there = read_at_front ys n i x there

-- what key that entry has, and its instance
pub met_key : (lsas : List Lsa) (places : List (Option ℕ)) (number : ℕ) (lsa : Lsa)
    → Found (key_of lsa) (entries_of (front lsas places) places) number
    → slice_get (map key_of (front lsas places)) number ≡ Some (key_of lsa)
met_key lsas places number lsa found =
    slice_get-map key_of (front lsas places) number
    ∙ ap (option_map key_of) (parts_of (front lsas places) places number found.entry found.there).lsa
    ∙ ap (λ (k : Key). Some k) (key_is (key_of lsa) (key_of found.entry.lsa) found.same)

met_read : (lsas : List Lsa) (places : List (Option ℕ)) (number : ℕ) (lsa read : Lsa)
    → (found : Found (key_of lsa) (entries_of (front lsas places) places) number)
    → read ≡ get_or lsas number read → read ≡ found.entry.lsa
met_read lsas places number lsa read found is =
    is
    ∙ get_or_from_slice_get lsas number found.entry.lsa read
    (read_at_front lsas (length places) number found.entry.lsa
    (parts_of (front lsas places) places number found.entry found.there).lsa)

-- what an LSA is to that entry is what installing it tells
pub change_told : (lsas : List Lsa) (places : List (Option ℕ)) (number place : ℕ) (lsa read own : Lsa) (change : Change)
    → (found : Found (key_of lsa) (entries_of (front lsas places) places) number) → read ≡ get_or lsas number read
    → slice_get lsas place ≡ Some lsa → own ≡ get_or lsas place own → change ≡ change_of read own
    → installed (entries_of (front lsas places) places) lsa
    ≡ (set (entries_of (front lsas places) places) number (changed found.entry lsa change), change)
change_told lsas places number place lsa read own change found is there is' told =
    let same : change ≡ change_of found.entry.lsa lsa =
    told
    ∙ ap (λ (l : Lsa). change_of l own) (met_read lsas places number lsa read found is)
    ∙ ap (change_of found.entry.lsa) (is' ∙ get_or_from_slice_get lsas place lsa own there) in
    installed_there (entries_of (front lsas places) places) lsa number found.entry found.there found.same found.first
    ∙ ap (λ (c : Change). (set (entries_of (front lsas places) places) number (changed found.entry lsa c), c)) (sym same)

-- a list with one LSA more than places: the others are its front, and the LSA stands after them
pub record OneMore (lsas all : List Lsa) (places : List (Option ℕ)) (place : ℕ) (lsa : Lsa) : Type 0 where
  pub others : front all places ≡ lsas
  pub there : slice_get all place ≡ Some lsa
  pub behind : length places ≤ place
  pub inside : place < length all

front_of_all : (lsas : List Lsa) (places : List (Option ℕ)) (lsa : Lsa) → length places ≡ length lsas
    → front (lsas ++ lsa ∷ []) places ≡ lsas
front_of_all [] [] lsa even = refl
front_of_all [] (p ∷ places) lsa even = absurd (omega (arith, even))
front_of_all (x ∷ lsas) [] lsa even = absurd (omega (arith, even))
front_of_all (x ∷ lsas) (p ∷ places) lsa even =
    ap (λ (rest : List Lsa). x ∷ rest) (front_of_all lsas places lsa (omega (arith, even)))

last_there : (lsas : List Lsa) (lsa : Lsa) → slice_get (lsas ++ lsa ∷ []) (length lsas) ≡ Some lsa
last_there [] lsa = refl
last_there (x ∷ lsas) lsa = last_there lsas lsa

pub one_more : (lsas all : List Lsa) (places : List (Option ℕ)) (place : ℕ) (lsa : Lsa) → length places ≡ length lsas
    → all ≡ lsas ++ lsa ∷ [] → place ≡ length lsas → OneMore lsas all places place lsa
one_more lsas all places place lsa even more at = record {
  others = ap (λ (ls : List Lsa). front ls places) more ∙ front_of_all lsas places lsa even;
  there = ap (λ (ls : List Lsa). slice_get ls place) more ∙ ap (slice_get (lsas ++ lsa ∷ [])) at ∙ last_there lsas lsa;
  behind = omega (arith, even, at);
  inside = omega (arith, at, ap length more, length_push lsas lsa);
}

-- a list that is cut back to what it was
pub cut_back : (lsas all : List Lsa) (places : List (Option ℕ)) (count : ℕ) (lsa : Lsa) → length places ≡ length lsas
    → all ≡ lsas ++ lsa ∷ [] → count ≡ length places → take count all ≡ lsas
cut_back lsas all places count lsa even more is =
    ap (λ (n : ℕ). take n all) is ∙ ap (λ (ls : List Lsa). front ls places) more ∙ front_of_all lsas places lsa even
