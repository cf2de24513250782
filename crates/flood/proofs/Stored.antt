-- The entries of a router's database, kept with their keys.
use Rattle.std.proofs.Common.{◌≡◌, ◌∙◌, ◌<◌, ◌≤◌, ◌-◌, ◌^◌, ℕ, zero, suc, Bool, true, false, not, List, [], ◌∷◌, ◌++◌, Option, Some, None, length, map, set, slice_get, get_or, if◌then◌else◌, refl, sym, ap, subst, arith}
use Rattle.std.specs.List.{AllByRecursion, IsDistinct, list_any, position_or_len}
use Rattle.std.proofs.Math.ListN.{length-set}
use Rattle.std.proofs.lemmas.Bool.{not-false, not-true, or_parts}
use Rattle.std.proofs.lemmas.List.{length-append, length-map, map-append, map-set}
use Rattle.mrt_graph.proofs.Members.{all_append}
use Rattle.std.proofs.lemmas.Option.{get_or_from_slice_get, same_Some, slice_get_within}
use Rattle.ospf_lsa.specs.declared.lsa.Lsa.{Lsa}
use Rattle.lsdb.specs.declared.change.Change.{Change}
use Rattle.lsdb.specs.declared.change.Change.TheVariants.{Added, Replaced, Older, Same, Clash}
use Rattle.lsdb.specs.declared.key.Key.{Key}
use Rattle.lsdb.specs.Entries.{Database, Entry}
use Rattle.lsdb.specs.Installing.{IsBehind, IsKept, change_of, changed, installed}
use Rattle.lsdb.specs.Keys.{key_of, same_key}
use Rattle.lsdb.specs.steps.Store.{entries_of, is_entry_of, IsStore}
use Rattle.lsdb.proofs.Arrivals.{differ_both}
use Rattle.lsdb.proofs.Stores.{Found, chosen, found_by_insert, installed_new, installed_there, key_is, lacking, unchosen}
use Rattle.flood.specs.declared.database_copy.DatabaseCopy.{DatabaseCopy}
use Rattle.flood.specs.steps.Numbers.{entries_by, entry_in, lsa_in}
use Rattle.flood.specs.Receiving.{arrived}
use Rattle.flood.specs.steps.SharedStore.{IsCounted, IsSharedStore, lsas_in, places_in}
use Rattle.flood.proofs.Numbered.{entry_read}

pub entries_of_parts : (es : List Entry) → entries_of (lsas_in es) (places_in es) ≡ es
entries_of_parts [] = refl
entries_of_parts (e ∷ es) = ap (λ (rest : List Entry). e ∷ rest) (entries_of_parts es)

pub kept_with_place : (at : ℕ) (lsa : Lsa) → IsKept lsa → IsKept (arrived at lsa)
kept_with_place at lsa kept = record {
  type = kept.type;
  body = kept.body;
  own_id = kept.own_id;
  metrics = kept.metrics;
}

-- ---- an instance meets the one of its key

-- an entry after a change is of the same key
key_after : (entry : Entry) (lsa : Lsa) (change : Change) → key_of lsa ≡ key_of entry.lsa
    → key_of (changed entry lsa change).lsa ≡ key_of entry.lsa
key_after entry lsa Replaced same = same
key_after entry lsa Clash same = refl
key_after entry lsa Added same = refl
key_after entry lsa Older same = refl
key_after entry lsa Same same = refl

kept_after : (entry : Entry) (lsa : Lsa) (change : Change) → IsKept lsa → IsKept entry.lsa
    → IsKept (changed entry lsa change).lsa
kept_after entry lsa Replaced its others = its
kept_after entry lsa Clash its others = others
kept_after entry lsa Added its others = others
kept_after entry lsa Older its others = others
kept_after entry lsa Same its others = others

keys_met : (es : List Entry) (i : ℕ) (entry after : Entry) → slice_get es i ≡ Some entry
    → key_of after.lsa ≡ key_of entry.lsa → map key_of (lsas_in (set es i after)) ≡ map key_of (lsas_in es)
keys_met [] i entry after there same = refl
keys_met (e ∷ es) zero entry after there same =
    ap (λ (key : Key). key ∷ map key_of (lsas_in es))
    (same ∙ ap (λ (x : Entry). key_of x.lsa) (sym (same_Some e entry there)))
keys_met (e ∷ es) (suc i) entry after there same =
    ap (λ (rest : List Key). key_of e.lsa ∷ rest) (keys_met es i entry after there same)

kept_met : (es : List Entry) (i : ℕ) (entry after : Entry) → slice_get es i ≡ Some entry
    → (IsKept entry.lsa → IsKept after.lsa) → AllByRecursion IsKept (lsas_in es)
    → AllByRecursion IsKept (lsas_in (set es i after))
kept_met [] i entry after there keeps all = tt
kept_met (e ∷ es) zero entry after there keeps all =
    (keeps (subst (λ (x : Entry). IsKept x.lsa) (same_Some e entry there) all.0), all.1)
kept_met (e ∷ es) (suc i) entry after there keeps all = (all.0, kept_met es i entry after there keeps all.1)

counted_on : (greatest : Option ℕ) (at count : ℕ) → IsCounted greatest count → IsBehind greatest at
    → IsCounted (Some at) count
counted_on None at count counted behind = omega (arith, counted)
counted_on (Some g) at count counted behind = omega (arith, counted, behind)

-- and so does one more
more_on : (greatest : Option ℕ) (at count : ℕ) → IsCounted greatest count → IsBehind greatest at → count ≤ at
more_on None at count counted behind = omega (arith, counted)
more_on (Some g) at count counted behind = omega (arith, counted, behind)

pub store_met : (keys keys' : List Key) (es : List Entry) (greatest : Option ℕ) (at i : ℕ) (lsa : Lsa) (entry : Entry)
    (change : Change) → IsSharedStore keys es greatest → keys' ≡ keys → IsBehind greatest at
    → slice_get es i ≡ Some entry → key_of lsa ≡ key_of entry.lsa → IsKept lsa
    → IsSharedStore keys' (set es i (changed entry lsa change)) (Some at)
store_met keys keys' es greatest at i lsa entry change is same_keys behind there same kept =
    let after : Entry = changed entry lsa change in
    let keys_same = keys_met es i entry after there (key_after entry lsa change same) in
    record {
      store = record {
        keyed = same_keys ∙ is.store.keyed ∙ sym keys_same;
        distinct = subst (IsDistinct same_key) (sym keys_same) is.store.distinct;
        noted = length-map (set es i after) (λ (e : Entry). e.differing)
            ∙ sym (length-map (set es i after) (λ (e : Entry). e.lsa));
        kept = kept_met es i entry after there (kept_after entry lsa change kept) is.store.kept;
      };
      counted = subst (IsCounted (Some at)) (sym (length-set es i after))
          (counted_on greatest at (length es) is.counted behind);
      few = omega (arith, length-set es i after, is.few);
    }

-- ---- an install of an instance of a key that is there

-- what it comes to
pub record IsMet (es items : List Entry) (i at : ℕ) (lsa : Lsa) (change : Change) (after : Entry) (keys : List Key)
    (key : Key) : Type 0 where
  pub told : change ≡ (installed es (arrived at lsa)).1
  pub turns : set items i after ≡ (installed es (arrived at lsa)).0
  pub kept : (keys' : List Key) (greatest : Option ℕ) → IsSharedStore keys es greatest
      → keys' ≡ (if list_any (same_key key) keys then keys else keys ++ key ∷ []) → IsBehind greatest at → IsKept lsa
      → IsSharedStore keys' (set items i after) (Some at)

met_with : (keys : List Key) (es items : List Entry) (i at : ℕ) (lsa : Lsa) (key : Key) (read after : Entry)
    (change : Change) → items ≡ es → (found : Found (key_of lsa) es i) → read ≡ get_or items i read
    → list_any (same_key key) keys ≡ true → change ≡ change_of read.lsa (arrived at lsa)
    → after ≡ changed read (arrived at lsa) (change_of read.lsa (arrived at lsa))
    → IsMet es items i at lsa change after keys key
met_with keys es items i at lsa key read after change same found is there told turned =
    let entry : Entry = found.entry in
    let read_is : read ≡ entry = is
    ∙ get_or_from_slice_get items i entry read
    (subst (λ (list : List Entry). slice_get list i ≡ Some entry) (sym same) found.there) in
    let turns : set items i after
    ≡ set es i (changed entry (arrived at lsa) (change_of entry.lsa (arrived at lsa))) =
    ap (λ (list : List Entry). set list i after) same
    ∙ ap (set es i)
    (turned ∙ ap (λ (e : Entry). changed e (arrived at lsa) (change_of e.lsa (arrived at lsa))) read_is) in
    let all = installed_there es (arrived at lsa) i entry found.there found.same found.first in
    record {
      told = told ∙ ap (λ (e : Entry). change_of e.lsa (arrived at lsa)) read_is
          ∙ sym (ap (λ (r : List Entry × Change). r.1) all);
      turns = turns ∙ sym (ap (λ (r : List Entry × Change). r.0) all);
      kept = λ keys' greatest store inserted behind kept.
          subst (λ (list : List Entry). IsSharedStore keys' list (Some at)) (sym turns)
          (store_met keys keys' es greatest at i (arrived at lsa) entry (change_of entry.lsa (arrived at lsa)) store
          (inserted ∙ chosen (list_any (same_key key) keys) keys (keys ++ key ∷ []) there) behind found.there
          (sym (key_is (key_of lsa) (key_of entry.lsa) found.same)) (kept_with_place at lsa kept));
    }

met_at : (keys : List Key) (es items : List Entry) (i : ℕ) (is_new : Bool) (db : Database) (lsa : Lsa) (at : ℕ)
    (key : Key) (read after : Entry) (change : Change) → key ≡ key_of lsa
    → IsStore keys (lsas_in es) (places_in es) → es ≡ db.entries → items ≡ es
    → is_new ≡ not (list_any (same_key key) keys) → is_new ≡ false → i ≡ position_or_len (same_key key) keys
    → read ≡ get_or items i read → change ≡ change_of read.lsa (arrived at lsa)
    → after ≡ changed read (arrived at lsa) (change_of read.lsa (arrived at lsa))
    → IsMet db.entries items i at lsa change after keys key
met_at keys es items i is_new db lsa at key read after change is store viewed reserved added old place value told turned =
    met_with keys db.entries items i at lsa key read after change (reserved ∙ viewed)
    (found_by_insert key keys (lsas_in es) (places_in es) i is_new db lsa is store (entries_of_parts es ∙ viewed) added
    old place)
    value (not-false _ (sym added ∙ old)) told turned

-- ---- by numbers

-- what an install of the LSA of a number comes to where there is one of its key
pub record IsMetBy (lsas : List Lsa) (before items : List DatabaseCopy) (i at number : ℕ) (change : Change) (after : DatabaseCopy)
    (keys : List Key) (key : Key) : Type 0 where
  pub told : change ≡ (installed (entries_by lsas before) (arrived at (lsa_in lsas number))).1
  pub turns : entries_by lsas (set items i after)
      ≡ (installed (entries_by lsas before) (arrived at (lsa_in lsas number))).0
  pub kept : (keys' : List Key) (greatest : Option ℕ) → IsSharedStore keys (entries_by lsas before) greatest
      → keys' ≡ (if list_any (same_key key) keys then keys else keys ++ key ∷ []) → IsBehind greatest at
      → IsKept (lsa_in lsas number) → IsSharedStore keys' (entries_by lsas (set items i after)) (Some at)

-- a key that is there stands before the end
pub there_by : (lsas : List Lsa) (keys : List Key) (before : List DatabaseCopy) (i : ℕ) (is_new : Bool) (greatest : Option ℕ)
    (number : ℕ) (key : Key) → key ≡ key_of (lsa_in lsas number) → IsSharedStore keys (entries_by lsas before) greatest
    → is_new ≡ not (list_any (same_key key) keys) → is_new ≡ false → i ≡ position_or_len (same_key key) keys
    → i < length before
there_by lsas keys before i is_new greatest number key is store added old place =
    let es : List Entry = entries_by lsas before in
    let db : Database = record { entries = es; greatest = greatest } in
    let found : Found (key_of (lsa_in lsas number)) es i =
    found_by_insert key keys (lsas_in es) (places_in es) i is_new db (lsa_in lsas number) is store.store
    (entries_of_parts es) added old place in
    omega (arith, slice_get_within es i found.entry found.there, length-map before (entry_in lsas))

pub met_by : (lsas : List Lsa) (keys : List Key) (before items : List DatabaseCopy) (i : ℕ) (is_new : Bool)
    (greatest : Option ℕ) (number at : ℕ) (key : Key) (read after : DatabaseCopy) (change : Change)
    → key ≡ key_of (lsa_in lsas number) → IsSharedStore keys (entries_by lsas before) greatest → items ≡ before
    → is_new ≡ not (list_any (same_key key) keys) → is_new ≡ false → i ≡ position_or_len (same_key key) keys
    → i < length items → read ≡ get_or items i read
    → change ≡ change_of (entry_in lsas read).lsa (arrived at (lsa_in lsas number))
    → entry_in lsas after ≡ changed (entry_in lsas read) (arrived at (lsa_in lsas number)) change
    → IsMetBy lsas before items i at number change after keys key
met_by lsas keys before items i is_new greatest number at key read after change is store same added old place within value
    told turned =
    let x : Lsa = lsa_in lsas number in
    let db : Database = record { entries = entries_by lsas before; greatest = greatest } in
    let met : IsMet (entries_by lsas before) (entries_by lsas items) i at x change (entry_in lsas after) keys key =
    met_at keys (entries_by lsas before) (entries_by lsas items) i is_new db x at key (entry_in lsas read)
    (entry_in lsas after) change is store.store refl (ap (entries_by lsas) same) added old place
    (entry_read lsas items i read within value) told
    (turned ∙ ap (λ (it : Change). changed (entry_in lsas read) (arrived at x) it) told) in
    let written : entries_by lsas (set items i after) ≡ set (entries_by lsas items) i (entry_in lsas after) =
    map-set (entry_in lsas) items i after in
    record {
      told = met.told;
      turns = written ∙ met.turns;
      kept = λ keys' greatest store inserted behind kept.
          subst (λ (es : List Entry). IsSharedStore keys' es (Some at)) (sym written)
          (met.kept keys' greatest store inserted behind kept);
    }

-- and where there is none
pub record IsNewBy (lsas : List Lsa) (before : List DatabaseCopy) (at number : ℕ) (new : DatabaseCopy) (keys : List Key) (key : Key)
    : Type 0 where
  pub told : Added ≡ (installed (entries_by lsas before) (arrived at (lsa_in lsas number))).1
  pub turns : entries_by lsas (before ++ new ∷ [])
      ≡ (installed (entries_by lsas before) (arrived at (lsa_in lsas number))).0
  pub kept : (keys' : List Key) (greatest : Option ℕ) → IsSharedStore keys (entries_by lsas before) greatest
      → keys' ≡ (if list_any (same_key key) keys then keys else keys ++ key ∷ []) → IsBehind greatest at
      → at < 2 ^ 32 - 1 → IsKept (lsa_in lsas number)
      → IsSharedStore keys' (entries_by lsas (before ++ new ∷ [])) (Some at)

none_of : (key : Key) (keys : List Key) → list_any (same_key key) keys ≡ false
    → AllByRecursion (λ other. same_key other key ≡ false) keys
none_of key [] none = tt
none_of key (k ∷ keys) none =
    let parts = or_parts (same_key key k) _ none in (differ_both key k parts.0, none_of key keys parts.1)

distinct_on : (keys : List Key) (key : Key) → IsDistinct same_key keys
    → AllByRecursion (λ other. same_key other key ≡ false) keys → IsDistinct same_key (keys ++ key ∷ [])
unfolding IsDistinct
distinct_on [] key distinct none = (tt, tt)
distinct_on (k ∷ keys) key distinct none = (
  all_append (λ (other : Key). same_key k other ≡ false) keys (key ∷ []) distinct.0 (none.0, tt),
  distinct_on keys key distinct.1 none.1,
)

store_new : (keys keys' : List Key) (es : List Entry) (greatest : Option ℕ) (at : ℕ) (lsa : Lsa)
    → IsSharedStore keys es greatest → keys' ≡ keys ++ key_of lsa ∷ [] → list_any (same_key (key_of lsa)) keys ≡ false
    → IsBehind greatest at → at < 2 ^ 32 - 1 → IsKept lsa
    → IsSharedStore keys' (es ++ record { lsa = arrived at lsa; differing = None } ∷ []) (Some at)
store_new keys keys' es greatest at lsa is grown none behind small kept =
    let new : Entry = record { lsa = arrived at lsa; differing = None } in
    let lsas_are : lsas_in (es ++ new ∷ []) ≡ lsas_in es ++ arrived at lsa ∷ [] =
    map-append (λ (e : Entry). e.lsa) es (new ∷ []) in
    let keys_are : map key_of (lsas_in (es ++ new ∷ [])) ≡ keys ++ key_of lsa ∷ [] =
    ap (map key_of) lsas_are ∙ map-append key_of (lsas_in es) (arrived at lsa ∷ [])
    ∙ ap (λ (ks : List Key). ks ++ key_of lsa ∷ []) (sym is.store.keyed) in
    record {
      store = record {
        keyed = grown ∙ sym keys_are;
        distinct = subst (IsDistinct same_key) (sym keys_are)
            (distinct_on keys (key_of lsa) (subst (IsDistinct same_key) (sym is.store.keyed) is.store.distinct)
            (none_of (key_of lsa) keys none));
        noted = length-map (es ++ new ∷ []) (λ (e : Entry). e.differing)
            ∙ sym (length-map (es ++ new ∷ []) (λ (e : Entry). e.lsa));
        kept = subst (AllByRecursion IsKept) (sym lsas_are)
            (all_append IsKept (lsas_in es) (arrived at lsa ∷ []) is.store.kept (kept_with_place at lsa kept, tt));
      };
      counted = omega (arith, length-append es (new ∷ []), counted_on greatest at (length es) is.counted behind, more_on greatest at (length es) is.counted behind);
      few = omega (arith, length-append es (new ∷ []), more_on greatest at (length es) is.counted behind, small);
    }

pub new_by : (lsas : List Lsa) (keys : List Key) (before : List DatabaseCopy) (is_new : Bool) (greatest : Option ℕ)
    (number at : ℕ) (key : Key) (new : DatabaseCopy) → key ≡ key_of (lsa_in lsas number)
    → IsSharedStore keys (entries_by lsas before) greatest
    → is_new ≡ not (list_any (same_key key) keys) → is_new ≡ true
    → new ≡ record { number = number; at = at; differing = None }
    → IsNewBy lsas before at number new keys key
new_by lsas keys before is_new greatest number at key new is store added fresh is_held =
    let x : Lsa = lsa_in lsas number in
    let es : List Entry = entries_by lsas before in
    let db : Database = record { entries = es; greatest = greatest } in
    let none : list_any (same_key key) keys ≡ false = not-true _ (sym added ∙ fresh) in
    let lacks : list_any (is_entry_of (key_of x)) es ≡ false =
    lacking (key_of x) keys (lsas_in es) (places_in es) db store.store (entries_of_parts es)
    ∙ subst (λ (k : Key). list_any (same_key k) keys ≡ false) is none in
    let added_to : installed es (arrived at x) ≡ (es ++ record { lsa = arrived at x; differing = None } ∷ [], Added) =
    installed_new es (arrived at x) lacks in
    let grown : entries_by lsas (before ++ new ∷ []) ≡ es ++ record { lsa = arrived at x; differing = None } ∷ [] =
    map-append (entry_in lsas) before (new ∷ []) ∙ ap (λ (h : DatabaseCopy). es ++ entry_in lsas h ∷ []) is_held in
    record {
      told = sym (ap (λ (r : List Entry × Change). r.1) added_to);
      turns = grown ∙ sym (ap (λ (r : List Entry × Change). r.0) added_to);
      kept = λ keys' greatest store inserted behind small kept.
          subst (λ (list : List Entry). IsSharedStore keys' list (Some at)) (sym grown)
          (store_new keys keys' es greatest at x store
          (inserted ∙ unchosen (list_any (same_key key) keys) keys (keys ++ key ∷ []) none
          ∙ ap (λ (k : Key). keys ++ k ∷ []) is)
          (subst (λ (k : Key). list_any (same_key k) keys ≡ false) is none) behind small kept);
    }
