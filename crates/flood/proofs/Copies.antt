-- Copies of the first newest instances, each with its number as its place.
use Rattle.std.proofs.Common.{◌≡◌, ◌∙◌, ◌<◌, ◌≤◌, ◌+◌, ◌++◌, ◌||◌, ℕ, zero, suc, Bool, false, List, [], ◌∷◌, Option, Some, None, length, map, get_or, slice_get, Contains, refl, sym, ap, subst, add-one, drop, append_assoc, arith}
use Rattle.std.specs.List.{AllByRecursion, IsDistinct, list_any}
use Rattle.std.proofs.lemmas.Bool.{or_parts}
use Rattle.std.proofs.lemmas.List.{append-nil, drop_all}
use Rattle.std.proofs.lemmas.Option.{same_Some, slice_get_read}
use Rattle.ospf_lsa.specs.declared.lsa.Lsa.{Lsa}
use Rattle.lsdb.specs.declared.change.Change.{Change}
use Rattle.lsdb.specs.declared.key.Key.{Key}
use Rattle.lsdb.specs.Conflicts.{least_conflict}
use Rattle.lsdb.specs.Entries.{Database, Entry}
use Rattle.lsdb.specs.Installing.{IsBehind, IsKept, installed}
use Rattle.lsdb.specs.Installs.{all_installed}
use Rattle.lsdb.specs.Keys.{key_of, same_key, AreDistinct}
use Rattle.lsdb.specs.Newest.{IsSettled}
use Rattle.lsdb.specs.Orders.{newest_in, without_place, HoldTheSame}
use Rattle.lsdb.specs.steps.Store.{is_entry_of}
use Rattle.lsdb.proofs.Arrivals.{differ_both}
use Rattle.lsdb.proofs.Lists.{all_of_list}
use Rattle.lsdb.proofs.Settling.{no_conflict_settled}
use Rattle.lsdb.proofs.Stores.{installed_new}
use Rattle.flood.specs.Receiving.{arrived}
use Rattle.flood.specs.Runs.{AreNewestOfTheSame, last_number, numbered}
use Rattle.flood.specs.steps.SharedStore.{IsSharedStore, lsas_in}
use Rattle.flood.proofs.Numbered.{next_left}
use Rattle.flood.proofs.Stored.{kept_with_place}

-- ---- one instance of each key

-- an entry of one instance alone
abbrev alone : Lsa → Entry
alone lsa = record { lsa = lsa; differing = None }

-- none of these entries is of the key of one of these LSAs
abbrev AreFree : List Entry → List Lsa → Type 0
AreFree es lsas = AllByRecursion (λ lsa. list_any (is_entry_of (key_of lsa)) es ≡ false) lsas

any_of_more : (key : Key) (es : List Entry) (entry : Entry) → list_any (is_entry_of key) es ≡ false
    → same_key key (key_of entry.lsa) ≡ false → list_any (is_entry_of key) (es ++ entry ∷ []) ≡ false
any_of_more key [] entry none other = ap (λ (b : Bool). b || false) other
any_of_more key (e ∷ es) entry none other =
    let parts = or_parts (same_key key (key_of e.lsa)) _ none in
    ap (λ (b : Bool). b || list_any (is_entry_of key) (es ++ entry ∷ [])) parts.0
    ∙ any_of_more key es entry parts.1 other

free_on : (es : List Entry) (x : Lsa) (lsas : List Lsa) → AreFree es lsas
    → AllByRecursion (λ key. same_key (key_of x) key ≡ false) (map key_of lsas) → AreFree (es ++ alone x ∷ []) lsas
free_on es x [] free apart = tt
free_on es x (y ∷ lsas) free apart = (
  any_of_more (key_of y) es (alone x) free.0 (differ_both (key_of x) (key_of y) apart.0),
  free_on es x lsas free.1 apart.1,
)

-- LSAs of keys that differ, none of which is there, are added one after another
added_all : (es : List Entry) (lsas : List Lsa) → AreFree es lsas → IsDistinct same_key (map key_of lsas)
    → all_installed es lsas ≡ es ++ map alone lsas
unfolding IsDistinct
added_all es [] free distinct = sym (append-nil es)
added_all es (x ∷ lsas) free distinct =
    ap (λ (r : List Entry × Change). all_installed r.0 lsas) (installed_new es x free.0)
    ∙ added_all (es ++ alone x ∷ []) lsas (free_on es x lsas free.1 distinct.0) distinct.1
    ∙ append_assoc es (alone x ∷ []) (map alone lsas)

free_at_first : (lsas : List Lsa) → AreFree [] lsas
free_at_first [] = tt
free_at_first (x ∷ lsas) = (refl, free_at_first lsas)

all_alone : (lsas : List Lsa) → AreDistinct lsas → all_installed [] lsas ≡ map alone lsas
all_alone lsas distinct = added_all [] lsas (free_at_first lsas) distinct

lsas_alone : (lsas : List Lsa) → lsas_in (map alone lsas) ≡ lsas
lsas_alone [] = refl
lsas_alone (x ∷ lsas) = ap (λ (rest : List Lsa). x ∷ rest) (lsas_alone lsas)

quiet_alone : (lsas : List Lsa) → least_conflict (map alone lsas) ≡ None
quiet_alone [] = refl
quiet_alone (x ∷ lsas) = quiet_alone lsas

newest_alone : (lsas : List Lsa) → AreDistinct lsas → newest_in lsas ≡ lsas
newest_alone lsas distinct =
    ap lsas_in (sym (all_of_list lsas) ∙ all_alone lsas distinct) ∙ lsas_alone lsas

settled_alone : (lsas : List Lsa) → AreDistinct lsas → IsSettled lsas
settled_alone lsas distinct =
    no_conflict_settled lsas
    (ap least_conflict (sym (all_of_list lsas) ∙ all_alone lsas distinct) ∙ quiet_alone lsas)

-- ---- numbers for places

keys_numbered : (n : ℕ) (lsas : List Lsa) → map key_of (numbered n lsas) ≡ map key_of lsas
keys_numbered n [] = refl
keys_numbered n (x ∷ lsas) = ap (λ (rest : List Key). key_of x ∷ rest) (keys_numbered (n + 1) lsas)

places_left_out : (n : ℕ) (lsas : List Lsa) → map without_place (numbered n lsas) ≡ map without_place lsas
places_left_out n [] = refl
places_left_out n (x ∷ lsas) = ap (λ (rest : List Lsa). without_place x ∷ rest) (places_left_out (n + 1) lsas)

hold_the_same : (lsas others : List Lsa) → map without_place lsas ≡ map without_place others → HoldTheSame lsas others
hold_the_same lsas others same lsa = (
  subst (λ (list : List Lsa). Contains list lsa) same,
  subst (λ (list : List Lsa). Contains list lsa) (sym same),
)

pub placeless_in : (es : List Entry) → map (λ (e : Entry). without_place e.lsa) es ≡ map without_place (lsas_in es)
placeless_in [] = refl
placeless_in (e ∷ es) = ap (λ (rest : List Lsa). without_place e.lsa ∷ rest) (placeless_in es)

-- ---- what was copied

module _ (keys : List Key) (es copy : List Entry) (greatest : Option ℕ) (is : IsSharedStore keys es greatest)
    (made : copy ≡ all_installed [] (numbered 0 (lsas_in es))) where
  distinct_numbered : AreDistinct (numbered 0 (lsas_in es))
  distinct_numbered = subst (IsDistinct same_key) (sym (keys_numbered 0 (lsas_in es))) is.store.distinct

  copies_are : copy ≡ map alone (numbered 0 (lsas_in es))
  copies_are = made ∙ all_alone (numbered 0 (lsas_in es)) distinct_numbered

  pub copied_settled : least_conflict copy ≡ None
  copied_settled = ap least_conflict copies_are ∙ quiet_alone (numbered 0 (lsas_in es))

  pub copied_lsas : lsas_in copy ≡ numbered 0 (lsas_in es)
  copied_lsas = ap lsas_in copies_are ∙ lsas_alone (numbered 0 (lsas_in es))

  pub copied_placeless : map (λ (e : Entry). without_place e.lsa) copy ≡ map (λ (e : Entry). without_place e.lsa) es
  copied_placeless =
      placeless_in copy ∙ ap (map without_place) copied_lsas ∙ places_left_out 0 (lsas_in es) ∙ sym (placeless_in es)

  pub copied_of_the_same : AreNewestOfTheSame (lsas_in es) (lsas_in copy)
  copied_of_the_same = record {
    lsas = lsas_in es;
    others = numbered 0 (lsas_in es);
    kept = is.store.kept;
    settled = settled_alone (lsas_in es) is.store.distinct;
    same = hold_the_same (lsas_in es) (numbered 0 (lsas_in es)) (sym (places_left_out 0 (lsas_in es)));
    one_is = sym (newest_alone (lsas_in es) is.store.distinct);
    other_is = copied_lsas ∙ sym (newest_alone (numbered 0 (lsas_in es)) distinct_numbered);
  }

-- ---- what holds the same

-- the first newest instances of two databases that are the same but for their places
pub of_the_same : (keys others : List Key) (es es' : List Entry) (greatest greatest' : Option ℕ)
    → IsSharedStore keys es greatest → IsSharedStore others es' greatest'
    → map (λ (e : Entry). without_place e.lsa) es ≡ map (λ (e : Entry). without_place e.lsa) es'
    → AreNewestOfTheSame (lsas_in es) (lsas_in es')
of_the_same keys others es es' greatest greatest' is is' same = record {
  lsas = lsas_in es;
  others = lsas_in es';
  kept = is.store.kept;
  settled = settled_alone (lsas_in es) is.store.distinct;
  same = hold_the_same (lsas_in es) (lsas_in es') (sym (placeless_in es) ∙ same ∙ placeless_in es');
  one_is = sym (newest_alone (lsas_in es) is.store.distinct);
  other_is = sym (newest_alone (lsas_in es') is'.store.distinct);
}

-- ---- one copy after another

-- the first so many entries were copied
pub record AreCopied (es : List Entry) (number : ℕ) (copy : Database) : Type 0 where
  pub comes : all_installed copy.entries (numbered number (lsas_in (drop number es)))
      ≡ all_installed [] (numbered 0 (lsas_in es))
  pub last : copy.greatest ≡ last_number number

-- a number comes after the last one before it
pub behind_last : (number : ℕ) → IsBehind (last_number number) number
behind_last zero = tt
behind_last (suc number) = omega arith

pub copied_none : (es : List Entry) (copy : Database) → copy.entries ≡ [] → copy.greatest ≡ None → AreCopied es 0 copy
copied_none es copy none nothing = record {
  comes = ap (λ (list : List Entry). all_installed list (numbered 0 (lsas_in es))) none;
  last = nothing;
}

pub copied_more : (es : List Entry) (number : ℕ) (copy after : Database) (lsa : Lsa) (e : Entry)
    → number < length es → e ≡ get_or es number e → lsa ≡ arrived number e.lsa → AreCopied es number copy
    → after.entries ≡ (installed copy.entries lsa).0 → after.greatest ≡ Some lsa.at → AreCopied es (number + 1) after
copied_more es number copy after lsa e inside is copied so_far grown last = record {
  comes = ap (λ (list : List Entry). all_installed list (numbered (number + 1) (lsas_in (drop (number + 1) es))))
      (grown ∙ ap (λ (l : Lsa). (installed copy.entries l).0) copied)
      ∙ ap (λ (list : List Entry). all_installed copy.entries (numbered number (lsas_in list)))
      (sym (next_left es number e inside is))
      ∙ so_far.comes;
  last = last ∙ ap (λ (l : Lsa). Some l.at) copied ∙ ap last_number (sym (add-one number));
}

pub copied_all : (es : List Entry) (number : ℕ) (copy : Database) → length es ≤ number → AreCopied es number copy
    → copy.entries ≡ all_installed [] (numbered 0 (lsas_in es))
copied_all es number copy past so_far =
    ap (λ (list : List Entry). all_installed copy.entries (numbered number (lsas_in list))) (sym (drop_all number es past))
    ∙ so_far.comes

has_kept : (es : List Entry) (i : ℕ) (e : Entry) → slice_get es i ≡ Some e → AllByRecursion IsKept (lsas_in es)
    → IsKept e.lsa
has_kept [] i e there all = absurd cc
has_kept (x ∷ es) zero e there all = subst (λ (y : Entry). IsKept y.lsa) (same_Some x e there) all.0
has_kept (x ∷ es) (suc i) e there all = has_kept es i e there all.1

-- the next copy may stand in a database
pub kept_copy : (es : List Entry) (number : ℕ) (e : Entry) (lsa : Lsa) → number < length es → e ≡ get_or es number e
    → lsa ≡ arrived number e.lsa → AllByRecursion IsKept (lsas_in es) → IsKept lsa
kept_copy es number e lsa inside is copied all =
    subst IsKept (sym copied)
    (kept_with_place number e.lsa
    (has_kept es number e (slice_get_read es (length es) number e refl inside is) all))
