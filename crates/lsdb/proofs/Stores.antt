-- The database's parts and its entries.
use Rattle.std.proofs.Common.{◌≡◌, ◌∙◌, ◌<◌, ◌++◌, ◌||◌, ℕ, zero, suc, Bool, true, false, not, cond, List, [], ◌∷◌, Option, Some, None, length, map, get_or, set, slice_get, if◌then◌else◌, refl, sym, ap, subst, inl, inr, arith}
use Rattle.std.specs.List.{list_any, position, position_or_len}
use Rattle.std.specs.Option.{is_some, option_map}
use Rattle.std.proofs.lemmas.Option.{get_or_from_slice_get, same_Some, slice_get-map, slice_get_cases}
use Rattle.std.proofs.lemmas.List.{set-get_or, length-map}
use Rattle.std.proofs.lemmas.List.Quantifiers.{position-Some}
use Rattle.std.proofs.lemmas.Bool.{and_parts, cases_Bool, eqb-true, lt-ltb, not-false, or_parts}
use Rattle.ospf_lsa.specs.declared.lsa.Lsa.{Lsa}
use Rattle.lsdb.specs.declared.change.Change.{Change}
use Rattle.lsdb.specs.declared.change.Change.TheVariants.{Added}
use Rattle.lsdb.specs.declared.key.Key.{Key}
use Rattle.lsdb.specs.Entries.{Entry, Database}
use Rattle.lsdb.specs.Installing.{change_of, changed, installed, noted}
use Rattle.lsdb.specs.Keys.{key_of, same_key}
use Rattle.lsdb.specs.steps.Store.{entries_of, IsStore, is_entry_of}

pub lsas_of_entries : (lsas : List Lsa) (places : List (Option ℕ)) → length places ≡ length lsas
    → map (λ (entry : Entry). entry.lsa) (entries_of lsas places) ≡ lsas
lsas_of_entries [] places even = refl
lsas_of_entries (lsa ∷ lsas) [] even = absurd (omega (arith, even))
lsas_of_entries (lsa ∷ lsas) (place ∷ places) even =
    ap (λ (rest : List Lsa). lsa ∷ rest) (lsas_of_entries lsas places (omega (arith, even)))

pub entries_set : (lsas : List Lsa) (places : List (Option ℕ)) (i : ℕ) (lsa : Lsa) (place : Option ℕ)
    → length places ≡ length lsas
    → entries_of (set lsas i lsa) (set places i place) ≡ set (entries_of lsas places) i
    (record { lsa = lsa; differing = place })
entries_set [] places i lsa place even = refl
entries_set (x ∷ lsas) [] i lsa place even = absurd (omega (arith, even))
entries_set (x ∷ lsas) (p ∷ places) zero lsa place even = refl
entries_set (x ∷ lsas) (p ∷ places) (suc i) lsa place even =
    ap (λ (rest : List Entry). record { lsa = x; differing = p } ∷ rest)
    (entries_set lsas places i lsa place (omega (arith, even)))

pub entries_added : (lsas : List Lsa) (places : List (Option ℕ)) (lsa : Lsa) (place : Option ℕ)
    → length places ≡ length lsas
    → entries_of (lsas ++ lsa ∷ []) (places ++ place ∷ [])
    ≡ entries_of lsas places ++ record { lsa = lsa; differing = place } ∷ []
entries_added [] [] lsa place even = refl
entries_added [] (p ∷ places) lsa place even = absurd (omega (arith, even))
entries_added (x ∷ lsas) [] lsa place even = absurd (omega (arith, even))
entries_added (x ∷ lsas) (p ∷ places) lsa place even =
    ap (λ (rest : List Entry). record { lsa = x; differing = p } ∷ rest)
    (entries_added lsas places lsa place (omega (arith, even)))

-- the parts of an entry
pub record Parts (lsas : List Lsa) (places : List (Option ℕ)) (i : ℕ) (entry : Entry) : Type 0 where
  pub lsa : slice_get lsas i ≡ Some entry.lsa
  pub place : slice_get places i ≡ Some entry.differing

pub parts_of : (lsas : List Lsa) (places : List (Option ℕ)) (i : ℕ) (entry : Entry)
    → slice_get (entries_of lsas places) i ≡ Some entry → Parts lsas places i entry
parts_of [] places i entry there = absurd cc
parts_of (lsa ∷ lsas) [] i entry there = absurd cc
parts_of (lsa ∷ lsas) (place ∷ places) zero entry there =
    let same = same_Some (record { lsa = lsa; differing = place }) entry there in
    record { lsa = ap (λ (e : Entry). Some e.lsa) same; place = ap (λ (e : Entry). Some e.differing) same }
parts_of (lsa ∷ lsas) (place ∷ places) (suc i) entry there =
    let rest = parts_of lsas places i entry there in record { lsa = rest.lsa; place = rest.place }

-- writing what is there changes nothing
pub set_there : {X : Type 0} (xs : List X) (i : ℕ) (x : X) → slice_get xs i ≡ Some x → set xs i x ≡ xs
set_there {X = X} xs i x there = subst (λ (y : X). set xs i y ≡ xs) (get_or_from_slice_get xs i x x there)
    (set-get_or xs i x)

-- where a place is noted, it stays
pub stays : (places : List (Option ℕ)) (i at : ℕ) (found : Option ℕ) → is_some found ≡ true
    → found ≡ get_or places i found
    → (place : Option ℕ) → slice_get places i ≡ Some place
    → places ≡ set places i (if is_some place then place else Some at)
stays places i at found some found_is None there =
    let none : found ≡ None = found_is ∙ get_or_from_slice_get places i None found there in
    let quiet : is_some found ≡ false = ap is_some none in absurd cc
stays places i at found some found_is (Some p) there = sym (set_there places i (Some p) there)

-- noting the place of a differing instance
pub noted_at : (lsas : List Lsa) (places places' : List (Option ℕ)) (i at : ℕ) (entry : Entry)
    → length places ≡ length lsas
    → ((place : Option ℕ) → slice_get places i ≡ Some place
    → places' ≡ set places i (if is_some place then place else Some at))
    → slice_get (entries_of lsas places) i ≡ Some entry
    → entries_of lsas places' ≡ set (entries_of lsas places) i (noted entry at)
noted_at lsas places places' i at entry even written there =
    let parts = parts_of lsas places i entry there in
    rw (written entry.differing parts.place)
    (subst (λ (l : List Lsa). entries_of l
    (set places i (if is_some entry.differing then entry.differing else Some at))
    ≡ set (entries_of lsas places) i (noted entry at))
    (set_there lsas i entry.lsa parts.lsa)
    (entries_set lsas places i entry.lsa (if is_some entry.differing then entry.differing else Some at) even))

-- another instance of a key has the same key
pub keys_set : (lsas : List Lsa) (i : ℕ) (lsa : Lsa) → slice_get (map key_of lsas) i ≡ Some (key_of lsa)
    → map key_of (set lsas i lsa) ≡ map key_of lsas
keys_set [] i lsa there = refl
keys_set (x ∷ lsas) zero lsa there =
    ap (λ (key : Key). key ∷ map key_of lsas) (sym (same_Some (key_of x) (key_of lsa) there))
keys_set (x ∷ lsas) (suc i) lsa there = ap (λ (rest : List Key). key_of x ∷ rest) (keys_set lsas i lsa there)

-- the instance that an index gives is that of the entry
pub instance_of : (lsas : List Lsa) (places : List (Option ℕ)) (i : ℕ) (entry : Entry) (found : Lsa)
    → found ≡ get_or lsas i found
    → slice_get (entries_of lsas places) i ≡ Some entry → found ≡ entry.lsa
instance_of lsas places i entry found is there = is
    ∙ get_or_from_slice_get lsas i entry.lsa found (parts_of lsas places i entry there).lsa

-- keys that are told to be one are equal
pub key_is : (one other : Key) → same_key one other ≡ true → other ≡ one
key_is one other h =
    let first = and_parts _ _ h in
    let second = and_parts _ _ first.1 in
    let kind : other.kind ≡ one.kind = sym (eqb-true _ _ first.0) in
    let id : other.id ≡ one.id = sym (eqb-true _ _ second.0) in
    let router : other.router ≡ one.router = sym (eqb-true _ _ second.1) in
    let make : ℕ → ℕ → ℕ → Key = λ k i r. record { kind = k; id = i; router = r } in
    ap (λ (k : ℕ). make k other.id other.router) kind ∙ ap (λ (i : ℕ). make one.kind i other.router) id
    ∙ ap (λ (r : ℕ). make one.kind one.id r) router

-- the first entry of a key
pub record Found (key : Key) (entries : List Entry) (i : ℕ) : Type 0 where
  pub entry : Entry
  pub there : slice_get entries i ≡ Some entry
  pub same : same_key key (key_of entry.lsa) ≡ true
  pub first : (k : ℕ) (other : Entry) → k < i → slice_get entries k ≡ Some other
      → same_key key (key_of other.lsa) ≡ false

key_at : (es : List Entry) (i : ℕ) (entry : Entry) (d : Key) → slice_get es i ≡ Some entry
    → get_or (map (λ (e : Entry). key_of e.lsa) es) i d ≡ key_of entry.lsa
key_at es i entry d there =
    get_or_from_slice_get (map (λ (e : Entry). key_of e.lsa) es) i (key_of entry.lsa) d
    (slice_get-map (λ (e : Entry). key_of e.lsa) es i ∙ ap (option_map (λ (e : Entry). key_of e.lsa)) there)

found_in : (key : Key) (es : List Entry) (i : ℕ)
    → position (same_key key) (map (λ (e : Entry). key_of e.lsa) es) ≡ Some i → Found key es i
found_in key es i is =
    let at = position-Some (same_key key) (map (λ (e : Entry). key_of e.lsa) es) i key is in
    elim ((slice_get_cases es i).1) [
      | inl here ↦ record {
        entry = here.0;
        there = here.2;
        same = subst (λ (k : Key). same_key key k ≡ true) (key_at es i here.0 key here.2) at.1;
        first = λ k other lt there. subst (λ (n : Key). same_key key n ≡ false) (key_at es k other key there)
            (at.2 k lt);
      }
      | inr past ↦ absurd (omega (arith, length-map es (λ (e : Entry). key_of e.lsa), at.0, past.0))
    ]

keys_of_entries : (lsas : List Lsa) (places : List (Option ℕ)) → length places ≡ length lsas
    → map (λ (e : Entry). key_of e.lsa) (entries_of lsas places) ≡ map key_of lsas
keys_of_entries [] places even = refl
keys_of_entries (x ∷ lsas) [] even = absurd (omega (arith, even))
keys_of_entries (x ∷ lsas) (p ∷ places) even =
    ap (λ (rest : List Key). key_of x ∷ rest) (keys_of_entries lsas places (omega (arith, even)))

pub found_at : (key : Key) (keys : List Key) (lsas : List Lsa) (places : List (Option ℕ)) (i : ℕ) (db : Database)
    (lsa : Lsa) → key ≡ key_of lsa
    → IsStore keys lsas places → entries_of lsas places ≡ db.entries → Some i ≡ position (same_key key) keys
    → Found (key_of lsa) db.entries i
found_at key keys lsas places i db lsa is store same at =
    subst (λ (k : Key). Found k db.entries i) is
    (subst (λ (es : List Entry). Found key es i) same
    (found_in key (entries_of lsas places) i
    (ap (position (same_key key)) (keys_of_entries lsas places store.noted ∙ sym store.keyed) ∙ sym at)))

-- a key that is there stands where an insert finds it
stands_at : (test : Key → Bool) (keys : List Key) → list_any test keys ≡ true → position_or_len test keys < length keys
stands_at test [] there = absurd cc
stands_at test (key ∷ keys) there = elim (cases_Bool (test key)) [
  | inl is ↦ rw is (omega arith)
  | inr other ↦ rw other (omega (arith, stands_at test keys (rw other at there)))
]

pub found_by_insert : (key : Key) (keys : List Key) (lsas : List Lsa) (places : List (Option ℕ)) (i : ℕ) (is_new : Bool)
    (db : Database) (lsa : Lsa) → key ≡ key_of lsa → IsStore keys lsas places → entries_of lsas places ≡ db.entries
    → is_new ≡ not (list_any (same_key key) keys) → is_new ≡ false → i ≡ position_or_len (same_key key) keys
    → Found (key_of lsa) db.entries i
found_by_insert key keys lsas places i is_new db lsa is store same told old at =
    let there : list_any (same_key key) keys ≡ true = not-false _ (sym told ∙ old) in
    found_at key keys lsas places i db lsa is store same
    (ap (λ (n : ℕ). Some n) at
    ∙ sym (ap (λ (b : Bool). cond b (Some (position_or_len (same_key key) keys)) None)
    (lt-ltb _ _ (stands_at (same_key key) keys there))))

any_of_keys : (key : Key) (es : List Entry)
    → list_any (is_entry_of key) es ≡ list_any (same_key key) (map (λ (e : Entry). key_of e.lsa) es)
any_of_keys key [] = refl
any_of_keys key (e ∷ es) = ap (λ (b : Bool). same_key key (key_of e.lsa) || b) (any_of_keys key es)

pub lacking : (key : Key) (keys : List Key) (lsas : List Lsa) (places : List (Option ℕ)) (db : Database)
    → IsStore keys lsas places
    → entries_of lsas places ≡ db.entries → list_any (is_entry_of key) db.entries ≡ list_any (same_key key) keys
lacking key keys lsas places db store same =
    ap (list_any (is_entry_of key)) (sym same) ∙ any_of_keys key (entries_of lsas places)
    ∙ ap (list_any (same_key key)) (keys_of_entries lsas places store.noted ∙ sym store.keyed)

pub chosen : {A : Type 0} (b : Bool) (x y : A) → b ≡ true → (if b then x else y) ≡ x
chosen true x y h = refl
chosen false x y h = absurd cc

pub unchosen : {A : Type 0} (b : Bool) (x y : A) → b ≡ false → (if b then x else y) ≡ y
unchosen true x y h = absurd cc
unchosen false x y h = refl

pub installed_new : (es : List Entry) (lsa : Lsa) → list_any (is_entry_of (key_of lsa)) es ≡ false
    → installed es lsa ≡ (es ++ record { lsa = lsa; differing = None } ∷ [], Added)
installed_new [] lsa none = refl
installed_new (e ∷ es) lsa none =
    let parts = or_parts _ _ none in
    unchosen (same_key (key_of lsa) (key_of e.lsa)) _ _ parts.0
    ∙ ap (λ (r : List Entry × Change). (e ∷ r.0, r.1)) (installed_new es lsa parts.1)

pub installed_there : (es : List Entry) (lsa : Lsa) (i : ℕ) (entry : Entry) → slice_get es i ≡ Some entry
    → same_key (key_of lsa) (key_of entry.lsa) ≡ true
    → ((k : ℕ) (other : Entry) → k < i → slice_get es k ≡ Some other → same_key (key_of lsa) (key_of other.lsa) ≡ false)
    → installed es lsa ≡ (set es i (changed entry lsa (change_of entry.lsa lsa)), change_of entry.lsa lsa)
installed_there [] lsa i entry there same first = absurd cc
installed_there (e ∷ es) lsa zero entry there same first =
    let is : e ≡ entry = same_Some e entry there in
    subst (λ (x : Entry). installed (x ∷ es) lsa
    ≡ (changed entry lsa (change_of entry.lsa lsa) ∷ es, change_of entry.lsa lsa)) (sym is)
    (chosen (same_key (key_of lsa) (key_of entry.lsa)) _ _ same)
installed_there (e ∷ es) lsa (suc i) entry there same first =
    unchosen (same_key (key_of lsa) (key_of e.lsa)) _ _ (first 0 e (omega arith) refl)
    ∙ ap (λ (r : List Entry × Change). (e ∷ r.0, r.1))
    (installed_there es lsa i entry there same (λ k other lt at. first (suc k) other (omega (arith, lt)) at))
