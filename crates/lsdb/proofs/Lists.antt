-- After any list of installs the entries are those of the whole list.
use Rattle.std.proofs.Common.{◌≡◌, ◌∙◌, ◌++◌, ◌||◌, ◌&&◌, Bool, true, false, not, cond, List, [], ◌∷◌, Option, Some, None, if◌then◌else◌, refl, sym, ap, subst}
use Rattle.std.specs.List.{filter, list_any, find, filter_map, cons_option}
use Rattle.std.specs.Option.{is_some, option_map}
use Rattle.std.specs.declared.cmp.Ordering.{Ordering}
use Rattle.std.specs.declared.cmp.Ordering.TheVariants.{Less, Equal, Greater}
use Rattle.std.proofs.lemmas.List.{append-nil, append_assoc}
use Rattle.std.proofs.lemmas.List.Elements.{filter-append, filter_map-append}
use Rattle.std.proofs.lemmas.Bool.{and_parts, or_parts}
use Rattle.ospf_lsa.specs.declared.lsa.Lsa.{Lsa}
use Rattle.lsdb.specs.declared.change.Change.{Change}
use Rattle.lsdb.specs.declared.key.Key.{Key}
use Rattle.lsdb.specs.Entries.{Entry, entry_of, entries_in}
use Rattle.lsdb.specs.Installing.{change_by, change_of, changed, installed}
use Rattle.lsdb.specs.Installs.{all_installed}
use Rattle.lsdb.specs.Keys.{key_of, same_key, is_of, keys_in}
use Rattle.lsdb.specs.Newest.{same_but_age, is_newest, newest_of}
use Rattle.lsdb.specs.Rank.{rank_cmp, outranks}
use Rattle.lsdb.specs.steps.Store.{is_entry_of}
use Rattle.lsdb.proofs.Arrivals.{own_key, differ_both, keys_step, keys_with, AreDistinct, keys_distinct, HaveInstances, have_instances, any_key}
use Rattle.lsdb.proofs.Stores.{chosen, key_is, installed_new, unchosen}
use Rattle.lsdb.proofs.Tops.{first_of_filter, tops, tops_step, joined, joined_by}

-- a filter by two tests
and_by : (b : Bool) (x : Lsa) (xs : List Lsa) (q : Lsa → Bool) (rest : Bool) → rest ≡ list_any q xs
    → ((b && q x) || rest) ≡ list_any q (cond b (x ∷ xs) xs)
and_by true x xs q rest is = ap (λ (r : Bool). q x || r) is
and_by false x xs q rest is = is

pub any_and : (p q : Lsa → Bool) (xs : List Lsa) → list_any (λ x. p x && q x) xs ≡ list_any q (filter p xs)
any_and p q [] = refl
any_and p q (x ∷ xs) = and_by (p x) x (filter p xs) q _ (any_and p q xs)

filter_by : (b : Bool) (x : Lsa) (xs rest : List Lsa) (q r : Lsa → Bool) → (b ≡ true → q x ≡ r x) → rest ≡ filter r xs
    → cond (b && q x) (x ∷ rest) rest ≡ filter r (cond b (x ∷ xs) xs)
filter_by true x xs rest q r same is =
    ap (λ (c : Bool). cond c (x ∷ rest) rest) (same refl) ∙ ap (λ (l : List Lsa). cond (r x) (x ∷ l) l) is
filter_by false x xs rest q r same is = is

filter_and : (p q r : Lsa → Bool) → ((x : Lsa) → p x ≡ true → q x ≡ r x) → (xs : List Lsa)
    → filter (λ x. p x && q x) xs ≡ filter r (filter p xs)
filter_and p q r same [] = refl
filter_and p q r same (x ∷ xs) = filter_by (p x) x (filter p xs) _ q r (same x) (filter_and p q r same xs)

-- the newest instances of a key are those of the greatest rank among its instances
pub newest_is_tops : (lsas : List Lsa) (key : Key) → newest_of lsas key ≡ tops (filter (is_of key) lsas)
newest_is_tops lsas key =
    filter_and (is_of key) (is_newest lsas)
    (λ lsa. not (list_any (λ other. outranks other lsa) (filter (is_of key) lsas)))
    (λ lsa of_key. ap not
    (ap (λ (k : Key). list_any (λ other. is_of k other && outranks other lsa) lsas) (key_is key (key_of lsa) of_key)
    ∙ any_and (is_of key) (λ other. outranks other lsa) lsas)) lsas

joined_by_some : (r : Ordering) (m : Lsa) (ms : List Lsa) (x : Lsa) → joined_by r m ms x ≡ [] → ⊥
joined_by_some Less m ms x h = cc
joined_by_some Equal m ms x h = cc
joined_by_some Greater m ms x h = cc

joined_some : (ts : List Lsa) (x : Lsa) → joined ts x ≡ [] → ⊥
joined_some [] x h = cc
joined_some (m ∷ ms) x h = joined_by_some (rank_cmp x m) m ms x h

tops_from : (done rest : List Lsa) → (tops done ≡ [] → done ≡ []) → tops (done ++ rest) ≡ [] → done ++ rest ≡ []
tops_from done [] some h = append-nil done ∙ some (ap tops (sym (append-nil done)) ∙ h)
tops_from done (x ∷ rest) some h =
    sym (append_assoc done (x ∷ []) rest)
    ∙ tops_from (done ++ x ∷ []) rest
    (λ none. absurd (joined_some (tops done) x (sym (tops_step done x some) ∙ none)))
    (ap tops (append_assoc done (x ∷ []) rest) ∙ h)

tops_some : (lsas : List Lsa) → tops lsas ≡ [] → lsas ≡ []
tops_some lsas h = tops_from [] lsas (λ none. refl) h

-- the entry after one more instance of its key
find_by : (b : Bool) (m x : Lsa) (found more : Option Lsa) (one : Option Lsa)
    → more ≡ (if is_some found then found else one)
    → cond b (Some m) more ≡ (if is_some (cond b (Some m) found) then cond b (Some m) found else one)
find_by true m x found more one is = refl
find_by false m x found more one is = is

find_more : (p : Lsa → Bool) (ms : List Lsa) (x : Lsa)
    → find p (ms ++ x ∷ []) ≡ (if is_some (find p ms) then find p ms else cond (p x) (Some x) None)
find_more p [] x = refl
find_more p (m ∷ ms) x = find_by (p m) m x (find p ms) (find p (ms ++ x ∷ [])) _ (find_more p ms x)

noted_by : (alike : Bool) (m x : Lsa) (found : Option Lsa)
    → record {
      lsa = m;
      differing =
          option_map (λ (l : Lsa). l.at) (if is_some found then found else cond (not alike) (Some x) None);
    }
    ≡ changed (record { lsa = m; differing = option_map (λ (l : Lsa). l.at) found }) x (change_by Equal alike)
noted_by true m x (Some l) = refl
noted_by true m x None = refl
noted_by false m x (Some l) = refl
noted_by false m x None = refl

-- the entry of instances of the greatest rank
abbrev pub entry_from : Lsa → List Lsa → Entry
entry_from m ms =
    record { lsa = m; differing = option_map (λ (l : Lsa). l.at) (find (λ lsa. not (same_but_age m lsa)) ms) }

entry_joined_by : (r : Ordering) (m : Lsa) (ms : List Lsa) (x : Lsa)
    → entry_of (joined_by r m ms x) ≡ Some (changed (entry_from m ms) x (change_by r (same_but_age m x)))
entry_joined_by Greater m ms x = refl
entry_joined_by Less m ms x = refl
entry_joined_by Equal m ms x =
    ap (λ (found : Option Lsa). Some (record { lsa = m; differing = option_map (λ (l : Lsa). l.at) found }))
    (find_more (λ lsa. not (same_but_age m lsa)) ms x)
    ∙ ap (λ (e : Entry). Some e) (noted_by (same_but_age m x) m x (find (λ lsa. not (same_but_age m lsa)) ms))

own_other : (lsas : List Lsa) (x : Lsa) (key : Key) → is_of key x ≡ false
    → filter (is_of key) (lsas ++ x ∷ []) ≡ filter (is_of key) lsas
own_other lsas x key differs =
    filter-append (is_of key) lsas (x ∷ [])
    ∙ ap (λ (b : Bool). filter (is_of key) lsas ++ cond b (x ∷ []) []) differs
    ∙ append-nil (filter (is_of key) lsas)

own_same : (lsas : List Lsa) (x : Lsa) (key : Key) → is_of key x ≡ true
    → filter (is_of key) (lsas ++ x ∷ []) ≡ filter (is_of key) lsas ++ x ∷ []
own_same lsas x key is = filter-append (is_of key) lsas (x ∷ [])
    ∙ ap (λ (b : Bool). filter (is_of key) lsas ++ cond b (x ∷ []) []) is

newest_other : (lsas : List Lsa) (x : Lsa) (key : Key) → is_of key x ≡ false
    → newest_of (lsas ++ x ∷ []) key ≡ newest_of lsas key
newest_other lsas x key differs =
    newest_is_tops (lsas ++ x ∷ []) key ∙ ap tops (own_other lsas x key differs) ∙ sym (newest_is_tops lsas key)

newest_same : (lsas : List Lsa) (x : Lsa) (key : Key) → is_of key x ≡ true
    → newest_of (lsas ++ x ∷ []) key ≡ joined (newest_of lsas key) x
newest_same lsas x key is =
    newest_is_tops (lsas ++ x ∷ []) key ∙ ap tops (own_same lsas x key is)
    ∙ tops_step (filter (is_of key) lsas) x (tops_some (filter (is_of key) lsas))
    ∙ ap (λ (ts : List Lsa). joined ts x) (sym (newest_is_tops lsas key))

-- the newest instances of a key that is there
pub record Newest (lsas : List Lsa) (key : Key) : Type 0 where
  pub first : Lsa
  pub rest : List Lsa
  pub are : newest_of lsas key ≡ first ∷ rest
  pub of_key : key_of first ≡ key

none_by : (b : Bool) (p : Lsa → Bool) (x : Lsa) (xs : List Lsa) → p x ≡ b → (filter p xs ≡ [] → list_any p xs ≡ false)
    → cond b (x ∷ filter p xs) (filter p xs) ≡ [] → (b || list_any p xs) ≡ false
none_by true p x xs is rest h = absurd cc
none_by false p x xs is rest h = rest h

none_pass : (p : Lsa → Bool) (xs : List Lsa) → filter p xs ≡ [] → list_any p xs ≡ false
none_pass p [] h = refl
none_pass p (x ∷ xs) h = none_by (p x) p x xs refl (none_pass p xs) h

pass_by : (b : Bool) (p : Lsa → Bool) (x : Lsa) (xs : List Lsa) → (list_any p xs ≡ false → filter p xs ≡ [])
    → (b || list_any p xs) ≡ false
    → cond b (x ∷ filter p xs) (filter p xs) ≡ []
pass_by true p x xs rest h = absurd cc
pass_by false p x xs rest h = rest h

pub pass_none : (p : Lsa → Bool) (xs : List Lsa) → list_any p xs ≡ false → filter p xs ≡ []
pass_none p [] h = refl
pass_none p (x ∷ xs) h = pass_by (p x) p x xs (pass_none p xs) h

newest_by : (ts : List Lsa) (lsas : List Lsa) (key : Key) → newest_of lsas key ≡ ts
    → list_any (is_of key) lsas ≡ true → Newest lsas key
newest_by [] lsas key are there =
    let none = none_pass (is_of key) lsas (tops_some (filter (is_of key) lsas) (sym (newest_is_tops lsas key) ∙ are))
    in absurd cc
newest_by (m ∷ ms) lsas key are there =
    let passes = (first_of_filter (λ lsa. is_of key lsa && is_newest lsas lsa) lsas m ms are).passes in
    record { first = m; rest = ms; are = are; of_key = key_is key (key_of m) (and_parts _ _ passes).0 }

pub newest_there : (lsas : List Lsa) (key : Key) → list_any (is_of key) lsas ≡ true → Newest lsas key
newest_there lsas key there = newest_by (newest_of lsas key) lsas key refl there

-- the entries of these keys
abbrev pub entries_at : List Lsa → List Key → List Entry
entries_at lsas keys = filter_map (λ key. entry_of (newest_of lsas key)) keys

entries_other : (keys : List Key) (lsas : List Lsa) (x : Lsa) → list_any (same_key (key_of x)) keys ≡ false
    → entries_at (lsas ++ x ∷ []) keys ≡ entries_at lsas keys
entries_other [] lsas x none = refl
entries_other (key ∷ keys) lsas x none =
    let parts = or_parts (same_key (key_of x) key) _ none in
    ap (λ (ts : List Lsa). cons_option (entry_of ts) (entries_at (lsas ++ x ∷ []) keys))
    (newest_other lsas x key (differ_both (key_of x) key parts.0))
    ∙ ap (λ (es : List Entry). cons_option (entry_of (newest_of lsas key)) es) (entries_other keys lsas x parts.1)

pub any_entries : (keys : List Key) (lsas : List Lsa) (key : Key) → HaveInstances lsas keys
    → list_any (is_entry_of key) (entries_at lsas keys) ≡ list_any (same_key key) keys
any_entries [] lsas key have = refl
any_entries (k ∷ keys) lsas key have =
    let newest = newest_there lsas k have.0 in
    ap (λ (ts : List Lsa). list_any (is_entry_of key) (cons_option (entry_of ts) (entries_at lsas keys))) newest.are
    ∙ ap (λ (n : Key). same_key key n || list_any (is_entry_of key) (entries_at lsas keys)) newest.of_key
    ∙ ap (λ (b : Bool). same_key key k || b) (any_entries keys lsas key have.1)

there_by : (b : Bool) (key : Key) (keys : List Key) (lsas : List Lsa) (x : Lsa) → same_key (key_of x) key ≡ b
    → (b || list_any (same_key (key_of x)) keys) ≡ true → list_any (same_key key) keys ≡ false → Newest lsas key
    → (list_any (same_key (key_of x)) keys ≡ true
    → (installed (entries_at lsas keys) x).0 ≡ entries_at (lsas ++ x ∷ []) keys)
    → (installed (entries_at lsas (key ∷ keys)) x).0 ≡ entries_at (lsas ++ x ∷ []) (key ∷ keys)
there_by true key keys lsas x is there distinct newest rest =
    let same : key ≡ key_of x = key_is (key_of x) key is in
    let told : same_key (key_of x) (key_of newest.first) ≡ true = ap (same_key (key_of x)) newest.of_key ∙ is in
    let own : is_of key x ≡ true = subst (λ (k : Key). same_key key k ≡ true) same (own_key key) in
    let free : list_any (same_key (key_of x)) keys ≡ false =
    subst (λ (k : Key). list_any (same_key k) keys ≡ false) same distinct in
    ap (λ (ts : List Lsa). (installed (cons_option (entry_of ts) (entries_at lsas keys)) x).0) newest.are
    ∙ ap (λ (r : List Entry × Change). r.0) (chosen (same_key (key_of x) (key_of newest.first)) _ _ told)
    ∙ ap (λ (es : List Entry). changed (entry_from newest.first newest.rest) x (change_of newest.first x) ∷ es)
    (sym (entries_other keys lsas x free))
    ∙ sym (ap (λ (o : Option Entry). cons_option o (entries_at (lsas ++ x ∷ []) keys))
    (ap entry_of (newest_same lsas x key own ∙ ap (λ (ts : List Lsa). joined ts x) newest.are)
    ∙ entry_joined_by (rank_cmp x newest.first) newest.first newest.rest x))
there_by false key keys lsas x is there distinct newest rest =
    let told : same_key (key_of x) (key_of newest.first) ≡ false = ap (same_key (key_of x)) newest.of_key ∙ is in
    ap (λ (ts : List Lsa). (installed (cons_option (entry_of ts) (entries_at lsas keys)) x).0) newest.are
    ∙ ap (λ (r : List Entry × Change). r.0) (unchosen (same_key (key_of x) (key_of newest.first)) _ _ told)
    ∙ ap (λ (es : List Entry). entry_from newest.first newest.rest ∷ es) (rest there)
    ∙ sym (ap (λ (ts : List Lsa). cons_option (entry_of ts) (entries_at (lsas ++ x ∷ []) keys))
    (newest_other lsas x key (differ_both (key_of x) key is) ∙ newest.are))

entries_there : (keys : List Key) (lsas : List Lsa) (x : Lsa) → list_any (same_key (key_of x)) keys ≡ true
    → AreDistinct keys → HaveInstances lsas keys
    → (installed (entries_at lsas keys) x).0 ≡ entries_at (lsas ++ x ∷ []) keys
entries_there [] lsas x there distinct have = absurd cc
entries_there (key ∷ keys) lsas x there distinct have =
    there_by (same_key (key_of x) key) key keys lsas x refl there distinct.0 (newest_there lsas key have.0)
    (λ more. entries_there keys lsas x more distinct.1 have.1)

step_by : (b : Bool) (lsas : List Lsa) (x : Lsa) → list_any (same_key (key_of x)) (keys_in lsas) ≡ b
    → (installed (entries_in lsas) x).0 ≡ entries_at (lsas ++ x ∷ []) (keys_with b (key_of x) (keys_in lsas))
step_by true lsas x is = entries_there (keys_in lsas) lsas x is (keys_distinct lsas) (have_instances lsas)
step_by false lsas x is =
    let none : newest_of lsas (key_of x) ≡ [] =
    newest_is_tops lsas (key_of x) ∙ ap tops (pass_none (is_of (key_of x)) lsas (sym (any_key (key_of x) lsas) ∙ is)) in
    ap (λ (r : List Entry × Change). r.0)
    (installed_new (entries_in lsas) x (any_entries (keys_in lsas) lsas (key_of x) (have_instances lsas) ∙ is))
    ∙ ap (λ (es : List Entry). es ++ record { lsa = x; differing = None } ∷ [])
    (sym (entries_other (keys_in lsas) lsas x is))
    ∙ sym (filter_map-append (λ key. entry_of (newest_of (lsas ++ x ∷ []) key)) (keys_in lsas) (key_of x ∷ [])
    ∙ ap (λ (ts : List Lsa). entries_at (lsas ++ x ∷ []) (keys_in lsas) ++ cons_option (entry_of ts) [])
    (newest_same lsas x (key_of x) (own_key (key_of x)) ∙ ap (λ (ts : List Lsa). joined ts x) none))

-- one install
pub entries_step : (lsas : List Lsa) (x : Lsa) → (installed (entries_in lsas) x).0 ≡ entries_in (lsas ++ x ∷ [])
entries_step lsas x =
    step_by (list_any (same_key (key_of x)) (keys_in lsas)) lsas x refl
    ∙ ap (entries_at (lsas ++ x ∷ [])) (sym (keys_step lsas x))

all_from : (done rest : List Lsa) → all_installed (entries_in done) rest ≡ entries_in (done ++ rest)
all_from done [] = ap entries_in (sym (append-nil done))
all_from done (x ∷ rest) =
    ap (λ (es : List Entry). all_installed es rest) (entries_step done x) ∙ all_from (done ++ x ∷ []) rest
    ∙ ap entries_in (append_assoc done (x ∷ []) rest)

-- any list of installs into a database without LSAs
pub all_of_list : (lsas : List Lsa) → all_installed [] lsas ≡ entries_in lsas
all_of_list lsas = all_from [] lsas
