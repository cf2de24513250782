-- The conflict that is told has the least second place of all.
use Rattle.std.proofs.Common.{◌≡◌, ◌∙◌, ◌<◌, ◌≤◌, ◌||◌, ◌&&◌, ℕ, Bool, true, false, not, List, [], ◌∷◌, Option, Some, None, Contains, if◌then◌else◌, refl, sym, ap, subst, inl, inr, arith}
use Rattle.std.specs.Prelude.{nat_lt}
use Rattle.std.specs.List.{list_any, find, cons_option}
use Rattle.std.specs.Option.{option_map}
use Rattle.std.proofs.lemmas.Bool.Decides.{nat_tests}
use Rattle.std.proofs.lemmas.Option.{same_Some}
use Rattle.std.proofs.lemmas.Bool.{and_parts}
use Rattle.mrt_graph.proofs.Members.{contains_cases, contains_first, contains_later, contains_none}
use Rattle.ospf_lsa.specs.declared.lsa.Lsa.{Lsa}
use Rattle.lsdb.specs.declared.change.Conflict.{Conflict}
use Rattle.lsdb.specs.declared.key.Key.{Key}
use Rattle.lsdb.specs.Conflicts.{conflict_of, earlier, least_conflict}
use Rattle.lsdb.specs.Disagreements.{IsConflictOf, IsFirstConflict, IsFirstConflictOf}
use Rattle.lsdb.specs.Entries.{Entry, entry_of, entries_in}
use Rattle.lsdb.specs.Keys.{same_key, is_of, keys_in}
use Rattle.lsdb.specs.Newest.{is_newest, newest_of, same_but_age}
use Rattle.lsdb.proofs.Arrivals.{any_key}
use Rattle.lsdb.proofs.Lists.{entries_at}
use Rattle.lsdb.proofs.Settling.{none_of_two}
use Rattle.lsdb.proofs.Stores.{key_is}
use Rattle.lsdb.proofs.Tops.{first_of_filter}

behind : {X : Type 0} (x : Option X) (y : X) (xs : List X) → Contains xs y → Contains (cons_option x xs) y
behind None y xs there = there
behind (Some x) y xs there = contains_later x y xs there

-- no entry of these has a conflict with a lesser second place
abbrev pub FreeBelow : ℕ → List Entry → Type 0
FreeBelow least entries = (other : Entry) (conflict : Conflict) → Contains entries other
    → conflict_of other ≡ Some conflict → least ≤ conflict.second

pub quiet_entry : (entries : List Entry) → least_conflict entries ≡ None → (entry : Entry) → Contains entries entry
    → conflict_of entry ≡ None
quiet_entry [] none entry there = absurd (contains_none entry there)
quiet_entry (e ∷ entries) none entry there =
    let parts = none_of_two (conflict_of e) (least_conflict entries) none in
    elim (contains_cases e entry entries there) [
      | inl same ↦ subst (λ (x : Entry). conflict_of x ≡ None) (sym same) parts.0
      | inr more ↦ quiet_entry entries parts.1 entry more
    ]

quiet_below : (entries : List Entry) (least : ℕ) → least_conflict entries ≡ None → FreeBelow least entries
quiet_below entries least none other conflict there is = let quiet = quiet_entry entries none other there in absurd cc

-- one more entry in front
one_more : (e : Entry) (entries : List Entry) (least : ℕ)
    → ((conflict : Conflict) → conflict_of e ≡ Some conflict → least ≤ conflict.second)
    → FreeBelow least entries → FreeBelow least (e ∷ entries)
one_more e entries least first rest other conflict there is =
    elim (contains_cases e other entries there) [
      | inl same ↦ first conflict (sym (ap conflict_of same) ∙ is)
      | inr more ↦ rest other conflict more is
    ]

weaker : (entries : List Entry) (least less : ℕ) → less ≤ least → FreeBelow least entries → FreeBelow less entries
weaker entries least less below free other conflict there is = omega (arith, below, free other conflict there is)

told_later : (e : Entry) (entries : List Entry) (conflict : Conflict)
    → ((c : Conflict) → conflict_of e ≡ Some c → conflict.second ≤ c.second)
    → IsFirstConflict entries conflict → IsFirstConflict (e ∷ entries) conflict
told_later e entries conflict first rest = record {
  entry = rest.entry;
  there = contains_later e rest.entry entries rest.there;
  its = rest.its;
  least = one_more e entries conflict.second first rest.least;
}

told_here : (e : Entry) (entries : List Entry) (conflict : Conflict) → conflict_of e ≡ Some conflict
    → FreeBelow conflict.second entries → IsFirstConflict (e ∷ entries) conflict
told_here e entries conflict is rest = record {
  entry = e;
  there = contains_first e entries;
  its = is;
  least = one_more e entries conflict.second
      (λ c its. let same : conflict ≡ c = same_Some conflict c (sym is ∙ its) in
      subst (λ (x : Conflict). conflict.second ≤ x.second) same (omega arith)) rest;
}

lesser_by : (b : Bool) (e : Entry) (entries : List Entry) (one other conflict : Conflict)
    → nat_lt other.second one.second ≡ b
    → conflict_of e ≡ Some one → IsFirstConflict entries other → (if b then Some other else Some one) ≡ Some conflict
    → IsFirstConflict (e ∷ entries) conflict
lesser_by true e entries one other conflict less is rest h =
    let same : other ≡ conflict = same_Some other conflict h in
    let below : other.second < one.second = grind (arith, nat_tests, less) in
    subst (IsFirstConflict (e ∷ entries)) same
    (told_later e entries other
    (λ c its. subst (λ (x : Conflict). other.second ≤ x.second) (same_Some one c (sym is ∙ its))
    (omega (arith, below))) rest)
lesser_by false e entries one other conflict less is rest h =
    let same : one ≡ conflict = same_Some one conflict h in
    let below : one.second ≤ other.second = grind (arith, nat_tests, less) in
    subst (IsFirstConflict (e ∷ entries)) same
    (told_here e entries one is (weaker entries other.second one.second below rest.least))

first_by : (mine rest : Option Conflict) (e : Entry) (entries : List Entry) (conflict : Conflict)
    → conflict_of e ≡ mine → least_conflict entries ≡ rest
    → ((other : Conflict) → least_conflict entries ≡ Some other → IsFirstConflict entries other)
    → earlier mine rest ≡ Some conflict → IsFirstConflict (e ∷ entries) conflict
first_by None rest e entries conflict is are rests h =
    told_later e entries conflict (λ c its. let no : None ≡ Some c = sym is ∙ its in absurd cc)
    (rests conflict (are ∙ h))
first_by (Some one) None e entries conflict is are rests h =
    told_here e entries conflict (is ∙ h) (quiet_below entries conflict.second are)
first_by (Some one) (Some other) e entries conflict is are rests h =
    lesser_by (nat_lt other.second one.second) e entries one other conflict refl is (rests other are) h

-- among entries
pub first_conflict : (entries : List Entry) (conflict : Conflict) → least_conflict entries ≡ Some conflict
    → IsFirstConflict entries conflict
first_conflict [] conflict h = absurd cc
first_conflict (e ∷ entries) conflict h =
    first_by (conflict_of e) (least_conflict entries) e entries conflict refl refl (first_conflict entries) h

-- the entry of a key that has one stands among those of the list
entry_by : (b : Bool) (lsas : List Lsa) (key first : Key) (keys : List Key) (entry : Entry) → same_key key first ≡ b
    → (b || list_any (same_key key) keys) ≡ true
    → entry_of (newest_of lsas key) ≡ Some entry
    → (list_any (same_key key) keys ≡ true → Contains (entries_at lsas keys) entry)
    → Contains (entries_at lsas (first ∷ keys)) entry
entry_by true lsas key first keys entry is there of_key rest =
    let same : first ≡ key = key_is key first is in
    subst (λ (o : Option Entry). Contains (cons_option o (entries_at lsas keys)) entry)
    (sym (ap (λ (k : Key). entry_of (newest_of lsas k)) same ∙ of_key)) (contains_first entry (entries_at lsas keys))
entry_by false lsas key first keys entry is there of_key rest =
    behind (entry_of (newest_of lsas first)) entry (entries_at lsas keys) (rest there)

entry_stands : (lsas : List Lsa) (key : Key) (keys : List Key) (entry : Entry) → list_any (same_key key) keys ≡ true
    → entry_of (newest_of lsas key) ≡ Some entry
    → Contains (entries_at lsas keys) entry
entry_stands lsas key [] entry there of_key = absurd cc
entry_stands lsas key (first ∷ keys) entry there of_key =
    entry_by (same_key key first) lsas key first keys entry refl there of_key
    (λ more. entry_stands lsas key keys entry more of_key)

-- the key of an entry
pub record KeyOf (lsas : List Lsa) (entry : Entry) : Type 0 where
  pub key : Key
  pub is : entry_of (newest_of lsas key) ≡ Some entry

key_by : (o : Option Entry) (lsas : List Lsa) (key : Key) (keys : List Key) (entry : Entry)
    → entry_of (newest_of lsas key) ≡ o
    → (Contains (entries_at lsas keys) entry → KeyOf lsas entry)
    → Contains (cons_option o (entries_at lsas keys)) entry → KeyOf lsas entry
key_by None lsas key keys entry is rest there = rest there
key_by (Some first) lsas key keys entry is rest there =
    elim (contains_cases first entry (entries_at lsas keys) there) [
      | inl same ↦ record { key = key; is = is ∙ sym (ap (λ (e : Entry). Some e) same) }
      | inr more ↦ rest more
    ]

key_of_entry : (lsas : List Lsa) (keys : List Key) (entry : Entry) → Contains (entries_at lsas keys) entry
    → KeyOf lsas entry
key_of_entry lsas [] entry there = absurd (contains_none entry there)
key_of_entry lsas (key ∷ keys) entry there = key_by (entry_of (newest_of lsas key)) lsas key keys entry refl
    (key_of_entry lsas keys entry) there

-- an entry's conflict is one of the list
pair_by : (found : Option Lsa) (lsas : List Lsa) (key : Key) (first : Lsa) (others : List Lsa) (conflict : Conflict)
    → newest_of lsas key ≡ first ∷ others
    → find (λ lsa. not (same_but_age first lsa)) others ≡ found
    → conflict_of (record { lsa = first; differing = option_map (λ (l : Lsa). l.at) found }) ≡ Some conflict
    → IsConflictOf lsas conflict
pair_by None lsas key first others conflict are is its = absurd cc
pair_by (Some second) lsas key first others conflict are is its = record {
  key = key;
  first = first;
  others = others;
  newest = are;
  second = second;
  differs = is;
  places = sym (same_Some (record { first = first.at; second = second.at }) conflict its);
}

of_entry_by : (ts : List Lsa) (lsas : List Lsa) (key : Key) (entry : Entry) (conflict : Conflict)
    → newest_of lsas key ≡ ts → entry_of ts ≡ Some entry
    → conflict_of entry ≡ Some conflict → IsConflictOf lsas conflict
of_entry_by [] lsas key entry conflict are of_key its = absurd cc
of_entry_by (first ∷ others) lsas key entry conflict are of_key its =
    pair_by (find (λ lsa. not (same_but_age first lsa)) others) lsas key first others conflict are refl
    (ap conflict_of
    (same_Some (record {
      lsa = first;
      differing =
          option_map (λ (l : Lsa). l.at) (find (λ lsa. not (same_but_age first lsa)) others);
    }) entry of_key) ∙ its)

-- a conflict of the list is that of an entry
pub record EntryOf (lsas : List Lsa) (conflict : Conflict) : Type 0 where
  pub entry : Entry
  pub there : Contains (entries_in lsas) entry
  pub its : conflict_of entry ≡ Some conflict

pub entry_of_pair : (lsas : List Lsa) (conflict : Conflict) → IsConflictOf lsas conflict → EntryOf lsas conflict
entry_of_pair lsas conflict pair =
    let first = first_of_filter (λ lsa. is_of pair.key lsa && is_newest lsas lsa) lsas pair.first pair.others
    pair.newest in
    let entry : Entry = record { lsa = pair.first; differing = Some pair.second.at } in
    let is : entry_of (newest_of lsas pair.key) ≡ Some entry =
    ap entry_of pair.newest
    ∙ ap (λ (o : Option Lsa). Some (record { lsa = pair.first; differing = option_map (λ (l : Lsa). l.at) o }))
    pair.differs in
    record {
      entry = entry;
      there = entry_stands lsas pair.key (keys_in lsas) entry
          (any_key pair.key lsas ∙ first.among (is_of pair.key) (and_parts _ _ first.passes).0) is;
      its = ap (λ (c : Conflict). Some c) (sym pair.places);
    }

-- among the LSAs of a list
pub first_of_list : (lsas : List Lsa) (conflict : Conflict) → least_conflict (entries_in lsas) ≡ Some conflict
    → IsFirstConflictOf lsas conflict
first_of_list lsas conflict h =
    let told = first_conflict (entries_in lsas) conflict h in
    let named = key_of_entry lsas (keys_in lsas) told.entry told.there in
    record {
      is_one = of_entry_by (newest_of lsas named.key) lsas named.key told.entry conflict refl named.is told.its;
      least = λ other pair. let at = entry_of_pair lsas other pair in told.least at.entry other at.there at.its;
    }

-- without a conflict no entry has a differing instance
no_differing : (found : Option ℕ) (entry : Entry) → entry.differing ≡ found → conflict_of entry ≡ None → found ≡ None
no_differing None entry is quiet = refl
no_differing (Some at) entry is quiet =
    let some : conflict_of entry ≡ Some (record { first = entry.lsa.at; second = at }) =
    ap (option_map (λ (place : ℕ). record { first = entry.lsa.at; second = place })) is in absurd cc

pub all_quiet : (entries : List Entry) → least_conflict entries ≡ None → (entry : Entry) → Contains entries entry
    → entry.differing ≡ None
all_quiet entries none entry there = no_differing entry.differing entry refl (quiet_entry entries none entry there)

-- where there is a conflict some entry has a differing instance
pub not_quiet : (entries : List Entry) (conflict : Conflict) → least_conflict entries ≡ Some conflict
    → ((entry : Entry) → Contains entries entry → entry.differing ≡ None) → ⊥
not_quiet entries conflict some quiet =
    let told = first_conflict entries conflict some in
    let none : conflict_of told.entry ≡ None =
    ap (option_map (λ (place : ℕ). record { first = told.entry.lsa.at; second = place }))
    (quiet told.entry told.there) in
    let both : None ≡ Some conflict = sym none ∙ told.its in absurd cc
