-- Where the places of LSAs rise, one conflict at most has the least second place.
use Rattle.std.proofs.Common.{◌≡◌, ◌∙◌, ◌<◌, ◌&&◌, ℕ, Bool, true, false, not, cond, List, [], ◌∷◌, Option, Some, None, Contains, refl, sym, ap, subst, inl, inr, arith}
use Rattle.std.specs.List.{filter, find}
use Rattle.std.proofs.lemmas.List.Elements.{All-contains, All-contains_itself, All-filter, filter_passes}
use Rattle.std.proofs.lemmas.Bool.{and_parts}
use Rattle.mrt_graph.proofs.Members.{contains_cases, contains_later, contains_none}
use Rattle.ospf_lsa.specs.declared.lsa.Lsa.{Lsa}
use Rattle.lsdb.specs.declared.change.Conflict.{Conflict}
use Rattle.lsdb.specs.declared.key.Key.{Key}
use Rattle.lsdb.specs.Conflicts.{least_conflict}
use Rattle.lsdb.specs.Disagreements.{IsConflictOf, IsFirstConflictOf}
use Rattle.lsdb.specs.Entries.{entries_in}
use Rattle.lsdb.specs.Installs.{AreBehind}
use Rattle.lsdb.specs.Keys.{key_of, is_of}
use Rattle.lsdb.specs.Newest.{is_newest, newest_of, same_but_age}
use Rattle.lsdb.proofs.Conflicting.{entry_of_pair, first_of_list, quiet_entry}
use Rattle.lsdb.proofs.Stores.{key_is}

behind_first : (first at : ℕ) (lsas : List Lsa) (lsa : Lsa) → first < at → AreBehind (Some at) lsas
    → Contains lsas lsa → first < lsa.at
behind_first first at [] lsa below rise there = absurd (contains_none lsa there)
behind_first first at (l ∷ lsas) lsa below rise there =
    elim (contains_cases l lsa lsas there) [
      | inl same ↦ subst (λ (x : Lsa). first < x.at) (sym same) (omega (arith, below, rise.0))
      | inr more ↦ behind_first first l.at lsas lsa (omega (arith, below, rise.0)) rise.1 more
    ]

behind_all : (at : ℕ) (lsas : List Lsa) (lsa : Lsa) → AreBehind (Some at) lsas → Contains lsas lsa → at < lsa.at
behind_all at [] lsa rise there = absurd (contains_none lsa there)
behind_all at (l ∷ lsas) lsa rise there =
    elim (contains_cases l lsa lsas there) [
      | inl same ↦ subst (λ (x : Lsa). at < x.at) (sym same) rise.0
      | inr more ↦ behind_first at l.at lsas lsa rise.0 rise.1 more
    ]

-- LSAs at one place are one
one_at : (greatest : Option ℕ) (lsas : List Lsa) (one other : Lsa) → AreBehind greatest lsas → Contains lsas one
    → Contains lsas other → one.at ≡ other.at → one ≡ other
one_at greatest [] one other rise there there' same = absurd (contains_none one there)
one_at greatest (l ∷ lsas) one other rise there there' same =
    elim (contains_cases l one lsas there) [
      | inl first ↦ elim (contains_cases l other lsas there') [
        | inl first' ↦ first ∙ sym first'
        | inr more' ↦ let below = behind_all l.at lsas other rise.1 more' in let at = ap (λ (x : Lsa). x.at) first in
            absurd (omega (arith, below, at, same))
      ]
      | inr more ↦ elim (contains_cases l other lsas there') [
        | inl first' ↦ let below = behind_all l.at lsas one rise.1 more in let at = ap (λ (x : Lsa). x.at) first' in
            absurd (omega (arith, below, at, same))
        | inr more' ↦ one_at (Some l.at) lsas one other rise.1 more more' same
      ]
    ]

found_by : (b : Bool) (test : Lsa → Bool) (l x : Lsa) (ls : List Lsa) → (find test ls ≡ Some x → Contains ls x)
    → cond b (Some l) (find test ls) ≡ Some x → Contains (l ∷ ls) x
found_by true test l x ls rest h = let same : l ≡ x = cc in
    subst (λ (y : Lsa). Contains (l ∷ ls) y) same (0, omega arith, refl)
found_by false test l x ls rest h = contains_later l x ls (rest h)

found_there : (test : Lsa → Bool) (ls : List Lsa) (x : Lsa) → find test ls ≡ Some x → Contains ls x
found_there test [] x h = absurd cc
found_there test (l ∷ ls) x h = found_by (test l) test l x ls (found_there test ls x) h

-- the second LSA of a conflict is an instance of its key in the list
pub record Second (lsas : List Lsa) (key : Key) (lsa : Lsa) : Type 0 where
  pub there : Contains lsas lsa
  pub of_key : key_of lsa ≡ key

second_of : (lsas : List Lsa) (conflict : Conflict) → (pair : IsConflictOf lsas conflict)
    → Second lsas pair.key pair.second
second_of lsas conflict pair =
    let among : Contains (newest_of lsas pair.key) pair.second =
    subst (λ (ts : List Lsa). Contains ts pair.second) (sym pair.newest)
    (contains_later pair.first pair.second pair.others
    (found_there (λ lsa. not (same_but_age pair.first lsa)) pair.others pair.second pair.differs)) in
    let keep : Lsa → Bool = λ lsa. is_of pair.key lsa && is_newest lsas lsa in
    let passes : keep pair.second ≡ true =
    All-contains (λ lsa. keep lsa ≡ true) (filter keep lsas) pair.second (filter_passes keep lsas) among in
    record {
      there = All-contains (Contains lsas) (filter keep lsas) pair.second
          (All-filter keep (Contains lsas) lsas (All-contains_itself lsas)) among;
      of_key = key_is pair.key (key_of pair.second) (and_parts _ _ passes).0;
    }

-- conflicts with one second place are one
same_first : (lsas : List Lsa) (one other : Conflict) → (pair : IsConflictOf lsas one)
    → (pair' : IsConflictOf lsas other) → pair.key ≡ pair'.key → pair.first ≡ pair'.first
same_first lsas one other pair pair' same =
    let lists : pair.first ∷ pair.others ≡ pair'.first ∷ pair'.others = sym pair.newest ∙ ap (newest_of lsas) same
    ∙ pair'.newest in cc

same_pair : (lsas : List Lsa) (one other : Conflict) → AreBehind None lsas → IsConflictOf lsas one
    → IsConflictOf lsas other → one.second ≡ other.second → one ≡ other
same_pair lsas one other rise pair pair' same =
    let second = second_of lsas one pair in
    let second' = second_of lsas other pair' in
    let at : pair.second.at ≡ pair'.second.at = sym (ap (λ (c : Conflict). c.second) pair.places) ∙ same
    ∙ ap (λ (c : Conflict). c.second) pair'.places in
    let one_lsa : pair.second ≡ pair'.second =
    one_at None lsas pair.second pair'.second rise second.there second'.there at in
    let key : pair.key ≡ pair'.key = sym second.of_key ∙ ap key_of one_lsa ∙ second'.of_key in
    let make : ℕ → ℕ → Conflict = λ f s. record { first = f; second = s } in
    pair.places
    ∙ ap (λ (l : Lsa). make l.at pair.second.at) (same_first lsas one other pair pair' key)
    ∙ ap (λ (n : ℕ). make pair'.first.at n) at
    ∙ sym pair'.places

only_by : (told : Option Conflict) (lsas : List Lsa) (conflict : Conflict) → least_conflict (entries_in lsas) ≡ told
    → AreBehind None lsas → IsFirstConflictOf lsas conflict
    → told ≡ Some conflict
only_by None lsas conflict is rise first =
    let at = entry_of_pair lsas conflict first.is_one in
    let quiet = quiet_entry (entries_in lsas) is at.entry at.there in
    let its = at.its in absurd cc
only_by (Some other) lsas conflict is rise first =
    let first' = first_of_list lsas other is in
    let below = first.least other first'.is_one in
    let below' = first'.least conflict first.is_one in
    ap (λ (c : Conflict). Some c)
    (same_pair lsas other conflict rise first'.is_one first.is_one (omega (arith, below, below')))

pub only_first : (lsas : List Lsa) (conflict : Conflict) → AreBehind None lsas → IsFirstConflictOf lsas conflict
    → least_conflict (entries_in lsas) ≡ Some conflict
only_first lsas conflict rise first = only_by (least_conflict (entries_in lsas)) lsas conflict refl rise first
