-- Lists of LSAs that cover all LSAs of a file have its newest instances.
use Rattle.std.proofs.Common.{◌≡◌, ◌∙◌, ◌+◌, ◌++◌, ℕ, Bool, true, false, not, cond, List, [], ◌∷◌, Option, Some, None, map, inl, inr, refl, sym, ap, subst, append_assoc}
use Rattle.std.specs.List.{AllByRecursion, list_any}
use Rattle.std.specs.Option.{is_some}
use Rattle.std.proofs.lemmas.List.{append-nil, map-append}
use Rattle.mrt_graph.proofs.Members.{Has, all_append, contains_from_has, has_from_contains, has_map}
use Rattle.ospf_lsa.specs.declared.lsa.Lsa.{Lsa}
use Rattle.lsdb.specs.declared.change.Change.{Change}
use Rattle.lsdb.specs.declared.change.Change.TheVariants.{Added, Replaced, Older, Same, Clash}
use Rattle.lsdb.specs.declared.change.Conflict.{Conflict}
use Rattle.lsdb.specs.Conflicts.{conflict_of, earlier, least_conflict}
use Rattle.lsdb.specs.Entries.{Entry, entries_in}
use Rattle.lsdb.specs.Installing.{change_of, changed, installed, IsKept}
use Rattle.lsdb.specs.Keys.{key_of, same_key}
use Rattle.lsdb.specs.Newest.{IsSettled}
use Rattle.lsdb.specs.Orders.{newest_in, without_place, HoldTheSame}
use Rattle.lsdb.proofs.Agreements.{same_agree, settled_agree}
use Rattle.lsdb.proofs.Lists.{all_of_list, entries_step}
use Rattle.lsdb.proofs.Settling.{none_of_two, no_conflict_settled, settled_no_conflict}
use Rattle.flood.specs.Receiving.{is_new}
use Rattle.flood.specs.Runs.{numbered, AreNewestOfTheSame}
use Rattle.flood.proofs.Covered.{any_more, covered_numbered, covers, has_either, has_right, new_where_uncovered}

-- ---- an install that brings nothing new

lsa_stays : (e : Entry) (x : Lsa) (c : Change) → is_new c ≡ false → (changed e x c).lsa ≡ e.lsa
lsa_stays e x Added old = absurd cc
lsa_stays e x Replaced old = absurd cc
lsa_stays e x Older old = refl
lsa_stays e x Same old = refl
lsa_stays e x Clash old = refl

-- the conflict of an entry with this differing place
abbrev conflict_at : Lsa → Option ℕ → Option Conflict
conflict_at lsa differing = conflict_of (record { lsa = lsa; differing = differing })

noted_conflict : (lsa : Lsa) (differing : Option ℕ) (at : ℕ)
    → conflict_at lsa (cond (is_some differing) differing (Some at)) ≡ None → conflict_at lsa differing ≡ None
noted_conflict lsa None at none = refl
noted_conflict lsa (Some d) at none = none

conflict_was : (e : Entry) (x : Lsa) (c : Change) → is_new c ≡ false → conflict_of (changed e x c) ≡ None
    → conflict_of e ≡ None
conflict_was e x Added old none = absurd cc
conflict_was e x Replaced old none = absurd cc
conflict_was e x Older old none = none
conflict_was e x Same old none = none
conflict_was e x Clash old none = noted_conflict e.lsa e.differing x.at none

-- entries before an install that told nothing new, and after it
record IsStale (before after : List Entry) : Type 0 where
  lsas : map (λ (e : Entry). e.lsa) after ≡ map (λ (e : Entry). e.lsa) before
  settled : least_conflict after ≡ None → least_conflict before ≡ None

both_none : (one other : Option Conflict) → one ≡ None → other ≡ None → earlier one other ≡ None
both_none one other is is' = ap (λ (o : Option Conflict). earlier o other) is ∙ is'

stale_here : (e : Entry) (es : List Entry) (x : Lsa) (c : Change) → is_new c ≡ false
    → IsStale (e ∷ es) (changed e x c ∷ es)
stale_here e es x c old = record {
  lsas = ap (λ (l : Lsa). l ∷ map (λ (e : Entry). e.lsa) es) (lsa_stays e x c old);
  settled = λ none.
      let two = none_of_two (conflict_of (changed e x c)) (least_conflict es) none in
      both_none (conflict_of e) (least_conflict es) (conflict_was e x c old two.0) two.1;
}

stale_later : (e : Entry) (es es' : List Entry) → IsStale es es' → IsStale (e ∷ es) (e ∷ es')
stale_later e es es' stale = record {
  lsas = ap (λ (ls : List Lsa). e.lsa ∷ ls) stale.lsas;
  settled = λ none.
      let two = none_of_two (conflict_of e) (least_conflict es') none in
      both_none (conflict_of e) (least_conflict es) two.0 (stale.settled two.1);
}

abbrev chosen : Bool → List Entry × Change → List Entry × Change → List Entry × Change
chosen b one other = cond b one other

stale_by : (b : Bool) (e : Entry) (es : List Entry) (x : Lsa)
    → is_new (chosen b (changed e x (change_of e.lsa x) ∷ es, change_of e.lsa x)
    (e ∷ (installed es x).0, (installed es x).1)).1 ≡ false
    → (is_new (installed es x).1 ≡ false → IsStale es (installed es x).0)
    → IsStale (e ∷ es) (chosen b (changed e x (change_of e.lsa x) ∷ es, change_of e.lsa x)
    (e ∷ (installed es x).0, (installed es x).1)).0
stale_by true e es x old rest = stale_here e es x (change_of e.lsa x) old
stale_by false e es x old rest = stale_later e es (installed es x).0 (rest old)

stale : (es : List Entry) (x : Lsa) → is_new (installed es x).1 ≡ false → IsStale es (installed es x).0
stale [] x old = absurd cc
stale (e ∷ es) x old = stale_by (same_key (key_of x) (key_of e.lsa)) e es x old (stale es x)

-- ---- LSAs that others cover bring nothing new

-- a list of LSAs, and the same with more
pub record AddsNothing (lsas more : List Lsa) : Type 0 where
  pub newest : newest_in more ≡ newest_in lsas
  pub settled : IsSettled more → IsSettled lsas

one_covered : (lsas : List Lsa) (x : Lsa) → list_any (covers x) lsas ≡ true → AddsNothing lsas (lsas ++ x ∷ [])
one_covered lsas x covered =
    let old : is_new (installed (entries_in lsas) x).1 ≡ false =
    ap (λ (es : List Entry). is_new (installed es x).1) (sym (all_of_list lsas)) ∙ new_where_uncovered lsas x
    ∙ ap not covered in
    let same = stale (entries_in lsas) x old in
    record {
      newest = ap (λ (es : List Entry). map (λ (e : Entry). e.lsa) es) (sym (entries_step lsas x)) ∙ same.lsas;
      settled = λ settled.
          no_conflict_settled lsas (same.settled (ap least_conflict (entries_step lsas x)
          ∙ settled_no_conflict (lsas ++ x ∷ []) settled));
    }

pub all_of_them_covered : (lsas more : List Lsa) → ((x : Lsa) → Has more x → list_any (covers x) lsas ≡ true)
    → AddsNothing lsas (lsas ++ more)
all_of_them_covered lsas [] covered =
    subst (AddsNothing lsas) (sym (append-nil lsas)) (record { newest = refl; settled = λ settled. settled })
all_of_them_covered lsas (x ∷ more) covered =
    let one = one_covered lsas x (covered x (inl refl)) in
    let rest = all_of_them_covered (lsas ++ x ∷ []) more
    (λ y has. any_more (covers y) lsas (x ∷ []) (covered y (inr has))) in
    let both : AddsNothing lsas ((lsas ++ x ∷ []) ++ more) = record {
      newest = rest.newest ∙ one.newest;
      settled = λ settled. one.settled (rest.settled settled);
    } in
    subst (AddsNothing lsas) (append_assoc lsas (x ∷ []) more) both

-- ---- lists that hold the same LSAs

hold_by : (lsas others : List Lsa)
    → ((x : Lsa) → Has (map without_place lsas) x → Has (map without_place others) x)
    → ((x : Lsa) → Has (map without_place others) x → Has (map without_place lsas) x) → HoldTheSame lsas others
hold_by lsas others there back lsa = (
  λ among. contains_from_has (map without_place others) lsa
      (there lsa (has_from_contains (map without_place lsas) lsa among)),
  λ among. contains_from_has (map without_place lsas) lsa
      (back lsa (has_from_contains (map without_place others) lsa among)),
)

numbered_of : (number : ℕ) (lsas file : List Lsa) → ((x : Lsa) → Has lsas x → Has file x) → (y : Lsa)
    → Has (map without_place (numbered number lsas)) y → Has (map without_place file) y
numbered_of number [] file of y has = absurd has
numbered_of number (x ∷ lsas) file of y (inl same) =
    subst (Has (map without_place file)) same (has_map without_place file x (of x (inl refl)))
numbered_of number (x ∷ lsas) file of y (inr later) =
    numbered_of (number + 1) lsas file (λ z has. of z (inr has)) y later

-- an LSA with an arrival number is one of the file, but for its place
pub numbered_has : (number : ℕ) (lsas file : List Lsa) → ((x : Lsa) → Has lsas x → Has file x) → (y : Lsa)
    → Has (numbered number lsas) y → Has (map without_place file) (without_place y)
numbered_has number lsas file of y has =
    numbered_of number lsas file of (without_place y) (has_map without_place (numbered number lsas) y has)

with_file : (lsas file : List Lsa)
    → ((y : Lsa) → Has (map without_place lsas) y → Has (map without_place file) y) → (y : Lsa)
    → Has (map without_place (lsas ++ file)) y → Has (map without_place file) y
with_file lsas file of y has =
    elim (has_either (map without_place lsas) (map without_place file) y
    (subst (λ (xs : List Lsa). Has xs y) (map-append without_place lsas file) has)) [
      | inl left ↦ of y left
      | inr right ↦ right
    ]

from_file : (lsas file : List Lsa) (y : Lsa) → Has (map without_place file) y
    → Has (map without_place (lsas ++ file)) y
from_file lsas file y has =
    subst (λ (xs : List Lsa). Has xs y) (sym (map-append without_place lsas file))
    (has_right (map without_place lsas) (map without_place file) y has)

pub kept_numbered : (number : ℕ) (lsas : List Lsa) → AllByRecursion IsKept lsas
    → AllByRecursion IsKept (numbered number lsas)
kept_numbered number [] kept = tt
kept_numbered number (x ∷ lsas) kept = (
  record { type = kept.0.type; body = kept.0.body; own_id = kept.0.own_id; metrics = kept.0.metrics },
  kept_numbered (number + 1) lsas kept.1,
)

-- what two routers got: LSAs of the file, which cover all of it
pub record IsCover (file lsas : List Lsa) : Type 0 where
  pub of_file : (x : Lsa) → Has lsas x → Has file x
  pub covers_file : (x : Lsa) → Has file x → list_any (covers x) lsas ≡ true

adds_nothing : (file lsas : List Lsa) → IsCover file lsas → AddsNothing (numbered 0 lsas) (numbered 0 lsas ++ file)
adds_nothing file lsas cover =
    all_of_them_covered (numbered 0 lsas) file
    (λ x has. covered_numbered x 0 lsas ∙ cover.covers_file x has)

same_as_file : (file lsas : List Lsa) → IsCover file lsas → HoldTheSame file (numbered 0 lsas ++ file)
same_as_file file lsas cover =
    hold_by file (numbered 0 lsas ++ file) (from_file (numbered 0 lsas) file)
    (with_file (numbered 0 lsas) file (numbered_of 0 lsas file cover.of_file))

whole_settled : (file lsas : List Lsa) → IsCover file lsas → IsSettled file → IsSettled (numbered 0 lsas ++ file)
whole_settled file lsas cover settled =
    settled_agree file (numbered 0 lsas ++ file)
    (same_agree file (numbered 0 lsas ++ file) (same_as_file file lsas cover)) settled

pub cover_settled : (file lsas : List Lsa) → IsCover file lsas → IsSettled file → IsSettled (numbered 0 lsas)
cover_settled file lsas cover settled =
    (adds_nothing file lsas cover).settled (whole_settled file lsas cover settled)

pub covers_agree : (file lsas others : List Lsa) → IsCover file lsas → IsCover file others → IsSettled file
    → AllByRecursion IsKept file → AllByRecursion IsKept lsas
    → AreNewestOfTheSame (newest_in (numbered 0 lsas)) (newest_in (numbered 0 others))
covers_agree file lsas others cover cover' settled kept kept' = record {
  lsas = numbered 0 lsas ++ file;
  others = numbered 0 others ++ file;
  kept = all_append IsKept (numbered 0 lsas) file (kept_numbered 0 lsas kept') kept;
  settled = whole_settled file lsas cover settled;
  same = hold_by (numbered 0 lsas ++ file) (numbered 0 others ++ file)
      (λ x has. from_file (numbered 0 others) file x
      (with_file (numbered 0 lsas) file (numbered_of 0 lsas file cover.of_file) x has))
      (λ x has. from_file (numbered 0 lsas) file x
      (with_file (numbered 0 others) file (numbered_of 0 others file cover'.of_file) x has));
  one_is = sym (adds_nothing file lsas cover).newest;
  other_is = sym (adds_nothing file others cover').newest;
}
