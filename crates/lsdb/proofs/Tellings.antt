-- What an install tells of a list of LSAs.
use Rattle.std.proofs.Common.{◌≡◌, ◌∙◌, ◌↔◌, ◌||◌, ◌&&◌, Bool, true, false, not, List, [], ◌∷◌, Some, None, slice_get, refl, sym, ap}
use Rattle.std.specs.List.{list_all, list_any, cons_option}
use Rattle.std.specs.Ordering.{is_gt}
use Rattle.std.specs.declared.cmp.Ordering.{Ordering}
use Rattle.std.specs.declared.cmp.Ordering.TheVariants.{Less, Equal, Greater}
use Rattle.std.proofs.lemmas.Option.{same_Some}
use Rattle.std.proofs.lemmas.Bool.{or_parts, and_from, not-true}
use Rattle.ospf_lsa.specs.declared.lsa.Lsa.{Lsa}
use Rattle.lsdb.specs.declared.change.Change.{Change}
use Rattle.lsdb.specs.declared.change.Change.TheVariants.{Added, Replaced, Older, Same, Clash}
use Rattle.lsdb.specs.declared.key.Key.{Key}
use Rattle.lsdb.specs.Changes.{instances_of, HasRankOfFirst, IsOfNewKey, IsOutranked, OutranksAll}
use Rattle.lsdb.specs.Entries.{Entry, entry_of, entries_in}
use Rattle.lsdb.specs.Installing.{change_by, change_of, installed}
use Rattle.lsdb.specs.Installs.{all_installed}
use Rattle.lsdb.specs.Keys.{key_of, same_key, is_of, keys_in}
use Rattle.lsdb.specs.Newest.{newest_of, same_but_age}
use Rattle.lsdb.specs.Orders.{first_newest}
use Rattle.lsdb.specs.Rank.{outranks, rank_cmp}
use Rattle.lsdb.proofs.Arrivals.{any_key, HaveInstances, have_instances}
use Rattle.lsdb.proofs.Lists.{all_of_list, any_entries, entries_at, Newest, newest_is_tops, newest_there, pass_none}
use Rattle.lsdb.proofs.Ranks.{above, flipped, greater_is, same_below}
use Rattle.lsdb.proofs.Stores.{chosen, installed_new, key_is, unchosen}
use Rattle.lsdb.proofs.Tops.{First, first_of_filter, tops, unbeaten}

-- what an install tells where the key's first newest instance is known
same_first : (lsas : List Lsa) (x m : Lsa) (ms : List Lsa) (key : Key) → (newest : Newest lsas key)
    → newest_of lsas (key_of x) ≡ m ∷ ms → key ≡ key_of x
    → newest.first ≡ m
same_first lsas x m ms key newest are is =
    let lists : newest.first ∷ newest.rest ≡ m ∷ ms = sym newest.are ∙ ap (newest_of lsas) is ∙ are in cc

told_by : (b : Bool) (lsas : List Lsa) (keys : List Key) (x m : Lsa) (ms : List Lsa) (key : Key)
    → same_key (key_of x) key ≡ b
    → newest_of lsas (key_of x) ≡ m ∷ ms → Newest lsas key → (b || list_any (same_key (key_of x)) keys) ≡ true
    → (list_any (same_key (key_of x)) keys ≡ true → (installed (entries_at lsas keys) x).1 ≡ change_of m x)
    → (installed (entries_at lsas (key ∷ keys)) x).1 ≡ change_of m x
told_by true lsas keys x m ms key is are newest there rest =
    ap (λ (ts : List Lsa). (installed (cons_option (entry_of ts) (entries_at lsas keys)) x).1) newest.are
    ∙ ap (λ (r : List Entry × Change). r.1)
    (chosen (same_key (key_of x) (key_of newest.first)) _ _ (ap (same_key (key_of x)) newest.of_key ∙ is))
    ∙ ap (λ (l : Lsa). change_of l x) (same_first lsas x m ms key newest are (key_is (key_of x) key is))
told_by false lsas keys x m ms key is are newest there rest =
    ap (λ (ts : List Lsa). (installed (cons_option (entry_of ts) (entries_at lsas keys)) x).1) newest.are
    ∙ ap (λ (r : List Entry × Change). r.1)
    (unchosen (same_key (key_of x) (key_of newest.first)) _ _ (ap (same_key (key_of x)) newest.of_key ∙ is))
    ∙ rest there

told_there : (lsas : List Lsa) (keys : List Key) (x m : Lsa) (ms : List Lsa) → newest_of lsas (key_of x) ≡ m ∷ ms
    → HaveInstances lsas keys
    → list_any (same_key (key_of x)) keys ≡ true → (installed (entries_at lsas keys) x).1 ≡ change_of m x
told_there lsas [] x m ms are have there = absurd cc
told_there lsas (key ∷ keys) x m ms are have there =
    told_by (same_key (key_of x) key) lsas keys x m ms key refl are (newest_there lsas key have.0) there
    (told_there lsas keys x m ms are have.1)

-- what installing an LSA after a list tells
abbrev pub told : List Lsa → Lsa → Change
told lsas x = (installed (all_installed [] lsas) x).1

-- there is no instance of the key, or a first newest one
pub record Told (lsas : List Lsa) (x : Lsa) : Type 0 where
  pub first : Lsa
  pub rest : List Lsa
  pub newest : newest_of lsas (key_of x) ≡ first ∷ rest
  pub is : told lsas x ≡ change_by (rank_cmp x first) (same_but_age first x)
  pub key : key_of first ≡ key_of x

with_instance : (lsas : List Lsa) (x : Lsa) → list_any (is_of (key_of x)) lsas ≡ true → Told lsas x
with_instance lsas x there =
    let newest = newest_there lsas (key_of x) there in
    record {
      first = newest.first;
      rest = newest.rest;
      newest = newest.are;
      is = ap (λ (es : List Entry). (installed es x).1) (all_of_list lsas)
          ∙ told_there lsas (keys_in lsas) x newest.first newest.rest newest.are (have_instances lsas)
          (any_key (key_of x) lsas ∙ there);
      key = newest.of_key;
    }

without_instance : (lsas : List Lsa) (x : Lsa) → list_any (is_of (key_of x)) lsas ≡ false → told lsas x ≡ Added
without_instance lsas x none =
    ap (λ (es : List Entry). (installed es x).1) (all_of_list lsas)
    ∙ ap (λ (r : List Entry × Change). r.1)
    (installed_new (entries_in lsas) x (any_entries (keys_in lsas) lsas (key_of x) (have_instances lsas)
    ∙ any_key (key_of x) lsas ∙ none))

never_added : (r : Ordering) (alike : Bool) → change_by r alike ≡ Added → ⊥
never_added Less alike h = cc
never_added Greater alike h = cc
never_added Equal true h = cc
never_added Equal false h = cc

-- Added
new_by : (b : Bool) (lsas : List Lsa) (x : Lsa) → list_any (is_of (key_of x)) lsas ≡ b → told lsas x ≡ Added → b ≡ false
new_by true lsas x is h = let t = with_instance lsas x is in absurd (never_added _ _ (sym t.is ∙ h))
new_by false lsas x is h = refl

pub added : (lsas : List Lsa) (x : Lsa) → (told lsas x ≡ Added) ↔ IsOfNewKey lsas x
added lsas x = (new_by (list_any (is_of (key_of x)) lsas) lsas x refl, without_instance lsas x)

-- another answer than Added has an instance of the key
some_by : (b : Bool) (lsas : List Lsa) (x : Lsa) → list_any (is_of (key_of x)) lsas ≡ b → (told lsas x ≡ Added → ⊥)
    → list_any (is_of (key_of x)) lsas ≡ true
some_by true lsas x is h = is
some_by false lsas x is h = absurd (h (without_instance lsas x is))

some : (lsas : List Lsa) (x : Lsa) → (told lsas x ≡ Added → ⊥) → list_any (is_of (key_of x)) lsas ≡ true
some lsas x h = some_by (list_any (is_of (key_of x)) lsas) lsas x refl h

-- the first newest instance among the instances of its key
first_of_instances : (lsas : List Lsa) (x : Lsa) → (t : Told lsas x)
    → First (λ lsa. not (list_any (λ other. outranks other lsa) (instances_of lsas x))) (instances_of lsas x) t.first
first_of_instances lsas x t =
    first_of_filter (λ lsa. not (list_any (λ other. outranks other lsa) (instances_of lsas x)))
    (instances_of lsas x) t.first t.rest
    (sym (newest_is_tops lsas (key_of x)) ∙ t.newest)

unbeaten_first : (lsas : List Lsa) (x : Lsa) → (t : Told lsas x)
    → list_any (λ other. outranks other t.first) (instances_of lsas x) ≡ false
unbeaten_first lsas x t = let first = first_of_instances lsas x t in not-true _ first.passes

all_above : (ls : List Lsa) (x m : Lsa) → rank_cmp x m ≡ Greater → list_any (λ other. outranks other m) ls ≡ false
    → list_all (outranks x) ls ≡ true
all_above [] x m is free = refl
all_above (l ∷ ls) x m is free =
    let parts = or_parts (outranks l m) _ free in
    and_from _ _ (ap is_gt (above x l m parts.0 is)) (all_above ls x m is parts.1)

none_fails_by : (b : Bool) (rest any : Bool) → (rest ≡ true → any ≡ false) → (b && rest) ≡ true → (not b || any) ≡ false
none_fails_by true rest any h all = h all
none_fails_by false rest any h all = absurd cc

none_fails : (test : Lsa → Bool) (ls : List Lsa) → list_all test ls ≡ true → list_any (λ l. not (test l)) ls ≡ false
none_fails test [] all = refl
none_fails test (l ∷ ls) all = none_fails_by (test l) _ _ (none_fails test ls) all

first_passes_by : (b : Bool) (keep test : Lsa → Bool) (ls : List Lsa) (m : Lsa) → test m ≡ b → First keep ls m
    → list_all test ls ≡ true → test m ≡ true
first_passes_by true keep test ls m is first all = is
first_passes_by false keep test ls m is first all =
    let fails = first.among (λ l. not (test l)) (ap not is) in
    let none = none_fails test ls all in absurd cc

first_outranked : (lsas : List Lsa) (x : Lsa) → (t : Told lsas x)
    → list_all (outranks x) (instances_of lsas x) ≡ true → outranks x t.first ≡ true
first_outranked lsas x t all =
    first_passes_by _ (λ lsa. not (list_any (λ other. outranks other lsa) (instances_of lsas x))) (outranks x)
    (instances_of lsas x) t.first refl
    (first_of_instances lsas x t) all

-- the rank after each answer
is_replaced : (r : Ordering) (alike : Bool) → change_by r alike ≡ Replaced → r ≡ Greater
is_replaced Less alike h = absurd cc
is_replaced Greater alike h = refl
is_replaced Equal true h = absurd cc
is_replaced Equal false h = absurd cc

is_older : (r : Ordering) (alike : Bool) → change_by r alike ≡ Older → r ≡ Less
is_older Less alike h = refl
is_older Greater alike h = absurd cc
is_older Equal true h = absurd cc
is_older Equal false h = absurd cc

is_same : (r : Ordering) (alike : Bool) → change_by r alike ≡ Same → (r ≡ Equal) × (alike ≡ true)
is_same Less alike h = absurd cc
is_same Greater alike h = absurd cc
is_same Equal true h = (refl, refl)
is_same Equal false h = absurd cc

is_clash : (r : Ordering) (alike : Bool) → change_by r alike ≡ Clash → (r ≡ Equal) × (alike ≡ false)
is_clash Less alike h = absurd cc
is_clash Greater alike h = absurd cc
is_clash Equal true h = absurd cc
is_clash Equal false h = (refl, refl)

by_rank : (lsas : List Lsa) (x : Lsa) (r : Ordering) → (t : Told lsas x) → rank_cmp x t.first ≡ r
    → told lsas x ≡ change_by r (same_but_age t.first x)
by_rank lsas x r t is = t.is ∙ ap (λ (o : Ordering). change_by o (same_but_age t.first x)) is

-- Replaced
newer_from : (lsas : List Lsa) (x : Lsa) → told lsas x ≡ Replaced → OutranksAll lsas x
newer_from lsas x h =
    let there = some lsas x (λ added. let two : Added ≡ Replaced = sym added ∙ h in cc) in
    let t = with_instance lsas x there in
    (there, all_above (instances_of lsas x) x t.first (is_replaced _ _ (sym t.is ∙ h)) (unbeaten_first lsas x t))

newer_to : (lsas : List Lsa) (x : Lsa) → OutranksAll lsas x → told lsas x ≡ Replaced
newer_to lsas x newer =
    let t = with_instance lsas x newer.0 in by_rank lsas x Greater t (greater_is _ (first_outranked lsas x t newer.1))

pub replaced : (lsas : List Lsa) (x : Lsa) → (told lsas x ≡ Replaced) ↔ OutranksAll lsas x
replaced lsas x = (newer_from lsas x, newer_to lsas x)

-- Older
older_from : (lsas : List Lsa) (x : Lsa) → told lsas x ≡ Older → IsOutranked lsas x
older_from lsas x h =
    let t = with_instance lsas x (some lsas x (λ added. let two : Added ≡ Older = sym added ∙ h in cc)) in
    (first_of_instances lsas x t).among (λ other. outranks other x)
    (ap is_gt (flipped x t.first Less (is_older _ _ (sym t.is ∙ h))))

instance_by : (b : Bool) (lsas : List Lsa) (x : Lsa) (test : Lsa → Bool) → list_any (is_of (key_of x)) lsas ≡ b
    → list_any test (instances_of lsas x) ≡ true
    → list_any (is_of (key_of x)) lsas ≡ true
instance_by true lsas x test is h = is
instance_by false lsas x test is h = let none = ap (list_any test) (pass_none (is_of (key_of x)) lsas is) in absurd cc

older_by : (r : Ordering) (lsas : List Lsa) (x : Lsa) → (t : Told lsas x) → rank_cmp x t.first ≡ r
    → IsOutranked lsas x → told lsas x ≡ Older
older_by Less lsas x t is older = by_rank lsas x Less t is
older_by Greater lsas x t is older =
    let none = unbeaten (instances_of lsas x) x t.first
    (λ l below. ap is_gt (flipped x l Greater (above x l t.first below is))) (unbeaten_first lsas x t) in absurd cc
older_by Equal lsas x t is older =
    let none = unbeaten (instances_of lsas x) x t.first (λ l below. same_below x t.first l is ∙ below)
    (unbeaten_first lsas x t) in absurd cc

older_to : (lsas : List Lsa) (x : Lsa) → IsOutranked lsas x → told lsas x ≡ Older
older_to lsas x older =
    let t = with_instance lsas x
    (instance_by (list_any (is_of (key_of x)) lsas) lsas x (λ other. outranks other x) refl older) in
    older_by (rank_cmp x t.first) lsas x t refl older

pub older : (lsas : List Lsa) (x : Lsa) → (told lsas x ≡ Older) ↔ IsOutranked lsas x
older lsas x = (older_from lsas x, older_to lsas x)

-- Same and Clash
ranked_from : (lsas : List Lsa) (x : Lsa) (alike : Bool) → (t : Told lsas x)
    → (rank_cmp x t.first ≡ Equal) × (same_but_age t.first x ≡ alike) → HasRankOfFirst lsas x alike
ranked_from lsas x alike t is =
    record { first = t.first; is_first = ap (λ (ts : List Lsa). slice_get ts 0) t.newest; rank = is.0; compared = is.1 }

first_there_by : (b : Bool) (lsas : List Lsa) (x m : Lsa) → list_any (is_of (key_of x)) lsas ≡ b
    → first_newest lsas (key_of x) ≡ Some m → list_any (is_of (key_of x)) lsas ≡ true
first_there_by true lsas x m is h = is
first_there_by false lsas x m is h =
    let none : first_newest lsas (key_of x) ≡ None =
    ap (λ (ts : List Lsa). slice_get ts 0)
    (newest_is_tops lsas (key_of x) ∙ ap tops (pass_none (is_of (key_of x)) lsas is)) in absurd cc

ranked_to : (lsas : List Lsa) (x : Lsa) (alike : Bool) → HasRankOfFirst lsas x alike
    → told lsas x ≡ change_by Equal alike
ranked_to lsas x alike ranked =
    let t = with_instance lsas x
    (first_there_by (list_any (is_of (key_of x)) lsas) lsas x ranked.first refl ranked.is_first) in
    let same : t.first ≡ ranked.first =
    same_Some t.first ranked.first (sym (ap (λ (ts : List Lsa). slice_get ts 0) t.newest) ∙ ranked.is_first) in
    by_rank lsas x Equal t (ap (rank_cmp x) same ∙ ranked.rank)
    ∙ ap (change_by Equal) (ap (λ (l : Lsa). same_but_age l x) same ∙ ranked.compared)

same_from : (lsas : List Lsa) (x : Lsa) → told lsas x ≡ Same → HasRankOfFirst lsas x true
same_from lsas x h =
    let t = with_instance lsas x (some lsas x (λ added. let two : Added ≡ Same = sym added ∙ h in cc)) in
    ranked_from lsas x true t (is_same _ _ (sym t.is ∙ h))

clash_from : (lsas : List Lsa) (x : Lsa) → told lsas x ≡ Clash → HasRankOfFirst lsas x false
clash_from lsas x h =
    let t = with_instance lsas x (some lsas x (λ added. let two : Added ≡ Clash = sym added ∙ h in cc)) in
    ranked_from lsas x false t (is_clash _ _ (sym t.is ∙ h))

pub same : (lsas : List Lsa) (x : Lsa) → (told lsas x ≡ Same) ↔ HasRankOfFirst lsas x true
same lsas x = (same_from lsas x, ranked_to lsas x true)

pub clash : (lsas : List Lsa) (x : Lsa) → (told lsas x ≡ Clash) ↔ HasRankOfFirst lsas x false
clash lsas x = (clash_from lsas x, ranked_to lsas x false)
