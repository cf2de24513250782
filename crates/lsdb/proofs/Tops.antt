-- The instances of the greatest rank in a list, one more instance at a time.
use Rattle.std.proofs.Common.{◌≡◌, ◌∙◌, ◌++◌, ◌||◌, Bool, true, false, not, cond, List, [], ◌∷◌, refl, sym, ap, subst}
use Rattle.std.specs.List.{filter, list_any}
use Rattle.std.specs.Ordering.{is_gt}
use Rattle.std.specs.declared.cmp.Ordering.{Ordering}
use Rattle.std.specs.declared.cmp.Ordering.TheVariants.{Less, Equal, Greater}
use Rattle.std.proofs.lemmas.List.{append-nil}
use Rattle.std.proofs.lemmas.List.Folds.{list_any-append}
use Rattle.std.proofs.lemmas.List.Elements.{filter-append, filter_agree}
use Rattle.std.proofs.lemmas.Bool.{or_parts, not-true}
use Rattle.ospf_lsa.specs.declared.lsa.Lsa.{Lsa}
use Rattle.lsdb.specs.Rank.{rank_cmp, outranks}
use Rattle.lsdb.proofs.Ranks.{flipped, none_outranks_itself, greater_is, greater_trans, above, same_above, same_below}

-- the instances that none in the list outranks
abbrev pub tops : List Lsa → List Lsa
tops lsas = filter (λ lsa. not (list_any (λ other. outranks other lsa) lsas)) lsas

-- whether none of the list, nor one more, outranks an instance
abbrev is_top_with : List Lsa → Lsa → Lsa → Bool
is_top_with lsas x lsa = not (list_any (λ other. outranks other lsa) lsas || (outranks x lsa || false))

-- the instances of the greatest rank, and one more, whose rank stands so to theirs
abbrev pub joined_by : Ordering → Lsa → List Lsa → Lsa → List Lsa
joined_by Greater m ms x = x ∷ []
joined_by Less m ms x = m ∷ ms
joined_by Equal m ms x = m ∷ (ms ++ x ∷ [])

abbrev pub joined : List Lsa → Lsa → List Lsa
joined [] x = x ∷ []
joined (m ∷ ms) x = joined_by (rank_cmp x m) m ms x

or_second : (a b : Bool) → b ≡ true → (a || b) ≡ true
or_second true b h = refl
or_second false b h = h

outranked : (a b : Bool) → b ≡ true → not (a || (b || false)) ≡ false
outranked true b h = refl
outranked false b h = ap (λ (x : Bool). not (x || false)) h

absorbed : (a b : Bool) → (b ≡ true → a ≡ true) → not (a || (b || false)) ≡ not a
absorbed true b h = refl
absorbed false true h = let other = h refl in absurd cc
absorbed false false h = refl

beaten : (lsas : List Lsa) (any : Lsa → Bool) (x m : Lsa) → rank_cmp x m ≡ Greater
    → list_any (λ other. outranks other m) lsas ≡ false
    → filter (λ lsa. not (any lsa || (outranks x lsa || false))) lsas ≡ []
beaten [] any x m is free = refl
beaten (l ∷ lsas) any x m is free =
    let parts = or_parts (outranks l m) _ free in
    ap (λ (b : Bool). cond b (l ∷ filter (λ lsa. not (any lsa || (outranks x lsa || false))) lsas)
    (filter (λ lsa. not (any lsa || (outranks x lsa || false))) lsas))
    (outranked (any l) (outranks x l) (ap is_gt (above x l m parts.0 is)))
    ∙ beaten lsas any x m is parts.1

pub unbeaten : (lsas : List Lsa) (x m : Lsa) → ((l : Lsa) → outranks l m ≡ false → outranks l x ≡ false)
    → list_any (λ other. outranks other m) lsas ≡ false
    → list_any (λ other. outranks other x) lsas ≡ false
unbeaten [] x m below free = refl
unbeaten (l ∷ lsas) x m below free =
    let parts = or_parts (outranks l m) _ free in
    ap (λ (b : Bool). b || list_any (λ other. outranks other x) lsas) (below l parts.0)
    ∙ unbeaten lsas x m below parts.1

-- the first that a filter lets through
pub record First (p : Lsa → Bool) (lsas : List Lsa) (m : Lsa) : Type 0 where
  pub passes : p m ≡ true
  pub among : (q : Lsa → Bool) → q m ≡ true → list_any q lsas ≡ true

mutual_first : (b : Bool) (p : Lsa → Bool) (l : Lsa) (lsas : List Lsa) (m : Lsa) (ms : List Lsa) → p l ≡ b
    → (filter p lsas ≡ m ∷ ms → First p lsas m)
    → cond b (l ∷ filter p lsas) (filter p lsas) ≡ m ∷ ms → First p (l ∷ lsas) m
mutual_first true p l lsas m ms is rest h =
    let same : l ≡ m = cc in
    record {
      passes = subst (λ (x : Lsa). p x ≡ true) same is;
      among = λ q yes. ap (λ (b : Bool). b || list_any q lsas) (ap q same ∙ yes);
    }
mutual_first false p l lsas m ms is rest h =
    let found = rest h in
    record { passes = found.passes; among = λ q yes. or_second (q l) (list_any q lsas) (found.among q yes) }

pub first_of_filter : (p : Lsa → Bool) (lsas : List Lsa) (m : Lsa) (ms : List Lsa) → filter p lsas ≡ m ∷ ms
    → First p lsas m
first_of_filter p [] m ms h = absurd cc
first_of_filter p (l ∷ lsas) m ms h = mutual_first (p l) p l lsas m ms refl (first_of_filter p lsas m ms) h

last_in : (lsas : List Lsa) (x : Lsa) → list_any (λ other. outranks other x) lsas ≡ false
    → filter (is_top_with lsas x) (x ∷ []) ≡ x ∷ []
last_in lsas x free =
    ap (λ (b : Bool). cond (not (b || (outranks x x || false))) (x ∷ []) []) free
    ∙ ap (λ (b : Bool). cond (not (b || false)) (x ∷ []) []) (none_outranks_itself x)

last_out : (lsas : List Lsa) (x : Lsa) → list_any (λ other. outranks other x) lsas ≡ true
    → filter (is_top_with lsas x) (x ∷ []) ≡ []
last_out lsas x taken = ap (λ (b : Bool). cond (not (b || (outranks x x || false))) (x ∷ []) []) taken

joins_by : (r : Ordering) (lsas : List Lsa) (x m : Lsa) (ms : List Lsa) → tops lsas ≡ m ∷ ms → rank_cmp x m ≡ r
    → filter (is_top_with lsas x) lsas ++ filter (is_top_with lsas x) (x ∷ []) ≡ joined_by r m ms x
joins_by Greater lsas x m ms are is =
    let first = first_of_filter (λ lsa. not (list_any (λ other. outranks other lsa) lsas)) lsas m ms are in
    let free = not-true _ first.passes in
    ap (λ (r : List Lsa). r ++ filter (is_top_with lsas x) (x ∷ []))
    (beaten lsas (λ lsa. list_any (λ other. outranks other lsa) lsas) x m is free)
    ∙ last_in lsas x (unbeaten lsas x m (λ l below. ap is_gt (flipped x l Greater (above x l m below is))) free)
joins_by Less lsas x m ms are is =
    let first = first_of_filter (λ lsa. not (list_any (λ other. outranks other lsa) lsas)) lsas m ms are in
    ap (λ (r : List Lsa). r ++ filter (is_top_with lsas x) (x ∷ []))
    (filter_agree (is_top_with lsas x) (λ lsa. not (list_any (λ other. outranks other lsa) lsas))
    (λ l. absorbed _ (outranks x l)
    (λ yes. first.among (λ other. outranks other l)
    (ap is_gt (greater_trans m x l (flipped x m Less is) (greater_is _ yes))))) lsas ∙ are)
    ∙ ap (λ (r : List Lsa). (m ∷ ms) ++ r)
    (last_out lsas x (first.among (λ other. outranks other x) (ap is_gt (flipped x m Less is))))
    ∙ append-nil (m ∷ ms)
joins_by Equal lsas x m ms are is =
    let first = first_of_filter (λ lsa. not (list_any (λ other. outranks other lsa) lsas)) lsas m ms are in
    let free = not-true _ first.passes in
    ap (λ (r : List Lsa). r ++ filter (is_top_with lsas x) (x ∷ []))
    (filter_agree (is_top_with lsas x) (λ lsa. not (list_any (λ other. outranks other lsa) lsas))
    (λ l. absorbed _ (outranks x l)
    (λ yes. first.among (λ other. outranks other l) (sym (same_above x m l is) ∙ yes))) lsas ∙ are)
    ∙ ap (λ (r : List Lsa). (m ∷ ms) ++ r)
    (last_in lsas x (unbeaten lsas x m (λ l below. same_below x m l is ∙ below) free))

joins : (lsas ts : List Lsa) (x : Lsa) → tops lsas ≡ ts → (ts ≡ [] → lsas ≡ [])
    → filter (is_top_with lsas x) lsas ++ filter (is_top_with lsas x) (x ∷ []) ≡ joined ts x
joins lsas [] x are some =
    subst (λ (ls : List Lsa). filter (is_top_with ls x) ls ++ filter (is_top_with ls x) (x ∷ []) ≡ x ∷ [])
    (sym (some refl)) (last_in [] x refl)
joins lsas (m ∷ ms) x are some = joins_by (rank_cmp x m) lsas x m ms are refl

pub tops_step : (lsas : List Lsa) (x : Lsa) → (tops lsas ≡ [] → lsas ≡ [])
    → tops (lsas ++ x ∷ []) ≡ joined (tops lsas) x
tops_step lsas x some =
    filter_agree (λ lsa. not (list_any (λ other. outranks other lsa) (lsas ++ x ∷ []))) (is_top_with lsas x)
    (λ l. ap not (list_any-append (λ other. outranks other l) lsas (x ∷ []))) (lsas ++ x ∷ [])
    ∙ filter-append (is_top_with lsas x) lsas (x ∷ []) ∙ joins lsas (tops lsas) x refl some
