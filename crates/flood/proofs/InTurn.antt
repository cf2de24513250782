-- LSAs that are installed one after another.
use Rattle.std.proofs.Common.{◌≡◌, ◌∙◌, ◌<◌, ◌≤◌, ◌+◌, ◌^◌, ◌++◌, Bool, true, false, cond, List, [], ◌∷◌, length, refl, sym, ap, subst, append_assoc, arith}
use Rattle.std.specs.List.{AllByRecursion}
use Rattle.std.proofs.lemmas.List.{append-nil}
use Rattle.ospf_lsa.specs.declared.lsa.Lsa.{Lsa}
use Rattle.lsdb.specs.Installing.{IsBehind, IsKept}
use Rattle.flood.specs.Routers.{Router}
use Rattle.ospf_lsa.specs.AreaLsas.{is_area_lsa}
use Rattle.flood.specs.Receiving.{after_all, after_one, is_news, news, topology}

-- ---- lists of LSAs of types 1 and 2

pub after_append : (router : Router) (xs ys : List Lsa) → after_all router (xs ++ ys) ≡ after_all (after_all router xs) ys
after_append router [] ys = refl
after_append router (x ∷ xs) ys = after_append (after_one router x) xs ys

news_by : (b : Bool) (x : Lsa) (rest more : List Lsa)
    → cond b (x ∷ (rest ++ more)) (rest ++ more) ≡ cond b (x ∷ rest) rest ++ more
news_by true x rest more = refl
news_by false x rest more = refl

pub news_append : (router : Router) (xs ys : List Lsa)
    → news router (xs ++ ys) ≡ news router xs ++ news (after_all router xs) ys
news_append router [] ys = refl
news_append router (x ∷ xs) ys =
    ap (λ (rest : List Lsa). cond (is_news router x) (x ∷ rest) rest) (news_append (after_one router x) xs ys)
    ∙ news_by (is_news router x) x (news (after_one router x) xs) (news (after_all (after_one router x) xs) ys)

pub first_by : (b : Bool) (x : Lsa) (rest : List Lsa) → cond b (x ∷ rest) rest ≡ cond b (x ∷ []) [] ++ rest
first_by true x rest = refl
first_by false x rest = refl

-- the first of LSAs, and those after it
pub topology_first : (x : Lsa) (xs : List Lsa) → topology (x ∷ xs) ≡ topology (x ∷ []) ++ topology xs
topology_first x xs = first_by (is_area_lsa x) x (topology xs)

-- ---- in turn

-- from a router as it was first and all LSAs, the router as it is now, those that were new and those that are left
pub record AreInTurn (first : Router) (all : List Lsa) (now : Router) (new left : List Lsa) : Type 0 where
  pub news_so_far : new ++ news now (topology left) ≡ news first (topology all)
  pub after_so_far : after_all now (topology left) ≡ after_all first (topology all)
  pub kept : AllByRecursion IsKept (topology left)
  pub behind : IsBehind now.database.greatest now.arrivals
  pub room : now.arrivals + length left < 2 ^ 32

behind_by : (b : Bool) (now : Router) (x : Lsa) → IsBehind now.database.greatest now.arrivals
    → IsBehind (after_all now (cond b (x ∷ []) [])).database.greatest (after_all now (cond b (x ∷ []) [])).arrivals
behind_by true now x behind = omega arith
behind_by false now x behind = behind

room_by : (b : Bool) (now : Router) (x : Lsa) → (after_all now (cond b (x ∷ []) [])).arrivals ≤ now.arrivals + 1
room_by true now x = omega arith
room_by false now x = omega arith

first_kept_by : (b : Bool) (x : Lsa) (rest : List Lsa) → AllByRecursion IsKept (cond b (x ∷ rest) rest)
    → AllByRecursion IsKept (cond b (x ∷ []) [])
first_kept_by true x rest kept = (kept.0, tt)
first_kept_by false x rest kept = tt

rest_kept_by : (b : Bool) (x : Lsa) (rest : List Lsa) → AllByRecursion IsKept (cond b (x ∷ rest) rest)
    → AllByRecursion IsKept rest
rest_kept_by true x rest kept = kept.1
rest_kept_by false x rest kept = kept

pub first_kept : (x : Lsa) (xs : List Lsa) → AllByRecursion IsKept (topology (x ∷ xs))
    → AllByRecursion IsKept (topology (x ∷ []))
first_kept x xs = first_kept_by (is_area_lsa x) x (topology xs)

pub one_more : (first now now' : Router) (all new new' left left' : List Lsa) (x : Lsa) → left ≡ x ∷ left'
    → AreInTurn first all now new left
    → now' ≡ after_all now (topology (x ∷ [])) → new' ≡ new ++ news now (topology (x ∷ []))
    → AreInTurn first all now' new' left'
one_more first now now' all new new' left left' x is turn after grown =
    let so_far : AreInTurn first all now new (x ∷ left') = subst (AreInTurn first all now new) is turn in
    subst (λ (r : Router). AreInTurn first all r new' left') (sym after)
    (subst (λ (ls : List Lsa). AreInTurn first all (after_all now (topology (x ∷ []))) ls left') (sym grown)
    (record {
      news_so_far = append_assoc new (news now (topology (x ∷ []))) (news (after_all now (topology (x ∷ []))) (topology left'))
          ∙ ap (λ (ls : List Lsa). new ++ ls)
          (sym (news_append now (topology (x ∷ [])) (topology left')) ∙ ap (news now) (sym (topology_first x left')))
          ∙ so_far.news_so_far;
      after_so_far = sym (after_append now (topology (x ∷ [])) (topology left'))
          ∙ ap (after_all now) (sym (topology_first x left')) ∙ so_far.after_so_far;
      kept = rest_kept_by (is_area_lsa x) x (topology left') so_far.kept;
      behind = behind_by (is_area_lsa x) now x so_far.behind;
      room = omega (arith, so_far.room, room_by (is_area_lsa x) now x);
    }))

-- ---- one LSA

not_topology : (x : Lsa) → is_area_lsa x ≡ false → topology (x ∷ []) ≡ []
not_topology x is = ap (λ (b : Bool). cond b (x ∷ []) []) is

is_one : (x : Lsa) → is_area_lsa x ≡ true → topology (x ∷ []) ≡ x ∷ []
is_one x is = ap (λ (b : Bool). cond b (x ∷ []) []) is

pub passed_over : (now : Router) (new : List Lsa) (x : Lsa) → is_area_lsa x ≡ false
    → (new ≡ new ++ news now (topology (x ∷ []))) × (now ≡ after_all now (topology (x ∷ [])))
passed_over now new x is = (
  sym (append-nil new) ∙ ap (λ (xs : List Lsa). new ++ news now xs) (sym (not_topology x is)),
  ap (after_all now) (sym (not_topology x is)),
)

pub arrived_one : (now : Router) (x : Lsa) → is_area_lsa x ≡ true → after_one now x ≡ after_all now (topology (x ∷ []))
arrived_one now x is = ap (after_all now) (sym (is_one x is))

pub no_news : (now : Router) (new : List Lsa) (x : Lsa) → is_area_lsa x ≡ true → is_news now x ≡ false
    → new ≡ new ++ news now (topology (x ∷ []))
no_news now new x is old =
    sym (append-nil new) ∙ ap (λ (b : Bool). new ++ cond b (x ∷ []) []) (sym old)
    ∙ ap (λ (xs : List Lsa). new ++ news now xs) (sym (is_one x is))

pub some_news : (now : Router) (new : List Lsa) (x : Lsa) → is_area_lsa x ≡ true → is_news now x ≡ true
    → new ++ x ∷ [] ≡ new ++ news now (topology (x ∷ []))
some_news now new x is fresh =
    ap (λ (b : Bool). new ++ cond b (x ∷ []) []) (sym fresh)
    ∙ ap (λ (xs : List Lsa). new ++ news now xs) (sym (is_one x is))

pub kept_one : (x : Lsa) → is_area_lsa x ≡ true → AllByRecursion IsKept (topology (x ∷ [])) → IsKept x
kept_one x is kept =
    let one : AllByRecursion IsKept (x ∷ []) = subst (AllByRecursion IsKept) (is_one x is) kept in one.0
