-- Instances that differ in nothing but place and the seconds of their age.
use Rattle.std.proofs.Common.{◌≡◌, ◌∙◌, ◌%◌, ◌^◌, ℕ, ℤ, Bool, true, false, List, [], ◌∷◌, if◌then◌else◌, refl, sym, ap}
use Rattle.std.specs.Prelude.{nat_eq, nat_le}
use Rattle.std.specs.Cmp.Lexicographic.{pointwise}
use Rattle.std.specs.Ordering.{int_cmp, nat_cmp, bool_cmp, ordering_then, is_gt}
use Rattle.std.specs.declared.cmp.Ordering.{Ordering}
use Rattle.std.specs.declared.cmp.Ordering.TheVariants.{Less, Equal, Greater}
use Rattle.std.proofs.lemmas.Bool.Decides.{Decides-int_eq}
use Rattle.std.proofs.lemmas.Bool.{and_parts, eqb-true}
use Rattle.ospf_lsa.specs.Types.{max_age}
use Rattle.ospf_lsa.specs.declared.lsa.RouterLink.{RouterLink}
use Rattle.ospf_lsa.specs.declared.lsa.Body.{Body}
use Rattle.ospf_lsa.specs.declared.lsa.Body.TheVariants.{Router, Network, Other}
use Rattle.ospf_lsa.specs.declared.lsa.Lsa.{Lsa}
use Rattle.lsdb.specs.Newest.{same_link, same_body, same_but_age}
use Rattle.lsdb.specs.Orders.{timeless}
use Rattle.ospf_lsa.specs.MaxAge.{is_at_max_age}
use Rattle.lsdb.specs.Rank.{outranks, rank_cmp}
use Rattle.lsdb.proofs.Ranks.{flipped}

list_is : {A : Type 0} (test : A → A → Bool) → ((a b : A) → test a b ≡ true → a ≡ b) → (xs ys : List A)
    → pointwise test xs ys ≡ true → xs ≡ ys
list_is test is [] [] h = refl
list_is test is [] (y ∷ ys) h = absurd cc
list_is test is (x ∷ xs) [] h = absurd cc
list_is {A = A} test is (x ∷ xs) (y ∷ ys) h =
    let parts = and_parts (test x y) _ h in
    ap (λ (z : A). z ∷ xs) (is x y parts.0) ∙ ap (λ (zs : List A). y ∷ zs) (list_is test is xs ys parts.1)

link_is : (a b : RouterLink) → same_link a b ≡ true → a ≡ b
link_is a b h =
    let first = and_parts _ _ h in
    let second = and_parts _ _ first.1 in
    let third = and_parts _ _ second.1 in
    let fourth = and_parts _ _ third.1 in
    let make : ℕ → ℕ → ℕ → ℕ → ℕ
    → RouterLink = λ i d k e m. record { id = i; link_data = d; kind = k; entries = e; metric = m } in
    ap (λ (i : ℕ). make i a.link_data a.kind a.entries a.metric) (eqb-true _ _ first.0)
    ∙ ap (λ (d : ℕ). make b.id d a.kind a.entries a.metric) (eqb-true _ _ second.0)
    ∙ ap (λ (k : ℕ). make b.id b.link_data k a.entries a.metric) (eqb-true _ _ third.0)
    ∙ ap (λ (e : ℕ). make b.id b.link_data b.kind e a.metric) (eqb-true _ _ fourth.0)
    ∙ ap (λ (m : ℕ). make b.id b.link_data b.kind b.entries m) (eqb-true _ _ fourth.1)

body_is : (a b : Body) → same_body a b ≡ true → a ≡ b
body_is (Router f s l t) (Router f' s' l' t') h =
    let first = and_parts _ _ h in
    let second = and_parts _ _ first.1 in
    let third = and_parts _ _ second.1 in
    ap (λ (x : ℕ). Router x s l t) (eqb-true f f' first.0) ∙ ap (λ (x : ℕ). Router f' x l t) (eqb-true s s' second.0)
    ∙ ap (λ (x : List RouterLink). Router f' s' x t) (list_is same_link link_is l l' third.0)
    ∙ ap (λ (x : List ℕ). Router f' s' l' x) (list_is nat_eq eqb-true t t' third.1)
body_is (Router f s l t) (Network m r) h = absurd cc
body_is (Router f s l t) (Other b) h = absurd cc
body_is (Network m r) (Router f s l t) h = absurd cc
body_is (Network m r) (Network m' r') h =
    let first = and_parts _ _ h in
    ap (λ (x : ℕ). Network x r) (eqb-true m m' first.0)
    ∙ ap (λ (x : List ℕ). Network m' x) (list_is nat_eq eqb-true r r' first.1)
body_is (Network m r) (Other b) h = absurd cc
body_is (Other b) (Router f s l t) h = absurd cc
body_is (Other b) (Network m r) h = absurd cc
body_is (Other b) (Other b') h = ap (λ (x : List ℕ). Other x) (list_is nat_eq eqb-true b b' h)

-- instances that differ in nothing but place and age are one, with one place and one age
same_parts : (a b : Lsa) (at age : ℕ) → same_but_age a b ≡ true
    → record a { at = at; age = age } ≡ record b { at = at; age = age }
same_parts a b at age same =
    let to_body = and_parts _ _ same in
    let to_checksum = and_parts _ _ to_body.0 in
    let to_sequence = and_parts _ _ to_checksum.0 in
    let to_router = and_parts _ _ to_sequence.0 in
    let to_id = and_parts _ _ to_router.0 in
    let to_kind = and_parts _ _ to_id.0 in
    let make : ℕ → ℕ → ℕ → ℕ → ℤ → ℕ → Body → Lsa =
    λ o k i r s c y. record
    { at = at; age = age; options = o; kind = k; id = i; router = r; sequence = s; checksum = c; body = y } in
    ap (λ (o : ℕ). make o a.kind a.id a.router a.sequence a.checksum a.body) (eqb-true _ _ to_kind.0)
    ∙ ap (λ (k : ℕ). make b.options k a.id a.router a.sequence a.checksum a.body) (eqb-true _ _ to_kind.1)
    ∙ ap (λ (i : ℕ). make b.options b.kind i a.router a.sequence a.checksum a.body) (eqb-true _ _ to_id.1)
    ∙ ap (λ (r : ℕ). make b.options b.kind b.id r a.sequence a.checksum a.body) (eqb-true _ _ to_router.1)
    ∙ ap (λ (s : ℤ). make b.options b.kind b.id b.router s a.checksum a.body)
    ((Decides-int_eq a.sequence b.sequence).0 to_sequence.1)
    ∙ ap (λ (c : ℕ). make b.options b.kind b.id b.router b.sequence c a.body) (eqb-true _ _ to_checksum.1)
    ∙ ap (λ (y : Body). make b.options b.kind b.id b.router b.sequence b.checksum y) (body_is _ _ to_body.1)

-- with the same place and the same age they are one
pub lsa_is : (a b : Lsa) → same_but_age a b ≡ true → a.age ≡ b.age → a.at ≡ b.at → a ≡ b
lsa_is a b same age at =
    same_parts a b a.at a.age same ∙ ap (λ (n : ℕ). record b { at = n; age = a.age }) at
    ∙ ap (λ (n : ℕ). record b { at = b.at; age = n }) age

-- both or neither at MaxAge, they differ in nothing but place and the seconds of their age
pub timeless_is : (a b : Lsa) → same_but_age a b ≡ true → is_at_max_age a ≡ is_at_max_age b → timeless a ≡ timeless b
timeless_is a b same aged =
    same_parts a b 0 (if is_at_max_age a then max_age else 0) same
    ∙ ap (λ (g : Bool). record b { at = 0; age = if g then max_age else 0 }) aged

age_by : (b : Bool) → nat_le 3600 ((if b then 3600 else 0) % 2 ^ 15) ≡ b
age_by true = refl
age_by false = refl

-- so both are at MaxAge, or neither is
pub same_age : (x y : Lsa) → timeless x ≡ timeless y → is_at_max_age x ≡ is_at_max_age y
same_age x y same = sym (age_by (is_at_max_age x)) ∙ ap is_at_max_age same ∙ age_by (is_at_max_age y)

aged_from : (sequence checksum : Ordering) (a b : Bool)
    → ordering_then (ordering_then sequence checksum) (bool_cmp a b) ≡ Equal → a ≡ b
aged_from Less checksum a b h = absurd cc
aged_from Greater checksum a b h = absurd cc
aged_from Equal Less a b h = absurd cc
aged_from Equal Greater a b h = absurd cc
aged_from Equal Equal true true h = refl
aged_from Equal Equal false false h = refl
aged_from Equal Equal true false h = absurd cc
aged_from Equal Equal false true h = absurd cc

-- of one rank both are at MaxAge or neither
pub aged_alike : (a b : Lsa) → rank_cmp a b ≡ Equal → is_at_max_age a ≡ is_at_max_age b
aged_alike a b h = aged_from (int_cmp a.sequence b.sequence) (nat_cmp a.checksum b.checksum) (is_at_max_age a)
    (is_at_max_age b) h

equal_by : (r : Ordering) (a b : Lsa) → rank_cmp a b ≡ r → outranks a b ≡ false → outranks b a ≡ false
    → rank_cmp a b ≡ Equal
equal_by Less a b is ab ba = let back = flipped a b Less is in
    let told : is_gt (rank_cmp b a) ≡ true = ap is_gt back in absurd cc
equal_by Equal a b is ab ba = is
equal_by Greater a b is ab ba = let told : is_gt (rank_cmp a b) ≡ true = ap is_gt is in absurd cc

-- where neither outranks the other they are of one rank
pub equal_rank : (a b : Lsa) → outranks a b ≡ false → outranks b a ≡ false → rank_cmp a b ≡ Equal
equal_rank a b ab ba = equal_by (rank_cmp a b) a b refl ab ba
