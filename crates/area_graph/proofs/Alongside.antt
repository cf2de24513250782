-- Two lists whose elements are related place by place.
use Rattle.std.proofs.Common.{◌≡◌, ◌∙◌, ◌||◌, ◌++◌, ℕ, zero, suc, Bool, true, false, cond, List, [], ◌∷◌, Option, Some, None, length, map, slice_get, inl, inr, refl, sym, ap, subst, arith}
use Rattle.std.specs.declared.cmp.Ordering.{Ordering}
use Rattle.std.specs.Prelude.{nat_lt}
use Rattle.std.specs.List.{AllByRecursion, AllZip, IsDistinct, filter, find, list_any, position, position_or_len}
use Rattle.std.specs.Ordering.{is_lt}
use Rattle.std.proofs.lemmas.Bool.{cases_Bool}
use Rattle.std.proofs.lemmas.Option.{same_Some}
use Rattle.mrt_graph.specs.InOrder.{put_in_order, in_order}

module _ {A B : Type 0} (R : A → B → Type 0) where
  filter_by : (a : A) (b : B) (xs : List A) (ys : List B) (t u : Bool) → t ≡ u → R a b → AllZip R xs ys → AllZip R (cond t (a ∷ xs) xs) (cond u (b ∷ ys) ys)
  filter_by a b xs ys true true same here rest = (here, rest)
  filter_by a b xs ys true false same here rest = absurd cc
  filter_by a b xs ys false true same here rest = absurd cc
  filter_by a b xs ys false false same here rest = rest

  pub zip_filter : (p : A → Bool) (q : B → Bool) → ((a : A) (b : B) → R a b → p a ≡ q b) → (xs : List A) (ys : List B) → AllZip R xs ys
      → AllZip R (filter p xs) (filter q ys)
  zip_filter p q same [] [] zip = tt
  zip_filter p q same [] (y ∷ ys) zip = absurd zip
  zip_filter p q same (x ∷ xs) [] zip = absurd zip
  zip_filter p q same (x ∷ xs) (y ∷ ys) zip =
      filter_by x y (filter p xs) (filter q ys) (p x) (q y) (same x y zip.0) zip.0 (zip_filter p q same xs ys zip.1)

  pub zip_any : (p : A → Bool) (q : B → Bool) → ((a : A) (b : B) → R a b → p a ≡ q b) → (xs : List A) (ys : List B) → AllZip R xs ys
      → list_any p xs ≡ list_any q ys
  zip_any p q same [] [] zip = refl
  zip_any p q same [] (y ∷ ys) zip = absurd zip
  zip_any p q same (x ∷ xs) [] zip = absurd zip
  zip_any p q same (x ∷ xs) (y ∷ ys) zip =
      ap (λ (b : Bool). b || list_any p xs) (same x y zip.0) ∙ ap (λ (b : Bool). q y || b) (zip_any p q same xs ys zip.1)

  pub zip_map : {C : Type 0} (f : A → C) (g : B → C) → ((a : A) (b : B) → R a b → f a ≡ g b) → (xs : List A) (ys : List B) → AllZip R xs ys → map f xs ≡ map g ys
  zip_map f g same [] [] zip = refl
  zip_map f g same [] (y ∷ ys) zip = absurd zip
  zip_map f g same (x ∷ xs) [] zip = absurd zip
  zip_map {C = C} f g same (x ∷ xs) (y ∷ ys) zip =
      ap (λ (c : C). c ∷ map f xs) (same x y zip.0) ∙ ap (λ (cs : List C). g y ∷ cs) (zip_map f g same xs ys zip.1)

  pub zip_all : (P : A → Type 0) (Q : B → Type 0) → ((a : A) (b : B) → R a b → Q b → P a) → (xs : List A) (ys : List B) → AllZip R xs ys → AllByRecursion Q ys
      → AllByRecursion P xs
  zip_all P Q from [] [] zip all = tt
  zip_all P Q from [] (y ∷ ys) zip all = absurd zip
  zip_all P Q from (x ∷ xs) [] zip all = absurd zip
  zip_all P Q from (x ∷ xs) (y ∷ ys) zip all = (from x y zip.0 all.0, zip_all P Q from xs ys zip.1 all.1)

  pub zip_distinct : (e : A → A → Bool) (f : B → B → Bool) → ((a a' : A) (b b' : B) → R a b → R a' b' → e a a' ≡ f b b') → (xs : List A) (ys : List B) → AllZip R xs ys
      → IsDistinct f ys → IsDistinct e xs
  unfolding IsDistinct
  zip_distinct e f same [] [] zip apart = tt
  zip_distinct e f same [] (y ∷ ys) zip apart = absurd zip
  zip_distinct e f same (x ∷ xs) [] zip apart = absurd zip
  zip_distinct e f same (x ∷ xs) (y ∷ ys) zip apart = (
    zip_all (λ a. e x a ≡ false) (λ b. f y b ≡ false) (λ a b here no. same x a y b zip.0 here ∙ no) xs ys zip.1 apart.0,
    zip_distinct e f same xs ys zip.1 apart.1,
  )

  put_by : (a x : A) (b y : B) (xs put : List A) (ys put' : List B) (t u : Bool) → t ≡ u → R a b → R x y → AllZip R xs ys → AllZip R put put'
      → AllZip R (cond t (a ∷ x ∷ xs) (x ∷ put)) (cond u (b ∷ y ∷ ys) (y ∷ put'))
  put_by a x b y xs put ys put' true true same one here rest later = (one, (here, rest))
  put_by a x b y xs put ys put' true false same one here rest later = absurd cc
  put_by a x b y xs put ys put' false true same one here rest later = absurd cc
  put_by a x b y xs put ys put' false false same one here rest later = (here, later)

  module _ (cmp : A → A → Ordering) (cmp' : B → B → Ordering) (same : (a a' : A) (b b' : B) → R a b → R a' b' → cmp a a' ≡ cmp' b b') where
    zip_put : (a : A) (b : B) → R a b → (xs : List A) (ys : List B) → AllZip R xs ys → AllZip R (put_in_order cmp a xs) (put_in_order cmp' b ys)
    zip_put a b one [] [] zip = (one, tt)
    zip_put a b one [] (y ∷ ys) zip = absurd zip
    zip_put a b one (x ∷ xs) [] zip = absurd zip
    zip_put a b one (x ∷ xs) (y ∷ ys) zip =
        put_by a x b y xs (put_in_order cmp a xs) ys (put_in_order cmp' b ys) (is_lt (cmp a x)) (is_lt (cmp' b y)) (ap is_lt (same a x b y one zip.0)) one zip.0 zip.1
        (zip_put a b one xs ys zip.1)

    pub zip_in_order : (xs : List A) (ys : List B) → AllZip R xs ys → AllZip R (in_order cmp xs) (in_order cmp' ys)
    zip_in_order [] [] zip = tt
    zip_in_order [] (y ∷ ys) zip = absurd zip
    zip_in_order (x ∷ xs) [] zip = absurd zip
    zip_in_order (x ∷ xs) (y ∷ ys) zip = zip_put x y zip.0 (in_order cmp xs) (in_order cmp' ys) (zip_in_order xs ys zip.1)

  -- one more at the end of both
  pub zip_push : (xs : List A) (ys : List B) (a : A) (b : B) → AllZip R xs ys → R a b → AllZip R (xs ++ a ∷ []) (ys ++ b ∷ [])
  zip_push [] [] a b zip here = (here, tt)
  zip_push [] (y ∷ ys) a b zip here = absurd zip
  zip_push (x ∷ xs) [] a b zip here = absurd zip
  zip_push (x ∷ xs) (y ∷ ys) a b zip here = (zip.0, zip_push xs ys a b zip.1 here)

  pub length_zip : (xs : List A) (ys : List B) → AllZip R xs ys → length xs ≡ length ys
  length_zip [] [] zip = refl
  length_zip [] (y ∷ ys) zip = absurd zip
  length_zip (x ∷ xs) [] zip = absurd zip
  length_zip (x ∷ xs) (y ∷ ys) zip = omega (arith, length_zip xs ys zip.1)

  -- what stands at the same place of the second list
  pub record Beside (a : A) (ys : List B) (i : ℕ) : Type 0 where
    pub other : B
    pub there : slice_get ys i ≡ Some other
    pub related : R a other

  pub zip_at : (xs : List A) (ys : List B) (i : ℕ) (a : A) → AllZip R xs ys → slice_get xs i ≡ Some a → Beside a ys i
  zip_at [] ys i a zip there = absurd cc
  zip_at (x ∷ xs) [] i a zip there = absurd zip
  zip_at (x ∷ xs) (y ∷ ys) zero a zip there = record { other = y; there = refl; related = subst (λ (z : A). R z y) (same_Some x a there) zip.0 }
  zip_at (x ∷ xs) (y ∷ ys) (suc i) a zip there =
      let rest = zip_at xs ys i a zip.1 there in record { other = rest.other; there = rest.there; related = rest.related }

  -- lists one after the other
  pub zip_append : (xs xs' : List A) (ys ys' : List B) → AllZip R xs ys → AllZip R xs' ys' → AllZip R (xs ++ xs') (ys ++ ys')
  zip_append [] xs' [] ys' zip zip' = zip'
  zip_append [] xs' (y ∷ ys) ys' zip zip' = absurd zip
  zip_append (x ∷ xs) xs' [] ys' zip zip' = absurd zip
  zip_append (x ∷ xs) xs' (y ∷ ys) ys' zip zip' = (zip.0, zip_append xs xs' ys ys' zip.1 zip')

  -- both are there and related, or neither is
  abbrev pub AreBoth : Option A → Option B → Type 0
  AreBoth None None = Unit {0}
  AreBoth None (Some b) = ⊥
  AreBoth (Some a) None = ⊥
  AreBoth (Some a) (Some b) = R a b

  find_by : (p : A → Bool) (q : B → Bool) (a : A) (b : B) (xs : List A) (ys : List B) (t u : Bool) → t ≡ u → R a b → AreBoth (find p xs) (find q ys)
      → AreBoth (cond t (Some a) (find p xs)) (cond u (Some b) (find q ys))
  find_by p q a b xs ys true true same here rest = here
  find_by p q a b xs ys true false same here rest = absurd cc
  find_by p q a b xs ys false true same here rest = absurd cc
  find_by p q a b xs ys false false same here rest = rest

  pub zip_find : (p : A → Bool) (q : B → Bool) → ((a : A) (b : B) → R a b → p a ≡ q b) → (xs : List A) (ys : List B) → AllZip R xs ys
      → AreBoth (find p xs) (find q ys)
  zip_find p q same [] [] zip = tt
  zip_find p q same [] (y ∷ ys) zip = absurd zip
  zip_find p q same (x ∷ xs) [] zip = absurd zip
  zip_find p q same (x ∷ xs) (y ∷ ys) zip = find_by p q x y xs ys (p x) (q y) (same x y zip.0) zip.0 (zip_find p q same xs ys zip.1)

  pub zip_place : (p : A → Bool) (q : B → Bool) → ((a : A) (b : B) → R a b → p a ≡ q b) → (xs : List A) (ys : List B) → AllZip R xs ys
      → position_or_len p xs ≡ position_or_len q ys
  zip_place p q same [] [] zip = refl
  zip_place p q same [] (y ∷ ys) zip = absurd zip
  zip_place p q same (x ∷ xs) [] zip = absurd zip
  zip_place p q same (x ∷ xs) (y ∷ ys) zip = elim (cases_Bool (p x)) [
    | inl passes ↦ let also : q y ≡ true = sym (same x y zip.0) ∙ passes in rw (passes, also) refl
    | inr fails ↦
        let also : q y ≡ false = sym (same x y zip.0) ∙ fails in
        let rest = zip_place p q same xs ys zip.1 in
        rw (fails, also) (omega (arith, rest))
  ]

  pub zip_position : (p : A → Bool) (q : B → Bool) → ((a : A) (b : B) → R a b → p a ≡ q b) → (xs : List A) (ys : List B) → AllZip R xs ys
      → position p xs ≡ position q ys
  zip_position p q same xs ys zip =
      ap (λ (n : ℕ). cond (nat_lt n (length xs)) (Some n) None) (zip_place p q same xs ys zip)
      ∙ ap (λ (n : ℕ). cond (nat_lt (position_or_len q ys) n) (Some (position_or_len q ys)) None) (length_zip xs ys zip)
