-- What the tests of a certificate's words tell.
use Rattle.std.proofs.Common.{◌≡◌, ◌≢◌, ◌∙◌, ◌==◌, ◌&&◌, ◌||◌, ◌<◌, ℕ, Bool, true, false, List, Option, Some, None, not, length, slice_get, refl, sym, ap, inl, inr}
use Rattle.std.proofs.lemmas.Bool.{and_parts, cases_Bool, or_cases, eqb-true, eqb-false, ltb-true, false≢true, not-true}
use Rattle.std.specs.Option.{option_and_then, option_map_or, unwrap_or}
use Rattle.std.specs.Prelude.{nat_lt}
use Rattle.mrt_graph.specs.declared.cert.CertLink.{CertLink}
use Rattle.mrt_graph.specs.declared.cert.Role.{Role}
use Rattle.mrt_graph.specs.declared.cert.Role.TheVariants as roles
use Rattle.mrt_graph.specs.declared.cert.Row.{Row}
use Rattle.mrt_graph.specs.declared.cert.Tag.{Tag}
use Rattle.mrt_graph.specs.declared.cert.Tag.TheVariants as tags
use Rattle.mrt_graph.specs.declared.link.Link.{Link}
use Rattle.mrt_graph.specs.BothThere.{are_different, are_equal, both, is_less}
use Rattle.mrt_graph.specs.Certificate.{Certificate, are_two, row_of}
use Rattle.mrt_graph.specs.CertFields.{order_of, head_of, block_of, has_role, tagged}
use Rattle.mrt_graph.specs.Related.{are_unrelated, is_common_block}
use Rattle.mrt_graph.specs.Roles.{is_plain, is_sole, is_closing}
use Rattle.mrt_graph.specs.RowRules.{higher_tagged, lower_tagged}
use Rattle.mrt_graph.specs.Tags.{same_tag}
use Rattle.mrt_graph.proofs.Blocks.{Common, Peers, ToHead, FromHead, Related, InOne, Under, Over}
use Rattle.mrt_graph.proofs.RowFacts.{Tagged, HigherTagged, LowerTagged}
use Rattle.mrt_graph.proofs.WordsOf.{words_of}

-- a || b, where a is false
pub unless : (a b : Bool) → (a || b) ≡ true → a ≡ false → b ≡ true
unless a b either fails = elim (or_cases a b either) [
  | inl holds ↦ absurd (false≢true (sym fails ∙ holds))
  | inr holds ↦ holds
]

-- tags and roles
pub tag_is : (T U : Tag) → same_tag T U ≡ true → T ≡ U
tag_is tags.Sole tags.Sole same = refl
tag_is tags.Head tags.Head same = refl
tag_is tags.Top tags.Top same = refl
tag_is tags.Below tags.Below same = refl
tag_is tags.Above tags.Above same = refl
tag_is tags.Unordered tags.Unordered same = refl
tag_is tags.Carried tags.Carried same = refl
tag_is _ _ same = absurd (false≢true same)

pub tag_itself : (T : Tag) → same_tag T T ≡ true
tag_itself tags.Sole = refl
tag_itself tags.Head = refl
tag_itself tags.Top = refl
tag_itself tags.Below = refl
tag_itself tags.Above = refl
tag_itself tags.Unordered = refl
tag_itself tags.Carried = refl

pub role_plain : (role : Role) → is_plain role ≡ true → role ≡ roles.Plain
role_plain roles.Plain is = refl
role_plain _ is = absurd (false≢true is)

pub role_sole : (role : Role) → is_sole role ≡ true → role ≡ roles.Sole
role_sole roles.Sole is = refl
role_sole _ is = absurd (false≢true is)

pub role_closing : (role : Role) → is_closing role ≡ true → role ≡ roles.Closing
role_closing roles.Closing is = refl
role_closing _ is = absurd (false≢true is)

-- two things that are there, and pass a test
pub record Pass {A B : Type 0} (test : A → B → Bool) (x : Option A) (y : Option B) : Type 0 where
  pub first : A
  pub second : B
  pub first_is : x ≡ Some first
  pub second_is : y ≡ Some second
  pub passes : test first second ≡ true

pub both_pass : {A B : Type 0} (test : A → B → Bool) (x : Option A) (y : Option B) → both test x y ≡ true
    → Pass test x y
both_pass test None y holds = absurd (false≢true holds)
both_pass test (Some a) None holds = absurd (false≢true holds)
both_pass test (Some a) (Some b) holds =
    record { first = a; second = b; first_is = refl; second_is = refl; passes = holds }

-- a number that is there
pub number_is : (x : Option ℕ) (k : ℕ) → x ≡ Some k → unwrap_or x 0 ≡ k
number_is x k is = ap (λ (o : Option ℕ). unwrap_or o 0) is

pub equal_numbers : (x y : Option ℕ) → are_equal x y ≡ true → unwrap_or x 0 ≡ unwrap_or y 0
equal_numbers x y holds =
    let p = both_pass (λ a b. a == b) x y holds in
    number_is x p.first p.first_is ∙ eqb-true p.first p.second p.passes ∙ sym (number_is y p.second p.second_is)

pub different_numbers : (x y : Option ℕ) → are_different x y ≡ true → unwrap_or x 0 ≢ unwrap_or y 0
different_numbers x y holds = λ same.
    let p = both_pass (λ a b. not (a == b)) x y holds in
    eqb-false p.first p.second (not-true (p.first == p.second) p.passes)
    (sym (number_is x p.first p.first_is) ∙ same ∙ number_is y p.second p.second_is)

pub less_numbers : (x y : Option ℕ) → is_less x y ≡ true → unwrap_or x 0 < unwrap_or y 0
less_numbers x y holds =
    let p = both_pass nat_lt x y holds in
    rw (number_is x p.first p.first_is, number_is y p.second p.second_is) (ltb-true p.first p.second p.passes)

-- what is found by a number is found by the number that is there
pub found_by : {X : Type 0} (f : ℕ → Option X) (x : Option ℕ) (found : X) → option_and_then f x ≡ Some found
    → f (unwrap_or x 0) ≡ Some found
found_by f None found is = cc
found_by f (Some k) found is = is

-- a link that has a role
pub record Roled (c : Certificate) (e : ℕ) (test : Role → Bool) : Type 0 where
  pub link : CertLink
  pub is : slice_get c.links e ≡ Some link
  pub passes : test link.role ≡ true

pub role_there : (c : Certificate) (e : ℕ) (test : Role → Bool) → has_role test c e ≡ true → Roled c e test
role_there c e test holds = go (slice_get c.links e) refl holds
  where
    go : (o : Option CertLink) → slice_get c.links e ≡ o → option_map_or (λ link. test link.role) o false ≡ true
        → Roled c e test
    go None is passes = absurd (false≢true passes)
    go (Some link) is passes = record { link = link; is = is; passes = passes }

-- a row is one of two nodes
pub row_of_two : (c : Certificate) (s t : ℕ) (row : Row) → row_of c s t ≡ Some row → s ≢ t
row_of_two c s t row is = elim (cases_Bool (are_two (length c.nodes) s t)) [
  | inl two ↦
      let later = and_parts (nat_lt s (length c.nodes)) _ two in
      let differ = and_parts (nat_lt t (length c.nodes)) _ later.1 in
      eqb-false s t (not-true (s == t) differ.1)
  | inr fails ↦ let none : ◌≡◌ {A = Option Row} None (Some row) = rw fails at is in absurd (cc)
]

module _ (links : List Link) (root : ℕ) (c : Certificate) where
  -- what the tests of a link's role tell
  pub plain_is : (e : ℕ) → has_role is_plain c e ≡ true → (words_of links root c).role e ≡ roles.Plain
  plain_is e holds =
      let there = role_there c e is_plain holds in
      ap (λ (o : Option CertLink). option_map_or (λ link. link.role) o roles.Plain) there.is ∙ role_plain _ there.passes

  pub sole_is : (e : ℕ) → has_role is_sole c e ≡ true → (words_of links root c).role e ≡ roles.Sole
  sole_is e holds =
      let there = role_there c e is_sole holds in
      ap (λ (o : Option CertLink). option_map_or (λ link. link.role) o roles.Plain) there.is ∙ role_sole _ there.passes

  pub closing_is : (e : ℕ) → has_role is_closing c e ≡ true → (words_of links root c).role e ≡ roles.Closing
  closing_is e holds =
      let there = role_there c e is_closing holds in
      ap (λ (o : Option CertLink). option_map_or (λ link. link.role) o roles.Plain) there.is
      ∙ role_closing _ there.passes

  -- and those of two nodes
  pub unrelated_apart : (s t : ℕ) → are_unrelated c s t ≡ true → Related (words_of links root c) s t → ⊥
  unrelated_apart s t holds related =
      let blocks = and_parts (are_different (block_of c s) (block_of c t)) _ holds in
      let heads = and_parts (are_different (head_of c s) (Some t)) _ blocks.1 in
      go related blocks.0 heads.0 heads.1
    where
      go : Related (words_of links root c) s t → are_different (block_of c s) (block_of c t) ≡ true
          → are_different (head_of c s) (Some t) ≡ true → are_different (head_of c t) (Some s) ≡ true → ⊥
      go (InOne one) blocks up down = different_numbers (block_of c s) (block_of c t) blocks one
      go (Under under) blocks up down = different_numbers (head_of c s) (Some t) up under
      go (Over over) blocks up down = different_numbers (head_of c t) (Some s) down over

  pub common_block : (s t : ℕ) (k : Option ℕ) → is_common_block c s t k ≡ true
      → Common (words_of links root c) s t (unwrap_or k 0)
  common_block s t k holds =
      elim (or_cases (are_equal (block_of c s) (block_of c t) && are_equal k (block_of c s)) _ holds) [
        | inl peers ↦
            let both = and_parts (are_equal (block_of c s) (block_of c t)) _ peers in
            Peers (equal_numbers (block_of c s) (block_of c t) both.0) (equal_numbers k (block_of c s) both.1)
        | inr heads ↦ elim (or_cases (are_equal (head_of c s) (Some t) && are_equal k (block_of c s)) _ heads) [
          | inl up ↦
              let both = and_parts (are_equal (head_of c s) (Some t)) _ up in
              ToHead (equal_numbers (head_of c s) (Some t) both.0) (equal_numbers k (block_of c s) both.1)
          | inr down ↦
              let both = and_parts (are_equal (head_of c t) (Some s)) _ down in
              FromHead (equal_numbers (head_of c t) (Some s) both.0) (equal_numbers k (block_of c t) both.1)
        ]
      ]

  -- what is tagged
  pub is_tagged : (v t : ℕ) (T : Tag) → tagged c v t T ≡ true → Tagged (words_of links root c) t T v
  is_tagged v t T holds = go (row_of c v t) refl holds
    where
      go : (o : Option Row) → row_of c v t ≡ o → option_map_or (λ row. same_tag row.tag T) o false ≡ true
          → Tagged (words_of links root c) t T v
      go None is passes = absurd (false≢true passes)
      go (Some row) is passes = record {
        not_there = row_of_two c v t row is;
        is = ap (λ (o : Option Row). option_map_or (λ row. row.tag) o tags.Carried) is ∙ tag_is row.tag T passes;
      }

  pub is_higher : (s t : ℕ) (T : Tag) (v : ℕ) → higher_tagged c s t T v ≡ true
      → HigherTagged (words_of links root c) s t T v
  is_higher s t T v holds =
      let both = and_parts (is_less (order_of c s) (order_of c v)) _ holds in
      record { order = less_numbers (order_of c s) (order_of c v) both.0; tagged = is_tagged v t T both.1 }

  pub is_lower : (s t : ℕ) (T : Tag) (v : ℕ) → lower_tagged c s t T v ≡ true
      → LowerTagged (words_of links root c) s t T v
  is_lower s t T v holds =
      let both = and_parts (is_less (order_of c v) (order_of c s)) _ holds in
      record { order = less_numbers (order_of c v) (order_of c s) both.0; tagged = is_tagged v t T both.1 }
