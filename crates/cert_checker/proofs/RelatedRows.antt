-- The rows of a source that are not among those of its relatives keep the rules on rows.
use Rattle.std.proofs.Common.{◌≡◌, ◌⊎◌, ◌∙◌, ◌<◌, ◌+◌, ◌||◌, ◌++◌, ℕ, Bool, true, false, not, List, Option, Some, None, get_or, length, slice_get, take, inl, inr, refl, sym, ap, subst, append_assoc, arith}
use Rattle.std.specs.Prelude.{Contains, ◌∷◌, []}
use Rattle.std.specs.Option.{option_map_or, option_to_list}
use Rattle.std.proofs.lemmas.Bool.{cases_Bool, cases_eq, eq-eqb, eqb-true, false≢true}
use Rattle.std.proofs.lemmas.List.{take_more}
use Rattle.std.proofs.lemmas.Option.{get_or_from_slice_get, slice_get_within}
use Rattle.cert_checker.specs.declared.fault.Fault.{Fault}
use Rattle.cert_checker.specs.steps.RowFaults.{AndSome, Before, IsAfter, IsFirstSoFar, row_test}
use Rattle.mrt_graph.specs.Certificate.{Certificate, row_of}
use Rattle.mrt_graph.specs.CertFields.{head_of}
use Rattle.mrt_graph.specs.Foldable.{IsFoldable}
use Rattle.mrt_graph.specs.Groups.{with_key}
use Rattle.mrt_graph.specs.Kin.{IsUpper, Kin, is_upper, kin_of}
use Rattle.mrt_graph.specs.Related.{are_unrelated}
use Rattle.mrt_graph.specs.steps.RowRules.{row_rule}
use Rattle.mrt_graph.specs.Rules.{Rule, TagRule}
use Rattle.mrt_graph.specs.Tags.{same_tag}
use Rattle.mrt_graph.specs.Topology.{Topology}
use Rattle.mrt_graph.proofs.FarRows.{far_rows}
use Rattle.mrt_graph.proofs.KinOf.{heads_count, listed}
use Rattle.mrt_graph.proofs.ListPlaces.{at_left, contains_at, place_of, pushed_at}
use Rattle.mrt_graph.proofs.Pairs.{at_right}
use Rattle.cert_checker.proofs.FirstSoFar.{judged_more, widened}

-- ---- in lists put together

in_left : (xs ys : List ℕ) (y : ℕ) → Contains xs y → Contains (xs ++ ys) y
in_left xs ys y has = let at = place_of xs y has in contains_at (xs ++ ys) at.0 y (at_left xs ys at.0 y at.1)

in_right : (xs ys : List ℕ) (y : ℕ) → Contains ys y → Contains (xs ++ ys) y
in_right xs ys y has = let at = place_of ys y has in contains_at (xs ++ ys) (length xs + at.0) y (at_right xs ys at.0 ∙ at.1)

in_more : (listed : List ℕ) (t y : ℕ) → Contains (listed ++ t ∷ []) y → Contains listed y ⊎ (y ≡ t)
in_more listed t y has =
    let at = place_of (listed ++ t ∷ []) y has in
    elim (pushed_at listed t y at.0 at.1) [ inl before ↦ inl (contains_at listed at.0 y before) | inr last ↦ inr (sym last.1) ]

pub none_listed : (y : ℕ) → Contains [] y → ⊥
none_listed y has = omega (arith, has.1)

-- ---- the rows of one source

module _ (test : Rule → ℕ → ℕ → Bool) (c : Certificate) (s : ℕ) (s_in : s < length c.nodes) where
  abbrev Known : (ℕ → Type 0) → Option Fault → Type 0
  Known some kept = IsFirstSoFar test (length c.nodes) (AndSome c s some) kept

  -- before the first
  pub starts : (some : ℕ → Type 0) → ((y : ℕ) → some y → ⊥) → (kept : Option Fault) → IsFirstSoFar test (length c.nodes) (Before c s) kept → Known some kept
  starts some never = widened test (length c.nodes) (Before c s) (AndSome c s some) (λ x y has. elim has [ inl old ↦ inl old | inr own ↦ absurd (never y own.1) ])

  -- with one more
  goes_on : (some more : ℕ → Type 0) (t : ℕ) → t < length c.nodes → ((y : ℕ) → more y → some y ⊎ (y ≡ t)) → (before after : Option Fault) → Known some before
      → IsAfter test s t before after → Known more after
  goes_on some more t t_in from = judged_more test (length c.nodes) (AndSome c s some) (AndSome c s more) s t s_in t_in (λ x y has. elim has [
    | inl old ↦ inl (inl old)
    | inr own ↦ elim (from y own.1) [ inl old ↦ inl (inr (own.0, old)) | inr last ↦ inr (own.0, last) ]
  ])

  -- with the next one of a list
  pub listed_more : (listed xs : List ℕ) (k t : ℕ) → t < length c.nodes → slice_get xs k ≡ Some t → (before after : Option Fault)
      → Known (Contains (listed ++ take k xs)) before → IsAfter test s t before after → Known (Contains (listed ++ take (k + 1) xs)) after
  listed_more listed xs k t t_in at before after known is =
      let more : (listed ++ take k xs) ++ t ∷ [] ≡ listed ++ take (k + 1) xs =
      append_assoc listed (take k xs) (t ∷ []) ∙ ap (λ (x : ℕ). listed ++ (take k xs ++ x ∷ [])) (sym (get_or_from_slice_get xs k t t at))
      ∙ ap (λ (ys : List ℕ). listed ++ ys) (sym (take_more xs k t (slice_get_within xs k t at))) in
      subst (λ (ys : List ℕ). Known (Contains ys) after) more
      (goes_on (Contains (listed ++ take k xs)) (Contains ((listed ++ take k xs) ++ t ∷ [])) t t_in (in_more (listed ++ take k xs) t) before after known is)

  -- after the last, where what is left keeps each rule
  pub ends : (some : ℕ → Type 0) → ((y : ℕ) → y < length c.nodes → some y ⊎ ((rule : Rule) → test rule s y ≡ true)) → (kept : Option Fault) → Known some kept
      → IsFirstSoFar test (length c.nodes) (Before c (s + 1)) kept
  ends some rest = widened test (length c.nodes) (AndSome c s some) (Before c (s + 1)) (λ x y has. elim (cases_eq x s) [
    | inl same ↦ elim (rest y has.1) [ inl own ↦ inl (inr (same, own)) | inr each ↦ inr (rw same each) ]
    | inr other ↦ inl (inl (omega (arith, has.0, other), has.1))
  ])

module _ (g : Topology) (root : ℕ) (c : Certificate) (folds : IsFoldable c) (root_within : root < length c.nodes) (own : head_of c root ≡ Some root)
    (kin : Kin) (same : kin_of c.nodes ≡ kin) (s : ℕ) (s_within : s < length c.nodes) where
  -- nothing is asked of a node for itself
  itself_holds : (y : ℕ) → s ≡ y → (rule : Rule) → row_test g root c rule s y ≡ true
  itself_holds y one (TagRule tag) =
      ap (λ (b : Bool). b || option_map_or (λ row. not (same_tag row.tag tag) || row_rule tag g.links c root s y row) (row_of c s y) false) (eq-eqb s y one)
  itself_holds y one _ = refl

  far_holds : (y : ℕ) → y < length c.nodes → are_unrelated c s y ≡ true → (rule : Rule) → row_test g root c rule s y ≡ true
  far_holds y within far (TagRule tag) = far_rows g.links c root folds root_within own tag s y s_within within far
  far_holds y within far _ = refl

  upper_there : (upper : Option ℕ) (y : ℕ) → IsUpper kin.heads s upper → y < length kin.heads → is_upper kin.heads s y ≡ true → Contains (option_to_list upper) y
  upper_there None y none within is = absurd (false≢true (sym (none y within) ∙ is))
  upper_there (Some head) y some within is =
      let one : y ≡ head = eqb-true y head (sym (some.1 y within) ∙ is) in
      (0, omega arith, sym one)

  pub rest : (upper : Option ℕ) → IsUpper kin.heads s upper → (y : ℕ) → y < length c.nodes
      → Contains ((with_key kin.blocks (get_or kin.blocks s 0) ++ option_to_list upper) ++ with_key kin.heads s) y ⊎ ((rule : Rule) → row_test g root c rule s y ≡ true)
  rest upper is y within = elim (cases_eq s y) [
    | inl one ↦ inr (itself_holds y one)
    | inr other ↦ elim (cases_Bool (are_unrelated c s y)) [
      | inl far ↦ inr (far_holds y within far)
      | inr near ↦
          let members = with_key kin.blocks (get_or kin.blocks s 0) in
          let children = with_key kin.heads s in
          inl (elim (listed c kin s y same s_within within near) [
            | inl member ↦ in_left (members ++ option_to_list upper) children y (in_left members (option_to_list upper) y member)
            | inr (inl up) ↦ in_left (members ++ option_to_list upper) children y (in_right members (option_to_list upper) y
                (upper_there upper y is (omega (arith, within, heads_count c.nodes, ap (λ (k : Kin). length k.heads) same)) up))
            | inr (inr child) ↦ in_right (members ++ option_to_list upper) children y child
          ])
    ]
  ]
