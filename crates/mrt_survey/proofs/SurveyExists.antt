-- A graph and its certificate have a survey.
use Rattle.std.proofs.Common.{◌≡◌, ◌≢◌, ◌⊎◌, ◌<◌, ◌++◌, ℕ, zero, suc, Bool, true, false, List, Option, Some, None, length, map, inl, inr, refl, sym, ap, subst, arith}
use Rattle.std.specs.Prelude.{◌↔◌, IsTrue}
use Rattle.std.specs.List.{filter, range_with_len, sum_by}
use Rattle.std.proofs.lemmas.Bool.{cases_eq}
use Rattle.std.proofs.lemmas.Option.{same_Some}
use Rattle.mrt_graph.specs.AcceptedFor.{IsAcceptedAt}
use Rattle.mrt_graph.specs.Certificate.{Certificate}
use Rattle.mrt_graph.specs.CertFields.{block_of, head_of}
use Rattle.mrt_graph.specs.Roles.{is_sole}
use Rattle.mrt_graph.specs.Topology.{Topology}
use Rattle.mrt_graph.proofs.ListTests.{there}
use Rattle.mrt_graph.proofs.Members.{listed_or_not}
use Rattle.mrt_survey.specs.BlockHeads.{HeadsBlocks, AsMember, AsRoot, HeadsTwo, IsHeadOf}
use Rattle.mrt_survey.specs.Counting.{AreSoMany}
use Rattle.mrt_survey.specs.Separating.{SeparatesTwo}
use Rattle.mrt_graph.specs.Tags.{is_near}
use Rattle.mrt_survey.specs.SurveyText.{HasLink, IsSurveyText, block_line, is_carried, island_line, row_line, sum_line}
use Rattle.mrt_survey.proofs.HeadsMarked.{root_in_graph}
use Rattle.mrt_survey.proofs.SeparatingHeads.{separating_heads, told_there}

-- something holds, or it does not
abbrev Decided : Type 0 → Type 0
Decided P = P ⊎ (P → ⊥)

-- where it is decided which numbers have a property, there is a number of them
counted : (HasIt : ℕ → Type 0) (n : ℕ) → ((x : ℕ) → Decided (HasIt x)) → (count : ℕ) × AreSoMany HasIt n count
counted HasIt n decided = (
  length (filter test (range_with_len 0 n)),
  record { test = test; tells = λ x within. tells (HasIt x) (decided x); passing = refl },
)
  where
    passes : (P : Type 0) → Decided P → Bool
    passes P (inl is) = true
    passes P (inr not) = false

    test : ℕ → Bool
    test x = passes (HasIt x) (decided x)

    tells : (P : Type 0) (d : Decided P) → IsTrue (passes P d) ↔ P
    tells P (inl is) = ((λ holds. is), (λ here. refl))
    tells P (inr not) = ((λ holds. cc), (λ here. absurd (not here)))

-- one of the first numbers has it, or none of them has
one_or_none : (HasIt : ℕ → Type 0) → ((x : ℕ) → Decided (HasIt x)) → (n : ℕ) → ((x : ℕ) × HasIt x) ⊎ ((x : ℕ) → x < n → HasIt x → ⊥)
one_or_none HasIt decided zero = inr (λ x low has. omega (arith, low))
one_or_none HasIt decided (suc n) = elim (decided n) [
  | inl is ↦ inl (n, is)
  | inr not ↦ elim (one_or_none HasIt decided n) [
    | inl found ↦ inl found
    | inr none ↦ inr (λ x low has. elim (cases_eq x n) [ inl last ↦ not (subst HasIt last has) | inr other ↦ none x (omega (arith, low, other)) has ])
  ]
]

number_or_not : (o : Option ℕ) (x : ℕ) → Decided (o ≡ Some x)
number_or_not None x = inr (λ same. cc)
number_or_not (Some y) x = elim (cases_eq y x) [
  | inl same ↦ inl (ap (λ (n : ℕ). Some n) same)
  | inr other ↦ inr (λ same. other (same_Some y x same))
]

same_or_not : (one other : Option ℕ) → Decided (one ≡ other)
same_or_not None None = inl refl
same_or_not None (Some y) = inr (λ same. cc)
same_or_not (Some x) other = elim (number_or_not other x) [ inl same ↦ inl (sym same) | inr not ↦ inr (λ same. not (sym same)) ]

module _ (c : Certificate) where
  head_or_not : (x a : ℕ) → Decided (IsHeadOf c x a)
  head_or_not x a = elim (cases_eq a x) [
    | inl own ↦ inr (λ is. is.other own)
    | inr other ↦ elim (number_or_not (head_of c a) x) [
      | inl head ↦ inl (record { other = other; head = head })
      | inr not ↦ inr (λ is. not is.head)
    ]
  ]

  within : (x a : ℕ) → IsHeadOf c x a → a < length c.nodes
  within x a is = told_there (λ node. node.head) c.nodes a x is.head

  -- x is the head of a, and of another node, b, with another block
  record Twice (x a b : ℕ) : Type 0 where
    first : IsHeadOf c x a
    second : IsHeadOf c x b
    apart : block_of c a ≢ block_of c b

  twice_or_not : (x a : ℕ) → IsHeadOf c x a → (b : ℕ) → Decided (Twice x a b)
  twice_or_not x a first b = elim (head_or_not x b) [
    | inr not ↦ inr (λ is. not is.second)
    | inl second ↦ elim (same_or_not (block_of c a) (block_of c b)) [
      | inl same ↦ inr (λ is. is.apart same)
      | inr apart ↦ inl (record { first = first; second = second; apart = apart })
    ]
  ]

  abbrev WithFirst : ℕ → ℕ → Type 0
  WithFirst x a = (b : ℕ) × Twice x a b

  first_or_not : (x a : ℕ) → Decided (WithFirst x a)
  first_or_not x a = elim (head_or_not x a) [
    | inr not ↦ inr (λ is. not is.1.first)
    | inl first ↦ elim (one_or_none (Twice x a) (twice_or_not x a first) (length c.nodes)) [
      | inl found ↦ inl found
      | inr none ↦ inr (λ is. none is.0 (within x is.0 is.1.second) is.1)
    ]
  ]

  two_or_not : (x : ℕ) → Decided (HeadsTwo c x)
  two_or_not x = elim (one_or_none (WithFirst x) (first_or_not x) (length c.nodes)) [
    | inl found ↦
        inl (record { a = found.0; b = found.1.0; first = found.1.1.first; second = found.1.1.second; apart = found.1.1.apart })
    | inr none ↦ inr (λ two. none two.a (within x two.a two.first) (two.b, record { first = two.first; second = two.second; apart = two.apart }))
  ]

  module _ (root : ℕ) where
    two_of : (x : ℕ) → x ≡ root → HeadsBlocks c root x → HeadsTwo c root
    two_of x at (AsMember _ a not_root head) = absurd (not_root at)
    two_of x at (AsRoot two) = two

    member_of : (x : ℕ) → x ≢ root → HeadsBlocks c root x → (a : ℕ) × IsHeadOf c x a
    member_of x other (AsMember _ a not_root head) = (a, head)
    member_of x other (AsRoot two) = absurd (other refl)

    heads_or_not : (x : ℕ) → Decided (HeadsBlocks c root x)
    heads_or_not x = elim (cases_eq x root) [
      | inl at ↦ elim (two_or_not root) [
        | inl two ↦ inl (subst (λ (y : ℕ). HeadsBlocks c root y) (sym at) (AsRoot two))
        | inr not ↦ inr (λ heads. not (two_of x at heads))
      ]
      | inr other ↦ elim (one_or_none (IsHeadOf c x) (head_or_not x) (length c.nodes)) [
        | inl found ↦ inl (AsMember x found.0 other found.1)
        | inr none ↦ inr (λ heads. let one = member_of x other heads in none one.0 (within x one.0 one.1) one.1)
      ]
    ]

pub some_survey : (number : ℕ) (g : Topology) (root : ℕ) (c : Certificate) → IsAcceptedAt g root c
    → (text : List ℕ) × IsSurveyText number g root c text
some_survey number g root c is =
    let id = there g.ids root (root_in_graph g root c is) in
    let blocks = counted (HasLink c.links) (length c.nodes) (listed_or_not (map (λ link. link.block) c.links)) in
    let separating = counted (SeparatesTwo g.links (length g.ids)) (length g.ids) separates_or_not in (
      island_line number (length g.ids) (length g.links) id.0
          ++ (block_line blocks.0 (length (filter (λ link. is_sole link.role) c.links)) separating.0
          ++ (row_line (length (filter is_near c.rows)) (length (filter is_carried c.rows))
          ++ sum_line (sum_by (λ row. row.blue) c.rows) (sum_by (λ row. row.red) c.rows))),
      record { root_id = id.0; root_is = id.1; blocks = blocks.0; blocks_are = blocks.1; separating = separating.0; separating_are = separating.1; spelled = refl },
    )
  where
    separates_or_not : (x : ℕ) → Decided (SeparatesTwo g.links (length g.ids) x)
    separates_or_not x =
        let law = separating_heads g root (record { version = is.version; root = is.number; cert = c }) is.accepted x in
        elim (heads_or_not c root x) [ inl heads ↦ inl (law.1 heads) | inr not ↦ inr (λ separates. not (law.0 separates)) ]
