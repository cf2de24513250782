-- Costs side by side, place after place.
use Rattle.std.proofs.Common.{◌≡◌, ◌≢◌, ◌⊎◌, ◌∙◌, ◌<◌, ◌≤◌, ◌+◌, ◌-◌, ◌*◌, ℕ, List, nat_lt, get_or, length, slice_index, inl, inr, refl, sym, ap, arith}
use Rattle.std.specs.Prelude.{replicate}
use Rattle.std.proofs.Math.Nat.{mul-le-mul_left, mul_comm}
use Rattle.std.proofs.lemmas.Bool.{cases_Bool, cases_eq, cases_lt, ltb-true}
use Rattle.std.proofs.lemmas.Grind.{get_or_default_zero}
use Rattle.std.proofs.lemmas.List.{get_or-drop, get_or-replicate, get_or-take, get_or_past, length-drop, length-replicate, length-take}
use Rattle.std.specs.List.{slice_range}
use Rattle.block_spf.specs.Rest.{far}
use Rattle.block_spf.specs.steps.Side.{AreCosts, AreTaken, IsRowPut, IsTakenAt, lesser, link_of_lesser}

-- the first places were replaced, and the others are as they were
pub record AreTakenTo (left : ℕ → ℕ) (metric link : ℕ) (costs links : List ℕ) (count : ℕ) (costs' links' : List ℕ) : Type 0 where
  pub each : (j : ℕ) → j < count → slice_index costs' j ≡ lesser (left j + metric) (slice_index costs j)
  pub links_each : (j : ℕ) → j < count
      → slice_index links' j ≡ link_of_lesser (left j + metric) (slice_index costs j) link (slice_index links j)
  pub same_costs : (j : ℕ) → count ≤ j → slice_index costs' j ≡ slice_index costs j
  pub same_links : (j : ℕ) → count ≤ j → slice_index links' j ≡ slice_index links j

pub one_taken : (left : ℕ → ℕ) (metric link : ℕ) (costs links : List ℕ) (count cost : ℕ) (costs' links' costs'' links'' : List ℕ)
    → AreTakenTo left metric link costs links count costs' links' → cost ≡ left count + metric → IsTakenAt count cost link costs' links' costs'' links''
    → AreTakenTo left metric link costs links (count + 1) costs'' links''
one_taken left metric link costs links count cost costs' links' costs'' links'' so_far is at =
    let old = so_far.same_costs count (omega arith) in
    let old_link = so_far.same_links count (omega arith) in
    record {
      each = λ j below. elim (cases_eq j count) [
        | inl same ↦ rw (same, at.here, is, old) refl
        | inr other ↦ at.elsewhere j other ∙ so_far.each j (omega (arith, below, other))
      ];
      links_each = λ j below. elim (cases_eq j count) [
        | inl same ↦ rw (same, at.link_here, is, old, old_link) refl
        | inr other ↦ at.links_elsewhere j other ∙ so_far.links_each j (omega (arith, below, other))
      ];
      same_costs = λ j above. at.elsewhere j (λ same. omega (arith, above, same)) ∙ so_far.same_costs j (omega (arith, above));
      same_links = λ j above. at.links_elsewhere j (λ same. omega (arith, above, same)) ∙ so_far.same_links j (omega (arith, above));
    }

-- what is left may be said in other words
pub taken_by : (left left' : ℕ → ℕ) (metric link : ℕ) (costs links costs' links' : List ℕ) → ((j : ℕ) → j < length costs → left j ≡ left' j)
    → AreTaken left metric link costs links costs' links' → AreTaken left' metric link costs links costs' links'
taken_by left left' metric link costs links costs' links' says taken = record {
  each = λ j below. taken.each j below ∙ ap (λ (c : ℕ). lesser (c + metric) (slice_index costs j)) (says j below);
  links_each = λ j below. taken.links_each j below ∙ ap (λ (c : ℕ). link_of_lesser (c + metric) (slice_index costs j) link (slice_index links j)) (says j below);
}

-- costs that are far
pub far_costs : (count : ℕ) → AreCosts (replicate count far)
far_costs count i = elim (cases_lt i count) [
  | inl below ↦ omega (arith, get_or-replicate count i far 0 below)
  | inr past ↦ omega (arith, get_or_past (replicate count far) i 0 (omega (arith, past, length-replicate count far)))
]

-- costs stay at most far
pub most_kept : (left : ℕ → ℕ) (metric link : ℕ) (costs links costs' links' : List ℕ) → length costs' ≡ length costs → AreTaken left metric link costs links costs' links'
    → AreCosts costs → AreCosts costs'
most_kept left metric link costs links costs' links' same taken most j = elim (cases_lt j (length costs)) [
  | inl below ↦ omega (arith, taken.each j below, lesser_most (left j + metric) (slice_index costs j), most j)
  | inr past ↦ omega (arith, get_or_past costs' j 0 (omega (arith, past, same)))
]
  where
    lesser_most : (a b : ℕ) → lesser a b ≤ b
    lesser_most a b = elim (cases_Bool (nat_lt a b)) [
      | inl is_less ↦ let less = ltb-true a b is_less in rw is_less (omega (arith, less))
      | inr is_not ↦ rw is_not (omega arith)
    ]

pub range_length : (xs : List ℕ) (at n : ℕ) → at + n ≤ length xs → length (slice_range xs at (at + n)) ≡ n
range_length xs at n room = grind (arith, length-take, length-drop)

pub range_index : (xs : List ℕ) (at n j : ℕ) → at + n ≤ length xs → j < n → slice_index (slice_range xs at (at + n)) j ≡ slice_index xs (at + j)
range_index xs at n j room within = grind (arith, get_or-take, get_or-drop)

-- the costs of node y are among those of n nodes
pub row_within : (y n width many : ℕ) → many ≡ n * width → y < n → y * width + width ≤ many
row_within y n width many is below =
    let next : width * (y + 1) ≤ width * n = mul-le-mul_left width (omega (arith, below)) in
    let left : width * (y + 1) ≡ y * width + width = omega arith in
    let right : width * n ≡ n * width = mul_comm width n in
    omega (arith, is, next, left, right)

pub row_in : (y n width m many : ℕ) → y < n → many ≡ n * width → m ≡ width → y * m + m ≤ many
row_in y n width m many below long same = row_within y n m many (long ∙ ap (λ (k : ℕ). n * k) (sym same)) below

-- the places of one node lie apart from those of another
pub places_apart : (y x width j : ℕ) → y ≢ x → j < width → (y * width + j < x * width) ⊎ (x * width + width ≤ y * width + j)
places_apart y x width j other within = elim (cases_lt y x) [
  | inl below ↦ inl (omega (arith, row_within y x width (x * width) refl below, within))
  | inr above ↦ inr (omega (arith, row_within x y width (y * width) refl (omega (arith, above, other))))
]

-- all costs stay at most far
pub row_most : (x width : ℕ) (row : ℕ → ℕ) (all all' : List ℕ) → IsRowPut x width row all all' → ((j : ℕ) → j < width → row j ≤ far) → AreCosts all → AreCosts all'
row_most x width row all all' put low most i = elim (cases_lt i (x * width)) [
  | inl before ↦ omega (arith, put.elsewhere i (inl before), most i)
  | inr late ↦ elim (cases_lt i (x * width + width)) [
    | inl inside ↦
        let place : i ≡ x * width + (i - x * width) = omega (arith, late) in
        let below : i - x * width < width = omega (arith, inside, late) in
        let here = ap (λ (p : ℕ). slice_index all' p) place ∙ put.there (i - x * width) below in
        omega (arith, here, low (i - x * width) below)
    | inr after ↦ omega (arith, put.elsewhere i (inr after), most i)
  ]
]

-- an entry, as it is read
pub entry_read : (places : List ℕ) (n width j t x : ℕ) → length places ≡ n * width → t < n → j < width → x ≡ get_or places (t * width + j) x
    → x ≡ get_or places (t * width + j) 0
entry_read places n width j t x long within below read =
    read ∙ get_or_default_zero places (t * width + j) x (omega (arith, row_within t n width (length places) long within, below))
