-- A certificate's related pairs, by the blocks of its nodes and their heads in other blocks.
use Rattle.std.proofs.Common.{◌≡◌, ◌≢◌, ◌⊎◌, ◌∙◌, ◌<◌, ◌≤◌, ◌+◌, ◌-◌, ◌*◌, ◌==◌, ◌&&◌, ◌++◌, ℕ, zero, suc, Bool, true, false, not, List, [], ◌∷◌, Option, Some, None, filter, length, slice_get, get_or, take, nat_lt, inl, inr, refl, sym, ap, subst, arith, length-append, append_assoc}
use Rattle.std.specs.List.{AllByRecursion, flat_map, range_with_len}
use Rattle.std.specs.Option.{option_map}
use Rattle.std.specs.Prelude.{Contains}
use Rattle.std.proofs.Math.Nat.{mul-le-mul_right}
use Rattle.std.proofs.lemmas.Bool.{cases_Bool, cases_eq, cases_lt, eq-eqb, false≢true, le-ltb, lt-ltb, ne_eqb}
use Rattle.std.proofs.lemmas.List.{length-map, take-map, take-append-le, take_at}
use Rattle.std.proofs.lemmas.List.FromFn.{length-range_with_len}
use Rattle.std.proofs.lemmas.Option.{get_or_from_slice_get, same_Some, slice_get-get_or, slice_get-map, slice_get_within}
use Rattle.mrt_graph.specs.declared.cert.CertNode.{CertNode}
use Rattle.mrt_graph.specs.BothThere.{are_equal}
use Rattle.mrt_graph.specs.Certificate.{Certificate, IsCertNode}
use Rattle.mrt_graph.specs.Groups.{AreKeys, count_below, with_key}
use Rattle.mrt_graph.specs.steps.Kin.{AreStarts, is_member, kin_before, kin_below}
use Rattle.mrt_graph.specs.Kin.{IsUpper, Kin, is_child, is_upper, kin_of, outer_head}
use Rattle.mrt_graph.specs.Related.{are_unrelated}
use Rattle.mrt_graph.specs.RelatedPairs.{place_of_near, related_pairs, related_to, set_marks}
use Rattle.mrt_graph.specs.RowPlace.{place_of_row}
use Rattle.mrt_graph.proofs.Counts.{count_alike, count_grows, count_here, count_none, count_one, count_suc}
use Rattle.mrt_graph.proofs.Grouping.{has_own, passing_there}
use Rattle.mrt_graph.proofs.ListPlaces.{at_last, at_left}
use Rattle.mrt_graph.proofs.ListTests.{all_at, there}
use Rattle.mrt_graph.proofs.Pairs.{counted_more, few_passes, few_set, flat_length, marks_tally, others_are, range_parts, related_count, related_length, related_self}
use Rattle.mrt_graph.proofs.RowPlaces.{column, column_above, column_below}
use Rattle.mrt_graph.proofs.Tallies.{length_is_tally, one_if, tally, tally_append}

-- a node's head, where it lies in another block; else none
outer_cases : (nodes : List CertNode) (node : CertNode)
    → ((are_equal (option_map (λ head. head.block) (slice_get nodes node.head)) (Some node.block) ≡ true) × (outer_head nodes node ≡ length nodes))
    ⊎ ((are_equal (option_map (λ head. head.block) (slice_get nodes node.head)) (Some node.block) ≡ false) × (outer_head nodes node ≡ node.head))
outer_cases nodes node = elim (cases_Bool (are_equal (option_map (λ head. head.block) (slice_get nodes node.head)) (Some node.block))) [
  | inl same ↦ inl (same, rw same refl)
  | inr other ↦ inr (other, rw other refl)
]

-- v's head in another block is s, where its head is and they have two blocks
module _ (nodes : List CertNode) (s v : ℕ) (ns nv : CertNode) (s_is : slice_get nodes s ≡ Some ns) (s_within : s < length nodes) where
  one_block : nv.head ≡ s → are_equal (option_map (λ head. head.block) (slice_get nodes nv.head)) (Some nv.block) ≡ (ns.block == nv.block)
  one_block same =
      ap (λ (k : ℕ). are_equal (option_map (λ head. head.block) (slice_get nodes k)) (Some nv.block)) same
      ∙ ap (λ (o : Option CertNode). are_equal (option_map (λ head. head.block) o) (Some nv.block)) s_is

  pub outer_is : ns.block ≢ nv.block → nv.head ≡ s → (outer_head nodes nv == s) ≡ true
  outer_is two same = elim (outer_cases nodes nv) [
    | inl inside ↦ absurd (false≢true (sym (ne_eqb ns.block nv.block two) ∙ sym (one_block same) ∙ inside.0))
    | inr outside ↦ eq-eqb (outer_head nodes nv) s (outside.1 ∙ same)
  ]

  pub outer_not : (ns.block ≡ nv.block) ⊎ (nv.head ≢ s) → (outer_head nodes nv == s) ≡ false
  outer_not why = elim (outer_cases nodes nv) [
    | inl inside ↦ ne_eqb (outer_head nodes nv) s (λ same. omega (arith, s_within, inside.1, same))
    | inr outside ↦ ne_eqb (outer_head nodes nv) s (λ same.
        let head : nv.head ≡ s = sym outside.1 ∙ same in
        elim why [
          | inl one ↦ absurd (false≢true (sym outside.0 ∙ one_block head ∙ eq-eqb ns.block nv.block one))
          | inr other ↦ other head
        ])
  ]

-- two nodes are related in one of three ways
pub related_parts : (c : Certificate) (s v : ℕ) → s < length c.nodes → v < length c.nodes
    → one_if (not (are_unrelated c s v)) ≡ one_if (is_member (kin_of c.nodes).blocks s v)
    + (one_if (is_upper (kin_of c.nodes).heads s v) + one_if (is_child (kin_of c.nodes).heads s v))
related_parts c s v s_within v_within = go
  where
    nodes : List CertNode
    nodes = c.nodes

    blocks : List ℕ
    blocks = (kin_of c.nodes).blocks

    heads : List ℕ
    heads = (kin_of c.nodes).heads

    at_s : (x : CertNode) × (slice_get c.nodes s ≡ Some x)
    at_s = there c.nodes s s_within

    at_v : (x : CertNode) × (slice_get c.nodes v ≡ Some x)
    at_v = there c.nodes v v_within

    block : (u : ℕ) (x : CertNode) → slice_get c.nodes u ≡ Some x → slice_get (kin_of c.nodes).blocks u ≡ Some x.block
    block u x is = slice_get-map (λ (node : CertNode). node.block) c.nodes u ∙ ap (option_map (λ (node : CertNode). node.block)) is

    head : (u : ℕ) (x : CertNode) → slice_get c.nodes u ≡ Some x → slice_get (kin_of c.nodes).heads u ≡ Some (outer_head c.nodes x)
    head u x is = slice_get-map (outer_head c.nodes) c.nodes u ∙ ap (option_map (outer_head c.nodes)) is

    unrelated : are_unrelated c s v ≡ (not (at_s.0.block == at_v.0.block) && (not (at_s.0.head == v) && not (at_v.0.head == s)))
    unrelated = rw (at_s.1, at_v.1) refl

    member : is_member (kin_of c.nodes).blocks s v ≡ (at_v.0.block == at_s.0.block)
    member =
        ap (λ (k : ℕ). are_equal (slice_get (kin_of c.nodes).blocks v) (Some k)) (get_or_from_slice_get (kin_of c.nodes).blocks s at_s.0.block 0 (block s at_s.0 at_s.1))
        ∙ ap (λ (o : Option ℕ). are_equal o (Some at_s.0.block)) (block v at_v.0 at_v.1)

    child : is_child (kin_of c.nodes).heads s v ≡ (outer_head c.nodes at_v.0 == s)
    child = ap (λ (o : Option ℕ). are_equal o (Some s)) (head v at_v.0 at_v.1)

    upper : is_upper (kin_of c.nodes).heads s v ≡ ((outer_head c.nodes at_s.0 == v) && not (outer_head c.nodes at_v.0 == s))
    upper =
        ap (λ (b : Bool). b && not (is_child (kin_of c.nodes).heads s v)) (ap (λ (o : Option ℕ). are_equal o (Some v)) (head s at_s.0 at_s.1))
        ∙ ap (λ (b : Bool). (outer_head c.nodes at_s.0 == v) && not b) child

    cases : one_if (not (not (at_s.0.block == at_v.0.block) && (not (at_s.0.head == v) && not (at_v.0.head == s))))
        ≡ one_if (at_v.0.block == at_s.0.block)
        + (one_if ((outer_head c.nodes at_s.0 == v) && not (outer_head c.nodes at_v.0 == s)) + one_if (outer_head c.nodes at_v.0 == s))
    cases = elim (cases_eq at_s.0.block at_v.0.block) [
      | inl one ↦
          rw (
            eq-eqb at_s.0.block at_v.0.block one,
            eq-eqb at_v.0.block at_s.0.block (sym one),
            outer_not c.nodes s v at_s.0 at_v.0 at_s.1 s_within (inl one),
            outer_not c.nodes v s at_v.0 at_s.0 at_v.1 v_within (inl (sym one)),
          ) refl
      | inr two ↦ elim (cases_eq at_v.0.head s) [
        | inl below ↦
            rw (
              ne_eqb at_s.0.block at_v.0.block two,
              ne_eqb at_v.0.block at_s.0.block (λ e. two (sym e)),
              eq-eqb at_v.0.head s below,
              outer_is c.nodes s v at_s.0 at_v.0 at_s.1 s_within two below,
            ) (last (at_s.0.head == v) (outer_head c.nodes at_s.0 == v))
        | inr not_below ↦ elim (cases_eq at_s.0.head v) [
          | inl above ↦
              rw (
                ne_eqb at_s.0.block at_v.0.block two,
                ne_eqb at_v.0.block at_s.0.block (λ e. two (sym e)),
                eq-eqb at_s.0.head v above,
                outer_not c.nodes s v at_s.0 at_v.0 at_s.1 s_within (inr not_below),
                outer_is c.nodes v s at_v.0 at_s.0 at_v.1 v_within (λ e. two (sym e)) above,
              ) refl
          | inr apart ↦
              rw (
                ne_eqb at_s.0.block at_v.0.block two,
                ne_eqb at_v.0.block at_s.0.block (λ e. two (sym e)),
                ne_eqb at_s.0.head v apart,
                ne_eqb at_v.0.head s not_below,
                outer_not c.nodes s v at_s.0 at_v.0 at_s.1 s_within (inr not_below),
                outer_not c.nodes v s at_v.0 at_s.0 at_v.1 v_within (inr apart),
              ) refl
        ]
      ]
    ]
      where
        last : (a b : Bool) → one_if (not (not a && false)) ≡ 0 + (one_if (b && false) + 1)
        last true true = refl
        last true false = refl
        last false true = refl
        last false false = refl

    sides : one_if (is_member (kin_of c.nodes).blocks s v)
        + (one_if (is_upper (kin_of c.nodes).heads s v) + one_if (is_child (kin_of c.nodes).heads s v))
        ≡ one_if (at_v.0.block == at_s.0.block)
        + (one_if ((outer_head c.nodes at_s.0 == v) && not (outer_head c.nodes at_v.0 == s)) + one_if (outer_head c.nodes at_v.0 == s))
    sides = omega (arith, ap one_if member, ap one_if upper, ap one_if child)

    go : one_if (not (are_unrelated c s v)) ≡ one_if (is_member (kin_of c.nodes).blocks s v)
        + (one_if (is_upper (kin_of c.nodes).heads s v) + one_if (is_child (kin_of c.nodes).heads s v))
    go = ap (λ (b : Bool). one_if (not b)) unrelated ∙ cases ∙ sym sides

-- so they are counted
pub count_related : (c : Certificate) (s t : ℕ) → s < length c.nodes → t ≤ length c.nodes
    → count_below (λ v. not (are_unrelated c s v)) t ≡ kin_below (kin_of c.nodes) s t
count_related c s t s_within t_within =
    let kin = kin_of c.nodes in
    count_three (λ v. not (are_unrelated c s v)) (is_member kin.blocks s) (is_upper kin.heads s) (is_child kin.heads s) t
    (λ v below. related_parts c s v s_within (omega (arith, below, t_within)))
  where
    count_three : (p q r u : ℕ → Bool) (n : ℕ) → ((v : ℕ) → v < n → one_if (p v) ≡ one_if (q v) + (one_if (r v) + one_if (u v)))
        → count_below p n ≡ count_below q n + (count_below r n + count_below u n)
    count_three p q r u zero parts = refl
    count_three p q r u (suc n) parts =
        let here = parts n (omega arith) in
        omega (arith, count_suc p n, count_suc q n, count_suc r n, count_suc u n, here, count_three p q r u n (λ v below. parts v (omega (arith, below))))

-- of one source
pub count_others : (c : Certificate) (s : ℕ) → s < length c.nodes → kin_below (kin_of c.nodes) s (length c.nodes) ≡ set_marks (related_to c s) + 1
count_others c s within = sym (count_related c s (length c.nodes) within (omega arith)) ∙ related_count c s within

pub blocks_count : (nodes : List CertNode) → length (kin_of nodes).blocks ≡ length nodes
blocks_count nodes = length-map nodes (λ (node : CertNode). node.block)

pub heads_count : (nodes : List CertNode) → length (kin_of nodes).heads ≡ length nodes
heads_count nodes = length-map nodes (outer_head nodes)

-- of all sources below one
pub count_before : (c : Certificate) (s : ℕ) → s ≤ length c.nodes → kin_before (kin_of c.nodes) s ≡ set_marks (flat_map (related_to c) (range_with_len 0 s))
count_before c zero within = refl
count_before c (suc s) within =
    let more : s + 1 ≡ suc s = omega arith in
    let here = ap (kin_below (kin_of c.nodes) s) (blocks_count c.nodes) ∙ count_others c s (omega (arith, within)) in
    subst (λ (k : ℕ). kin_before (kin_of c.nodes) (suc s) ≡ set_marks (flat_map (related_to c) (range_with_len 0 k))) more
    (omega (arith, here, count_before c s (omega (arith, within)), counted_more c s))

pub count_all : (c : Certificate) → kin_before (kin_of c.nodes) (length (kin_of c.nodes).blocks) ≡ set_marks (related_pairs c)
count_all c = ap (kin_before (kin_of c.nodes)) (blocks_count c.nodes) ∙ count_before c (length c.nodes) (omega arith)

-- at most as many as pairs
pub few_before : (c : Certificate) (s : ℕ) → s ≤ length c.nodes → kin_before (kin_of c.nodes) s ≤ s * (length c.nodes - 1)
few_before c s within =
    omega (
      arith,
      count_before c s within,
      few_set (flat_map (related_to c) (range_with_len 0 s)),
      flat_length (related_to c) (length c.nodes - 1) 0 s (λ x from below. related_length c x (omega (arith, below, within))),
    )

-- ---- the place of a pair

-- the front of lists of one length, one after another
flat_front : {X : Type 0} (g : ℕ → List X) (m a k i col : ℕ) → ((y : ℕ) → a ≤ y → y < a + k → length (g y) ≡ m) → i < k → col ≤ m
    → take (i * m + col) (flat_map g (range_with_len a k)) ≡ flat_map g (range_with_len a i) ++ take col (g (a + i))
flat_front g m a zero i col one i_within col_within = absurd (omega (arith, i_within))
flat_front g m a (suc k) zero col one i_within col_within =
    let place : 0 * m + col ≡ col = omega arith in
    let same : a + 0 ≡ a = omega arith in
    let first = one a (omega arith) (omega arith) in
    ap (λ (x : ℕ). take x (flat_map g (range_with_len a (suc k)))) place
    ∙ take-append-le col (g a) (flat_map g (range_with_len (a + 1) k)) (omega (arith, first, col_within))
    ∙ ap (λ (y : ℕ). take col (g y)) (sym same)
flat_front g m a (suc k) (suc i) col one i_within col_within =
    let first = one a (omega arith) (omega arith) in
    let product : suc i * m + col ≡ m + (i * m + col) = grind arith in
    let place : suc i * m + col ≡ length (g a) + (i * m + col) = omega (arith, product, first) in
    let same : a + 1 + i ≡ a + suc i = omega arith in
    ap (λ (x : ℕ). take x (flat_map g (range_with_len a (suc k)))) place
    ∙ take_past (g a) (flat_map g (range_with_len (a + 1) k)) (i * m + col)
    ∙ ap (λ (xs : List _). g a ++ xs) (flat_front g m (a + 1) k i col (λ y from below. one y (omega (arith, from)) (omega (arith, below))) (omega (arith, i_within)) col_within)
    ∙ sym (append_assoc (g a) (flat_map g (range_with_len (a + 1) i)) (take col (g (a + 1 + i))))
    ∙ ap (λ (y : ℕ). (g a ++ flat_map g (range_with_len (a + 1) i)) ++ take col (g y)) same
  where
    take_past : {X : Type 0} (xs ys : List X) (k : ℕ) → take (length xs + k) (xs ++ ys) ≡ xs ++ take k ys
    take_past [] ys k = let none : 0 + k ≡ k = omega arith in ap (λ (x : ℕ). take x ys) none
    take_past (x ∷ xs) ys k =
        let more : suc (length xs) + k ≡ suc (length xs + k) = omega arith in
        ap (λ (j : ℕ). take j ((x ∷ xs) ++ ys)) more ∙ ap (λ (zs : List _). x ∷ zs) (take_past xs ys k)

-- how many before t are related to s, s itself left out
marks_before : (c : Certificate) (s t : ℕ) → s < length c.nodes → t < length c.nodes → s ≢ t
    → set_marks (take (column s t) (related_to c s)) + one_if (nat_lt s t) ≡ count_below (λ v. not (are_unrelated c s v)) t
marks_before c s t s_within t_within two = elim (cases_lt s t) [
  | inl above ↦
      let n = length c.nodes in
      let rest : t ≡ s + suc (t - s - 1) = omega (arith, above) in
      let zeros : 0 + s ≡ s = omega arith in
      let split : n - s - 1 ≡ t - s - 1 + (n - t) = omega (arith, above, t_within) in
      let size : t - 1 ≡ length (range_with_len 0 s ++ range_with_len (s + 1) (t - s - 1)) =
      omega (arith, above, length-append (range_with_len 0 s) (range_with_len (s + 1) (t - s - 1)), length-range_with_len 0 s, length-range_with_len (s + 1) (t - s - 1)) in
      let list : filter (λ x. not (x == s)) (range_with_len 0 n) ≡ (range_with_len 0 s ++ range_with_len (s + 1) (t - s - 1)) ++ range_with_len (s + 1 + (t - s - 1)) (n - t) =
      others_are n s s_within ∙ ap (λ (k : ℕ). range_with_len 0 s ++ range_with_len (s + 1) k) split
      ∙ ap (λ (xs : List ℕ). range_with_len 0 s ++ xs) (range_parts (s + 1) (t - s - 1) (n - t))
      ∙ sym (append_assoc (range_with_len 0 s) (range_with_len (s + 1) (t - s - 1)) (range_with_len (s + 1 + (t - s - 1)) (n - t))) in
      let front : take (column s t) (filter (λ x. not (x == s)) (range_with_len 0 n)) ≡ range_with_len 0 s ++ range_with_len (s + 1) (t - s - 1) =
      ap (λ (xs : List ℕ). take (column s t) xs) list ∙ ap (λ (k : ℕ). take k ((range_with_len 0 s ++ range_with_len (s + 1) (t - s - 1)) ++ range_with_len (s + 1 + (t - s - 1)) (n - t))) (column_above s t above ∙ size)
      ∙ take_at (range_with_len 0 s ++ range_with_len (s + 1) (t - s - 1)) (range_with_len (s + 1 + (t - s - 1)) (n - t)) (length (range_with_len 0 s ++ range_with_len (s + 1) (t - s - 1))) refl in
      let marked : set_marks (take (column s t) (related_to c s)) ≡ tally test (range_with_len 0 s) + tally test (range_with_len (s + 1) (t - s - 1)) =
      counted_front (column s t) ∙ ap (tally test) front ∙ tally_append test (range_with_len 0 s) (range_with_len (s + 1) (t - s - 1)) in
      let whole : count_below test t ≡ tally test (range_with_len 0 s) + (1 + tally test (range_with_len (s + 1) (t - s - 1))) =
      length_is_tally test (range_with_len 0 t) ∙ ap (λ (k : ℕ). tally test (range_with_len 0 k)) rest
      ∙ ap (tally test) (range_parts 0 s (suc (t - s - 1)) ∙ ap (λ (x : ℕ). range_with_len 0 s ++ range_with_len x (suc (t - s - 1))) zeros)
      ∙ tally_append test (range_with_len 0 s) (s ∷ range_with_len (s + 1) (t - s - 1))
      ∙ ap (λ (x : ℕ). tally test (range_with_len 0 s) + (x + tally test (range_with_len (s + 1) (t - s - 1)))) (ap one_if (related_self c s)) in
      let itself : one_if (nat_lt s t) ≡ 1 = ap one_if (lt-ltb s t above) in
      omega (arith, marked, whole, itself)
  | inr not_above ↦
      let n = length c.nodes in
      let below : t < s = omega (arith, not_above, two) in
      let zeros : 0 + t ≡ t = omega arith in
      let split : s ≡ t + (s - t) = omega (arith, below) in
      let list : filter (λ x. not (x == s)) (range_with_len 0 n) ≡ range_with_len 0 t ++ (range_with_len t (s - t) ++ range_with_len (s + 1) (n - s - 1)) =
      others_are n s s_within ∙ ap (λ (k : ℕ). range_with_len 0 k ++ range_with_len (s + 1) (n - s - 1)) split
      ∙ ap (λ (xs : List ℕ). xs ++ range_with_len (s + 1) (n - s - 1)) (range_parts 0 t (s - t) ∙ ap (λ (x : ℕ). range_with_len 0 t ++ range_with_len x (s - t)) zeros)
      ∙ append_assoc (range_with_len 0 t) (range_with_len t (s - t)) (range_with_len (s + 1) (n - s - 1)) in
      let front : take (column s t) (filter (λ x. not (x == s)) (range_with_len 0 n)) ≡ range_with_len 0 t =
      ap (λ (xs : List ℕ). take (column s t) xs) list ∙ ap (λ (k : ℕ). take k (range_with_len 0 t ++ (range_with_len t (s - t) ++ range_with_len (s + 1) (n - s - 1)))) (column_below s t below)
      ∙ take_at (range_with_len 0 t) (range_with_len t (s - t) ++ range_with_len (s + 1) (n - s - 1)) t (length-range_with_len 0 t) in
      let marked : set_marks (take (column s t) (related_to c s)) ≡ tally test (range_with_len 0 t) = counted_front (column s t) ∙ ap (tally test) front in
      let itself : one_if (nat_lt s t) ≡ 0 = ap one_if (le-ltb s t not_above) in
      omega (arith, marked, length_is_tally test (range_with_len 0 t), itself)
]
  where
    test : ℕ → Bool
    test v = not (are_unrelated c s v)

    counted_front : (k : ℕ) → set_marks (take k (related_to c s)) ≡ tally test (take k (filter (λ x. not (x == s)) (range_with_len 0 (length c.nodes))))
    counted_front k =
        ap set_marks (take-map test k (filter (λ x. not (x == s)) (range_with_len 0 (length c.nodes))))
        ∙ marks_tally test (take k (filter (λ x. not (x == s)) (range_with_len 0 (length c.nodes))))

column_within : (n s t : ℕ) → s < n → t < n → s ≢ t → column s t ≤ n - 1
column_within n s t s_within t_within two = elim (cases_lt s t) [
  | inl above ↦ omega (arith, column_above s t above, t_within)
  | inr not_above ↦ omega (arith, column_below s t (omega (arith, not_above, two)), s_within, not_above, two)
]

pub place_is : (c : Certificate) (s t : ℕ) → s < length c.nodes → t < length c.nodes → s ≢ t
    → place_of_near c s t + one_if (nat_lt s t) ≡ kin_before (kin_of c.nodes) s + kin_below (kin_of c.nodes) s t
place_is c s t s_within t_within two =
    let n = length c.nodes in
    let zeros : 0 + s ≡ s = omega arith in
    let front : take (place_of_row n s t) (related_pairs c) ≡ flat_map (related_to c) (range_with_len 0 s) ++ take (column s t) (related_to c s) =
    flat_front (related_to c) (n - 1) 0 n s (column s t) (λ x from below. related_length c x (omega (arith, below))) s_within (column_within n s t s_within t_within two)
    ∙ ap (λ (x : ℕ). flat_map (related_to c) (range_with_len 0 s) ++ take (column s t) (related_to c x)) zeros in
    let parts : place_of_near c s t ≡ set_marks (flat_map (related_to c) (range_with_len 0 s)) + set_marks (take (column s t) (related_to c s)) =
    ap set_marks front ∙ set_both (flat_map (related_to c) (range_with_len 0 s)) (take (column s t) (related_to c s)) in
    omega (arith, parts, marks_before c s t s_within t_within two, count_before c s (omega (arith, s_within)), count_related c s t s_within (omega (arith, t_within)))
  where
    set_both : (xs ys : List Bool) → set_marks (xs ++ ys) ≡ set_marks xs + set_marks ys
    set_both xs ys =
        let mark : Bool → Bool = λ mark. mark in
        length_is_tally mark (xs ++ ys) ∙ tally_append mark xs ys ∙ omega (arith, length_is_tally mark xs, length_is_tally mark ys)

-- ---- the head in another block

pub count_upper_none : (heads : List ℕ) (s t : ℕ) → t ≤ length heads → IsUpper heads s None → count_below (is_upper heads s) t ≡ 0
count_upper_none heads s t within none = count_none (is_upper heads s) t (λ v below. none v (omega (arith, below, within)))

pub count_upper_some : (heads : List ℕ) (s t head : ℕ) → t ≤ length heads → IsUpper heads s (Some head) → count_below (is_upper heads s) t ≡ one_if (nat_lt head t)
count_upper_some heads s t head within some =
    count_alike (is_upper heads s) (λ v. v == head) t (λ v below. some.1 v (omega (arith, below, within))) ∙ count_one head t

-- ---- keys

pub blocks_are_keys : (nodes : List CertNode) → length nodes ≤ 65535 → AllByRecursion (IsCertNode (length nodes)) nodes → AreKeys (kin_of nodes).blocks
blocks_are_keys nodes few kept = record {
  few = omega (arith, few, blocks_count nodes);
  small = λ v k is.
      let within : v < length nodes = omega (arith, slice_get_within (kin_of nodes).blocks v k is, blocks_count nodes) in
      let node = there nodes v within in
      let key : k ≡ node.0.block = same_Some k node.0.block (sym is ∙ slice_get-map (λ (x : CertNode). x.block) nodes v ∙ ap (option_map (λ (x : CertNode). x.block)) node.1) in
      let keeps = all_at (IsCertNode (length nodes)) nodes v node.0 kept node.1 in
      omega (arith, key, keeps.block, blocks_count nodes);
}

pub heads_are_keys : (nodes : List CertNode) → length nodes ≤ 65535 → AllByRecursion (IsCertNode (length nodes)) nodes → AreKeys (kin_of nodes).heads
heads_are_keys nodes few kept = record {
  few = omega (arith, few, heads_count nodes);
  small = λ v k is.
      let within : v < length nodes = omega (arith, slice_get_within (kin_of nodes).heads v k is, heads_count nodes) in
      let node = there nodes v within in
      let key : k ≡ outer_head nodes node.0 = same_Some k (outer_head nodes node.0) (sym is ∙ slice_get-map (outer_head nodes) nodes v ∙ ap (option_map (outer_head nodes)) node.1) in
      let keeps = all_at (IsCertNode (length nodes)) nodes v node.0 kept node.1 in
      elim (outer_cases nodes node.0) [
        | inl inside ↦ omega (arith, key, inside.1, heads_count nodes)
        | inr outside ↦ omega (arith, key, outside.1, keeps.head, heads_count nodes)
      ];
}

-- ---- whether two nodes are related

pub record Told (c : Certificate) (s t own other up down : ℕ) : Type 0 where
  pub one_block : own ≡ other → true ≡ not (are_unrelated c s t)
  pub to_head : up ≡ t → true ≡ not (are_unrelated c s t)
  pub from_head : own ≢ other → up ≢ t → (down == s) ≡ not (are_unrelated c s t)

pub told : (c : Certificate) (kin : Kin) (s t own other up down : ℕ) → kin_of c.nodes ≡ kin → s < length kin.blocks → t < length kin.blocks
    → slice_get kin.blocks s ≡ Some own → slice_get kin.blocks t ≡ Some other → slice_get kin.heads s ≡ Some up → slice_get kin.heads t ≡ Some down
    → Told c s t own other up down
told c kin s t own other up down same s_in t_in own_is other_is up_is down_is = record {
  one_block = λ e. is_one (not (are_unrelated c s t)) (omega (arith, parts, member, ap one_if (eq-eqb other own (sym e))));
  to_head = λ e. is_one (not (are_unrelated c s t)) (omega (arith, parts, upper, child, either (up == t) (down == s) (eq-eqb up t e)));
  from_head = λ two apart. sym (equal (not (are_unrelated c s t)) (down == s)
      (omega (arith, parts, member, upper, child, ap one_if (ne_eqb other own (λ e. two (sym e))), neither (up == t) (down == s) (ne_eqb up t apart))));
}
  where
    parts : one_if (not (are_unrelated c s t)) ≡ one_if (is_member kin.blocks s t) + (one_if (is_upper kin.heads s t) + one_if (is_child kin.heads s t))
    parts =
        subst (λ (k : Kin). one_if (not (are_unrelated c s t)) ≡ one_if (is_member k.blocks s t) + (one_if (is_upper k.heads s t) + one_if (is_child k.heads s t))) same
        (related_parts c s t (omega (arith, s_in, ap (λ (k : Kin). length k.blocks) same, blocks_count c.nodes)) (omega (arith, t_in, ap (λ (k : Kin). length k.blocks) same, blocks_count c.nodes)))

    member : one_if (is_member kin.blocks s t) ≡ one_if (other == own)
    member = ap (λ (k : ℕ). one_if (are_equal (slice_get kin.blocks t) (Some k))) (get_or_from_slice_get kin.blocks s own 0 own_is)
        ∙ ap (λ (o : Option ℕ). one_if (are_equal o (Some own))) other_is

    child : one_if (is_child kin.heads s t) ≡ one_if (down == s)
    child = ap (λ (o : Option ℕ). one_if (are_equal o (Some s))) down_is

    upper : one_if (is_upper kin.heads s t) ≡ one_if ((up == t) && not (down == s))
    upper = ap (λ (o : Option ℕ). one_if (are_equal o (Some t) && not (is_child kin.heads s t))) up_is
        ∙ ap (λ (o : Option ℕ). one_if ((up == t) && not (are_equal o (Some s)))) down_is

    is_one : (b : Bool) → 1 ≤ one_if b → true ≡ b
    is_one true some = refl
    is_one false some = absurd (omega (arith, some))

    either : (a b : Bool) → a ≡ true → one_if (a && not b) + one_if b ≡ 1
    either a true holds = rw holds refl
    either a false holds = rw holds refl

    neither : (a b : Bool) → a ≡ false → one_if (a && not b) ≡ 0
    neither a b fails = rw fails refl

    equal : (a b : Bool) → one_if a ≡ one_if b → a ≡ b
    equal true true e = refl
    equal true false e = absurd (omega (arith, e))
    equal false true e = absurd (omega (arith, e))
    equal false false e = refl

-- a node lies in its own block
pub itself_counted : (blocks : List ℕ) (s t : ℕ) → s < t → t ≤ length blocks → 1 ≤ count_below (is_member blocks s) t
itself_counted blocks s t below within =
    let own : is_member blocks s s ≡ true = has_own blocks s (get_or blocks s 0) (slice_get-get_or blocks s 0 (omega (arith, below, within))) in
    let here = count_here (is_member blocks s) s own in
    let up = count_grows (is_member blocks s) (s + 1) t (omega (arith, below)) in
    omega (arith, here, up)

-- ---- the index

pub begin_at : (kin : Kin) (begins : List ℕ) (s x : ℕ) → AreStarts kin begins → s ≤ length kin.blocks → x ≡ get_or begins s x → x ≡ kin_before kin s
begin_at kin begins s x are within is = is ∙ get_or_from_slice_get begins s _ x (are.each s within)

pub place_tells : (c : Certificate) (kin : Kin) (begin rank itself s t : ℕ) → kin_of c.nodes ≡ kin → s < length kin.blocks → t < length kin.blocks → s ≢ t
    → begin ≡ kin_before kin s → rank ≡ kin_below kin s t → itself ≡ one_if (nat_lt s t) → begin + rank - itself ≡ place_of_near c s t
place_tells c kin begin rank itself s t same s_in t_in two begin_is rank_is itself_is =
    let place = place_is c s t (omega (arith, s_in, ap (λ (k : Kin). length k.blocks) same, blocks_count c.nodes)) (omega (arith, t_in, ap (λ (k : Kin). length k.blocks) same, blocks_count c.nodes)) two in
    omega (arith, place, begin_is, rank_is, itself_is, ap (λ (k : Kin). kin_before k s) same, ap (λ (k : Kin). kin_below k s t) same)

pub count_tells : (c : Certificate) (kin : Kin) (count : ℕ) → kin_of c.nodes ≡ kin → count ≡ kin_before kin (length kin.blocks) → count ≡ set_marks (related_pairs c)
count_tells c kin count same is = is ∙ sym (ap (λ (k : Kin). kin_before k (length k.blocks)) same) ∙ count_all c

-- one source more
pub kin_more : (kin : Kin) (s : ℕ) → kin_before kin (s + 1) ≡ kin_before kin s + (kin_below kin s (length kin.blocks) - 1)
kin_more kin s = let same : s + 1 ≡ suc s = omega arith in ap (kin_before kin) same

-- no number of them is beyond 32 bits
pub few_pairs : (nodes : List CertNode) (s : ℕ) → length nodes ≤ 65535 → s ≤ length nodes → kin_before (kin_of nodes) s ≤ 65535 * 65535
few_pairs nodes s few within =
    let bound = few_before (record { nodes = nodes; links = []; rows = [] }) s within in
    let narrow : s * (length nodes - 1) ≤ 65535 * (length nodes - 1) = mul-le-mul_right (length nodes - 1) (omega (arith, few, within)) in
    let wide : 65535 * (length nodes - 1) ≤ 65535 * 65535 = omega (arith, few) in
    omega (arith, bound, narrow, wide)

pub itself_there : (blocks : List ℕ) (s : ℕ) → s < length blocks → 1 ≤ count_below (is_member blocks s) (length blocks)
itself_there blocks s within = itself_counted blocks s (length blocks) within (omega arith)

pub itself_below : (kin : Kin) (s t rank : ℕ) → t < length kin.blocks → rank ≡ kin_below kin s t → one_if (nat_lt s t) ≤ rank
itself_below kin s t rank within is = elim (cases_lt s t) [
  | inl below ↦ omega (arith, is, itself_counted kin.blocks s t below (omega (arith, within)), ap one_if (lt-ltb s t below))
  | inr not_below ↦ omega (arith, ap one_if (le-ltb s t not_below))
]

pub few_below : (kin : Kin) (s t : ℕ) → kin_below kin s t ≤ 3 * t
few_below kin s t = omega (arith, few_passes (is_member kin.blocks s) t, few_passes (is_upper kin.heads s) t, few_passes (is_child kin.heads s) t)

pub sum_more : (nodes : List CertNode) (blocks heads : List ℕ) (s sum others : ℕ) → blocks ≡ (kin_of nodes).blocks → heads ≡ (kin_of nodes).heads
    → sum ≡ kin_before (kin_of nodes) s → others ≡ kin_below (record { blocks = blocks; heads = heads }) s (length blocks) - 1
    → sum + others ≡ kin_before (kin_of nodes) (s + 1)
sum_more nodes blocks heads s sum others blocks_is heads_is sum_is others_is =
    let same : ◌≡◌ {A = Kin} (record { blocks = blocks; heads = heads }) (kin_of nodes) = λ i. record { blocks = blocks_is i; heads = heads_is i } in
    omega (arith, kin_more (kin_of nodes) s, sum_is, others_is, ap (λ (k : Kin). kin_below k s (length k.blocks)) same)

-- a list of a function's values, and one more
pub pushed_all : (f : ℕ → ℕ) (xs : List ℕ) (n y : ℕ) → length xs ≡ n → y ≡ f n → ((k : ℕ) → k < n → slice_get xs k ≡ Some (f k))
    → (k : ℕ) → k < n + 1 → slice_get (xs ++ y ∷ []) k ≡ Some (f k)
pushed_all f xs n y many is each k within = elim (cases_eq k n) [
  | inl same ↦
      ap (slice_get (xs ++ y ∷ [])) (same ∙ sym many) ∙ at_last xs y ∙ ap (λ (x : ℕ). Some x) (is ∙ ap f (sym same))
  | inr other ↦ at_left xs (y ∷ []) k (f k) (each k (omega (arith, within, other)))
]

-- ---- the nodes that are related to one

-- they are members of its block, its head in another block, or its children there
pub listed : (c : Certificate) (kin : Kin) (s t : ℕ) → kin_of c.nodes ≡ kin → s < length c.nodes → t < length c.nodes → are_unrelated c s t ≡ false
    → Contains (with_key kin.blocks (get_or kin.blocks s 0)) t ⊎ ((is_upper kin.heads s t ≡ true) ⊎ Contains (with_key kin.heads s) t)
listed c kin s t same s_within t_within related =
    subst (λ (k : Kin). Contains (with_key k.blocks (get_or k.blocks s 0)) t ⊎ ((is_upper k.heads s t ≡ true) ⊎ Contains (with_key k.heads s) t)) same
    (go (is_member (kin_of c.nodes).blocks s t) (is_upper (kin_of c.nodes).heads s t) (is_child (kin_of c.nodes).heads s t) refl refl refl)
  where
    some : 1 ≤ one_if (is_member (kin_of c.nodes).blocks s t) + (one_if (is_upper (kin_of c.nodes).heads s t) + one_if (is_child (kin_of c.nodes).heads s t))
    some = omega (arith, related_parts c s t s_within t_within, ap (λ (b : Bool). one_if (not b)) related)

    go : (m u d : Bool) → is_member (kin_of c.nodes).blocks s t ≡ m → is_upper (kin_of c.nodes).heads s t ≡ u → is_child (kin_of c.nodes).heads s t ≡ d
        → Contains (with_key (kin_of c.nodes).blocks (get_or (kin_of c.nodes).blocks s 0)) t ⊎ ((is_upper (kin_of c.nodes).heads s t ≡ true) ⊎ Contains (with_key (kin_of c.nodes).heads s) t)
    go true u d m_is u_is d_is = inl (passing_there (is_member (kin_of c.nodes).blocks s) (length (kin_of c.nodes).blocks) t (omega (arith, t_within, blocks_count c.nodes)) m_is)
    go false true d m_is u_is d_is = inr (inl u_is)
    go false false true m_is u_is d_is = inr (inr (passing_there (is_child (kin_of c.nodes).heads s) (length (kin_of c.nodes).heads) t (omega (arith, t_within, heads_count c.nodes)) d_is))
    go false false false m_is u_is d_is = absurd (omega (arith, some, ap one_if m_is, ap one_if u_is, ap one_if d_is))
