-- Of each pair of nodes whether it is related, at the place of its row.
use Rattle.std.proofs.Common.{◌≡◌, ◌≢◌, ◌∙◌, ◌<◌, ◌≤◌, ◌+◌, ◌-◌, ◌*◌, ◌==◌, ◌&&◌, ℕ, zero, suc, Bool, true, not, List, [], ◌∷◌, ◌++◌, Option, Some, None, filter, length, map, slice_get, inl, inr, refl, sym, ap, arith, length-append}
use Rattle.std.specs.List.{flat_map, range_with_len}
use Rattle.std.proofs.lemmas.Bool.{cases_lt, ne_eqb, eq-eqb}
use Rattle.std.proofs.lemmas.List.FromFn.{length-range_with_len}
use Rattle.std.proofs.lemmas.Option.{slice_get-map}
use Rattle.std.proofs.lemmas.List.{append-nil}
use Rattle.std.proofs.lemmas.List.Concat.{flat_map-append}
use Rattle.mrt_graph.specs.declared.cert.CertNode.{CertNode}
use Rattle.mrt_graph.specs.BothThere.{are_different}
use Rattle.mrt_graph.specs.Certificate.{Certificate}
use Rattle.mrt_graph.specs.Related.{are_unrelated}
use Rattle.mrt_graph.specs.RowPlace.{place_of_row}
use Rattle.mrt_graph.proofs.ListPlaces.{at_left}
use Rattle.mrt_graph.proofs.RowPlaces.{column_above, column_below}
use Rattle.mrt_graph.proofs.Tallies.{length_is_tally, one_if, tally, tally_append, tally_map}
use Rattle.mrt_graph.specs.RelatedPairs.{related_pairs, related_to, set_marks}
use Rattle.std.proofs.lemmas.List.Elements.{filter-append}
use Rattle.std.specs.Option.{option_map}
use Rattle.std.specs.Prelude.{nat_lt, if◌then◌else◌}
use Rattle.std.proofs.lemmas.List.Sums.{count_by-le-length, length-filter}
use Rattle.std.proofs.lemmas.List.{length-map}

pub range_at : (a n k : ℕ) → k < n → slice_get (range_with_len a n) k ≡ Some (a + k)
range_at a zero k within = absurd (omega (arith, within))
range_at a (suc n) zero within = let same : a ≡ a + 0 = omega arith in ap (λ (x : ℕ). Some x) same
range_at a (suc n) (suc k) within =
    let same : a + 1 + k ≡ a + suc k = omega arith in
    range_at (a + 1) n k (omega (arith, within)) ∙ ap (λ (x : ℕ). Some x) same

pub range_parts : (a i j : ℕ) → range_with_len a (i + j) ≡ range_with_len a i ++ range_with_len (a + i) j
range_parts a zero j =
    let none : 0 + j ≡ j = omega arith in
    let same : a ≡ a + 0 = omega arith in
    ap (λ (n : ℕ). range_with_len a n) none ∙ ap (λ (x : ℕ). range_with_len x j) same
range_parts a (suc i) j =
    let more : suc i + j ≡ suc (i + j) = omega arith in
    let same : a + 1 + i ≡ a + suc i = omega arith in
    ap (λ (n : ℕ). range_with_len a n) more
    ∙ ap (λ (xs : List ℕ). a ∷ xs) (range_parts (a + 1) i j ∙ ap (λ (x : ℕ). range_with_len (a + 1) i ++ range_with_len x j) same)

-- all of them are other ones
pass_all : (s a k : ℕ) → ((t : ℕ) → a ≤ t → t < a + k → t ≢ s) → filter (λ t. not (t == s)) (range_with_len a k) ≡ range_with_len a k
pass_all s a zero other = refl
pass_all s a (suc k) other =
    rw (ne_eqb a s (other a (omega arith) (omega arith)))
    (ap (λ (xs : List ℕ). a ∷ xs) (pass_all s (a + 1) k (λ t from below. other t (omega (arith, from)) (omega (arith, below)))))

filter_two : (p : ℕ → Bool) (xs ys : List ℕ) → filter p (xs ++ ys) ≡ filter p xs ++ filter p ys
filter_two p xs ys = filter-append p xs ys

-- the numbers below s, and those above it
pub others_are : (n s : ℕ) → s < n → filter (λ t. not (t == s)) (range_with_len 0 n) ≡ range_with_len 0 s ++ range_with_len (s + 1) (n - s - 1)
others_are n s within =
    let all : n ≡ s + suc (n - s - 1) = omega (arith, within) in
    let test : ℕ → Bool = λ t. not (t == s) in
    let zeros : 0 + s ≡ s = omega arith in
    let here : filter test (s ∷ range_with_len (s + 1) (n - s - 1)) ≡ range_with_len (s + 1) (n - s - 1) =
    rw (eq-eqb s s refl) (pass_all s (s + 1) (n - s - 1) (λ t from below same. omega (arith, from, same))) in
    ap (λ (k : ℕ). filter test (range_with_len 0 k)) all
    ∙ ap (filter test) (range_parts 0 s (suc (n - s - 1)) ∙ ap (λ (x : ℕ). range_with_len 0 s ++ range_with_len x (suc (n - s - 1))) zeros)
    ∙ filter_two test (range_with_len 0 s) (range_with_len s (suc (n - s - 1)))
    ∙ ap (λ (xs : List ℕ). xs ++ filter test (range_with_len s (suc (n - s - 1)))) (pass_all s 0 s (λ t from below same. omega (arith, below, same)))
    ∙ ap (λ (xs : List ℕ). range_with_len 0 s ++ xs) here

pub at_right : {X : Type 0} (xs ys : List X) (k : ℕ) → slice_get (xs ++ ys) (length xs + k) ≡ slice_get ys k
at_right [] ys k = let same : 0 + k ≡ k = omega arith in ap (slice_get ys) same
at_right (x ∷ xs) ys k =
    let more : suc (length xs) + k ≡ suc (length xs + k) = omega arith in
    ap (slice_get ((x ∷ xs) ++ ys)) more ∙ at_right xs ys k

-- the other ones, by their columns
pub others_at : (n s t : ℕ) → s < n → t < n → s ≢ t → slice_get (filter (λ x. not (x == s)) (range_with_len 0 n)) (if nat_lt t s then t else t - 1) ≡ Some t
others_at n s t s_within t_within two =
    ap (λ (xs : List ℕ). slice_get xs (if nat_lt t s then t else t - 1)) (others_are n s s_within) ∙ elim (cases_lt t s) [
      | inl below ↦
          let zeros : 0 + t ≡ t = omega arith in
          ap (slice_get (range_with_len 0 s ++ range_with_len (s + 1) (n - s - 1))) (column_below s t below)
          ∙ at_left (range_with_len 0 s) (range_with_len (s + 1) (n - s - 1)) t t (range_at 0 s t below ∙ ap (λ (x : ℕ). Some x) zeros)
      | inr above ↦
          let more : s < t = omega (arith, above, two) in
          let place : t - 1 ≡ length (range_with_len 0 s) + (t - s - 1) = omega (arith, more, length-range_with_len 0 s) in
          let same : s + 1 + (t - s - 1) ≡ t = omega (arith, more) in
          ap (slice_get (range_with_len 0 s ++ range_with_len (s + 1) (n - s - 1))) (column_above s t more ∙ place)
          ∙ at_right (range_with_len 0 s) (range_with_len (s + 1) (n - s - 1)) (t - s - 1)
          ∙ range_at (s + 1) (n - s - 1) (t - s - 1) (omega (arith, more, t_within)) ∙ ap (λ (x : ℕ). Some x) same
    ]

-- lists of one length, one after another
pub flat_length : {X : Type 0} (g : ℕ → List X) (m a k : ℕ) → ((x : ℕ) → a ≤ x → x < a + k → length (g x) ≡ m) → length (flat_map g (range_with_len a k)) ≡ k * m
flat_length g m a zero one = omega arith
flat_length g m a (suc k) one =
    let first = one a (omega arith) (omega arith) in
    let rest = flat_length g m (a + 1) k (λ x from below. one x (omega (arith, from)) (omega (arith, below))) in
    let both = length-append (g a) (flat_map g (range_with_len (a + 1) k)) in
    let product : suc k * m ≡ m + k * m = grind arith in
    omega (arith, first, rest, both, product)

pub flat_at : {X : Type 0} (g : ℕ → List X) (m a k i c : ℕ) (x : X) → ((y : ℕ) → a ≤ y → y < a + k → length (g y) ≡ m) → i < k
    → slice_get (g (a + i)) c ≡ Some x → slice_get (flat_map g (range_with_len a k)) (i * m + c) ≡ Some x
flat_at g m a zero i c x one i_within is = absurd (omega (arith, i_within))
flat_at g m a (suc k) zero c x one i_within is =
    let place : 0 * m + c ≡ c = omega arith in
    let same : a + 0 ≡ a = omega arith in
    ap (slice_get (flat_map g (range_with_len a (suc k)))) place
    ∙ at_left (g a) (flat_map g (range_with_len (a + 1) k)) c x (ap (λ (y : ℕ). slice_get (g y) c) (sym same) ∙ is)
flat_at g m a (suc k) (suc i) c x one i_within is =
    let first = one a (omega arith) (omega arith) in
    let product : suc i * m + c ≡ m + (i * m + c) = grind arith in
    let place : suc i * m + c ≡ length (g a) + (i * m + c) = omega (arith, product, first) in
    let same : a + suc i ≡ a + 1 + i = omega arith in
    ap (slice_get (flat_map g (range_with_len a (suc k)))) place
    ∙ at_right (g a) (flat_map g (range_with_len (a + 1) k)) (i * m + c)
    ∙ flat_at g m (a + 1) k i c x (λ y from below. one y (omega (arith, from)) (omega (arith, below))) (omega (arith, i_within))
    (ap (λ (y : ℕ). slice_get (g y) c) (sym same) ∙ is)

pub related_length : (c : Certificate) (s : ℕ) → s < length c.nodes → length (related_to c s) ≡ length c.nodes - 1
related_length c s within =
    let n = length c.nodes in
    let lists : length (filter (λ t. not (t == s)) (range_with_len 0 n)) ≡ n - 1 =
    ap length (others_are n s within) ∙ omega (arith, within, length-append (range_with_len 0 s) (range_with_len (s + 1) (n - s - 1)), length-range_with_len 0 s, length-range_with_len (s + 1) (n - s - 1)) in
    length-map (filter (λ t. not (t == s)) (range_with_len 0 n)) (λ t. not (are_unrelated c s t)) ∙ lists

-- as many as rows
pub pairs_length : (c : Certificate) → length (related_pairs c) ≡ length c.nodes * (length c.nodes - 1)
pairs_length c = flat_length (related_to c) (length c.nodes - 1) 0 (length c.nodes) (λ s from below. related_length c s (omega (arith, below)))

-- each stands at the place of the row
pub related_at : (c : Certificate) (n s t : ℕ) → length c.nodes ≡ n → s < n → t < n → s ≢ t
    → slice_get (related_pairs c) (place_of_row n s t) ≡ Some (not (are_unrelated c s t))
related_at c n s t count s_within t_within two =
    let s_in : s < length c.nodes = omega (arith, s_within, count) in
    let t_in : t < length c.nodes = omega (arith, t_within, count) in
    let zeros : 0 + s ≡ s = omega arith in
    let test : ℕ → Bool = λ x. not (are_unrelated c s x) in
    let column = if nat_lt t s then t else t - 1 in
    let one : slice_get (related_to c s) column ≡ Some (not (are_unrelated c s t)) =
    slice_get-map test (filter (λ x. not (x == s)) (range_with_len 0 (length c.nodes))) column
    ∙ ap (option_map test) (others_at (length c.nodes) s t s_in t_in two) in
    ap (λ (k : ℕ). slice_get (related_pairs c) (s * (k - 1) + column)) (sym count)
    ∙ flat_at (related_to c) (length c.nodes - 1) 0 (length c.nodes) s column (not (are_unrelated c s t))
    (λ x from below. related_length c x (omega (arith, below))) s_in (ap (λ (x : ℕ). slice_get (related_to c x) column) zeros ∙ one)

-- at most as many rows as pairs
pub few_set : (marks : List Bool) → set_marks marks ≤ length marks
few_set marks = omega (arith, length-filter (λ (mark : Bool). mark) marks, count_by-le-length (λ (mark : Bool). mark) marks)

-- a node is related to itself
pub related_self : (c : Certificate) (s : ℕ) → not (are_unrelated c s s) ≡ true
related_self c s = go (slice_get c.nodes s)
  where
    go : (o : Option CertNode) → not (are_different (option_map (λ node. node.block) o) (option_map (λ node. node.block) o)
        && (are_different (option_map (λ node. node.head) o) (Some s) && are_different (option_map (λ node. node.head) o) (Some s))) ≡ true
    go None = refl
    go (Some node) = rw (eq-eqb node.block node.block refl) refl

pub marks_tally : (test : ℕ → Bool) (ts : List ℕ) → set_marks (map test ts) ≡ tally test ts
marks_tally test ts = length_is_tally (λ (mark : Bool). mark) (map test ts) ∙ tally_map (λ (mark : Bool). mark) test ts

-- so many nodes are related to one, itself among them
pub related_count : (c : Certificate) (s : ℕ) → s < length c.nodes
    → length (filter (λ t. not (are_unrelated c s t)) (range_with_len 0 (length c.nodes))) ≡ set_marks (related_to c s) + 1
related_count c s within =
    let n = length c.nodes in
    let test : ℕ → Bool = λ t. not (are_unrelated c s t) in
    let below = range_with_len 0 s in
    let above = range_with_len (s + 1) (n - s - 1) in
    let all : n ≡ s + suc (n - s - 1) = omega (arith, within) in
    let zeros : 0 + s ≡ s = omega arith in
    let lists : range_with_len 0 n ≡ below ++ (s ∷ above) =
    ap (λ (k : ℕ). range_with_len 0 k) all ∙ range_parts 0 s (suc (n - s - 1)) ∙ ap (λ (x : ℕ). below ++ range_with_len x (suc (n - s - 1))) zeros in
    let here : one_if (test s) ≡ 1 = ap one_if (related_self c s) in
    let whole : length (filter test (range_with_len 0 n)) ≡ tally test below + (1 + tally test above) =
    length_is_tally test (range_with_len 0 n) ∙ ap (tally test) lists ∙ tally_append test below (s ∷ above) ∙ ap (λ (x : ℕ). tally test below + (x + tally test above)) here in
    let marked : set_marks (related_to c s) ≡ tally test below + tally test above =
    marks_tally test (filter (λ t. not (t == s)) (range_with_len 0 n)) ∙ ap (tally test) (others_are n s within) ∙ tally_append test below above in
    omega (arith, whole, marked)

-- one node more
pub counted_more : (c : Certificate) (s : ℕ) → set_marks (flat_map (related_to c) (range_with_len 0 (s + 1)))
    ≡ set_marks (flat_map (related_to c) (range_with_len 0 s)) + set_marks (related_to c s)
counted_more c s =
    let zeros : 0 + s ≡ s = omega arith in
    let mark : Bool → Bool = λ mark. mark in
    let before = flat_map (related_to c) (range_with_len 0 s) in
    let lists : flat_map (related_to c) (range_with_len 0 (s + 1)) ≡ before ++ related_to c s =
    ap (flat_map (related_to c)) (range_parts 0 s 1 ∙ ap (λ (x : ℕ). range_with_len 0 s ++ range_with_len x 1) zeros)
    ∙ flat_map-append (related_to c) (range_with_len 0 s) (s ∷ []) ∙ ap (λ (xs : List Bool). before ++ xs) (append-nil (related_to c s)) in
    length_is_tally mark (flat_map (related_to c) (range_with_len 0 (s + 1))) ∙ ap (tally mark) lists ∙ tally_append mark before (related_to c s)
    ∙ omega (arith, length_is_tally mark before, length_is_tally mark (related_to c s))

pub range_more : (t : ℕ) → range_with_len 0 (t + 1) ≡ range_with_len 0 t ++ t ∷ []
range_more t = let zeros : 0 + t ≡ t = omega arith in range_parts 0 t 1 ∙ ap (λ (x : ℕ). range_with_len 0 t ++ range_with_len x 1) zeros

pub few_passes : (test : ℕ → Bool) (n : ℕ) → length (filter test (range_with_len 0 n)) ≤ n
few_passes test n = omega (arith, length-filter test (range_with_len 0 n), count_by-le-length test (range_with_len 0 n), length-range_with_len 0 n)
