-- What is said of each node and each other one, in the order of their rows.
use Rattle.std.proofs.Common.{◌≡◌, ◌≢◌, ◌∙◌, ◌<◌, ◌+◌, ◌-◌, ◌*◌, ◌==◌, ℕ, not, Some, filter, length, map, slice_get, nat_lt, sym, ap, subst, arith, length-append, if◌then◌else◌}
use Rattle.std.specs.List.{AllByRecursion, range_with_len}
use Rattle.std.specs.Option.{option_map}
use Rattle.std.proofs.lemmas.List.{length-map}
use Rattle.std.proofs.lemmas.List.FromFn.{length-range_with_len}
use Rattle.std.proofs.lemmas.List.Elements.{recursion_from_All}
use Rattle.std.proofs.lemmas.Option.{get_or_from_slice_get, slice_get-map}
use Rattle.mrt_graph.specs.steps.RelatedPairs.{by_pairs}
use Rattle.mrt_graph.specs.RowPlace.{place_of_row}
use Rattle.mrt_graph.proofs.Pairs.{flat_at, flat_length, others_are, others_at}
use Rattle.mrt_graph.proofs.RowPlaces.{placed}

others_length : {X : Type 0} (f : ℕ → ℕ → X) (n s : ℕ) → s < n → length (map (f s) (filter (λ t. not (t == s)) (range_with_len 0 n))) ≡ n - 1
others_length f n s within =
    let lists : length (filter (λ t. not (t == s)) (range_with_len 0 n)) ≡ n - 1 =
    ap length (others_are n s within) ∙ omega (arith, within, length-append (range_with_len 0 s) (range_with_len (s + 1) (n - s - 1)), length-range_with_len 0 s, length-range_with_len (s + 1) (n - s - 1)) in
    length-map (filter (λ t. not (t == s)) (range_with_len 0 n)) (f s) ∙ lists

pub all_pairs_length : {X : Type 0} (f : ℕ → ℕ → X) (n : ℕ) → length (by_pairs f n) ≡ n * (n - 1)
all_pairs_length f n =
    flat_length (λ s. map (f s) (filter (λ t. not (t == s)) (range_with_len 0 n))) (n - 1) 0 n (λ s from below. others_length f n s (omega (arith, below)))

-- each stands at the place of the row
pub pair_at : {X : Type 0} (f : ℕ → ℕ → X) (n s t : ℕ) → s < n → t < n → s ≢ t → slice_get (by_pairs f n) (place_of_row n s t) ≡ Some (f s t)
pair_at f n s t s_within t_within two =
    let zeros : 0 + s ≡ s = omega arith in
    let column = if nat_lt t s then t else t - 1 in
    let one : slice_get (map (f s) (filter (λ x. not (x == s)) (range_with_len 0 n))) column ≡ Some (f s t) =
    slice_get-map (f s) (filter (λ x. not (x == s)) (range_with_len 0 n)) column ∙ ap (option_map (f s)) (others_at n s t s_within t_within two) in
    flat_at (λ x. map (f x) (filter (λ y. not (y == x)) (range_with_len 0 n))) (n - 1) 0 n s column (f s t)
    (λ x from below. others_length f n x (omega (arith, below))) s_within
    (ap (λ (x : ℕ). slice_get (map (f x) (filter (λ y. not (y == x)) (range_with_len 0 n))) column) zeros ∙ one)

-- what holds of each of them
pub all_pairs : {X : Type 0} (P : X → Type 0) (f : ℕ → ℕ → X) (n : ℕ) → ((s t : ℕ) → s < n → t < n → s ≢ t → P (f s t)) → AllByRecursion P (by_pairs f n)
all_pairs P f n each = recursion_from_All P (by_pairs f n) (λ k d within.
    let at = placed n k (omega (arith, within, all_pairs_length f n)) in
    let is = sym (ap (slice_get (by_pairs f n)) at.place) ∙ pair_at f n at.source at.target at.source_within at.target_within at.two in
    subst P (sym (get_or_from_slice_get (by_pairs f n) k (f at.source at.target) d is)) (each at.source at.target at.source_within at.target_within at.two))
