-- What holds of each link of a network that is made.
use Rattle.std.proofs.Common.{◌≡◌, ◌≢◌, ◌≤◌, ◌<◌, ◌∙◌, ◌+◌, ◌-◌, ◌*◌, ◌%◌, ◌++◌, ℕ, zero, suc, length, map, ap, inl, inr, arith}
use Rattle.std.specs.List.{AllByRecursion, range_with_len}
use Rattle.std.proofs.lemmas.Bool.{cases_order}
use Rattle.std.proofs.lemmas.Nat.{mod_below, mod-mul-add}
use Rattle.std.proofs.lemmas.List.{length-append}
use Rattle.std.proofs.lemmas.List.FromFn.{length-map-range_with_len}
use Rattle.mrt_graph.proofs.Members.{all_append, all_map}
use Rattle.mrt_survey.specs.declared.made_link.MadeLink.{MadeLink}
use Rattle.mrt_survey.specs.MadeLinks.{chord_count, chord_link, drawn_from, made_link, made_links, ring_count, ring_link, spur_count, spur_link}

-- a remainder of a number below twice the divisor
pub mod_small : (n m : ℕ) → n < m → n % m ≡ n
mod_small n m below = let e : n ≡ 0 * m + n = omega arith in ap (λ (k : ℕ). k % m) e ∙ mod-mul-add 0 m n below

mod_past : (n m : ℕ) → m ≤ n → n < 2 * m → n % m ≡ n - m
mod_past n m least most =
    let e : n ≡ 1 * m + (n - m) = omega (arith, least) in
    ap (λ (k : ℕ). k % m) e ∙ mod-mul-add 1 m (n - m) (omega (arith, least, most))

-- of so many on a ring, so far on from a place is another place
ring_on : (ring i far : ℕ) → i < ring → 0 < far → far < ring → i ≢ (i + far) % ring
ring_on ring i far within some short same = elim (cases_order ring (i + far)) [
  | inl equal ↦ passed (omega (arith, equal))
  | inr apart ↦ elim apart [
    | inl past ↦ passed (omega (arith, past))
    | inr before ↦ let e = same ∙ mod_small (i + far) ring before in omega (arith, e, some)
  ]
]
  where
    passed : ring ≤ i + far → ⊥
    passed past = let e = same ∙ mod_past (i + far) ring past (omega (arith, within, short)) in omega (arith, e, past, short)

-- it joins two different routers of the first so many, with metrics from 1 to 64
pub record IsMadeLink (nodes : ℕ) (link : MadeLink) : Type 0 where
  pub first_some : 1 ≤ link.first
  pub first_most : link.first ≤ nodes
  pub second_some : 1 ≤ link.second
  pub second_most : link.second ≤ nodes
  pub different : link.first ≢ link.second
  pub first_metric_some : 1 ≤ link.first_metric
  pub first_metric_most : link.first_metric ≤ 64
  pub second_metric_some : 1 ≤ link.second_metric
  pub second_metric_most : link.second_metric ≤ 64

pub all_range : (P : ℕ → Type 0) (a n : ℕ) → ((i : ℕ) → a ≤ i → i < a + n → P i) → AllByRecursion P (range_with_len a n)
all_range P a zero each = tt
all_range P a (suc n) each = (
  each a (omega arith) (omega arith),
  all_range P (a + 1) n (λ i least most. each i (omega (arith, least)) (omega (arith, most))),
)

module _ (nodes : ℕ) (some : 4 ≤ nodes) where
  abbrev ring : ℕ
  ring = ring_count nodes

  link_kept : (first second : ℕ) (drawn : ℕ → ℕ) (count : ℕ) → 1 ≤ first → first ≤ nodes → 1 ≤ second → second ≤ nodes → first ≢ second
      → IsMadeLink nodes (made_link first second drawn count)
  link_kept first second drawn count a b c d e = record {
    first_some = a;
    first_most = b;
    second_some = c;
    second_most = d;
    different = e;
    first_metric_some = omega arith;
    first_metric_most = let m = mod_below (drawn count) 64 (omega arith) in omega (arith, m);
    second_metric_some = omega arith;
    second_metric_most = let m = mod_below (drawn (count + 1)) 64 (omega arith) in omega (arith, m);
  }

  ring_some : 4 ≤ ring
  ring_some = omega (arith, some)

  ring_kept : (drawn : ℕ → ℕ) (i : ℕ) → i < ring → IsMadeLink nodes (ring_link ring drawn i)
  ring_kept drawn i within =
      let below = mod_below (i + 1) ring (omega (arith, within)) in
      let on = ring_on ring i 1 within (omega arith) (omega (arith, ring_some)) in
      link_kept (i + 1) ((i + 1) % ring + 1) drawn (2 * i) (omega arith) (omega (arith, within)) (omega arith) (omega (arith, below))
      (λ same. on (omega (arith, same)))

  chord_kept : (drawn : ℕ → ℕ) (i : ℕ) → i < chord_count nodes → IsMadeLink nodes (chord_link ring drawn i)
  chord_kept drawn i within =
      let far = 4 * i + 2 + drawn (3 * i) % (ring - 3) in
      let below = mod_below far ring (omega (arith, ring_some)) in
      let e = mod_below (drawn (3 * i)) (ring - 3) (omega (arith, ring_some)) in
      let at : 4 * i < ring = omega (arith, within) in
      let split : far ≡ 4 * i + (2 + drawn (3 * i) % (ring - 3)) = omega arith in
      let on = ring_on ring (4 * i) (2 + drawn (3 * i) % (ring - 3)) at (omega arith) (omega (arith, e)) in
      link_kept (4 * i + 1) (far % ring + 1) drawn (3 * i + 1) (omega arith) (omega (arith, at)) (omega arith) (omega (arith, below))
      (λ same.
      let apart : 4 * i ≡ far % ring = omega (arith, same) in
      on (apart ∙ ap (λ (k : ℕ). k % ring) split))

  spur_kept : (number : ℕ) (drawn : ℕ → ℕ) (j : ℕ) → j < spur_count nodes → IsMadeLink nodes (spur_link number ring drawn j)
  spur_kept number drawn j within =
      let below = mod_below (3 * j + number) ring (omega (arith, ring_some)) in
      link_kept (ring + 1 + j) ((3 * j + number) % ring + 1) drawn (2 * j) (omega arith) (omega (arith, within)) (omega arith) (omega (arith, below))
      (λ same. omega (arith, same, below))

  pub links_kept : (number : ℕ) → AllByRecursion (IsMadeLink nodes) (made_links number nodes)
  links_kept number =
      let one = drawn_from number 0 in
      let two = drawn_from number (2 * ring) in
      let three = drawn_from number (2 * ring + 3 * chord_count nodes) in
      let rings = map (ring_link ring one) (range_with_len 0 ring) in
      let chords = map (chord_link ring two) (range_with_len 0 (chord_count nodes)) in
      let spurs = map (spur_link number ring three) (range_with_len 0 (spur_count nodes)) in
      all_append (IsMadeLink nodes) rings (chords ++ spurs)
      (all_map (IsMadeLink nodes) (ring_link ring one) (range_with_len 0 ring)
      (all_range (λ i. IsMadeLink nodes (ring_link ring one i)) 0 ring (λ i _ most. ring_kept one i (omega (arith, most)))))
      (all_append (IsMadeLink nodes) chords spurs
      (all_map (IsMadeLink nodes) (chord_link ring two) (range_with_len 0 (chord_count nodes))
      (all_range (λ i. IsMadeLink nodes (chord_link ring two i)) 0 (chord_count nodes) (λ i _ most. chord_kept two i (omega (arith, most)))))
      (all_map (IsMadeLink nodes) (spur_link number ring three) (range_with_len 0 (spur_count nodes))
      (all_range (λ j. IsMadeLink nodes (spur_link number ring three j)) 0 (spur_count nodes) (λ j _ most. spur_kept number three j (omega (arith, most))))))

-- how many links there are
pub count_made : (number nodes : ℕ) → length (made_links number nodes) ≡ ring_count nodes + chord_count nodes + spur_count nodes
count_made number nodes =
    let one = drawn_from number 0 in
    let two = drawn_from number (2 * ring_count nodes) in
    let three = drawn_from number (2 * ring_count nodes + 3 * chord_count nodes) in
    let rings = map (ring_link (ring_count nodes) one) (range_with_len 0 (ring_count nodes)) in
    let chords = map (chord_link (ring_count nodes) two) (range_with_len 0 (chord_count nodes)) in
    let spurs = map (spur_link number (ring_count nodes) three) (range_with_len 0 (spur_count nodes)) in
    let whole : length (rings ++ (chords ++ spurs)) ≡ length rings + length (chords ++ spurs) = length-append rings (chords ++ spurs) in
    let part : length (chords ++ spurs) ≡ length chords + length spurs = length-append chords spurs in
    let a : length rings ≡ ring_count nodes = length-map-range_with_len (ring_link (ring_count nodes) one) 0 (ring_count nodes) in
    let b : length chords ≡ chord_count nodes = length-map-range_with_len (chord_link (ring_count nodes) two) 0 (chord_count nodes) in
    let d : length spurs ≡ spur_count nodes = length-map-range_with_len (spur_link number (ring_count nodes) three) 0 (spur_count nodes) in
    omega (arith, whole, part, a, b, d)
