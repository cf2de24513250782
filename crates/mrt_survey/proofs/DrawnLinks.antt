-- Draws that go on, and the links that are drawn.
use Rattle.std.proofs.Common.{◌≡◌, ◌∙◌, ◌+◌, ◌*◌, ◌/◌, ◌%◌, ◌-◌, ◌++◌, ℕ, zero, suc, List, [], ◌∷◌, map, sym, ap, append_assoc, arith}
use Rattle.std.specs.List.{range_with_len}
use Rattle.std.proofs.lemmas.List.FromFn.{map-range_with_len_more}
use Rattle.mrt_survey.specs.declared.made_link.MadeLink.{MadeLink}
use Rattle.mrt_survey.specs.Draws.{draw_after, with_draw, with_draws}
use Rattle.mrt_survey.specs.MadeLinks.{chord_count, chord_link, drawn_from, made_link, made_links, metric_of, ring_count, ring_link, spur_count, spur_link}

-- draws after others
pub draws_join : (a b x : ℕ) → with_draws a (with_draws b x) ≡ with_draws (a + b) x
draws_join zero b x = let e : b ≡ 0 + b = omega arith in ap (λ (n : ℕ). with_draws n x) e
draws_join (suc a) b x = let e : suc (a + b) ≡ suc a + b = omega arith in ap with_draw (draws_join a b x) ∙ ap (λ (n : ℕ). with_draws n x) e

pub drawn_later : (k m count x y : ℕ) → y ≡ with_draws count x → m ≡ count + k → draw_after k y ≡ draw_after m x
drawn_later k m count x y is same =
    let e : suc k + count ≡ suc m = omega (arith, same) in
    ap (draw_after k) is ∙ ap (λ (z : ℕ). z / 65536) (draws_join (suc k) count x) ∙ ap (λ (n : ℕ). with_draws n x / 65536) e

-- a link whose metrics are drawn after so many other draws
pub link_later : (first second count x y : ℕ) → y ≡ with_draws count x
    → made_link first second (drawn_from y 0) 0 ≡ made_link first second (drawn_from x 0) count
link_later first second count x y is =
    let a : drawn_from y 0 0 ≡ drawn_from x 0 count = drawn_later (0 + 0) (0 + count) count x y is (omega arith) in
    let b : drawn_from y 0 (0 + 1) ≡ drawn_from x 0 (count + 1) = drawn_later (0 + (0 + 1)) (0 + (count + 1)) count x y is (omega arith) in
    λ i. record { first = first; second = second; first_metric = metric_of (a i); second_metric = metric_of (b i) }

-- one link more
pub one_more : (made : ℕ → MadeLink) (i : ℕ) (before links after : List MadeLink) (link : MadeLink)
    → links ≡ before ++ map made (range_with_len 0 i) → after ≡ links ++ link ∷ [] → link ≡ made i
    → after ≡ before ++ map made (range_with_len 0 (i + 1))
one_more made i before links after link so_far pushed is =
    pushed ∙ ap (λ (xs : List MadeLink). xs ++ link ∷ []) so_far ∙ ap (λ (x : MadeLink). (before ++ map made (range_with_len 0 i)) ++ x ∷ []) is
    ∙ append_assoc before (map made (range_with_len 0 i)) (made i ∷ [])
    ∙ ap (λ (xs : List MadeLink). before ++ xs) (sym (map-range_with_len_more made 0 i i (omega arith)))

-- so many draws more
pub draws_on : (more count whole x y z : ℕ) → z ≡ with_draws more y → y ≡ with_draws count x → whole ≡ more + count → z ≡ with_draws whole x
draws_on more count whole x y z on is same =
    let e : more + count ≡ whole = sym same in
    on ∙ ap (with_draws more) is ∙ draws_join more count x ∙ ap (λ (n : ℕ). with_draws n x) e

-- a chord whose far router is drawn after so many other draws
pub chord_later : (ring i x y z d : ℕ) → y ≡ with_draws (3 * i) x → d ≡ draw_after 0 y → z ≡ with_draws (3 * i + 1) x
    → made_link (4 * i + 1) ((4 * i + 2 + d % (ring - 3)) % ring + 1) (drawn_from z 0) 0 ≡ chord_link ring (drawn_from x 0) i
chord_later ring i x y z d before is after =
    let far : d ≡ drawn_from x 0 (3 * i) = is ∙ drawn_later 0 (0 + 3 * i) (3 * i) x y before (omega arith) in
    link_later (4 * i + 1) ((4 * i + 2 + d % (ring - 3)) % ring + 1) (3 * i + 1) x z after
    ∙ ap (λ (k : ℕ). made_link (4 * i + 1) ((4 * i + 2 + k % (ring - 3)) % ring + 1) (drawn_from x 0) (3 * i + 1)) far

-- a spur
pub spur_later : (number ring j x y a n r : ℕ) → y ≡ with_draws (2 * j) x → a ≡ j → n ≡ number → r ≡ ring
    → made_link (ring + 1 + j) ((3 * a + n) % r + 1) (drawn_from y 0) 0 ≡ spur_link number ring (drawn_from x 0) j
spur_later number ring j x y a n r before a_is n_is r_is =
    link_later (ring + 1 + j) ((3 * a + n) % r + 1) (2 * j) x y before
    ∙ (λ i. made_link (ring + 1 + j) ((3 * a_is i + n_is i) % r_is i + 1) (drawn_from x 0) (2 * j))

-- the three parts, each with the draws from the number on
pub parts_join : (number ring chords spurs x y : ℕ) (empty after_ring after_chords whole : List MadeLink)
    → empty ≡ [] → x ≡ with_draws (2 * ring) number → y ≡ with_draws (3 * chords) x
    → after_ring ≡ empty ++ map (ring_link ring (drawn_from number 0)) (range_with_len 0 ring)
    → after_chords ≡ after_ring ++ map (chord_link ring (drawn_from x 0)) (range_with_len 0 chords)
    → whole ≡ after_chords ++ map (spur_link number ring (drawn_from y 0)) (range_with_len 0 spurs)
    → whole ≡ map (ring_link ring (drawn_from number 0)) (range_with_len 0 ring)
    ++ (map (chord_link ring (drawn_from number (2 * ring))) (range_with_len 0 chords)
    ++ map (spur_link number ring (drawn_from number (2 * ring + 3 * chords))) (range_with_len 0 spurs))
parts_join number ring chords spurs x y empty after_ring after_chords whole none x_is y_is one two three =
    let x_draws : drawn_from x 0 ≡ drawn_from number (2 * ring) =
    (λ i k. drawn_later (0 + k) (2 * ring + k) (2 * ring) number x x_is (omega arith) i) in
    let y_whole : y ≡ with_draws (2 * ring + 3 * chords) number =
    draws_on (3 * chords) (2 * ring) (2 * ring + 3 * chords) number x y y_is x_is (omega arith) in
    let y_draws : drawn_from y 0 ≡ drawn_from number (2 * ring + 3 * chords) =
    (λ i k. drawn_later (0 + k) (2 * ring + 3 * chords + k) (2 * ring + 3 * chords) number y y_whole (omega arith) i) in
    let rings = map (ring_link ring (drawn_from number 0)) (range_with_len 0 ring) in
    let first : after_ring ≡ rings = one ∙ ap (λ (xs : List MadeLink). xs ++ rings) none in
    let second : after_chords ≡ rings ++ map (chord_link ring (drawn_from number (2 * ring))) (range_with_len 0 chords) =
    two ∙ (λ i. first i ++ map (chord_link ring (x_draws i)) (range_with_len 0 chords)) in
    three ∙ (λ i. second i ++ map (spur_link number ring (y_draws i)) (range_with_len 0 spurs))
    ∙ append_assoc rings (map (chord_link ring (drawn_from number (2 * ring))) (range_with_len 0 chords))
    (map (spur_link number ring (drawn_from number (2 * ring + 3 * chords))) (range_with_len 0 spurs))

-- the links of a network of so many routers
pub links_join : (number nodes n z x y : ℕ) (empty after_ring after_chords whole : List MadeLink)
    → n ≡ nodes → z ≡ number → empty ≡ [] → x ≡ with_draws (2 * ring_count n) z → y ≡ with_draws (3 * chord_count n) x
    → after_ring ≡ empty ++ map (ring_link (ring_count n) (drawn_from z 0)) (range_with_len 0 (ring_count n))
    → after_chords ≡ after_ring ++ map (chord_link (ring_count n) (drawn_from x 0)) (range_with_len 0 (chord_count n))
    → whole ≡ after_chords ++ map (spur_link number (ring_count n) (drawn_from y 0)) (range_with_len 0 (spur_count n))
    → whole ≡ made_links number nodes
links_join number nodes n z x y empty after_ring after_chords whole n_is z_is none x_is y_is one two three =
    parts_join number (ring_count n) (chord_count n) (spur_count n) x y empty after_ring after_chords whole none
    (x_is ∙ ap (with_draws (2 * ring_count n)) z_is) y_is
    (one ∙ ap (λ (k : ℕ). empty ++ map (ring_link (ring_count n) (drawn_from k 0)) (range_with_len 0 (ring_count n))) z_is) two three
    ∙ ap (made_links number) n_is
