-- The links of a network that is made from a number.
use Rattle.std.specs.Prelude.{ℕ, ◌+◌, ◌-◌, ◌*◌, ◌/◌, ◌%◌, List, ◌++◌, map}
use Rattle.std.specs.List.{range_with_len}
use Rattle.mrt_survey.specs.declared.made_link.MadeLink.{MadeLink}
use Rattle.mrt_survey.specs.Draws.{draw_after}

-- of so many routers, how many are spurs, a fifth: each is joined with one router of the ring alone
abbrev pub spur_count : ℕ → ℕ
spur_count nodes = nodes / 5

-- how many are on the ring; they have the first numbers
abbrev pub ring_count : ℕ → ℕ
ring_count nodes = nodes - spur_count nodes

-- how many chords the ring has: one for each four of its routers
abbrev pub chord_count : ℕ → ℕ
chord_count nodes = ring_count nodes / 4

-- the metric that a draw gives: from 1 to 64
abbrev pub metric_of : ℕ → ℕ
metric_of draw = 1 + draw % 64

-- a link between two routers; one draw gives the metric at the first, the next the metric at the second
abbrev pub made_link : ℕ → ℕ → (ℕ → ℕ) → ℕ → MadeLink
made_link first second drawn count = record {
  first = first;
  second = second;
  first_metric = metric_of (drawn count);
  second_metric = metric_of (drawn (count + 1));
}

-- on a ring of so many, a router and the next one; two draws a link
abbrev pub ring_link : ℕ → (ℕ → ℕ) → ℕ → MadeLink
ring_link ring drawn i = made_link (i + 1) ((i + 1) % ring + 1) drawn (2 * i)

-- every fourth router of the ring, and the one that a draw gives, neither itself nor next to it; three draws a link
abbrev pub chord_link : ℕ → (ℕ → ℕ) → ℕ → MadeLink
chord_link ring drawn i =
    made_link (4 * i + 1) ((4 * i + 2 + drawn (3 * i) % (ring - 3)) % ring + 1) drawn (3 * i + 1)

-- a router after the ring, and one of the ring by the number; two draws a link
abbrev pub spur_link : ℕ → ℕ → (ℕ → ℕ) → ℕ → MadeLink
spur_link number ring drawn j = made_link (ring + 1 + j) ((3 * j + number) % ring + 1) drawn (2 * j)

-- the draws from this number, after so many others
abbrev pub drawn_from : ℕ → ℕ → ℕ → ℕ
drawn_from number count k = draw_after (count + k) number

-- the links in their order: ring, chords and spurs; the draws go on from one to the next
abbrev pub made_links : ℕ → ℕ → List MadeLink
made_links number nodes =
    map (ring_link (ring_count nodes) (drawn_from number 0)) (range_with_len 0 (ring_count nodes))
    ++ (map (chord_link (ring_count nodes) (drawn_from number (2 * ring_count nodes)))
    (range_with_len 0 (chord_count nodes))
    ++ map
    (spur_link number (ring_count nodes) (drawn_from number (2 * ring_count nodes + 3 * chord_count nodes)))
    (range_with_len 0 (spur_count nodes)))
