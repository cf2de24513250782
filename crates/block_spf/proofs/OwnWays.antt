-- The ways of the nodes in their own blocks, turn by turn.
use Rattle.std.proofs.Common.{◌≡◌, ◌∙◌, ◌<◌, ◌≤◌, ◌+◌, ◌*◌, ℕ, false, true, List, [], Some, length, slice_get, slice_index, inl, inr, refl, sym, subst, arith}
use Rattle.std.proofs.lemmas.Bool.{cases_eq, eq-eqb, ne_eqb}
use Rattle.std.proofs.lemmas.Option.{same_Some}
use Rattle.mrt_graph.specs.declared.link.End.{End}
use Rattle.mrt_graph.specs.Topology.{Topology}
use Rattle.link_direction.specs.Directions.{Directions}
use Rattle.block_spf.specs.declared.aiming.Aiming.{Aiming}
use Rattle.block_spf.specs.declared.reach.Dir.{Dir}
use Rattle.block_spf.specs.declared.reach.Dir.TheVariants.{Down, Up}
use Rattle.block_spf.specs.Against.{against}
use Rattle.block_spf.specs.steps.Aiming.{HasOwnPaths}
use Rattle.block_spf.specs.BlockAims.{aim_at}
use Rattle.block_spf.specs.steps.Rest.{IsRestCost}
use Rattle.block_spf.specs.Rest.{far}
use Rattle.block_spf.specs.steps.Side.{AreCosts, IsRowPut, cost_from}
use Rattle.block_spf.specs.Turns.{AreTurns, turn_at, turn_of}
use Rattle.block_spf.specs.steps.PathsOverEnds.{AreLeast, AreReady, IsWantedBlock, sought}
use Rattle.block_spf.proofs.ByTurn.{next_turn}
use Rattle.block_spf.proofs.FirstLinks.{links_kept, links_stay}
use Rattle.block_spf.proofs.InBlocks.{Home, Later, Onto, move_of, step_from_member}
use Rattle.link_direction.proofs.ClosedBlocks.{IsClosed, IsOrdered, member_not_head}
use Rattle.block_spf.proofs.MoreLinks.{closed_of_more}
use Rattle.block_spf.proofs.SideBySide.{places_apart}
use Rattle.block_spf.proofs.WaysArePaths.{own_rest}

-- what has a later turn in one direction has an earlier one in the other
earlier : (dir : Dir) (n a b : ℕ) → 1 ≤ a → a ≤ n → 1 ≤ b → b ≤ n → turn_at dir n a < turn_at dir n b
    → turn_at (against dir) n b < turn_at (against dir) n a
earlier Up n a b low_a high_a low_b high_b less = omega (arith, low_a, high_a, low_b, high_b, less)
earlier Down n a b low_a high_a low_b high_b less = omega (arith, low_a, high_a, low_b, high_b, less)

-- the costs that x keeps
abbrev pub own_row : Aiming → Directions → ℕ → ℕ → List ℕ → ℕ → ℕ
own_row aiming w x width costs j = cost_from x (aim_at aiming.aims.now width j (w.block x)) (slice_index costs j)

module _ (aiming : Aiming) (root : ℕ) (w : Directions) (is : IsOrdered aiming.graph.now root w)
    (turns : AreTurns aiming.graph.now w (against aiming.dir) aiming.turns.now) (width : ℕ) where
  abbrev g : Topology
  g = aiming.graph.now

  abbrev dir : Dir
  dir = aiming.dir

  -- the nodes that had their turns have their ways
  abbrev AreTurned : ℕ → List ℕ → List ℕ → Type 0
  AreTurned i costs links = (y : ℕ) → y < length g.ids → turn_of (against dir) (length g.ids) w y < i → HasOwnPaths aiming w width costs links y

  module _ (i x : ℕ) (at : slice_get aiming.turns.now i ≡ Some x) where
    within : x < length g.ids
    within = turns.within i x at

    -- what x leads to is ready
    pub ready_for : (all links : List ℕ) → AreTurned i all links → AreReady aiming w true width all x
    ready_for all links turned = record {
      each = λ k end in_wanted step kept_to inside.
          let move = move_of g w dir k x end is.kept step in
          let found = closed_of_more g root w k is in_wanted.more in
          (turned end.to move.to_within
          (go k found.0 end move.to_within found.1 inside (step_from_member g root w dir k found.0 x end is found.1 (sym (kept_to refl)) step))).ready
          (subst (λ (b : ℕ). IsWantedBlock (sought aiming w) b) (sym inside) in_wanted);
    }
      where
        go : (k h : ℕ) (end : End) → end.to < length g.ids → IsClosed g root w k h → w.block end.to ≡ k → Onto dir (length g.ids) w k h x end.to
            → turn_of (against dir) (length g.ids) w end.to < i
        go k h end to_within closed inside (Home home) = absurd (member_not_head g root w k h end.to is closed to_within inside home)
        go k h end to_within closed inside (Later member later) =
            let orders = is.ordered.orders in
            let back = earlier dir (length g.ids) (w.order x) (w.order end.to) (orders.from_one x within) (orders.to_n x within) (orders.from_one end.to to_within)
            (orders.to_n end.to to_within) later in
            omega (arith, back, turns.by_turn i x at)

    -- a node of a block that is not wanted is passed over
    pub passed_turned : (all links : List ℕ) → slice_get aiming.wanted.now (w.block x) ≡ Some false → AreTurned i all links → AreTurned (i + 1) all links
    passed_turned all links unmarked turned =
        next_turn g w (against dir) aiming.turns.now turns (λ y. HasOwnPaths aiming w width all links y) i x at (record {
          ready = λ in_wanted. absurd (no in_wanted.marked);
          linked = λ one. record {
            each = λ j t k h link below inside share marked.
                absurd (no (subst (λ (b : ℕ). slice_get aiming.wanted.now b ≡ Some true) (one.only t k h inside share) marked));
          };
        }) (λ y y_within other. turned y y_within)
      where
        no : slice_get aiming.wanted.now (w.block x) ≡ Some true → ⊥
        no set = let same = same_Some false true (sym unmarked ∙ set) in (cc)

    -- x gets its own
    module _ (all links all' links' costs row : List ℕ) (ends : List End) (list : slice_get g.ends x ≡ Some ends)
        (least : AreLeast aiming w true width x ends (length ends) costs row) (put : IsRowPut x width (own_row aiming w x width costs) all all')
        (put_links : IsRowPut x width (λ j. slice_index row j) links links') where
      rest_of : IsWantedBlock (sought aiming w) (w.block x) → (j : ℕ) → j < width
          → IsRestCost g w dir (w.block x) (w.head x) x (aim_at aiming.aims.now width j (w.block x)) (own_row aiming w x width costs j)
      rest_of in_wanted j below = elim (cases_eq (aim_at aiming.aims.now width j (w.block x)) x) [
        | inl same ↦
            rw (eq-eqb (aim_at aiming.aims.now width j (w.block x)) x same)
            (record { reached = λ low. ([], sym same, refl); least = λ rest is_rest. omega arith })
        | inr other ↦
            rw (ne_eqb (aim_at aiming.aims.now width j (w.block x)) x other)
            (own_rest (sought aiming w) root is x (aim_at aiming.aims.now width j) (slice_index costs j) (slice_index row j) ends within list (λ same. other (sym same))
            in_wanted (least.each j below))
      ]

      pub one_turned : AreTurned i all links → AreTurned (i + 1) all' links'
      one_turned turned = next_turn g w (against dir) aiming.turns.now turns (λ y. HasOwnPaths aiming w width all' links' y) i x at (record {
        ready = λ in_wanted. record {
          each = λ j below.
              subst (λ (c : ℕ). IsRestCost g w dir (w.block x) (w.head x) x (aim_at aiming.aims.now width j (w.block x)) c) (sym (put.there j below))
              (rest_of in_wanted j below);
        };
        linked = λ one. links_kept aiming root w is true x width ends costs row links links' within list (λ t k h inside share own. one.only t k h inside share) least put_links;
      }) (λ y y_within other early.
          let before = turned y y_within early in
          record {
            ready = λ in_wanted. record {
              each = λ j below.
                  subst (λ (c : ℕ). IsRestCost g w dir (w.block y) (w.head y) y (aim_at aiming.aims.now width j (w.block y)) c)
                  (sym (put.elsewhere (y * width + j) (places_apart y x width j other below))) ((before.ready in_wanted).each j below);
            };
            linked = λ one. links_stay g w aiming.wanted.now dir aiming.aims.now width y x (λ j. slice_index row j) links links' other put_links (before.linked one);
          })

-- the costs that x keeps stay at most far
pub row_low : (aiming : Aiming) (w : Directions) (x width : ℕ) (costs : List ℕ) → AreCosts costs → (j : ℕ) → own_row aiming w x width costs j ≤ far
row_low aiming w x width costs most j = elim (cases_eq (aim_at aiming.aims.now width j (w.block x)) x) [
  | inl same ↦ rw (eq-eqb (aim_at aiming.aims.now width j (w.block x)) x same) (omega arith)
  | inr other ↦ rw (ne_eqb (aim_at aiming.aims.now width j (w.block x)) x other) (most j)
]

-- what all ends of a node lead to is ready
pub all_ready : (aiming : Aiming) (root : ℕ) (w : Directions) (width : ℕ) (all links : List ℕ) (s : ℕ) → IsOrdered aiming.graph.now root w
    → ((y : ℕ) → y < length aiming.graph.now.ids → HasOwnPaths aiming w width all links y) → AreReady aiming w false width all s
all_ready aiming root w width all links s is have = record {
  each = λ k end in_wanted step kept_to inside.
      (have end.to (move_of aiming.graph.now w aiming.dir k s end is.kept step).to_within).ready
      (subst (λ (b : ℕ). IsWantedBlock (sought aiming w) b) (sym inside) in_wanted);
}
