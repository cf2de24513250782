-- A packet visits no place twice in primary mode, and none twice on a color.
use Rattle.std.proofs.Common.{◌≡◌, ◌≢◌, ◌⊎◌, ◌<◌, ◌∙◌, ◌&&◌, ℕ, zero, suc, Bool, true, false, not, List, [], ◌∷◌, Some, length, get_or, inl, inr, refl, sym, ap, subst, arith}
use Rattle.std.specs.Prelude.{AllPairs, if◌then◌else◌, map}
use Rattle.std.specs.List.{filter}
use Rattle.std.proofs.lemmas.Bool.{and_parts, not-true}
use Rattle.std.proofs.lemmas.List.Kept.{AllPairs-cons}
use Rattle.std.proofs.lemmas.Option.{same_Some}
use Rattle.fabric.specs.Course.{KeepsMode, is_lost, is_on_color, is_primary, visits}
use Rattle.fabric.specs.FabricParts.{ArePartsKept, AreRowsFor, FabricParts, node_at}
use Rattle.fabric.specs.steps.KeptState.{IsKeptPacket}
use Rattle.fabric.specs.PacketHop.{IsHop}
use Rattle.fabric.specs.declared.next_hop.NextHop.{NextHop}
use Rattle.fabric.specs.declared.packet.Mode.{Mode}
use Rattle.fabric.specs.declared.packet.Mode.TheVariants as modes
use Rattle.fabric.specs.declared.packet.Packet.{Packet}
use Rattle.fabric.specs.declared.packet.State.TheVariants as states
use Rattle.fabric.proofs.ColorHops.{Onward}
use Rattle.fabric.proofs.Life.{IsFarther, IsLeft, color_hop_of, left_after, step_on}
use Rattle.fabric.proofs.Nearer.{Nearer, nearer_hop}
use Rattle.fabric.proofs.PacketChains.{ByArrival, ByLoss, ByMove, BySwitch, Chain, Next, kept_next, left_now, mode_next, mode_on, rows_next}
use Rattle.mrt_graph.specs.Reaches.{AreDifferent}
use Rattle.mrt_graph.specs.declared.cert.Color.{Color}
use Rattle.mrt_graph.proofs.Members.{Has}
use Rattle.mrt_graph.proofs.Trails.{Differ, nodes_behind}
use Rattle.primary_alt.proofs.ArcWalks.{one_distance}

-- whether a packet visits its place, in such a mode
abbrev counts : (Mode → Bool) → Packet → Bool
counts test q = test q.mode && not (is_lost q.state)

-- a place that is visited is that of the first packet, or visited later
visit_cases : (test : Mode → Bool) (r : Packet) (rest : List Packet) (y : ℕ) → Has (visits test (r ∷ rest)) y
    → ((test r.mode ≡ true) × (is_lost r.state ≡ false) × (r.place ≡ y)) ⊎ Has (visits test rest) y
visit_cases test r rest y has = go (counts test r) refl has
  where
    go : (b : Bool) → counts test r ≡ b → Has (map (λ (q : Packet). q.place) (if b then r ∷ filter (counts test) rest else filter (counts test) rest)) y
        → ((test r.mode ≡ true) × (is_lost r.state ≡ false) × (r.place ≡ y)) ⊎ Has (visits test rest) y
    go true is has = elim has [
      | inl same ↦ let both = and_parts (test r.mode) (not (is_lost r.state)) is in inl (both.0, not-true (is_lost r.state) both.1, same)
      | inr later ↦ inr later
    ]
    go false is has = inr has

visits_differ : (test : Mode → Bool) (r : Packet) (rest : List Packet) → (test r.mode ≡ true → Has (visits test rest) r.place → ⊥) → Differ (visits test rest)
    → Differ (visits test (r ∷ rest))
visits_differ test r rest fresh differ = go (counts test r) refl
  where
    go : (b : Bool) → counts test r ≡ b → Differ (map (λ (q : Packet). q.place) (if b then r ∷ filter (counts test) rest else filter (counts test) rest))
    go true is = (λ has. fresh (and_parts (test r.mode) (not (is_lost r.state)) is).0 has, differ)
    go false is = differ

primary_is : (mode : Mode) → is_primary mode ≡ true → mode ≡ modes.Primary
primary_is modes.Primary is = refl
primary_is (modes.Entered color) is = cc
primary_is (modes.Switched color) is = cc

not_primary : (mode : Mode) → is_primary mode ≡ false → mode ≢ modes.Primary
not_primary modes.Primary is same = cc
not_primary (modes.Entered color) is same = cc
not_primary (modes.Switched color) is same = cc

-- the modes along a chain
pub mode_later : (parts : FabricParts) (q : Packet) (rest : List Packet) → Chain parts q rest → (r : Packet) → Has rest r → KeepsMode q.mode r.mode
mode_later parts q [] chain r has = absurd has
mode_later parts q (p ∷ rest) chain r has = elim has [
  | inl same ↦ subst (λ (x : Packet). KeepsMode q.mode x.mode) same (mode_next parts q p chain.1)
  | inr later ↦ mode_on q.mode p.mode r.mode (mode_next parts q p chain.1) (mode_later parts p rest chain.2 r later)
]

-- the packet of a visit
visitor : (test : Mode → Bool) (rest : List Packet) (y : ℕ) → Has (visits test rest) y → (r : Packet) × Has rest r × (test r.mode ≡ true)
visitor test [] y has = absurd has
visitor test (r ∷ rest) y has = elim (visit_cases test r rest y has) [
  | inl here ↦ (r, inl refl, here.0)
  | inr later ↦ let found = visitor test rest y later in (found.0, inr found.1, found.2)
]

-- a packet that is in no primary mode visits nothing in it
none_primary : (parts : FabricParts) (q : Packet) (rest : List Packet) → Chain parts q rest → q.mode ≢ modes.Primary → (y : ℕ) → Has (visits is_primary rest) y → ⊥
none_primary parts q rest chain mode y has =
    let found = visitor is_primary rest y has in
    elim (mode_later parts q rest chain found.0 found.1) [
      | inl same ↦ mode (sym same ∙ primary_is found.0.mode found.2)
      | inr switched ↦ mode switched.0
    ]

module _ (parts : FabricParts) (are : ArePartsKept parts) where
  ended_visits : (test : Mode → Bool) (r : Packet) (rest : List Packet) → Chain parts r rest → r.state ≢ states.Going → (y : ℕ) → Has (visits test rest) y → ⊥
  ended_visits test r [] chain ended y has = absurd has
  ended_visits test r (p ∷ rest) chain ended y has = ended chain.0

  -- in primary mode each later place is nearer
  later_primary : (q : Packet) (rest : List Packet) → Chain parts q rest → IsKeptPacket parts q → AreRowsFor parts q.to → q.mode ≡ modes.Primary → (y : ℕ) → Has (visits is_primary rest) y
      → IsFarther parts q.to q.place y
  later_primary q [] chain kept rows mode y has = absurd has
  later_primary q (r ∷ rest) chain kept rows mode y has = go chain.1 (visit_cases is_primary r rest y has) (later_primary r rest chain.2 (kept_next parts are q r rows kept chain.0 chain.1) (rows_next parts q r chain.1 rows))
    where
      near_of : (hop : NextHop) → IsHop parts q.mode q.place q.to hop → Nearer parts q.place q.to hop
      near_of hop is = nearer_hop parts are q.place q.to hop (kept.router chain.0) (subst (λ (m : Mode). IsHop parts m q.place q.to hop) mode is)

      one : (hop : NextHop) (near : Nearer parts q.place q.to hop) → hop.next ≡ y → IsFarther parts q.to q.place y
      one hop near same = subst (λ (v : ℕ). IsFarther parts q.to q.place v) same (record { far = near.distance; far_is = near.is; near = near.rest; near_is = near.rest_is; falls = near.falls })

      on : (hop : NextHop) (near : Nearer parts q.place q.to hop) → IsFarther parts q.to hop.next y → IsFarther parts q.to q.place y
      on hop near f =
          let same : f.far ≡ near.rest = one_distance parts.area.arcs hop.next q.to f.far near.rest f.far_is near.rest_is in
          let less = f.falls in
          let falls = near.falls in
          record { far = near.distance; far_is = near.is; near = f.near; near_is = f.near_is; falls = omega (arith, same, less, falls) }

      go : Next parts q r → ((is_primary r.mode ≡ true) × (is_lost r.state ≡ false) × (r.place ≡ y)) ⊎ Has (visits is_primary rest) y
          → (r.mode ≡ modes.Primary → (z : ℕ) → Has (visits is_primary rest) z → IsFarther parts r.to r.place z) → IsFarther parts q.to q.place y
      go (ByMove hop is other same) (inl here) further = one hop (near_of hop is) (sym (ap (λ (p : Packet). p.place) same) ∙ here.2)
      go (ByMove hop is other same) (inr later) further =
          on hop (near_of hop is) (rw same at (further (ap (λ (p : Packet). p.mode) same ∙ mode) y later))
      go (ByArrival hop is here' same) (inl here) further = one hop (near_of hop is) (here' ∙ sym (ap (λ (p : Packet). p.place) same) ∙ here.2)
      go (ByArrival hop is here' same) (inr later) further =
          absurd (ended_visits is_primary r rest chain.2 (λ going. let delivered = ap (λ (p : Packet). p.state) same in cc) y later)
      go (ByLoss loss same) (inl here) further = let lost : is_lost r.state ≡ true = ap (λ (p : Packet). is_lost p.state) same in cc
      go (ByLoss loss same) (inr later) further =
          absurd (ended_visits is_primary r rest chain.2 (λ going. let lost = ap (λ (p : Packet). p.state) same in cc) y later)
      go (BySwitch color primary place to same) (inl here) further = let switched : is_primary r.mode ≡ false = ap (λ (p : Packet). is_primary p.mode) same in cc
      go (BySwitch color primary place to same) (inr later) further =
          absurd (none_primary parts r rest chain.2 (λ primary'. let switched = ap (λ (p : Packet). p.mode) same in cc) y later)

  -- on a color each later place is ahead on its way
  later_color : (color : Color) (q : Packet) (rest : List Packet) → Chain parts q rest → IsKeptPacket parts q → AreRowsFor parts q.to → (q.mode ≡ modes.Entered color) ⊎ (q.mode ≡ modes.Switched color)
      → (left : IsLeft parts color q) → (y : ℕ) → Has (visits is_on_color rest) y → (m : ℕ) × (node_at parts y ≡ Some m) × Has (nodes_behind left.hops) m
  later_color color q [] chain kept rows mode left y has = absurd has
  later_color color q (r ∷ rest) chain kept rows mode left y has =
      go chain.1 (visit_cases is_on_color r rest y has)
      (λ mode' left'. later_color color r rest chain.2 (kept_next parts are q r rows kept chain.0 chain.1) (rows_next parts q r chain.1 rows) mode' left' y)
    where
      on_of : (hop : NextHop) → IsHop parts q.mode q.place q.to hop → Onward parts color q.to hop left.d left.hops
      on_of hop is = step_on parts are color q kept chain.0 left hop (color_hop_of parts color q.mode q.place q.to hop mode is)

      here_is : (hop : NextHop) (on : Onward parts color q.to hop left.d left.hops) → hop.next ≡ y → (m : ℕ) × (node_at parts y ≡ Some m) × Has (nodes_behind left.hops) m
      here_is hop on same = (on.m, subst (λ (v : ℕ). node_at parts v ≡ Some on.m) same on.at, on.nodes on.m (inl refl))

      go : Next parts q r → ((is_on_color r.mode ≡ true) × (is_lost r.state ≡ false) × (r.place ≡ y)) ⊎ Has (visits is_on_color rest) y
          → ((r.mode ≡ modes.Entered color) ⊎ (r.mode ≡ modes.Switched color) → (left' : IsLeft parts color r) → Has (visits is_on_color rest) y
          → (m : ℕ) × (node_at parts y ≡ Some m) × Has (nodes_behind left'.hops) m)
          → (m : ℕ) × (node_at parts y ≡ Some m) × Has (nodes_behind left.hops) m
      go (ByMove hop is other same) (inl here) further = here_is hop (on_of hop is) (sym (ap (λ (p : Packet). p.place) same) ∙ here.2)
      go (ByMove hop is other same) (inr later) further =
          let on = on_of hop is in
          let found = (rw same at further) mode (left_after parts are color q left hop on) later in
          (found.0, found.1, on.nodes found.0 (inr found.2))
      go (ByArrival hop is here' same) (inl here) further = here_is hop (on_of hop is) (here' ∙ sym (ap (λ (p : Packet). p.place) same) ∙ here.2)
      go (ByArrival hop is here' same) (inr later) further =
          absurd (ended_visits is_on_color r rest chain.2 (λ going. let delivered = ap (λ (p : Packet). p.state) same in cc) y later)
      go (ByLoss loss same) (inl here) further = let lost : is_lost r.state ≡ true = ap (λ (p : Packet). is_lost p.state) same in cc
      go (ByLoss loss same) (inr later) further =
          absurd (ended_visits is_on_color r rest chain.2 (λ going. let lost = ap (λ (p : Packet). p.state) same in cc) y later)
      go (BySwitch c primary place to same) visit further = absurd (elim mode [ inl entered ↦ cc | inr switched ↦ cc ])

  -- no place twice in primary mode
  pub primary_differ : (q : Packet) (rest : List Packet) → Chain parts q rest → IsKeptPacket parts q → AreRowsFor parts q.to → Differ (visits is_primary (q ∷ rest))
  primary_differ q [] chain kept rows = visits_differ is_primary q [] (λ is has. absurd has) tt
  primary_differ q (r ∷ rest) chain kept rows =
      visits_differ is_primary q (r ∷ rest)
      (λ is has.
      let f = later_primary q (r ∷ rest) chain kept rows (primary_is q.mode is) q.place has in
      let same : f.far ≡ f.near = one_distance parts.area.arcs q.place q.to f.far f.near f.far_is f.near_is in
      let falls = f.falls in
      omega (arith, same, falls))
      (primary_differ r rest chain.2 (kept_next parts are q r rows kept chain.0 chain.1) (rows_next parts q r chain.1 rows))

  on_some : (mode : Mode) → is_on_color mode ≡ true → (color : Color) × ((mode ≡ modes.Entered color) ⊎ (mode ≡ modes.Switched color))
  on_some modes.Primary is = cc
  on_some (modes.Entered color) is = (color, inl refl)
  on_some (modes.Switched color) is = (color, inr refl)

  -- no place twice on a color
  pub color_differ : (q : Packet) (rest : List Packet) → Chain parts q rest → IsKeptPacket parts q → AreRowsFor parts q.to → Differ (visits is_on_color (q ∷ rest))
  color_differ q [] chain kept rows = visits_differ is_on_color q [] (λ is has. absurd has) tt
  color_differ q (r ∷ rest) chain kept rows =
      visits_differ is_on_color q (r ∷ rest)
      (λ is has.
      let on = on_some q.mode is in
      let left = left_now parts are on.0 q rows kept chain.0 (not_primary q.mode (not-true (is_primary q.mode) is)) in
      let found = later_color on.0 q (r ∷ rest) chain kept rows on.1 left q.place has in
      let same : found.0 ≡ left.n = same_Some _ _ (sym found.1 ∙ left.at) in
      left.differ.0 (subst (λ (m : ℕ). Has (nodes_behind left.hops) m) same found.2))
      (color_differ r rest chain.2 (kept_next parts are q r rows kept chain.0 chain.1) (rows_next parts q r chain.1 rows))

-- from members to places
at_place : {X : Type 0} (xs : List X) (d : X) (k : ℕ) → k < length xs → Has xs (get_or xs k d)
at_place [] d k within = absurd (omega (arith, within))
at_place (y ∷ ys) d zero within = inl refl
at_place (y ∷ ys) d (suc k) within = inr (at_place ys d k (omega (arith, within)))

pub all_different : (xs : List ℕ) → Differ xs → AreDifferent xs
all_different [] differ = λ i j d lt within. absurd (omega (arith, within))
all_different (x ∷ xs) differ =
    AllPairs-cons (λ earlier later. earlier ≢ later) x xs
    (λ k d within. λ same. differ.0 (subst (λ (y : ℕ). Has xs y) (sym same) (at_place xs d k within)))
    (all_different xs differ.1)

-- the modes of a packet, in pairs
pub modes_kept : (parts : FabricParts) (q : Packet) (rest : List Packet) → Chain parts q rest → AllPairs (λ (earlier later : Packet). KeepsMode earlier.mode later.mode) (q ∷ rest)
modes_kept parts q [] chain =
    AllPairs-cons (λ (earlier later : Packet). KeepsMode earlier.mode later.mode) q []
    (λ k d within. absurd (omega (arith, within))) (λ i j d lt within. absurd (omega (arith, within)))
modes_kept parts q (r ∷ rest) chain =
    AllPairs-cons (λ (earlier later : Packet). KeepsMode earlier.mode later.mode) q (r ∷ rest)
    (λ k d within. mode_later parts q (r ∷ rest) chain (get_or (r ∷ rest) k d) (at_place (r ∷ rest) d k within))
    (modes_kept parts r rest chain.2)
