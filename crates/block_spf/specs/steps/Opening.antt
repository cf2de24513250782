-- What a fan is opened from, what its sources have offered then, and where their paths end.
use Rattle.std.specs.Prelude.{◌≡◌, ◌<◌, ◌≤◌, ◌+◌, ◌*◌, ℕ, Bool, true, List, Some, length, slice_get}
use Rattle.mrt_graph.specs.GraphInvariant.{IsTopology}
use Rattle.link_direction.specs.Directions.{Directions}
use Rattle.block_spf.specs.declared.fan.Opening.{Opening}
use Rattle.block_spf.specs.HasDirections.{AreDirections, HasDirections}
use Rattle.block_spf.specs.steps.Known.{AreLanes, AreOffered, Known, OfAny, known_at, nothing}
use Rattle.block_spf.specs.steps.Offers.{IsFirstOffer, PassesOn}
use Rattle.block_spf.specs.Rest.{far}
use Rattle.block_spf.specs.Turns.{AreTurns}

-- a graph with its directions, its nodes by their turns, and the number of a node, or of none
pub record IsOpening (opening : Opening) : Type 0 where
  pub kept : IsTopology opening.graph.now
  pub directed : HasDirections opening.graph.now opening.directed.now
  pub turns : (root : ℕ) (w : Directions) → AreDirections opening.graph.now opening.directed.now root w
      → AreTurns opening.graph.now w opening.dir opening.turns.now
  pub first : opening.first ≤ length opening.graph.now.ids

-- each of so many sources is marked, and its head
pub record AreStops (opening : Opening) (width : ℕ) (stops : List Bool) : Type 0 where
  pub one_each : length stops ≡ length opening.graph.now.ids
  pub sources : (j : ℕ) → j < width → opening.first + j < length opening.graph.now.ids → slice_get stops (opening.first + j) ≡ Some true
  pub heads : (root j : ℕ) (w : Directions) → AreDirections opening.graph.now opening.directed.now root w → j < width
      → opening.first + j < length opening.graph.now.ids → slice_get stops (w.head (opening.first + j)) ≡ Some true

-- where nothing was known, each source has offered the nodes to which its ends lead on, in its lane of so many
pub record AreFirstOffered (opening : Opening) (width : ℕ) (costs places : List ℕ) : Type 0 where
  pub one_cost_each : length costs ≡ length opening.graph.now.ids * width
  pub lanes : AreLanes costs places
  pub before : ℕ → Known
  pub blank : (i : ℕ) → i < length costs → before i ≡ nothing
  pub offered : (root : ℕ) (w : Directions) → AreDirections opening.graph.now opening.directed.now root w
      → AreOffered (OfAny (λ j. OfAny (IsFirstOffer opening w (opening.first + j) width j))) before (known_at costs places)

-- by whatever directions the lists say, paths from source s that come to node x go on
abbrev pub GoOn : Opening → ℕ → ℕ → Type 0
GoOn opening s x = (root : ℕ) (w : Directions) → AreDirections opening.graph.now opening.directed.now root w → PassesOn w s x

-- they do not
abbrev pub Stop : Opening → ℕ → ℕ → Type 0
Stop opening s x = (root : ℕ) (w : Directions) → AreDirections opening.graph.now opening.directed.now root w → ¬ PassesOn w s x

-- for the source at place j of so many, what was known of x stays, if paths that come to x go on; else nothing is known
pub data IsKeptOnward (opening : Opening) (x width j : ℕ) (before after : Known) : Type 0 where
  Goes : after ≡ before → (j < width → opening.first + j < length opening.graph.now.ids → GoOn opening (opening.first + j) x)
      → IsKeptOnward opening x width j before after
  Ends : after.cost ≡ far → Stop opening (opening.first + j) x → IsKeptOnward opening x width j before after
