-- What a node aims at by the chain of heads above a destination.
use Rattle.std.specs.Prelude.{◌≡◌, ◌≢◌, ℕ, List, Option, Some, None, slice_get}
use Rattle.link_direction.specs.Directions.{Directions}

-- what s aims at: the node below it; or the one below its head, if that lies in its block; or its head
pub data IsRowAim (w : Directions) (below : List (Option ℕ)) (s aim : ℕ) : Type 0 where
  Under : slice_get below s ≡ Some (Some aim) → IsRowAim w below s aim
  Beside : slice_get below s ≡ Some None → slice_get below (w.head s) ≡ Some (Some aim) → w.block aim ≡ w.block s
      → IsRowAim w below s aim
  AtHome : slice_get below s ≡ Some None
      → ((c : ℕ) → slice_get below (w.head s) ≡ Some (Some c) → w.block c ≢ w.block s) → aim ≡ w.head s
      → IsRowAim w below s aim
