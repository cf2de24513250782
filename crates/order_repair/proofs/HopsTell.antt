-- What a hop, or that there is none, tells of the paths to a node; and what an order number is.
use Rattle.std.proofs.Common.{◌≡◌, ◌⊎◌, ◌∙◌, ◌<◌, ℕ, Bool, false, ◌∷◌, Option, Some, None, length, slice_get, refl, sym, inl, inr}
use Rattle.std.proofs.lemmas.Option.{same_Some}
use Rattle.std.proofs.lemmas.Bool.Decides.{not_from_Decides}
use Rattle.std.specs.Bool.{Decides}
use Rattle.std.specs.Option.{is_some}
use Rattle.mrt_graph.specs.DirectedLists.{DirectedLists}
use Rattle.mrt_graph.specs.Topology.{Topology}
use Rattle.link_direction.specs.Directions.{Directions, Says}
use Rattle.block_spf.specs.declared.reach.Dir.{Dir}
use Rattle.block_spf.specs.declared.reach.Hop.{Hop}
use Rattle.block_spf.specs.LeastPath.{BeginsPath, IsHop, NotReached, Reached}
use Rattle.order_repair.specs.OrderChoice.{LeadsTo}

-- a path that is least is one
no_hop : (g : Topology) (w : Directions) (dir : Dir) (s x : ℕ) → IsHop g w dir s x None → (hop : Hop) → IsHop g w dir s x (Some hop) → ⊥
no_hop g w dir s x (NotReached none) hop (Reached k h hop' shares least) =
    let first : BeginsPath g w dir k h s x hop'.cost least.end = least.first.asked in
    none k h (least.end ∷ first.others) shares first.is_path

pub hop_tells : (g : Topology) (w : Directions) (dir : Dir) (s x : ℕ) (hop : Option Hop) → IsHop g w dir s x hop
    → Decides (is_some hop) (LeadsTo g w dir s x)
hop_tells g w dir s x (Some hop) is = (λ yes. record { hop = hop; reached = is }, λ it. refl)
hop_tells g w dir s x None is = (λ yes. cc, λ it. absurd (no_hop g w dir s x is it.hop it.reached))

pub order_said : (g : Topology) (d : DirectedLists) (w : Directions) (v i : ℕ) → Says g d w → v < length g.ids → slice_get d.orders v ≡ Some i → i ≡ w.order v
order_said g d w v i says within at = same_Some i (w.order v) (sym at ∙ says.orders v within)

-- of two tests the second, where the first one fails
pub or_else : (P Q : Type 0) (one other : Bool) → Decides one P → one ≡ false → Decides other Q → Decides other (P ⊎ Q)
or_else P Q one other first fails second = (
  λ yes. inr (second.0 yes),
  λ either. elim either [ inl p ↦ absurd (not_from_Decides one first fails p) | inr q ↦ second.1 q ],
)
