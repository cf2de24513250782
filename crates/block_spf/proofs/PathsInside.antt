-- Where the paths of a block lead, and what they cost.
use Rattle.std.proofs.Common.{◌≡◌, ◌⊎◌, ◌<◌, ◌≤◌, ◌+◌, ◌*◌, ℕ, List, [], ◌∷◌, length, inl, inr, subst, arith}
use Rattle.mrt_graph.specs.declared.link.End.{End}
use Rattle.mrt_graph.specs.GraphInvariant.{IsTopology}
use Rattle.mrt_graph.specs.Topology.{Topology}
use Rattle.mrt_graph.proofs.Hops.{lead_back}
use Rattle.link_direction.specs.Directions.{Directions}
use Rattle.block_spf.specs.declared.reach.Dir.{Dir}
use Rattle.block_spf.specs.Path.{IsStep, Path, cost_of}
use Rattle.block_spf.specs.Turns.{turn_of}
use Rattle.block_spf.proofs.ByTurn.{turn_in}
use Rattle.block_spf.proofs.InBlocks.{Home, Later, move_of, step_from_head, step_from_member}
use Rattle.link_direction.proofs.ClosedBlocks.{IsClosed, IsOrdered, leads_inside}
use Rattle.block_spf.proofs.MoreLinks.{AreIn, first_step}

pub path_within : (g : Topology) (w : Directions) (dir : Dir) (k h x t : ℕ) (end : End) (others : List End) → IsTopology g → Path g w dir k h x (end ∷ others) t → t < length g.ids
path_within g w dir k h x t end [] kept path = subst (λ (y : ℕ). y < length g.ids) path.1 (move_of g w dir k x end kept path.0).to_within
path_within g w dir k h x t end (next ∷ more) kept path = path_within g w dir k h end.to t next more kept path.2

module _ (g : Topology) (root : ℕ) (w : Directions) (dir : Dir) (is : IsOrdered g root w) (k h : ℕ) (closed : IsClosed g root w k h) where
  -- a path leads to a node of the block, or to its head
  leads_to : (x t : ℕ) (end : End) (others : List End) → Path g w dir k h x (end ∷ others) t → (w.block t ≡ k) ⊎ (t ≡ h)
  leads_to x t end [] path =
      let move = move_of g w dir k x end is.kept path.0 in
      subst (λ (y : ℕ). (w.block y ≡ k) ⊎ (y ≡ h)) path.1 (leads_inside g root w k h end.link x end.to is closed move.onward move.in_block)
  leads_to x t end (next ∷ more) path = leads_to end.to t next more path.2

  -- the nodes that it leads from and to lie in the block
  pub path_in : (x t : ℕ) (end : End) (others : List End) → Path g w dir k h x (end ∷ others) t → AreIn g root w x k h t
  path_in x t end others path =
      let move = move_of g w dir k x end is.kept (first_step g w dir k h x t end others path) in
      record {
        closed = closed;
        source = leads_inside g root w k h end.link end.to x is closed (lead_back g.links end.link x end.to move.onward) move.in_block;
        source_within = move.from_within;
        target = leads_to x t end others path;
        target_within = path_within g w dir k h x t end others is.kept path;
      }

  -- its ends lead to later and later turns, so they are few
  low_from : (x t : ℕ) (end : End) (others : List End) → w.block x ≡ k → Path g w dir k h x (end ∷ others) t
      → cost_of (end ∷ others) + 65535 * turn_of dir (length g.ids) w x ≤ 65535 * length g.ids
  low_from x t end [] inside path =
      let move = move_of g w dir k x end is.kept path.0 in
      omega (arith, move.metric, turn_in g root w dir x is.ordered move.from_within)
  low_from x t end (next ∷ more) inside path = elim (step_from_member g root w dir k h x end is closed inside path.0) [
    | Later block later ↦ omega (arith, (move_of g w dir k x end is.kept path.0).metric, later, low_from end.to t next more block path.2)
    | Home home ↦ absurd (path.1 home)
  ]

  pub path_low : (x t : ℕ) (end : End) (others : List End) → Path g w dir k h x (end ∷ others) t → cost_of (end ∷ others) ≤ 268500000
  path_low x t end others path = elim (path_in x t end others path).source [
    | inl inside ↦ omega (arith, low_from x t end others inside path, is.kept.few_nodes)
    | inr head ↦ from_head head others path
  ]
    where
      from_head : x ≡ h → (rest : List End) → Path g w dir k h x (end ∷ rest) t → cost_of (end ∷ rest) ≤ 268500000
      from_head head [] it = omega (arith, (move_of g w dir k x end is.kept it.0).metric)
      from_head head (next ∷ more) it =
          let block = step_from_head g root w dir k h end is closed (subst (λ (y : ℕ). IsStep g w dir k y end) head it.0) in
          omega (arith, (move_of g w dir k x end is.kept it.0).metric, low_from end.to t next more block it.2, is.kept.few_nodes)
