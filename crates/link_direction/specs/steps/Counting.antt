-- Counted links on their way to being taken off.
use Rattle.std.specs.Prelude.{◌≡◌, ◌≢◌, ◌==◌, ◌<◌, ◌+◌, ◌⊎◌, ℕ, zero, suc, Bool, false, List, Option, Some, None, Contains, length, slice_get, slice_index_or, if◌then◌else◌}
use Rattle.std.specs.Option.{option_and_then, option_map_or}
use Rattle.mrt_graph.specs.declared.cert.Role.{Role}
use Rattle.mrt_graph.specs.declared.cert.Role.TheVariants.{Plain, Sole, Closing}
use Rattle.mrt_graph.specs.declared.gadag.Mark.{Mark}
use Rattle.mrt_graph.specs.declared.link.End.{End}
use Rattle.mrt_graph.specs.declared.link.Link.{Link}
use Rattle.mrt_graph.specs.GraphInvariant.{IsTopology}
use Rattle.mrt_graph.specs.Leads.{far_node}
use Rattle.mrt_graph.specs.Tails.{tail_of}
use Rattle.mrt_graph.specs.Topology.{Topology}
use Rattle.gadag_ears.specs.Counted.{IsCounted}
use Rattle.link_direction.specs.GadagOrder.{IsGadagOrder}

-- the node that a link with this mark enters as a counted link; none where it is not counted
abbrev pub entered_with : Link → Role → Option ℕ → Option ℕ
entered_with link Plain tail = option_and_then (λ u. far_node u link) tail
entered_with link Sole tail = option_and_then (λ u. far_node u link) tail
entered_with link Closing tail = None

-- the node that link number e enters as a counted link; none where it is not counted, or there is no such link
abbrev pub entered_by : Topology → List Mark → ℕ → Option ℕ
entered_by g marks e =
    option_and_then (λ link. option_and_then (λ mark. entered_with link mark.role (tail_of link mark.way))
    (slice_get marks e)) (slice_get g.links e)

-- whether link e is left, and enters v
abbrev pub enters : (ℕ → Option ℕ) → ℕ → ℕ → Bool
enters left v e = option_map_or (λ w. w == v) (left e) false

-- how many of the first n numbers pass a test
abbrev pub count_to : (ℕ → Bool) → ℕ → ℕ
count_to test zero = 0
count_to test (suc n) = count_to test n + (if test n then 1 else 0)

-- of the first m links, so many are left that enter each node
pub record AreCounts (left : ℕ → Option ℕ) (m : ℕ) (nodes : ℕ) (counts : List ℕ) : Type 0 where
  pub one_each : length counts ≡ nodes
  pub each : (v : ℕ) → v < nodes → slice_index_or counts v 0 ≡ count_to (enters left v) m

-- in the list, link e of node u has been passed: u stands before this place, or it stands there and its end on e is one
-- of the first ones that are passed
pub record IsPassed (g : Topology) (order : List ℕ) (place passed e u : ℕ) : Type 0 where
  pub at : ℕ
  pub node : slice_get order at ≡ Some u
  pub ends : List End
  pub list : slice_get g.ends u ≡ Some ends
  pub end_at : ℕ
  pub end : End
  pub there : slice_get ends end_at ≡ Some end
  pub over : end.link ≡ e
  pub before : (at < place) ⊎ ((at ≡ place) × (end_at < passed))

-- each node stands at one place of the list
abbrev pub StandOnce : List ℕ → Type 0
StandOnce order = (j k v : ℕ) → slice_get order j ≡ Some v → slice_get order k ≡ Some v → j ≡ k

-- the turns of the nodes before this place are over, and of the node there so many ends are passed. Each counted link
-- is left or passed, and never both; a node is in the list where none is left that enters it
pub record IsUnderWay (g : Topology) (root : ℕ) (marks : List Mark) (place passed : ℕ)
    (counts order : List ℕ) : Type 0 where
  pub kept : IsTopology g
  pub ordered : IsGadagOrder g root marks order
  pub once : StandOnce order
  pub within : (v : ℕ) → Contains order v → v < length g.ids
  pub left : ℕ → Option ℕ
  pub are_counts : AreCounts left (length g.links) (length g.ids) counts
  pub counted : (e v : ℕ) → left e ≡ Some v → (u : ℕ) × IsCounted g marks e u v
  pub not_passed : (e u v : ℕ) → left e ≡ Some v → IsCounted g marks e u v → ¬ IsPassed g order place passed e u
  pub or_passed : (e u v : ℕ) → IsCounted g marks e u v → (left e ≡ Some v) ⊎ IsPassed g order place passed e u
  pub none_left : (e v : ℕ) → Contains order v → left e ≢ Some v
  pub all_listed : (e u v : ℕ) → IsCounted g marks e u v → ((d : ℕ) → left d ≢ Some v) → Contains order v

-- this end of node x stands after so many of its ends
pub record IsEndOf (g : Topology) (x passed : ℕ) (end : End) : Type 0 where
  pub ends : List End
  pub list : slice_get g.ends x ≡ Some ends
  pub there : slice_get ends passed ≡ Some end

-- it is the turn of node x, for some root, and so many of its ends are passed
pub record IsTurn (g : Topology) (marks : List Mark) (x passed : ℕ) (counts order : List ℕ) : Type 0 where
  pub root : ℕ
  pub place : ℕ
  pub here : slice_get order place ≡ Some x
  pub under_way : IsUnderWay g root marks place passed counts order

-- in the turn of node x it is the turn of this end
pub record IsTurnOfEnd (g : Topology) (marks : List Mark) (x : ℕ) (end : End) (counts order : List ℕ) : Type 0 where
  pub passed : ℕ
  pub turn : IsTurn g marks x passed counts order
  pub end_here : IsEndOf g x passed end
