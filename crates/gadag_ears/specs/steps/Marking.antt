-- The links of an ear on their way to their marks.
use Rattle.std.specs.Prelude.{◌≡◌, ◌≢◌, ◌<◌, ◌==◌, ℕ, Bool, IsTrue, List, [], ◌∷◌, Some, Contains, length, slice_get}
use Rattle.std.specs.Prelude.{if◌then◌else◌}
use Rattle.mrt_graph.specs.declared.cert.Role.{Role}
use Rattle.mrt_graph.specs.declared.cert.Role.TheVariants.{Closing, Plain, Sole}
use Rattle.mrt_graph.specs.declared.gadag.Mark.{Mark}
use Rattle.mrt_graph.specs.declared.gadag.Way.{Way}
use Rattle.mrt_graph.specs.declared.gadag.Way.TheVariants.{AToB, BToA}
use Rattle.mrt_graph.specs.declared.link.Link.{Link}
use Rattle.mrt_graph.specs.declared.tree.TreeNode.{TreeNode}
use Rattle.mrt_graph.specs.GadagFields.{role_at, way_at}
use Rattle.mrt_graph.specs.Leads.{leads}
use Rattle.mrt_graph.specs.Topology.{Topology}
use Rattle.gadag_ears.specs.declared.kind.EarKind.{EarKind}
use Rattle.gadag_ears.specs.Ear.{Ear, new_nodes, onward_link}
use Rattle.gadag_ears.specs.LinkMarks.{IsLastOfBlock, IsOfOneLink, IsOnEar}

-- the direction of a link away from its node v
abbrev pub way_along : ℕ → Link → Way
way_along v link = if link.a == v then AToB else BToA

-- there is a link e, and its direction is the one away from its node v
abbrev pub IsSetAway : Topology → List Mark → ℕ → ℕ → Type 0
IsSetAway g marks v e = (link : Link) × (slice_get g.links e ≡ Some link) × (way_at marks e ≡ Some (way_along v link))

-- the mark of a link that is directed away from its node v; its block comes later
abbrev pub mark_along : ℕ → Link → Role → Mark
mark_along v link role = record { way = way_along v link; role = role; block = v }

-- a new node has a link over which the ear goes on
pub record GoesOver (g : Topology) (tree : List TreeNode) (kind : EarKind) (v : ℕ) : Type 0 where
  pub within : v < length tree
  pub link : ℕ
  pub over : onward_link kind tree v ≡ Some link
  pub to : ℕ
  pub onward : leads g.links link v ≡ Some to

-- the links of an ear can be marked one by one: each is on the ear once, but for the one link of a block
pub record IsMarkable (g : Topology) (tree : List TreeNode) (kind : EarKind) (x link : ℕ) (new : List ℕ)
    (begins : Bool) : Type 0 where
  pub some_node : 0 < length new
  pub to : ℕ
  pub touches : leads g.links link x ≡ Some to
  pub each : (v : ℕ) → Contains new v → GoesOver g tree kind v
  pub differ : (v w e : ℕ) → Contains new v → Contains new w → onward_link kind tree v ≡ Some e
      → onward_link kind tree w ≡ Some e → v ≡ w
  pub once : (v : ℕ) → Contains new v → onward_link kind tree v ≡ Some link → IsTrue begins × (new ≡ v ∷ [])

-- link e has the mark of one that is directed away from v
abbrev pub HasMark : Topology → List Mark → ℕ → ℕ → Role → Type 0
HasMark g marks v e role =
    (link : Link) × (slice_get g.links e ≡ Some link) × (slice_get marks e ≡ Some (mark_along v link role))

-- the first link, and those of some new nodes, have their marks
pub record AreSetAlong (g : Topology) (tree : List TreeNode) (kind : EarKind) (x link : ℕ) (some : List ℕ)
    (marks marks' : List Mark) : Type 0 where
  pub one_each : length marks' ≡ length marks
  pub out : HasMark g marks' x link Plain
  pub along : (v e : ℕ) → Contains some v → onward_link kind tree v ≡ Some e → HasMark g marks' v e Plain
  pub others : (e : ℕ) → e ≢ link → ((v : ℕ) → Contains some v → onward_link kind tree v ≡ Some e → ⊥)
      → slice_get marks' e ≡ slice_get marks e

-- the marks of an ear's links are set, and all others are as before
pub record AreEarMarked (g : Topology) (tree : List TreeNode) (ear : Ear) (marks marks' : List Mark) : Type 0 where
  pub one_each : length marks' ≡ length marks
  pub out : IsSetAway g marks' ear.start ear.link
  pub onward : (v e : ℕ) → ¬ IsOfOneLink tree ear → Contains (new_nodes ear) v
      → onward_link ear.kind tree v ≡ Some e → IsSetAway g marks' v e
  pub sole : IsOfOneLink tree ear → role_at marks' ear.link ≡ Some Sole
  pub closing : (e : ℕ) → IsLastOfBlock tree ear e → e ≢ ear.link → role_at marks' e ≡ Some Closing
  pub plain : (v e : ℕ) → IsOnEar tree ear v e → ¬ IsLastOfBlock tree ear e → role_at marks' e ≡ Some Plain
  pub others : (e : ℕ) → ((v : ℕ) → ¬ IsOnEar tree ear v e) → slice_get marks' e ≡ slice_get marks e
