-- What has failed.
use Rattle.std.specs.Prelude.{◌≡◌, ◌<◌, ◌⊎◌, ℕ, length}
use Rattle.mrt_graph.specs.declared.link.Element.{Element}
use Rattle.mrt_graph.specs.declared.link.Element.TheVariants as elements
use Rattle.mrt_graph.specs.Separates.{IsNeitherEnd}
use Rattle.mrt_graph.specs.Topology.{Topology}
use Rattle.link_direction.specs.Directions.{Directions}
use Rattle.block_spf.specs.LeastPath.{HaveCommonBlockOfMoreLinks}

-- a node of block k, its head h included
pub record IsNodeOf (g : Topology) (w : Directions) (k h x : ℕ) : Type 0 where
  pub within : x < length g.ids
  pub in_block : (w.block x ≡ k) ⊎ (x ≡ h)

-- a link of block k
pub record IsLinkOf (g : Topology) (w : Directions) (k e : ℕ) : Type 0 where
  pub within : e < length g.links
  pub in_block : w.lies_in e ≡ k

-- a node or a link of block k, whose head is h
abbrev pub LiesIn : Topology → Directions → ℕ → ℕ → Element → Type 0
LiesIn g w k h (elements.Link e) = IsLinkOf g w k e
LiesIn g w k h (elements.Node x) = IsNodeOf g w k h x

-- s and t are nodes with a block of more than one link in common, and x is a link of it, or a node of it other than the two
pub record IsBetween (g : Topology) (w : Directions) (s t : ℕ) (x : Element) : Type 0 where
  pub source : s < length g.ids
  pub target : t < length g.ids
  pub block : ℕ
  pub head : ℕ
  pub share : HaveCommonBlockOfMoreLinks g w s t block head
  pub lies : LiesIn g w block head x
  pub neither : IsNeitherEnd x s t

-- the number of a node or a link is in range
abbrev pub IsWithin : Topology → Element → Type 0
IsWithin g (elements.Link e) = e < length g.links
IsWithin g (elements.Node x) = x < length g.ids
