-- The steps by which the nodes of a side are found, from its router on; and the ends of a node that are asked for.
use Rattle.std.specs.Prelude.{◌≡◌, ◌<◌, ℕ, true, List, Some, length, slice_get, false}
use Rattle.mrt_graph.specs.declared.link.End.{End}
use Rattle.mrt_graph.specs.Certificate.{Certificate}
use Rattle.mrt_graph.specs.Topology.{Topology}
use Rattle.mrt_graph.specs.CertFields.{has_role}
use Rattle.mrt_graph.specs.Roles.{is_plain}
use Rattle.proxy_rows.specs.declared.attachment.Attachment.{Attachment}
use Rattle.proxy_rows.specs.declared.side.Side.{Side}
use Rattle.proxy_rows.specs.Sides.{IsMember, IsOfBlock, goes_on}
use Rattle.proxy_rows.specs.declared.ends.Wanted.{Wanted}
use Rattle.proxy_rows.specs.declared.ends.Wanted.TheVariants.{NotPlain, Onward, PlainToLow}
use Rattle.proxy_rows.specs.declared.side.Side.TheVariants.{Low}
use Rattle.proxy_rows.specs.ProxyRows.{IsOnward, IsPlainToLow}

-- an end of v is over a link of the block to a member from which one goes on to v
pub record LeadsToMember (c : Certificate) (at : Attachment) (side : Side) (v : ℕ) (end : End) : Type 0 where
  pub of_block : IsOfBlock c at end.link
  pub member : IsMember c at end.to
  pub onward : goes_on c side end.to v ≡ true

-- it leads to s
abbrev pub LeadsTo : Certificate → Attachment → Side → ℕ → End → ℕ → Type 0
LeadsTo c at side v end s = LeadsToMember c at side v end × (s ≡ end.to)

-- one of these ends does
abbrev pub OneLeadsTo : Certificate → Attachment → Side → ℕ → List End → ℕ → Type 0
OneLeadsTo c at side v ends s =
    (place : ℕ) × (end : End) × (slice_get ends place ≡ Some end) × LeadsTo c at side v end s

-- one of the ends of v does
pub record StepsTo (g : Topology) (c : Certificate) (at : Attachment) (side : Side) (v s : ℕ) : Type 0 where
  pub ends : List End
  pub list : slice_get g.ends v ≡ Some ends
  pub one : OneLeadsTo c at side v ends s

-- each of these ends is over a link of the certificate, to a node of it
abbrev pub AreEndsWithin : Certificate → List End → Type 0
AreEndsWithin c ends =
    (k : ℕ) (end : End) → slice_get ends k ≡ Some end → (end.link < length c.links) × (end.to < length c.nodes)

-- none of the first so many of these ends has it
abbrev pub NoneBefore : (End → Type 0) → List End → ℕ → Type 0
NoneBefore Asked ends place = (k : ℕ) (end : End) → k < place → slice_get ends k ≡ Some end → ¬ Asked end

-- no end of v has it
abbrev pub HasNoEnd : Topology → (End → Type 0) → ℕ → Type 0
HasNoEnd g Asked v = (ends : List End) (k : ℕ) (end : End) → slice_get g.ends v ≡ Some ends → slice_get ends k ≡ Some end → ¬ Asked end

-- an end over a link of the block that is not plain: over its closing link, or its one link
pub record IsNotPlain (c : Certificate) (at : Attachment) (end : End) : Type 0 where
  pub of_block : IsOfBlock c at end.link
  pub not_plain : has_role is_plain c end.link ≡ false

-- an end of v with what is asked for
abbrev pub IsWanted : Topology → Certificate → Attachment → Wanted → ℕ → End → Type 0
IsWanted g c at PlainToLow v end = IsPlainToLow g c at end
IsWanted g c at NotPlain v end = IsNotPlain c at end
IsWanted g c at (Onward side) v end = IsOnward g c at side v end

-- the side whose nodes are asked for, where some are
abbrev pub side_of : Wanted → Side
side_of PlainToLow = Low
side_of NotPlain = Low
side_of (Onward side) = side
