-- What two nodes have in common, as their places tell.
use Rattle.std.proofs.Common.{◌≡◌, ◌≢◌, ◌<◌, ℕ, length, inl, inr}
use Rattle.link_direction.specs.CommonBlock.{HaveCommonBlock}
use Rattle.mrt_rows.specs.RowLines.{AreMembers, HasOneLink}
use Rattle.mrt_rows.specs.steps.Put.{NoneOfOneLink}
use Rattle.mrt_rows.proofs.OrderedGraphs.{OrderedGraph}
use Rattle.mrt_rows.proofs.Ways.{Ring}
use Rattle.mrt_rows.proofs.WaysBegun.{peer_ring, peers_are}

module _ (og : OrderedGraph) (s t : ℕ) (s_within : s < length og.g.ids) (t_within : t < length og.g.ids) (two : s ≢ t)
    (more : NoneOfOneLink og.g og.w s t) where
  -- the block of m, which the two have in common
  pub ring_by : (m h : ℕ) → m < length og.g.ids → m ≢ og.root → HaveCommonBlock og.w s t (og.w.block m) h → Ring og m
  ring_by m h inside other common = elim (og.ordered.blocks m inside other) [
    | inl sole ↦
        let one : HasOneLink og.g og.w (og.w.block m) sole.link =
        record { within = sole.within; in_block = sole.in_block; no_other = sole.no_other_link } in
        absurd (more (og.w.block m) h sole.link common one)
    | inr closed ↦ record { inside = inside; other = other; closed = closed }
  ]

  -- another member
  module _ (same : og.w.block s ≡ og.w.block t) where
    pub member_ring : Ring og s
    member_ring = peer_ring og s t s_within t_within two same

    pub are_members : AreMembers og.g og.w s t (og.w.block s) (og.w.head s)
    are_members = peers_are og s t s_within t_within two same
