-- The block that two nodes have in common (RFC 7811, section 4.4).
use Rattle.std.specs.Prelude.{◌≡◌, ℕ}
use Rattle.link_direction.specs.Directions.{Directions}

-- nodes u and v have block k in common, whose head is h: it is the block of both, or it is the block of one of them and
-- the other one is its head
pub data HaveCommonBlock (w : Directions) (u v k h : ℕ) : Type 0 where
  Peers : w.block u ≡ k → w.block v ≡ k → w.head u ≡ h → HaveCommonBlock w u v k h
  ToHead : w.block u ≡ k → w.head u ≡ v → v ≡ h → HaveCommonBlock w u v k h
  FromHead : w.block v ≡ k → w.head v ≡ u → u ≡ h → HaveCommonBlock w u v k h
