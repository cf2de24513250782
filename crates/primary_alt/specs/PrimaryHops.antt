-- Primaries, hop by hop.
use Rattle.std.specs.Prelude.{◌≡◌, ℕ, Option, Some}
use Rattle.primary_alt.specs.declared.shortest.Primary.{Primary}

-- by the entries that the nodes have for t, the hops from s reach t: s is t, or the hops from its next hop reach t
pub data HopsReach (entries : ℕ → Option Primary) (t : ℕ) : ℕ → Type 0 where
  Arrived : {s : ℕ} → s ≡ t → HopsReach entries t s
  Onward : {s : ℕ} (primary : Primary) → entries s ≡ Some primary → HopsReach entries t primary.next
      → HopsReach entries t s
