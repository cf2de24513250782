-- What is known on paths from sources, and what is offered.
use Rattle.std.specs.Prelude.{◌≡◌, ◌==◌, ◌<◌, ◌≤◌, ◌⊎◌, ◌+◌, ◌&&◌, ◌||◌, ℕ, Bool, List, length, nat_lt, slice_index, if◌then◌else◌}
use Rattle.block_spf.specs.Rest.{far}

-- of a node on the way from a source: the least cost so far, and the place of the source's end that begins a path of this cost
pub record Known : Type 0 where
  pub cost : ℕ
  pub place : ℕ

-- this cost and this place
abbrev pub known : ℕ → ℕ → Known
known cost place = record { cost = cost; place = place }

-- a place that stands for none: no node has so many ends
abbrev pub no_place : ℕ
no_place = 65535

-- no path is known
abbrev pub nothing : Known
nothing = known far no_place

-- what is known at place i of two lists side by side
abbrev pub known_at : List ℕ → List ℕ → ℕ → Known
known_at costs places i = known (slice_index costs i) (slice_index places i)

-- a lower cost comes before; at equal costs, the lower place
abbrev pub comes_before : Known → Known → Bool
comes_before new old = nat_lt new.cost old.cost || (new.cost == old.cost && nat_lt new.place old.place)

-- the one that comes first; the old one where the two are alike
abbrev pub first_of : Known → Known → Known
first_of new old =
    known (if comes_before new old then new.cost else old.cost) (if comes_before new old then new.place else old.place)

-- one does not come after another
abbrev pub IsNoLater : Known → Known → Type 0
IsNoLater one other = (one.cost < other.cost) ⊎ ((one.cost ≡ other.cost) × (one.place ≤ other.place))

-- as many places as costs; where a cost is far, nothing is known
pub record AreLanes (costs places : List ℕ) : Type 0 where
  pub one_place_each : length places ≡ length costs
  pub none : (i : ℕ) → far ≤ slice_index costs i → known_at costs places i ≡ nothing

-- costs that are not far are so low that any metric may be added
abbrev pub AreLow : List ℕ → Type 0
AreLow costs = (i : ℕ) → slice_index costs i < far → slice_index costs i + 65536 ≤ far

-- at each place that is known afterwards which comes first, of what was known there and all that is offered
pub record AreOffered (Offer : ℕ → Known → Type 0) (before after : ℕ → Known) : Type 0 where
  pub from : (i : ℕ) → (after i ≡ before i) ⊎ (((after i).cost < far) × Offer i (after i))
  pub kept : (i : ℕ) → IsNoLater (after i) (before i)
  pub taken : (i : ℕ) (offer : Known) → Offer i offer → IsNoLater (after i) offer

-- one offer, at one place
pub record IsOne (at : ℕ) (one : Known) (i : ℕ) (offer : Known) : Type 0 where
  pub there : i ≡ at
  pub same : offer ≡ one

-- what is known in some lanes, and an end with this metric more: offered at the places from `at` on
pub record IsOver (costs places : List ℕ) (metric at i : ℕ) (offer : Known) : Type 0 where
  pub lane : ℕ
  pub below : lane < length costs
  pub one : IsOne (at + lane) (known (slice_index costs lane + metric) (slice_index places lane)) i offer

-- an offer of one of some ends, or of one of some sources
pub record OfAny (Of : ℕ → ℕ → Known → Type 0) (i : ℕ) (offer : Known) : Type 0 where
  pub index : ℕ
  pub is : Of index i offer
