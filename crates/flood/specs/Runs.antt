-- Runs of deliveries, and what they bring to a router. A packet that is sent on may be delivered to any router, at any
-- time, or never.
use Rattle.std.specs.Prelude.{◌≡◌, ◌<◌, ◌≤◌, ◌+◌, ◌++◌, ◌==◌, ◌&&◌, ◌⊎◌, ℕ, zero, suc, Bool, List, [], ◌∷◌, Option, Some, None, length, slice_get, if◌then◌else◌}
use Rattle.std.specs.List.{AllByRecursion, flat_map}
use Rattle.std.specs.Option.{option_map_or}
use Rattle.std.specs.Ordering.{is_eq}
use Rattle.ospf_lsa.specs.declared.lsa.Lsa.{Lsa}
use Rattle.lsdb.specs.Keys.{key_of, same_key}
use Rattle.lsdb.specs.Installing.{IsKept}
use Rattle.lsdb.specs.Newest.{IsSettled}
use Rattle.lsdb.specs.Orders.{newest_in, HoldTheSame}
use Rattle.lsdb.specs.Rank.{rank_cmp}
use Rattle.flood.specs.declared.answer.Answer.{Answer}
use Rattle.flood.specs.declared.answer.Answer.TheVariants as answers
use Rattle.flood.specs.declared.update.Update.{Update}
use Rattle.flood.specs.FloodState.{FloodState, started}
use Rattle.flood.specs.FloodStep.{delivered}
use Rattle.flood.specs.Receiving.{arrived, topology}

-- a delivery: a packet to a router, both by number
pub record Delivery : Type 0 where
  pub packet : ℕ
  pub router : ℕ

-- the state after one delivery
abbrev pub after_delivery : FloodState → Delivery → FloodState
after_delivery state delivery = (delivered state delivery.packet delivery.router).1

-- the state after deliveries, one after another
abbrev pub after_deliveries : FloodState → List Delivery → FloodState
after_deliveries state [] = state
after_deliveries state (delivery ∷ deliveries) = after_deliveries (after_delivery state delivery) deliveries

-- the LSAs of a packet; none where there is no such packet
abbrev pub lsas_at : FloodState → ℕ → List Lsa
lsas_at state packet = option_map_or (λ update. update.lsas) (slice_get state.packets packet) []

-- the LSAs of types 1 and 2 that a delivery brings to a router
abbrev pub brought_by : FloodState → Delivery → ℕ → List Lsa
brought_by state delivery router =
    if delivery.router == router then topology (lsas_at state delivery.packet) else []

-- those that deliveries bring to it, in their order
abbrev pub brought : FloodState → List Delivery → ℕ → List Lsa
brought state [] router = []
brought state (delivery ∷ deliveries) router =
    brought_by state delivery router ++ brought (after_delivery state delivery) deliveries router

-- LSAs with arrival numbers, from this one on
abbrev pub numbered : ℕ → List Lsa → List Lsa
numbered number [] = []
numbered number (lsa ∷ lsas) = arrived number lsa ∷ numbered (number + 1) lsas

-- the last of so many numbers from 0, if there is one
abbrev pub last_number : ℕ → Option ℕ
last_number zero = None
last_number (suc number) = Some number

-- what deliveries of a file's packets to so many routers brought to a router: the LSAs of types 1 and 2 of all packets
-- that were delivered to it, in the order of delivery, with arrival numbers
abbrev pub delivered_to : List Update → ℕ → List Delivery → ℕ → List Lsa
delivered_to updates count deliveries router = numbered 0 (brought (started updates count) deliveries router)

-- the LSAs of the packet that an answer says was sent on
abbrev pub sent_in : FloodState → Answer → List Lsa
sent_in state (answers.Changed count (Some number)) = lsas_at state number
sent_in state (answers.Changed count None) = []
sent_in state answers.NoSuchPacket = []
sent_in state answers.NoSuchRouter = []

-- those that a router sends on after one delivery
abbrev pub sent_after : FloodState → Delivery → ℕ → List Lsa
sent_after state delivery router =
    if delivery.router == router
    then sent_in (after_delivery state delivery) (delivered state delivery.packet delivery.router).0 else []

-- those that a router sends on over deliveries, in their order
abbrev pub sent : FloodState → List Delivery → ℕ → List Lsa
sent state [] router = []
sent state (delivery ∷ deliveries) router =
    sent_after state delivery router ++ sent (after_delivery state delivery) deliveries router

-- whether two LSAs are instances of one key and one rank
abbrev pub same_instance : Lsa → Lsa → Bool
same_instance one other = same_key (key_of one) (key_of other) && is_eq (rank_cmp one other)

-- the LSAs of the packets of a file
abbrev pub lsas_of : List Update → List Lsa
lsas_of updates = flat_map (λ update. update.lsas) updates

-- a packet was delivered to a router, at a time when there was such a packet
abbrev pub WasDelivered : FloodState → List Delivery → ℕ → ℕ → Type 0
WasDelivered state [] packet router = ⊥
WasDelivered state (delivery ∷ deliveries) packet router =
    ((delivery.packet ≡ packet) × (delivery.router ≡ router) × (packet < length state.packets))
    ⊎ WasDelivered (after_delivery state delivery) deliveries packet router

-- flooding is done: each packet of the file was delivered to at least one router, each packet that was sent on was
-- delivered to every router, and of the file's LSAs of types 1 and 2 the newest instances of each key differ in nothing
-- but places and ages
pub record IsFlooded (updates : List Update) (count : ℕ) (deliveries : List Delivery) : Type 0 where
  pub once : (packet : ℕ) → packet < length updates
      → (router : ℕ) × (router < count) × WasDelivered (started updates count) deliveries packet router
  pub everywhere : (packet router : ℕ) → length updates ≤ packet
      → packet < length (after_deliveries (started updates count) deliveries).packets → router < count
      → WasDelivered (started updates count) deliveries packet router
  pub settled : IsSettled (topology (lsas_of updates))

-- these are the first newest instances of each key of two lists that hold the same LSAs, where these lists are settled
-- and their LSAs may stand in a database
pub record AreNewestOfTheSame (one other : List Lsa) : Type 0 where
  pub lsas : List Lsa
  pub others : List Lsa
  pub kept : AllByRecursion IsKept lsas
  pub settled : IsSettled lsas
  pub same : HoldTheSame lsas others
  pub one_is : one ≡ newest_in lsas
  pub other_is : other ≡ newest_in others
