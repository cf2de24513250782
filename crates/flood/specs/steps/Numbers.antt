-- How the code keeps packets and databases: each LSA of the file stands once in one list, and is told by its number there.
use Rattle.std.specs.Prelude.{◌<◌, ℕ, pos, List, [], Some, length, map, slice_index_or, if◌then◌else◌}
use Rattle.std.specs.List.{AllByRecursion}
use Rattle.std.specs.Option.{is_some}
use Rattle.ospf_lsa.specs.declared.lsa.Body.TheVariants.{Other}
use Rattle.ospf_lsa.specs.declared.lsa.Lsa.{Lsa}
use Rattle.lsdb.specs.Entries.{Database, Entry}
use Rattle.flood.specs.declared.database_copy.DatabaseCopy.{DatabaseCopy}
use Rattle.flood.specs.declared.numbered_update.NumberedUpdate.{NumberedUpdate}
use Rattle.flood.specs.declared.receiver.Receiver.{Receiver}
use Rattle.flood.specs.declared.store.Store.{Store}
use Rattle.flood.specs.declared.update.Update.{Update}
use Rattle.flood.specs.FloodState.{FloodState}
use Rattle.flood.specs.steps.FloodState.{IsFlood}
use Rattle.flood.specs.Receiving.{arrived}
use Rattle.flood.specs.Routers.{Router}
use Rattle.flood.specs.steps.SharedStore.{IsSharedStore}

-- what stands for an LSA where none has the number
abbrev pub no_lsa : Lsa
no_lsa = record {
  at = 0;
  age = 0;
  options = 0;
  kind = 0;
  id = 0;
  router = 0;
  sequence = pos 0;
  checksum = 0;
  body = Other [];
}

-- the LSA of a number, and those of numbers
abbrev pub lsa_in : List Lsa → ℕ → Lsa
lsa_in lsas number = slice_index_or lsas number no_lsa

abbrev pub lsas_by : List Lsa → List ℕ → List Lsa
lsas_by lsas numbers = map (lsa_in lsas) numbers

-- what is held with the place of a differing instance, if none was noted
abbrev pub noted_in : DatabaseCopy → ℕ → DatabaseCopy
noted_in held at = record held { differing = if is_some held.differing then held.differing else Some at }

-- an entry, whose LSA has its place in this database; a database; a router
abbrev pub entry_in : List Lsa → DatabaseCopy → Entry
entry_in lsas held = record { lsa = arrived held.at (lsa_in lsas held.number); differing = held.differing }

abbrev pub entries_by : List Lsa → List DatabaseCopy → List Entry
entries_by lsas held = map (entry_in lsas) held

abbrev pub database_in : List Lsa → Store → Database
database_in lsas store = record { entries = entries_by lsas store.held.items; greatest = store.greatest }

abbrev pub router_in : List Lsa → Receiver → Router
router_in lsas receiver = record { database = database_in lsas receiver.store; arrivals = receiver.arrivals }

-- a packet
abbrev pub update_in : List Lsa → NumberedUpdate → Update
update_in lsas packet = record {
  at = packet.at;
  router = packet.router;
  area = packet.area;
  lsas = lsas_by lsas packet.lsas.items;
}

-- packets, and the routers that they reach
abbrev pub flood_in : List Lsa → List NumberedUpdate → List Receiver → ℕ → FloodState
flood_in lsas packets receivers changed = record {
  packets = map (update_in lsas) packets;
  routers = map (router_in lsas) receivers;
  changed = changed;
}

-- numbers that LSAs have
abbrev pub AreNumbers : List Lsa → List ℕ → Type 0
AreNumbers lsas numbers = AllByRecursion (λ number. number < length lsas) numbers

-- a database of such numbers, with its keys
pub record IsStored (lsas : List Lsa) (store : Store) : Type 0 where
  pub entries : IsSharedStore store.keys.keys (entries_by lsas store.held.items) store.greatest
  pub numbers : AllByRecursion (λ held. held.number < length lsas) store.held.items

-- what holds at any time
pub record IsFloodIn (lsas : List Lsa) (packets : List NumberedUpdate) (receivers : List Receiver) (changed : ℕ)
    : Type 0 where
  pub flood : IsFlood (flood_in lsas packets receivers changed)
  pub numbers : AllByRecursion (λ packet. AreNumbers lsas packet.lsas.items) packets
  pub stored : AllByRecursion (λ receiver. IsStored lsas receiver.store) receivers
