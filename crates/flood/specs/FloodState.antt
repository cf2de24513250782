-- Packets, and the routers that they reach.
use Rattle.std.specs.Prelude.{ℕ, List, Option, slice_get, replicate}
use Rattle.std.specs.Option.{option_map}
use Rattle.lsdb.specs.Entries.{Database}
use Rattle.flood.specs.Routers.{Router}
use Rattle.flood.specs.declared.update.Update.{Update}
use Rattle.flood.specs.Receiving.{new_router}

-- the packets, each router's database and next arrival number, and how many deliveries were answered Changed
pub record FloodState : Type 0 where
  pub packets : List Update
  pub routers : List Router
  pub changed : ℕ

-- the state before any delivery: the packets of a file, and so many routers with empty databases
abbrev pub started : List Update → ℕ → FloodState
started updates count = record { packets = updates; routers = replicate count new_router; changed = 0 }

-- the database of a router
abbrev pub database_of : FloodState → ℕ → Option Database
database_of state router = option_map (λ there. there.database) (slice_get state.routers router)
