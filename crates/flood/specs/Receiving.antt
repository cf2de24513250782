-- What a router does with the LSAs that arrive: it installs those of types 1 and 2, and one is new to it where it is of a
-- new key or newer than what was there (RFC 2328, section 13.1, without its last rule on ages).
use Rattle.std.specs.Prelude.{◌≤◌, ◌+◌, ℕ, Bool, true, false, List, [], ◌∷◌, length, if◌then◌else◌}
use Rattle.std.specs.List.{AllByRecursion, filter}
use Rattle.ospf_lsa.specs.declared.lsa.Lsa.{Lsa}
use Rattle.ospf_lsa.specs.AreaLsas.{is_area_lsa}
use Rattle.lsdb.specs.declared.change.Change.{Change}
use Rattle.lsdb.specs.declared.change.Change.TheVariants.{Added, Replaced, Older, Same, Clash}
use Rattle.lsdb.specs.Installing.{installed, IsKept}
use Rattle.flood.specs.Routers.{Router}
use Rattle.flood.specs.declared.update.Update.{Update}
use Rattle.flood.specs.Databases.{after_install, empty_database}

-- the LSAs of types 1 and 2
abbrev pub topology : List Lsa → List Lsa
topology lsas = filter is_area_lsa lsas

-- an LSA with this arrival number as its place
abbrev pub arrived : ℕ → Lsa → Lsa
arrived number lsa = record lsa { at = number }

-- a router that no packet has reached
abbrev pub new_router : Router
new_router = record { database = empty_database; arrivals = 0 }

-- a router after one more LSA was installed, with the next arrival number as its place
abbrev pub after_one : Router → Lsa → Router
after_one router lsa = record {
  database = after_install router.database (arrived router.arrivals lsa);
  arrivals = router.arrivals + 1;
}

-- a router after LSAs were installed one after another
abbrev pub after_all : Router → List Lsa → Router
after_all router [] = router
after_all router (lsa ∷ lsas) = after_all (after_one router lsa) lsas

-- an install that answers so had a new LSA
abbrev pub is_new : Change → Bool
is_new Added = true
is_new Replaced = true
is_new Older = false
is_new Same = false
is_new Clash = false

-- whether an LSA is new to a router
abbrev pub is_news : Router → Lsa → Bool
is_news router lsa = is_new (installed router.database.entries (arrived router.arrivals lsa)).1

-- of LSAs that are installed one after another those that are new when they come, as they stand in their packet
abbrev pub news : Router → List Lsa → List Lsa
news router [] = []
news router (lsa ∷ lsas) =
    if is_news router lsa then lsa ∷ news (after_one router lsa) lsas else news (after_one router lsa) lsas

-- a packet whose LSAs may be installed: it has at most 65,535 LSAs, and those of types 1 and 2 may stand in a database
pub record MayFlood (update : Update) : Type 0 where
  pub few : length update.lsas ≤ 65535
  pub kept : AllByRecursion IsKept (topology update.lsas)
