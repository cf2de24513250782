-- What installing an LSA does to the entries of a database.
use Rattle.std.specs.Prelude.{◌≡◌, ◌<◌, ◌⊎◌, ℕ, Bool, List, [], ◌∷◌, Option, Some, None, if◌then◌else◌}
use Rattle.std.specs.Option.{is_some}
use Rattle.std.specs.declared.cmp.Ordering.{Ordering}
use Rattle.std.specs.declared.cmp.Ordering.TheVariants.{Less, Equal, Greater}
use Rattle.ospf_lsa.specs.Lsas.{IsOfType, KeepsMetrics}
use Rattle.ospf_lsa.specs.Types.{router_lsa, network_lsa}
use Rattle.ospf_lsa.specs.declared.lsa.Lsa.{Lsa}
use Rattle.lsdb.specs.declared.change.Change.{Change}
use Rattle.lsdb.specs.declared.change.Change.TheVariants.{Added, Replaced, Older, Same, Clash}
use Rattle.lsdb.specs.Entries.{Entry}
use Rattle.lsdb.specs.Keys.{key_of, same_key}
use Rattle.lsdb.specs.Newest.{same_but_age}
use Rattle.lsdb.specs.Rank.{rank_cmp}

-- an entry with the place of a differing instance, where none was noted
abbrev pub noted : Entry → ℕ → Entry
noted entry at = record entry { differing = if is_some entry.differing then entry.differing else Some at }

-- what an instance is to the one of its key that is there, where its rank stands so to that one's: newer, older, or of
-- the same rank
abbrev pub change_by : Ordering → Bool → Change
change_by Greater alike = Replaced
change_by Less alike = Older
change_by Equal alike = if alike then Same else Clash

-- what an instance is to the one of its key that is there
abbrev pub change_of : Lsa → Lsa → Change
change_of there lsa = change_by (rank_cmp lsa there) (same_but_age there lsa)

-- an entry after that change: a newer instance takes its place, and a clash is noted
abbrev pub changed : Entry → Lsa → Change → Entry
changed entry lsa Replaced = record { lsa = lsa; differing = None }
changed entry lsa Clash = noted entry lsa.at
changed entry lsa Added = entry
changed entry lsa Older = entry
changed entry lsa Same = entry

-- entries with an LSA installed, and what that changed: the entry of its key changes in its place, or a new one stands
-- at the end
abbrev pub installed : List Entry → Lsa → List Entry × Change
installed [] lsa = (record { lsa = lsa; differing = None } ∷ [], Added)
installed (entry ∷ entries) lsa =
    if same_key (key_of lsa) (key_of entry.lsa)
    then (changed entry lsa (change_of entry.lsa lsa) ∷ entries, change_of entry.lsa lsa)
    else (entry ∷ (installed entries lsa).0, (installed entries lsa).1)

-- an LSA that may stand in a database: it is a router-LSA or a network-LSA and has the body of its type, the link state
-- ID of a router-LSA is its advertising router, and no metric is 0 where it may not be
pub record IsKept (lsa : Lsa) : Type 0 where
  pub type : (lsa.kind ≡ router_lsa) ⊎ (lsa.kind ≡ network_lsa)
  pub body : IsOfType lsa.kind lsa.body
  pub own_id : lsa.kind ≡ router_lsa → lsa.id ≡ lsa.router
  pub metrics : KeepsMetrics lsa.body

-- a place after the greatest
abbrev pub IsBehind : Option ℕ → ℕ → Type 0
IsBehind None at = Unit {0}
IsBehind (Some greatest) at = greatest < at
