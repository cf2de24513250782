-- Flags that tell eligible pairs, and what leads over these.
use Rattle.std.proofs.Common.{◌≡◌, ◌↔◌, ◌<◌, ◌∙◌, ℕ, Bool, true, false, List, [], ◌∷◌, length, get_or, map, Some, sym, ap, arith}
use Rattle.std.specs.Prelude.{slice_get}
use Rattle.std.specs.List.{AllByRecursion}
use Rattle.std.proofs.lemmas.Bool.{and_parts}
use Rattle.std.proofs.lemmas.List.{get_or-map}
use Rattle.std.proofs.lemmas.Option.{slice_get_within, get_or_from_slice_get}
use Rattle.mrt_graph.specs.declared.node_id.NodeId.{NodeId}
use Rattle.mrt_graph.specs.Reachable.{Reachable}
use Rattle.mrt_graph.specs.Search.{IsMarked}
use Rattle.mrt_graph.proofs.Settled.{path_weaker}
use Rattle.area_graph.specs.AreaInvariant.{IsBond}
use Rattle.area_graph.specs.Parts.{AreaParts}
use Rattle.area_graph.specs.declared.area_types.Bond.{Bond}
use Rattle.mrt_island.specs.Policy.{Policy}
use Rattle.mrt_island.specs.Eligible.{is_eligible}
use Rattle.mrt_island.specs.Members.{IsMember, Joins}
use Rattle.mrt_island.specs.steps.Searching.{ArePairs, LeadsOver}

-- the flag of a bond
pub flag_at : (p : Bond → Bool) (bonds : List Bond) (k : ℕ) (bond : Bond) → slice_get bonds k ≡ Some bond → get_or (map p bonds) k false ≡ p bond
flag_at p bonds k bond there = get_or-map p bonds k bond false (slice_get_within bonds k bond there) ∙ ap p (get_or_from_slice_get bonds k bond bond there)

-- an eligible pair is a pair
pub eligible_paired : (policy : Policy) (ids : List NodeId) (bond : Bond) → is_eligible policy ids bond ≡ true → bond.paired ≡ true
eligible_paired policy ids bond eligible = (and_parts bond.paired _ eligible).0

pub are_pairs : (policy : Policy) (ids : List NodeId) (bonds : List Bond) (flags : List Bool) → flags ≡ map (is_eligible policy ids) bonds → ArePairs bonds flags
are_pairs policy ids bonds flags told = λ k bond there set.
    eligible_paired policy ids bond (sym (flag_at (is_eligible policy ids) bonds k bond there) ∙ ap (λ (f : List Bool). get_or f k false) (sym told) ∙ set)

-- what leads over a flagged bond leads over an eligible pair, and the other way round
joins_over : (policy : Policy) (area : AreaParts) (flags : List Bool) (u v : ℕ) → flags ≡ map (is_eligible policy area.ids) area.bonds → LeadsOver area.bonds flags u v → Joins policy area u v
joins_over policy area flags u v told over = record {
  number = over.number;
  bond = over.bond;
  there = over.there;
  eligible = sym (flag_at (is_eligible policy area.ids) area.bonds over.number over.bond over.there) ∙ ap (λ (f : List Bool). get_or f over.number false) (sym told) ∙ over.flag;
  leads = over.leads;
}

over_joins : (policy : Policy) (area : AreaParts) (flags : List Bool) (u v : ℕ) → flags ≡ map (is_eligible policy area.ids) area.bonds → Joins policy area u v → LeadsOver area.bonds flags u v
over_joins policy area flags u v told joins = record {
  number = joins.number;
  bond = joins.bond;
  there = joins.there;
  flag = ap (λ (f : List Bool). get_or f joins.number false) told ∙ flag_at (is_eligible policy area.ids) area.bonds joins.number joins.bond joins.there ∙ joins.eligible;
  leads = joins.leads;
}

-- what a search over flagged bonds finds is what is in the island
pub are_members : (policy : Policy) (area : AreaParts) (flags inside : List Bool) (start s : ℕ) → flags ≡ map (is_eligible policy area.ids) area.bonds
    → (IsMarked inside s ↔ Reachable (LeadsOver area.bonds flags) start s) → IsMarked inside s ↔ IsMember policy area start s
are_members policy area flags inside start s told settled = (
  λ m. let r : Reachable (LeadsOver area.bonds flags) start s = settled.0 m in
      (r.0, path_weaker (LeadsOver area.bonds flags) (Joins policy area) (λ u v h. joins_over policy area flags u v told h) r.0 start s r.1),
  λ (r : IsMember policy area start s). settled.1
      (r.0, path_weaker (Joins policy area) (LeadsOver area.bonds flags) (λ u v h. over_joins policy area flags u v told h) r.0 start s r.1),
)

-- the nodes of bonds are among those that have a flag
pub both_within : (ids : List NodeId) (bonds : List Bond) (inside : List Bool) → length inside ≡ length ids → AllByRecursion (IsBond ids) bonds
    → AllByRecursion (λ bond. (bond.a < length inside) × (bond.b < length inside)) bonds
both_within ids [] inside count kept = tt
both_within ids (bond ∷ bonds) inside count kept = ((omega (arith, count, kept.0.a), omega (arith, count, kept.0.b)), both_within ids bonds inside count kept.1)
