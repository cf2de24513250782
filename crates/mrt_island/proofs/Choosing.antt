-- The flags of the bonds that are links, one after another.
use Rattle.std.proofs.Common.{◌≡◌, ◌<◌, ◌+◌, ◌++◌, ◌∙◌, ℕ, Bool, false, List, [], ◌∷◌, length, get_or, drop, map, refl, sym, ap, append_assoc}
use Rattle.std.specs.Prelude.{◌&&◌}
use Rattle.std.proofs.lemmas.List.{drop_more}
use Rattle.mrt_graph.specs.declared.node_id.NodeId.{NodeId}
use Rattle.area_graph.specs.declared.area_types.Bond.{Bond}
use Rattle.mrt_island.specs.Policy.{Policy}
use Rattle.mrt_island.specs.Eligible.{is_eligible}
use Rattle.mrt_island.specs.Numbering.{is_inside, is_link}
use Rattle.mrt_island.specs.steps.Searching.{chosen}

-- the flags from bond k on
chosen_here : (flags inside : List Bool) (bonds : List Bond) (k : ℕ) (bond : Bond) → k < length flags → k < length bonds → bond ≡ get_or bonds k bond
    → chosen (drop k flags) inside (drop k bonds)
    ≡ (get_or flags k false && (is_inside inside bond.a && is_inside inside bond.b)) ∷ chosen (drop (k + 1) flags) inside (drop (k + 1) bonds)
chosen_here flags inside bonds k bond in_flags in_bonds is = rw (drop_more flags k false in_flags, drop_more bonds k bond in_bonds, ← is) refl

-- a list of them that is made from the front
pub chosen_more : (flags inside : List Bool) (bonds : List Bond) (k : ℕ) (bond : Bond) (flag : Bool) (before done all : List Bool) → k < length flags → k < length bonds
    → bond ≡ get_or bonds k bond → flag ≡ (get_or flags k false && (is_inside inside bond.a && is_inside inside bond.b)) → done ≡ before ++ flag ∷ []
    → before ++ chosen (drop k flags) inside (drop k bonds) ≡ all → done ++ chosen (drop (k + 1) flags) inside (drop (k + 1) bonds) ≡ all
chosen_more flags inside bonds k bond flag before done all in_flags in_bonds is told grown so_far =
    let rest : List Bool = chosen (drop (k + 1) flags) inside (drop (k + 1) bonds) in
    ap (λ (d : List Bool). d ++ rest) grown
    ∙ append_assoc before (flag ∷ []) rest
    ∙ ap (λ (f : Bool). before ++ f ∷ rest) told
    ∙ ap (λ (r : List Bool). before ++ r) (sym (chosen_here flags inside bonds k bond in_flags in_bonds is)) ∙ so_far

-- of flags that tell eligible pairs, they tell links
pub chosen_links : (policy : Policy) (ids : List NodeId) (inside : List Bool) (bonds : List Bond) → chosen (map (is_eligible policy ids) bonds) inside bonds ≡ map (is_link policy ids inside) bonds
chosen_links policy ids inside [] = refl
chosen_links policy ids inside (bond ∷ bonds) = ap (λ (rest : List Bool). is_link policy ids inside bond ∷ rest) (chosen_links policy ids inside bonds)
