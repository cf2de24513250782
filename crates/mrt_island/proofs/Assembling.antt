-- An island from its parts.
use Rattle.std.proofs.Common.{◌≡◌, ◌≤◌, ◌∙◌, ℕ, Bool, List, length, map, Option, sym, ap, subst, arith}
use Rattle.std.proofs.lemmas.Bool.{and_parts}
use Rattle.std.proofs.lemmas.List.{length-map}
use Rattle.std.proofs.lemmas.List.Sums.{count_by-le-length}
use Rattle.mrt_graph.specs.declared.link.LinkIn.{LinkIn}
use Rattle.mrt_graph.specs.declared.node_id.NodeId.{NodeId}
use Rattle.mrt_graph.specs.NewGraph.{IsGraphOf}
use Rattle.mrt_graph.specs.Topology.{Topology}
use Rattle.std.specs.List.{filter}
use Rattle.mrt_island.specs.Eligible.{is_eligible}
use Rattle.area_graph.specs.AreaInvariant.{IsArea}
use Rattle.area_graph.specs.Parts.{AreaParts}
use Rattle.area_graph.specs.declared.area_types.Bond.{Bond}
use Rattle.mrt_island.specs.Policy.{Policy}
use Rattle.mrt_island.specs.Members.{IsInside}
use Rattle.mrt_island.specs.steps.Numbering.{AreFlagNumbers}
use Rattle.mrt_island.specs.Numbering.{AreLinkNumbers, flagged, flags_set, ids_of, is_link, link_by, links_of}
use Rattle.mrt_island.specs.IslandOf.{IsIsland}
use Rattle.mrt_island.specs.Rooting.{IsRoot}
use Rattle.area_graph.proofs.FewBonds.{pairs_few}
use Rattle.mrt_island.proofs.Counting.{flagged_filter}
use Rattle.mrt_island.proofs.LinkNumbers.{are_numbers, link_numbers, links_numbered, numbers_from}

pub links_made : (policy : Policy) (area : AreaParts) (inside flags i f : List Bool) (b : List Bond) (links : List LinkIn) → links ≡ map (link_by i) (flagged f b) → i ≡ inside → f ≡ flags → b ≡ area.bonds
    → flags ≡ map (is_link policy area.ids inside) area.bonds → links ≡ links_of policy area inside
links_made policy area inside flags i f b links made same_i same_f same_b told =
    made
    ∙ ap (λ (l : List Bool). map (link_by l) (flagged f b)) same_i
    ∙ ap (λ (l : List Bool). map (link_by inside) (flagged l b)) (same_f ∙ told)
    ∙ ap (λ (l : List Bond). map (link_by inside) (flagged (map (is_link policy area.ids inside) area.bonds) l)) same_b
    ∙ ap (λ (l : List Bond). map (link_by inside) l) (flagged_filter (is_link policy area.ids inside) area.bonds)

pub ids_made : (area : AreaParts) (inside i : List Bool) (ids : List NodeId) → ids ≡ flagged i area.ids → i ≡ inside → ids ≡ ids_of area inside
ids_made area inside i ids made same = made ∙ ap (λ (l : List Bool). flagged l area.ids) same

pub numbers_made : (policy : Policy) (area : AreaParts) (inside flags f : List Bool) (numbers : List (Option ℕ)) → AreFlagNumbers f numbers → f ≡ flags
    → flags ≡ map (is_link policy area.ids inside) area.bonds → numbers ≡ link_numbers policy area inside
numbers_made policy area inside flags f numbers made same told = are_numbers f numbers made ∙ ap (λ (l : List Bool). numbers_from 0 l) (same ∙ told)

-- how many there are at most
pub nodes_few : (area : AreaParts) (inside : List Bool) → IsArea area → length inside ≡ length area.ids → flags_set inside ≤ 4096
nodes_few area inside kept count = omega (arith, count_by-le-length (λ (flag : Bool). flag) inside, count, kept.few_nodes)

pub links_few : (policy : Policy) (area : AreaParts) (inside : List Bool) → IsArea area → length (links_of policy area inside) ≤ 16384
links_few policy area inside kept =
    omega (
      arith,
      length-map (filter (is_link policy area.ids inside) area.bonds) (link_by inside),
      pairs_few area kept (is_link policy area.ids inside) (λ bond is. (and_parts bond.paired _ (and_parts (is_eligible policy area.ids bond) _ is).0).0),
      kept.few_arcs,
    )

pub made_island : (policy : Policy) (area : AreaParts) (router : ℕ) (inside : List Bool) (ids : List NodeId) (links : List LinkIn) (graph : Topology) (root : ℕ) (link_of : List (Option ℕ))
    → IsInside policy area router inside → ids ≡ ids_of area inside → links ≡ links_of policy area inside → link_of ≡ link_numbers policy area inside → IsGraphOf ids links graph → IsRoot policy ids root
    → IsIsland policy area router graph root link_of
made_island policy area router inside ids links graph root link_of those same_ids same_links numbered made rooted = record {
  inside = inside;
  those = those;
  made = made_of policy area inside ids links graph same_ids same_links made;
  rooted = subst (λ (l : List NodeId). IsRoot policy l root) same_ids rooted;
  numbered = subst (λ (l : List (Option ℕ)). AreLinkNumbers policy area inside l) (sym numbered) (links_numbered policy area inside);
}
  where
    made_of : (p : Policy) (a : AreaParts) (i : List Bool) (is : List NodeId) (ls : List LinkIn) (g : Topology) → is ≡ ids_of a i → ls ≡ links_of p a i → IsGraphOf is ls g → IsGraphOf (ids_of a i) (links_of p a i) g
    made_of p a i is ls g e f h = subst (λ (l : List NodeId). IsGraphOf l (links_of p a i) g) e (subst (λ (l : List LinkIn). IsGraphOf is l g) f h)
