-- The graph of an island fits the area.
use Rattle.std.proofs.Common.{◌≡◌, ◌<◌, ◌+◌, ◌==◌, ◌∙◌, ℕ, zero, suc, Bool, true, false, List, [], ◌∷◌, length, get_or, map, Option, Some, None, refl, sym, ap, subst, arith}
use Rattle.std.specs.Prelude.{Contains, slice_get}
use Rattle.std.specs.List.{count_by, filter}
use Rattle.std.specs.Option.{option_map}
use Rattle.std.proofs.lemmas.Bool.{eq-eqb, ne_eqb}
use Rattle.std.proofs.lemmas.List.{length-map}
use Rattle.std.proofs.lemmas.List.Sums.{sum_by-cons}
use Rattle.std.proofs.lemmas.Option.{get_or_from_slice_get, slice_get-get_or, slice_get-map, slice_get_within}
use Rattle.mrt_graph.specs.declared.link.Link.{Link}
use Rattle.mrt_graph.specs.declared.node_id.NodeId.{NodeId}
use Rattle.mrt_graph.specs.EndsOfLinks.{pair_of}
use Rattle.mrt_graph.specs.NewGraph.{IsGraphOf}
use Rattle.mrt_graph.specs.Topology.{Topology}
use Rattle.area_graph.specs.AreaInvariant.{IsArea, IsBond}
use Rattle.area_graph.specs.Fits.{Fits, IsPairOf, names}
use Rattle.area_graph.specs.Parts.{AreaParts}
use Rattle.area_graph.specs.declared.area_types.Bond.{Bond}
use Rattle.mrt_island.specs.Policy.{Policy}
use Rattle.mrt_island.specs.Numbering.{flags_set, ids_of, is_link, link_by, links_of}
use Rattle.mrt_graph.proofs.ListTests.{all_at, there as there_at}
use Rattle.mrt_graph.proofs.Tallies.{one_if}
use Rattle.area_graph.proofs.FewBonds.{no_bond}
use Rattle.mrt_island.proofs.Counting.{IsFrom, flagged_filter, flagged_from, length_flagged, set_none, set_one}
use Rattle.mrt_island.proofs.LinkNumbers.{length_numbers, link_numbers, numbers_from}
use Rattle.mrt_island.proofs.LinkParts.{IsChosen, is_chosen, same_id}

-- a bond whose entry names a link passes the test, and stands in the link's place among those that do
record IsNamed (p : Bond → Bool) (bonds : List Bond) (number link : ℕ) (bond : Bond) : Type 0 where
  place : ℕ
  is : link ≡ number + place
  there : slice_get (filter p bonds) place ≡ Some bond
  passes : p bond ≡ true

named_next : (p : Bond → Bool) (first : Bond) (bonds : List Bond) (number k link : ℕ) (bond : Bond) (b : Bool) → p first ≡ b
    → ((n j : ℕ) → slice_get (numbers_from n (map p bonds)) j ≡ Some (Some link) → slice_get bonds j ≡ Some bond → IsNamed p bonds n link bond)
    → slice_get (numbers_from number (b ∷ map p bonds)) k ≡ Some (Some link) → slice_get (first ∷ bonds) k ≡ Some bond → IsNamed p (first ∷ bonds) number link bond
named_next p first bonds number zero link bond true holds later named there =
    let same : first ≡ bond = cc in
    let is : Some number ≡ Some link = cc in
    let also : number ≡ link = cc in
    record { place = zero; is = omega (arith, also); there = rw holds there; passes = ap p (sym same) ∙ holds }
named_next p first bonds number zero link bond false fails later named there = absurd (let nothing : None ≡ Some link = cc in cc)
named_next p first bonds number (suc k) link bond true holds later named there =
    let next : IsNamed p bonds (number + 1) link bond = later (number + 1) k named there in
    record { place = suc next.place; is = omega (arith, next.is); there = rw holds next.there; passes = next.passes }
named_next p first bonds number (suc k) link bond false fails later named there =
    let next : IsNamed p bonds number link bond = later number k named there in
    record { place = next.place; is = next.is; there = rw fails next.there; passes = next.passes }

named_at : (p : Bond → Bool) (bonds : List Bond) (number k link : ℕ) (bond : Bond) → slice_get (numbers_from number (map p bonds)) k ≡ Some (Some link) → slice_get bonds k ≡ Some bond
    → IsNamed p bonds number link bond
named_at p [] number k link bond named there = absurd cc
named_at p (first ∷ bonds) number k link bond named there =
    named_next p first bonds number k link bond (p first) refl (λ n j at also. named_at p bonds n j link bond at also) named there

-- no entry names a link before the first number
none_named : (flags : List Bool) (number link : ℕ) → link < number → count_by (names link) (numbers_from number flags) ≡ 0
none_named [] number link before = refl
none_named (true ∷ flags) number link before =
    let here : one_if (number == link) ≡ 0 = rw (ne_eqb number link (λ same. omega (arith, before, same))) refl in
    omega (arith, here, none_named flags (number + 1) link (omega (arith, before)), sum_by-cons (λ entry. one_if (names link entry)) (Some number) (numbers_from (number + 1) flags))
none_named (false ∷ flags) number link before =
    omega (arith, none_named flags number link before, sum_by-cons (λ entry. one_if (names link entry)) None (numbers_from number flags))

-- one entry names each of the numbers
one_named : (flags : List Bool) (number place link : ℕ) → link ≡ number + place → place < flags_set flags → count_by (names link) (numbers_from number flags) ≡ 1
one_named [] number place link is within = absurd (omega (arith, within))
one_named (true ∷ flags) number zero link is within =
    let here : one_if (number == link) ≡ 1 = rw (eq-eqb number link (omega (arith, is))) refl in
    omega (arith, here, none_named flags (number + 1) link (omega (arith, is)), sum_by-cons (λ entry. one_if (names link entry)) (Some number) (numbers_from (number + 1) flags))
one_named (true ∷ flags) number (suc place) link is within =
    let here : one_if (number == link) ≡ 0 = rw (ne_eqb number link (λ same. omega (arith, is, same))) refl in
    omega (
      arith,
      here,
      one_named flags (number + 1) place link (omega (arith, is)) (omega (arith, within, set_one flags)),
      sum_by-cons (λ entry. one_if (names link entry)) (Some number) (numbers_from (number + 1) flags),
    )
one_named (false ∷ flags) number place link is within =
    omega (arith, one_named flags number place link is (omega (arith, within, set_none flags)), sum_by-cons (λ entry. one_if (names link entry)) None (numbers_from number flags))

-- as many links as flags are set
pub length_links : (policy : Policy) (area : AreaParts) (inside : List Bool) → length (links_of policy area inside) ≡ flags_set (map (is_link policy area.ids inside) area.bonds)
length_links policy area inside =
    length-map (filter (is_link policy area.ids inside) area.bonds) (link_by inside)
    ∙ ap (λ (l : List Bond). length l) (sym (flagged_filter (is_link policy area.ids inside) area.bonds))
    ∙ length_flagged (map (is_link policy area.ids inside) area.bonds) area.bonds (length-map area.bonds (is_link policy area.ids inside))

-- what an entry names
named_link : (policy : Policy) (area : AreaParts) (inside : List Bool) (k link : ℕ) (bond : Bond) → slice_get (link_numbers policy area inside) k ≡ Some (Some link) → slice_get area.bonds k ≡ Some bond
    → IsNamed (is_link policy area.ids inside) area.bonds 0 link bond
named_link policy area inside k link bond named there = named_at (is_link policy area.ids inside) area.bonds 0 k link bond named there

pair_at : (policy : Policy) (area : AreaParts) (inside : List Bool) (k link : ℕ) (bond : Bond) → slice_get (link_numbers policy area inside) k ≡ Some (Some link) → slice_get area.bonds k ≡ Some bond
    → slice_get (map pair_of (links_of policy area inside)) link ≡ Some (pair_of (link_by inside bond))
pair_at policy area inside k link bond named there =
    let found = named_link policy area inside k link bond named there in
    let at : slice_get (filter (is_link policy area.ids inside) area.bonds) link ≡ Some bond =
    subst (λ (n : ℕ). slice_get (filter (is_link policy area.ids inside) area.bonds) n ≡ Some bond) (omega (arith, found.is)) found.there in
    slice_get-map pair_of (links_of policy area inside) link
    ∙ ap (option_map pair_of) (slice_get-map (link_by inside) (filter (is_link policy area.ids inside) area.bonds) link ∙ ap (option_map (link_by inside)) at)

pair_of_link : (policy : Policy) (area : AreaParts) (inside : List Bool) (graph : Topology) (k number : ℕ) (bond : Bond) (link : Link) → IsArea area → length inside ≡ length area.ids
    → graph.ids ≡ ids_of area inside → graph.links ≡ map pair_of (links_of policy area inside)
    → slice_get (link_numbers policy area inside) k ≡ Some (Some number) → slice_get area.bonds k ≡ Some bond → slice_get graph.links number ≡ Some link → IsPairOf area graph bond link
pair_of_link policy area inside graph k number bond link kept count ids links named there at =
    let found = named_link policy area inside k number bond named there in
    let chosen : IsChosen policy area.ids inside bond = is_chosen policy area.ids inside bond found.passes in
    let is_bond : IsBond area.ids bond = all_at (IsBond area.ids) area.bonds k bond kept.bonds_kept there in
    let both : Some (pair_of (link_by inside bond)) ≡ Some link = sym (pair_at policy area inside k number bond named there) ∙ ap (λ (l : List Link). slice_get l number) (sym links) ∙ at in
    let same : pair_of (link_by inside bond) ≡ link = cc in
    let a : slice_get area.ids bond.a ≡ slice_get graph.ids link.a =
    sym (same_id area.ids inside bond.a is_bond.a chosen.a)
    ∙ ap (λ (l : List NodeId). slice_get l (pair_of (link_by inside bond)).a) (sym ids) ∙ ap (λ (p : Link). slice_get graph.ids p.a) same in
    let b : slice_get area.ids bond.b ≡ slice_get graph.ids link.b =
    sym (same_id area.ids inside bond.b is_bond.b chosen.b)
    ∙ ap (λ (l : List NodeId). slice_get l (pair_of (link_by inside bond)).b) (sym ids) ∙ ap (λ (p : Link). slice_get graph.ids p.b) same in
    let at_a = there_at area.ids bond.a is_bond.a in
    let at_b = there_at area.ids bond.b is_bond.b in
    record {
      paired = chosen.paired;
      id_a = at_a.0;
      a_there = at_a.1;
      a_here = sym a ∙ at_a.1;
      id_b = at_b.0;
      b_there = at_b.1;
      b_here = sym b ∙ at_b.1;
    }

-- a node of the island is one of the area
node_of_area : (area : AreaParts) (inside : List Bool) (id : NodeId) → Contains (ids_of area inside) id → Contains area.ids id
node_of_area area inside id among =
    let at : slice_get (ids_of area inside) among.0 ≡ Some id = slice_get-get_or (ids_of area inside) among.0 id among.1 ∙ ap Some among.2 in
    let from : IsFrom inside area.ids among.0 id = flagged_from inside area.ids among.0 id at in
    (from.place, slice_get_within area.ids from.place id from.there, get_or_from_slice_get area.ids from.place id id from.there)

pub island_fits : (policy : Policy) (area : AreaParts) (inside : List Bool) (graph : Topology) (link_of : List (Option ℕ)) → IsArea area → length inside ≡ length area.ids
    → IsGraphOf (ids_of area inside) (links_of policy area inside) graph → link_of ≡ link_numbers policy area inside → Fits area graph link_of
island_fits policy area inside graph link_of kept count made is =
    let flags : List Bool = map (is_link policy area.ids inside) area.bonds in
    let entries : length link_of ≡ length area.bonds =
    ap (λ (l : List (Option ℕ)). length l) is ∙ length_numbers 0 (map (is_link policy area.ids inside) area.bonds) ∙ length-map area.bonds (is_link policy area.ids inside) in
    let links : length graph.links ≡ flags_set (map (is_link policy area.ids inside) area.bonds) =
    ap (λ (l : List Link). length l) made.same_links ∙ length-map (links_of policy area inside) pair_of ∙ length_links policy area inside in
    let as_numbers : (k : ℕ) (o : Option (Option ℕ)) → slice_get link_of k ≡ o → slice_get (link_numbers policy area inside) k ≡ o = λ k o at. ap (λ (l : List (Option ℕ)). slice_get l k) (sym is) ∙ at in
    record {
      an_entry_each = entries;
      links_alone = λ k e named.
          let within : k < length area.bonds = omega (arith, entries, slice_get_within link_of k (Some e) named) in
          let pair : slice_get (map pair_of (links_of policy area inside)) e ≡ Some (pair_of (link_by inside (get_or area.bonds k no_bond))) =
          pair_at policy area inside k e (get_or area.bonds k no_bond) (as_numbers k (Some (Some e)) named) (slice_get-get_or area.bonds k no_bond within) in
          slice_get_within graph.links e (pair_of (link_by inside (get_or area.bonds k no_bond))) (ap (λ (l : List Link). slice_get l e) made.same_links ∙ pair);
      nodes = λ id among. node_of_area area inside id (subst (λ (l : List NodeId). Contains l id) made.same_ids among);
      one_bond_each = λ e within.
          ap (λ (l : List (Option ℕ)). count_by (names e) l) is
          ∙ one_named (map (is_link policy area.ids inside) area.bonds) 0 e e (omega arith) (omega (arith, links, within));
      pairs = λ k e bond link named there at.
          pair_of_link policy area inside graph k e bond link kept count made.same_ids made.same_links (as_numbers k (Some (Some e)) named) there at;
    }
