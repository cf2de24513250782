use Rattle.std.proofs.Common.{◌≡◌, ℕ, List, Some, get_or, length, slice_get, refl, ap, arith}
use Rattle.std.proofs.lemmas.Option.{slice_get_within}
use Rattle.area_graph.specs.declared.area_types.Arc.{Arc}
use Rattle.area_graph.specs.AreaInvariant.{IsArea}
use Rattle.area_graph.specs.Parts.{AreaParts}
use Rattle.primary_alt.specs.declared.shortest.Primary.{Primary}
use Rattle.primary_alt.specs.Primaries.{IsPrimary}
use Rattle.primary_alt.proofs.Beginning.{at_own}
use Rattle.lfa_alt.proofs.Beyond.{left_of, part_of}
use Rattle.lfa_alt.proofs.destinations.destination.Goals as goal

-- the first arc of a primary, that is read from a list that is the area's arcs
first_read : (area : AreaParts) → IsArea area → (s t : ℕ) (primary : Primary) → IsPrimary area s t (Some primary) → (own : List Arc) (place : ℕ) (read : Arc)
    → own ≡ area.arcs → place ≡ primary.first → read ≡ get_or own place read → slice_get area.arcs primary.first ≡ Some read
first_read area kept s t primary is own place read same here stands =
    let part = part_of area kept s t primary is in
    at_own area.arcs own place primary.first read same here
    (omega (arith, here, ap length same, slice_get_within area.arcs primary.first part.arc part.there)) stands

pub overflow_sub-result : goal.overflow_sub-result
overflow_sub-result c =
    let area = c.args.area.now in
    let primary : Primary = c.in_ok-primary.primary in
    let is = rw c.in_ok-primary.was at c.requires.primary in
    let at = first_read area c.requires.kept c.args.source c.args.t primary is c.args.arcs.now c.get.result c.index-arcs-get.result c.requires.arcs c.get.ensures.value c.index-arcs-get.is in
    (left_of area c.requires.kept c.args.source c.args.t primary is c.index-arcs-get.result c.in_ok-distance.distance at (c.requires.distance c.in_ok-distance.distance c.in_ok-distance.was)).0

pub returns : goal.returns
returns c =
    let area = c.args.area.now in
    let primary : Primary = c.in_ok-primary.primary in
    let is = rw c.in_ok-primary.was at c.requires.primary in
    let at = first_read area c.requires.kept c.args.source c.args.t primary is c.args.arcs.now c.get.result c.index-arcs-get.result c.requires.arcs c.get.ensures.value c.index-arcs-get.is in
    let far = c.requires.distance c.in_ok-distance.distance c.in_ok-distance.was in
    record {
      primary = is;
      arc = c.index-arcs-get.result;
      there = at;
      bond = refl;
      far = far;
      beyond = (left_of area c.requires.kept c.args.source c.args.t primary is c.index-arcs-get.result c.in_ok-distance.distance at far).1;
    }
