-- A packet's primary hop leads nearer to its destination, and does not go over its place.
use Rattle.std.proofs.Common.{List, ◌≡◌, ◌≢◌, ◌⊎◌, ◌<◌, ◌+◌, ◌∙◌, ℕ, Option, Some, None, length, refl, sym, ap, subst, arith}
use Rattle.std.proofs.lemmas.Option.{same_Some}
use Rattle.area_graph.specs.AreaInvariant.{IsArea}
use Rattle.area_graph.specs.Parts.{AreaParts}
use Rattle.area_graph.specs.declared.area_types.Arc.{Arc}
use Rattle.fabric.specs.FabricParts.{ArePartsKept, FabricParts}
use Rattle.fabric.specs.PacketHop.{IsPrimaryHop, hop_over}
use Rattle.fabric.specs.declared.next_hop.NextHop.{NextHop}
use Rattle.mrt_graph.specs.GraphInvariant.{IsNetwork}
use Rattle.primary_alt.specs.ArcWalk.{ArcWalk}
use Rattle.primary_alt.specs.Distance.{IsDistance}
use Rattle.primary_alt.specs.Primaries.{Direct, IsPrimary, Itself, NoWalk, Over}
use Rattle.primary_alt.specs.declared.shortest.Primary.{Primary}
use Rattle.primary_alt.proofs.ArcWalks.{arc_kept, one_distance}
use Rattle.primary_alt.proofs.ArcsOffered.{far_within}
use Rattle.primary_alt.proofs.PrimariesLead.{nearer, router_or_end}

-- what a primary is made of: its distance, and the next that a hop over its arcs has
record IsSet (area : AreaParts) (s t : ℕ) (primary : Primary) : Type 0 where
  distance : ℕ
  is : IsDistance area.arcs s t distance
  within : primary.next < length area.ids
  next : (hop : NextHop) → hop_over area.arcs primary.first primary.second primary.next ≡ Some hop → hop.next ≡ primary.next

is_set : (area : AreaParts) (s t : ℕ) (primary : Primary) (entry : Option Primary) → IsArea area → entry ≡ Some primary → IsPrimary area s t entry → IsSet area s t primary
is_set area s t primary entry kept is (Itself same) = cc
is_set area s t primary entry kept is (NoWalk none) = cc
is_set area s t primary entry kept is (Direct n arc apart first direct) =
    subst (λ (p : Primary). IsSet area s t p) (same_Some (record { first = n; second = None; next = arc.to }) primary is) (record {
      distance = arc.metric + first.shortest.rest;
      is = subst (λ (v : ℕ). IsDistance area.arcs v t (arc.metric + first.shortest.rest)) first.from first.shortest.near;
      within = far_within area arc kept (arc_kept area n arc kept first.there);
      next = λ hop over. ap (λ (h : NextHop). h.next) (sym (same_Some _ hop (rw first.there at over)));
    })
is_set area s t primary entry kept is (Over n k arc onward apart first over second) =
    subst (λ (p : Primary). IsSet area s t p) (same_Some (record { first = n; second = Some k; next = onward.to }) primary is) (record {
      distance = arc.metric + first.shortest.rest;
      is = subst (λ (v : ℕ). IsDistance area.arcs v t (arc.metric + first.shortest.rest)) first.from first.shortest.near;
      within = far_within area onward kept (arc_kept area k onward kept second.there);
      next = λ hop over. ap (λ (h : NextHop). h.next) (sym (same_Some _ hop (rw (first.there, second.there) at over)));
    })

-- where a primary hop leads
pub record Nearer (parts : FabricParts) (x t : ℕ) (hop : NextHop) : Type 0 where
  pub distance : ℕ
  pub is : IsDistance parts.area.arcs x t distance
  pub rest : ℕ
  pub rest_is : IsDistance parts.area.arcs hop.next t rest
  pub falls : rest < distance
  pub within : hop.next < length parts.area.ids
  pub ends : (hop.next ≡ t) ⊎ (¬ IsNetwork parts.area.ids hop.next)
  pub moves : hop.next ≢ x

pub nearer_hop : (parts : FabricParts) → ArePartsKept parts → (x t : ℕ) (hop : NextHop) → ¬ IsNetwork parts.area.ids x → IsPrimaryHop parts x t hop → Nearer parts x t hop
nearer_hop parts are x t hop router is =
    let set = is_set parts.area x t is.primary (Some is.primary) are.area_kept refl is.is in
    let next : hop.next ≡ is.primary.next = set.next hop is.over in
    let rest = nearer parts.area are.area_kept x t set.distance is.primary router is.is set.is in
    let moves : hop.next ≢ x =
    λ loop. let same = one_distance parts.area.arcs x t set.distance rest.0 set.is (subst (λ (v : ℕ). IsDistance parts.area.arcs v t rest.0) (sym next ∙ loop) rest.1) in omega (arith, rest.2, same) in
    record {
      distance = set.distance;
      is = set.is;
      rest = rest.0;
      rest_is = subst (λ (v : ℕ). IsDistance parts.area.arcs v t rest.0) (sym next) rest.1;
      falls = rest.2;
      within = subst (λ (v : ℕ). v < length parts.area.ids) (sym next) set.within;
      ends = subst (λ (v : ℕ). (v ≡ t) ⊎ (¬ IsNetwork parts.area.ids v)) (sym next)
          (router_or_end parts.area x t is.primary are.area_kept is.is);
      moves = moves;
    }

-- where there is a primary hop, a walk leads
pub hop_walks : (parts : FabricParts) → ArePartsKept parts → (x t : ℕ) (hop : NextHop) → IsPrimaryHop parts x t hop → (walk : List Arc) × ArcWalk parts.area.arcs x walk t
hop_walks parts are x t hop is = let set = is_set parts.area x t is.primary (Some is.primary) are.area_kept refl is.is in (set.is.walk, set.is.leads)
