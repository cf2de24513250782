-- A packet on a color has a hop, and for each failure there is an alternate or none.
use Rattle.std.proofs.Common.{◌≡◌, ◌≢◌, ◌<◌, ◌∙◌, ℕ, List, [], ◌∷◌, Option, Some, None, length, slice_get, inl, inr, refl, ap}
use Rattle.std.proofs.lemmas.Bool.{cases_Bool, cases_eq}
use Rattle.std.proofs.lemmas.Option.{option_and_then_some, slice_get_within}
use Rattle.fabric.specs.FabricParts.{ArePartsKept, FabricParts, element_of, node_at}
use Rattle.fabric.specs.Handling.{IsInside, IsOutside, IsRepair}
use Rattle.fabric.specs.PacketHop.{IsColorHop, IsOver, OverNetwork, Straight}
use Rattle.fabric.specs.declared.event.Failure.{Failure}
use Rattle.fabric.specs.declared.event.Outcome.{Outcome}
use Rattle.fabric.specs.declared.next_hop.Crossing.{Crossing}
use Rattle.fabric.specs.declared.next_hop.NextHop.{NextHop}
use Rattle.fabric.specs.declared.packet.Packet.{Packet}
use Rattle.fabric.proofs.ColorWays.{leads_within, next_on}
use Rattle.fabric.proofs.Islands.{bond_there, one_spot, spot_there}
use Rattle.mrt_graph.specs.GraphInvariant.{IsNetwork}
use Rattle.mrt_graph.specs.Hop.{Hop}
use Rattle.mrt_graph.specs.Leads.{far_node, leads}
use Rattle.mrt_graph.specs.declared.cert.Color.{Color}
use Rattle.mrt_graph.specs.declared.link.Link.{Link}
use Rattle.mrt_graph.proofs.Bridge.{color_leads}
use Rattle.mrt_graph.proofs.Trails.{Follows}
use Rattle.primary_alt.specs.Offers.{is_network}
use Rattle.primary_alt.proofs.ArcWalks.{network_by_test, no_network_by_test}
use Rattle.primary_alt.proofs.SomeAlternate.{some_alternate}

-- where a link leads, it is one
link_there : (links : List Link) (e s v : ℕ) → leads links e s ≡ Some v → e < length links
link_there links e s v is = option_and_then_some (far_node s) (slice_get links e) v is (λ link there far. slice_get_within links e link there)

-- for each packet there is a repair, or its place or its destination is outside
pub some_repair : (parts : FabricParts) (failure : Option Failure) (q : Packet) → (repair : Option (Option Color)) × IsRepair parts failure q repair
some_repair parts failure q = go (node_at parts q.place) (node_at parts q.to) refl refl
  where
    go : (n d : Option ℕ) → node_at parts q.place ≡ n → node_at parts q.to ≡ d → (repair : Option (Option Color)) × IsRepair parts failure q repair
    go None d at to = (None, IsOutside (inl at))
    go (Some n) None at to = (None, IsOutside (inr to))
    go (Some n) (Some d) at to =
        let by = some_alternate parts.island.links (length parts.island.ids) parts.rows n d (element_of parts failure) in (Some by.0, IsInside n d by.0 at to by.1)

-- what holds whatever the repair is
pub by_any : (parts : FabricParts) (failure : Option Failure) (q : Packet) (outcome : Outcome) (table : Option (Option Color) → Outcome) → ((repair : Option (Option Color)) → outcome ≡ table repair)
    → (repair : Option (Option Color)) × IsRepair parts failure q repair × (outcome ≡ table repair)
by_any parts failure q outcome table same = let repair = some_repair parts failure q in (repair.0, repair.1, same repair.0)

module _ (parts : FabricParts) (are : ArePartsKept parts) (color : Color) where
  -- the crossing of a hop on a color
  found : (n d : ℕ) (h : Hop) → next_on parts color d n ≡ Some h → (c : Crossing) × IsOver parts color n d c × (node_at parts c.node ≡ Some h.to)
  found n d h row =
      let on = color_leads parts.island.links parts.rows color d n h row in
      let bond = bond_there parts are h.link (link_there parts.island.links h.link n h.to on) in
      let spot = spot_there parts are h.to (leads_within parts are h.link n h.to on) in
      (record { bond = bond.0; node = spot.0 }, record { hop = h; row = row; link = bond.1; node = spot.1 }, spot.1)

  pub some_color_hop : (x t n d : ℕ) (hops : List Hop) → node_at parts x ≡ Some n → node_at parts t ≡ Some d → x ≢ t → Follows (next_on parts color d) d n hops
      → (hop : NextHop) × IsColorHop parts color x t hop
  some_color_hop x t n d [] at to apart f = absurd (apart (one_spot parts are x t d (at ∙ ap (λ (y : ℕ). Some y) f) to))
  some_color_hop x t n d (h ∷ rest) at to apart f = go (found n d h f.1.0) rest f.1.1
    where
      go : (one : (c : Crossing) × IsOver parts color n d c × (node_at parts c.node ≡ Some h.to)) (rest : List Hop) → Follows (next_on parts color d) d h.to rest
          → (hop : NextHop) × IsColorHop parts color x t hop
      go one rest f = elim (cases_Bool (is_network parts.area.ids one.0.node)) [
        | inr router ↦ (_, Straight n d one.0 at to one.1 (λ both. no_network_by_test parts.area.ids one.0.node router both.0))
        | inl network ↦ elim (cases_eq one.0.node t) [
          | inl here ↦ (_, Straight n d one.0 at to one.1 (λ both. both.1 here))
          | inr other ↦ on rest f (network_by_test parts.area.ids one.0.node network) other
        ]
      ]
        where
          on : (rest : List Hop) → Follows (next_on parts color d) d h.to rest → IsNetwork parts.area.ids one.0.node → one.0.node ≢ t → (hop : NextHop) × IsColorHop parts color x t hop
          on [] f network other = absurd (other (one_spot parts are one.0.node t d (one.2 ∙ ap (λ (y : ℕ). Some y) f) to))
          on (h' ∷ rest) f network other =
              let two = found h.to d h' f.1.0 in (_, OverNetwork n d h.to one.0 two.0 at to one.1 network other one.2 two.1)
