-- The nodes of a link.
use Rattle.std.proofs.Common.{◌≡◌, ◌≢◌, ◌⊎◌, ◌<◌, ℕ, Option, Some, None, length, slice_get, inl, inr, refl, arith}
use Rattle.std.specs.Option.{option_and_then}
use Rattle.std.proofs.lemmas.Option.{slice_get_within}
use Rattle.mrt_graph.specs.declared.link.Link.{Link}
use Rattle.mrt_graph.specs.GraphInvariant.{IsLink, IsTopology}
use Rattle.mrt_graph.specs.Leads.{far_node, leads}
use Rattle.mrt_graph.specs.Topology.{Topology}
use Rattle.mrt_graph.proofs.Hops.{far_ends}
use Rattle.mrt_graph.proofs.ListTests.{all_at}

-- a link that leads from u to v
pub record IsOver (g : Topology) (e u v : ℕ) : Type 0 where
  pub link : Link
  pub there : slice_get g.links e ≡ Some link
  pub ascending : link.a < link.b
  pub upper : link.b < length g.ids
  pub ends : ((link.a ≡ u) × (link.b ≡ v)) ⊎ ((link.b ≡ u) × (link.a ≡ v))

pub link_over : (g : Topology) (e u v : ℕ) → IsTopology g → leads g.links e u ≡ Some v → IsOver g e u v
link_over g e u v kept onward = go (slice_get g.links e) refl onward
  where
    go : (o : Option Link) → slice_get g.links e ≡ o → option_and_then (far_node u) o ≡ Some v → IsOver g e u v
    go None at leads_on = cc
    go (Some link) at leads_on =
        let is : IsLink g.ids link = all_at (IsLink g.ids) g.links e link kept.links_kept at in
        record { link = link; there = at; ascending = is.ascending; upper = is.upper; ends = far_ends link u v leads_on }

pub leads_within : (g : Topology) (e u v : ℕ) → IsTopology g → leads g.links e u ≡ Some v → (u < length g.ids) × (v < length g.ids)
leads_within g e u v kept onward =
    let is = link_over g e u v kept onward in
    elim is.ends [
      | inl at_a ↦ (omega (arith, is.ascending, is.upper, at_a.0), omega (arith, is.upper, at_a.1))
      | inr at_b ↦ (omega (arith, is.upper, at_b.0), omega (arith, is.ascending, is.upper, at_b.1))
    ]

pub link_within : (g : Topology) (e u v : ℕ) → IsTopology g → leads g.links e u ≡ Some v → e < length g.links
link_within g e u v kept onward = let is = link_over g e u v kept onward in slice_get_within g.links e is.link is.there

pub leads_elsewhere : (g : Topology) (e u v : ℕ) → IsTopology g → leads g.links e u ≡ Some v → u ≢ v
leads_elsewhere g e u v kept onward same =
    let is = link_over g e u v kept onward in
    elim is.ends [ inl at_a ↦ omega (arith, is.ascending, at_a.0, at_a.1, same) | inr at_b ↦ omega (arith, is.ascending, at_b.0, at_b.1, same) ]
