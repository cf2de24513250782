use Rattle.std.proofs.Common.{◌∙◌, refl, sym}
use Rattle.fabric.proofs.Routed.{arcs_there, routed_primary}
use Rattle.fabric.proofs.hops.primary_hop.Goals as goal

pub hop_over-requires : goal.hop_over-requires
hop_over-requires g c =
    let there = arcs_there c.args.parts.now.area.now c.args.x c.args.t c.in_ok-primary.primary _ refl
    (routed_primary c.args.parts.now.area.now c.args.parts.now.island.now c.args.parts.now.routes.now c.requires.routed c.args.x c.args.t c.requires.place c.requires.router
    (c.requires.served.primaries c.requires.to) c.in_ok-primary.primary (sym c.primary.ensures.primary ∙ c.in_ok-primary.was)) in
    record { first = there.first; second = there.second }

pub returns : goal.returns
returns g c = record {
  primary = c.in_ok-primary.primary;
  is = routed_primary c.args.parts.now.area.now c.args.parts.now.island.now c.args.parts.now.routes.now c.requires.routed c.args.x c.args.t c.requires.place c.requires.router
      (c.requires.served.primaries c.requires.to) c.in_ok-primary.primary (sym c.primary.ensures.primary ∙ c.in_ok-primary.was);
  over = c.hop_over.ensures;
}
