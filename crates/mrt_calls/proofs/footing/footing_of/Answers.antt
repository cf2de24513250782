use Rattle.std.proofs.Common.{◌≡◌, ◌<◌, length, inr, sym, subst}
use Rattle.area_graph.specs.Fits.{Fits}
use Rattle.mrt_args.proofs.HandedOn.{if_ok}
use Rattle.mrt_args.proofs.Readings.{if_err}
use Rattle.std.proofs.Common.{Ok}
use Rattle.mrt_answer.specs.Input.{area}
use Rattle.mrt_answer.specs.Islands.{island_in}
use Rattle.mrt_answer.specs.declared.packets.AreaAndIsland.{AreaAndIsland}
use Rattle.mrt_answer.proofs.Tables.{in_own_island}
use Rattle.mrt_calls.proofs.footing.footing_of.Goals as goal

pub footing_in-requires-clause-inside : goal.footing_in-requires-clause-inside
footing_in-requires-clause-inside c = let is = c.in_ok-net.ensures.island in in_own_island _ _ _ _ _ _ is.2

pub returns-clause-footing : goal.returns-clause-footing
returns-clause-footing c =
    if_ok c.footing_in.result _ _ c.footing_in.ensures.footing
    (λ footing own. record {
      area_is = subst (λ (net : AreaAndIsland). net.area ≡ area c.args.given.now) (sym own.0) c.in_ok-net.ensures.area;
      island_is = subst (λ (net : AreaAndIsland). island_in c.args.given.now c.args.router (Ok net.island)) (sym own.0) c.in_ok-net.ensures.island;
      fits = subst (λ (net : AreaAndIsland). Fits net.area net.island.graph net.island.link_of) (sym own.0) c.in_ok-net.ensures.fits;
      root = subst (λ (net : AreaAndIsland). net.island.root < length net.island.graph.ids) (sym own.0) c.in_ok-net.ensures.root;
      own = own.1;
    })

pub returns-clause-none : goal.returns-clause-none
returns-clause-none c = if_err c.footing_in.result _ _ (λ exit memory. inr memory) c.footing_in.ensures.none
