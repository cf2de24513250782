use Rattle.std.proofs.Common.{◌≡◌, ◌∙◌, ℕ, List, Option, length, ap, subst, arith}
use Rattle.area_graph.specs.Parts.{AreaParts}
use Rattle.primary_alt.specs.DistancesFrom.{AreDistancesFrom}
use Rattle.primary_alt.proofs.least_walks.distances_from.Goals as goal

-- the distances are those from the source
from_s : (area found : AreaParts) (s : ℕ) (known : List (Option ℕ)) → found ≡ area → AreDistancesFrom found.arcs s known → AreDistancesFrom area.arcs s known
from_s area found s known same from = subst (λ (a : AreaParts). AreDistancesFrom a.arcs s known) same from

many : (area found : AreaParts) (known : List (Option ℕ)) → found ≡ area → length known ≡ length found.ids → length known ≡ length area.ids
many area found known same one_each = one_each ∙ ap (λ (a : AreaParts). length a.ids) same

pub distances-requires-clause-one_each : goal.distances-requires-clause-one_each
distances-requires-clause-one_each c =
    omega (arith, c.in_ok-known.ensures.len, c.in_ok-known.known.ok.0, c.count.ensures.count, ap (λ (a : AreaParts). length a.ids) c.in_ok-searches.ensures)

pub distances-requires-clause-node : goal.distances-requires-clause-node
distances-requires-clause-node c = omega (arith, c.requires, ap (λ (a : AreaParts). length a.ids) c.in_ok-searches.ensures)

pub returns-clause-from : goal.returns-clause-from
returns-clause-from c = from_s c.args.area.now _ c.args.source c.distances.new.known.items c.in_ok-searches.ensures c.in_ok-distances.ensures.distances

pub returns-clause-one_each : goal.returns-clause-one_each
returns-clause-one_each c = many c.args.area.now _ c.distances.new.known.items c.in_ok-searches.ensures c.in_ok-distances.ensures.one_each
