use Rattle.std.proofs.Common.{◌==◌}
use Rattle.std.proofs.lemmas.Bool.Decides.{Decides-at, Decides-eqb}
use Rattle.block_spf.specs.declared.reach.Dir.TheVariants.{Down}
use Rattle.order_repair.proofs.HopsTell.{or_else}
use Rattle.order_repair.proofs.order_tests.is_under_link.Goals as goal

pub returns-else-eq : goal.returns-else-eq
returns-else-eq c = λ root w hops.
    or_else _ _ c.eq.result c.is_reached.result (Decides-at c.eq.result (c.args.onto == c.args.pair.now.source) c.eq.ensures (Decides-eqb c.args.onto c.args.pair.now.source)) c.if-eq.false
    (c.is_reached.ensures w Down c.args.pair.now.source hops.goes_down)
