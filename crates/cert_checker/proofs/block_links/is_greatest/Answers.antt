use Rattle.std.proofs.Common.{◌≡◌, Some, length, refl, sym, ap, arith}
use Rattle.std.specs.List.{slice_get}
use Rattle.std.proofs.lemmas.Bool.{ltb-false}
use Rattle.std.proofs.lemmas.Option.{slice_get_past, slice_get_read}
use Rattle.cert_checker.proofs.block_links.is_greatest.Goals.{In-Some}
use Rattle.cert_checker.proofs.block_links.is_greatest.Goals as goal

pub returns-in-None : goal.returns-in-None
returns-in-None c =
    let past = ltb-false c.get.result (length c.nodes.result.now) (sym c.in-None.ensures.lookup.0) in
    rw (slice_get_past c.args.c.now.nodes c.args.x (omega (arith, past, ap length c.nodes.ensures.value, c.get.ensures.value))) refl

found : (c : In-Some) → slice_get c.args.c.now.nodes c.args.x ≡ Some c.in-Some.node.now
found c =
    let is = rw (c.nodes.ensures.value, c.get.ensures.value) at c.in-Some.ensures.lookup.1 in
    slice_get_read c.args.c.now.nodes (length c.nodes.result.now) c.args.x c.in-Some.node.now (ap length c.nodes.ensures.value) (omega (arith, c.in-Some.ensures.lookup.3, c.get.ensures.value)) is

pub returns-then-eq : goal.returns-then-eq
returns-then-eq c =
    rw (found (goal.at.returns-then-eq c).In-Some, ← c.eq.ensures, c.if-eq.true, c.none_above.ensures) refl

pub returns-else-eq : goal.returns-else-eq
returns-else-eq c = rw (found (goal.at.returns-else-eq c).In-Some, ← c.eq.ensures, c.if-eq.false) refl
