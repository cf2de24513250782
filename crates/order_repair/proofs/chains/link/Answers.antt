use Rattle.std.proofs.Common.{◌≡◌, ℕ, Some, length, slice_get, sym, subst, refl, arith}
use Rattle.std.proofs.lemmas.Option.{slice_get_read}
use Rattle.order_repair.proofs.Chained.{chained_more}
use Rattle.order_repair.proofs.chains.link.Goals as goal

pub returns-clause-chained : goal.returns-clause-chained
returns-clause-chained c = λ are.
    let names = c.args.names.now in
    let firsts = c.args.firsts.now.items in
    let own = c.get-name.result in
    let is : slice_get names c.args.at ≡ Some own =
    subst (λ (n : ℕ). slice_get names c.args.at ≡ Some n) (sym c.get-name.ensures.value)
    (slice_get_read names (length names) c.args.at c.index-names-at.result refl c.requires.at c.index-names-at.is) in
    let before = slice_get_read firsts (length firsts) own c.index.result.now refl (c.requires.names c.args.at own is) c.index.ensures in
    chained_more names firsts c.args.nexts.now.items c.args.at own c.index.result.now is before are

pub index-requires : goal.index-requires
index-requires c =
    let name = c.index-names-at.result in
    let is = slice_get_read c.args.names.now (length c.args.names.now) c.args.at name refl c.requires.at c.index-names-at.is in
    omega (arith, c.requires.names c.args.at name is, c.get-name.ensures.value, c.args.firsts.now.ok.0)

pub index_mut-requires-2 : goal.index_mut-requires-2
index_mut-requires-2 c =
    let name = c.index-names-at.result in
    let is = slice_get_read c.args.names.now (length c.args.names.now) c.args.at name refl c.requires.at c.index-names-at.is in
    omega (arith, c.requires.names c.args.at name is, c.get-name.ensures.value, c.args.firsts.now.ok.0)
