use Rattle.std.proofs.Common.{◌∙◌, ℕ, sym, ap}
use Rattle.ospf_lsa.specs.declared.lsa.Lsa.{Lsa}
use Rattle.lsdb.specs.Installing.{change_of}
use Rattle.flood.specs.steps.Numbers.{lsa_in}
use Rattle.flood.proofs.Numbered.{lsa_read, own_change}
use Rattle.flood.proofs.database_copy.change_to.Goals as goal

pub returns-then-there-number : goal.returns-then-there-number
returns-then-there-number c =
    sym (own_change (lsa_in c.args.lsas.now c.args.there))
    ∙ ap (λ (n : ℕ). change_of (lsa_in c.args.lsas.now c.args.there) (lsa_in c.args.lsas.now n)) c.if-there-number.true

pub returns : goal.returns
returns c =
    let lsas = c.args.lsas.now in
    let one = lsa_read lsas c.args.there c.index-lsas-there.result c.requires.there c.index-lsas-there.is in
    let other = lsa_read lsas c.args.number c.index-lsas-number.result c.requires.number c.index-lsas-number.is in
    c.change_of.ensures ∙ ap (λ (x : Lsa). change_of x c.index-lsas-number.result) one
    ∙ ap (change_of (lsa_in lsas c.args.there)) other
