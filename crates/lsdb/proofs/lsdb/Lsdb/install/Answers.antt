use Rattle.std.proofs.Common.{◌≡◌, ◌∙◌, ℕ, List, ap, arith, length, take}
use Rattle.ospf_lsa.specs.declared.lsa.Lsa.{Lsa}
use Rattle.lsdb.specs.Entries.{Database}
use Rattle.lsdb.specs.Installing.{installed}
use Rattle.lsdb.specs.steps.Store.{entries_of}
use Rattle.lsdb.proofs.Fronts.{cut_back, one_more}
use Rattle.lsdb.proofs.lsdb.Lsdb.install.Goals as goal

pub returns-clause-change : goal.returns-clause-change
returns-clause-change c =
    let it = one_more c.self.inside.lsas.items c.push.new.self.items c.self.inside.differing.items c.len-place.result
    c.args.lsa c.self.invariant.noted c.in_ok-push.ensures.items
    (omega (arith, c.len-place.ensures, c.self.inside.lsas.ok.0)) in
    c.in_ok-change.ensures.change c.args.lsa it.there
    ∙ ap (λ (lsas : List Lsa). (installed (entries_of lsas c.self.inside.differing.items) c.args.lsa).1) it.others
    ∙ ap (λ (d : Database). (installed d.entries c.args.lsa).1) c.self.view_is

pub returns-clause-entries : goal.returns-clause-entries
returns-clause-entries c =
    let it = one_more c.self.inside.lsas.items c.push.new.self.items c.self.inside.differing.items c.len-place.result
    c.args.lsa c.self.invariant.noted c.in_ok-push.ensures.items
    (omega (arith, c.len-place.ensures, c.self.inside.lsas.ok.0)) in
    let count : c.len-count.result ≡ length c.install_at-met.new.differing.items = omega
    (arith, c.len-count.ensures, c.install_at-met.new.differing.ok.0) in
    ap (λ (lsas : List Lsa). entries_of lsas c.install_at-met.new.differing.items)
    (c.truncate.ensures.items ∙ ap (λ (n : ℕ). take n c.install_at-met.new.lsas.items) count)
    ∙ c.in_ok-change.ensures.entries c.args.lsa it.there
    ∙ ap (λ (lsas : List Lsa). (installed (entries_of lsas c.self.inside.differing.items) c.args.lsa).0) it.others
    ∙ ap (λ (d : Database). (installed d.entries c.args.lsa).0) c.self.view_is

pub invariant_of-self-in_err-change : goal.invariant_of-self-in_err-change
invariant_of-self-in_err-change c =
    let count : c.len-count.result ≡ length c.self.inside.differing.items = omega
    (arith, c.len-count.ensures, c.install_at-met.new.differing.ok.0, ap length c.in_err-change.ensures.err_differing) in
    let lsas : c.truncate.new.self.items ≡ c.self.inside.lsas.items =
    c.truncate.ensures.items
    ∙ ap (take c.len-count.result) c.in_err-change.ensures.err_lsas
    ∙ cut_back c.self.inside.lsas.items c.push.new.self.items c.self.inside.differing.items c.len-count.result
    c.args.lsa c.self.invariant.noted c.in_ok-push.ensures.items count in
    rw (c.in_err-change.ensures.err_keys, lsas, c.in_err-change.ensures.err_differing) c.self.invariant
