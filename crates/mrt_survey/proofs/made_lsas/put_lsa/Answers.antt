use Rattle.std.proofs.Common.{◌∙◌, ◌++◌, ◌≤◌, List, ℕ, ap, subst, sym}
use Rattle.ospf_lsa.specs.declared.lsa.Lsa.{Lsa}
use Rattle.ospf_lsa.specs.LsaText.{lsa_length, lsa_text}
use Rattle.ospf_lsa.specs.Written.{HasItsEntries, renewed}
use Rattle.mrt_survey.proofs.EndsMade.{bare_ends, plain_fits}
use Rattle.mrt_survey.proofs.made_lsas.put_lsa.Goals as goal

pub write_lsa-requires-clause-entries : goal.write_lsa-requires-clause-entries
write_lsa-requires-clause-entries c =
    subst (λ (lsa : Lsa). HasItsEntries lsa.body) (sym c.in_ok-lsa.ensures) (bare_ends c.args.links.now c.args.router)

pub write_lsa-requires-clause-fits : goal.write_lsa-requires-clause-fits
write_lsa-requires-clause-fits c = subst (λ (lsa : Lsa). lsa_length lsa ≤ 65535) (sym c.in_ok-lsa.ensures) (plain_fits c.args.links.now c.args.router c.requires)

pub returns : goal.returns
returns c =
    c.in_ok-extend_from_slice.ensures.items
    ∙ ap (λ (text : List ℕ). c.args.bytes.now.items ++ text) (c.deref.ensures.value ∙ c.in_ok-text.ensures.text ∙ ap (λ (lsa : Lsa). lsa_text (renewed lsa)) c.in_ok-lsa.ensures)
