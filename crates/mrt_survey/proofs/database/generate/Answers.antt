use Rattle.std.proofs.Common.{◌∙◌, ◌++◌, ◌≡◌, ◌≤◌, ◌+◌, List, ℕ, ap, length, map, subst, sym, arith}
use Rattle.std.specs.List.{range_with_len}
use Rattle.ospf_lsa.specs.LsaText.{lsa_text, lsas_text}
use Rattle.mrt_survey.specs.declared.made_link.MadeLink.{MadeLink}
use Rattle.mrt_survey.specs.MadeLinks.{made_links}
use Rattle.mrt_survey.specs.MadeLsas.{lsa_of}
use Rattle.mrt_survey.proofs.LsasMade.{few_links, lsas_kept, made_text, text_more}
use Rattle.mrt_survey.proofs.TextSize.{made_size}
use Rattle.mrt_survey.proofs.database.generate.Goals as goal

pub put_lsa-requires : goal.put_lsa-requires
put_lsa-requires c =
    subst (λ (links : List MadeLink). length links ≤ 4096) (sym (c.deref.ensures.value ∙ c.in_ok-links.ensures)) (few_links c.args.number c.args.nodes c.requires.few)

pub loop-before-preserved : goal.loop-before-preserved
loop-before-preserved c =
    text_more c.in_ok-links.links.items (c.from.result + 1) c.loop-before.before _ _ c.loop-before.invariant (ap (λ (n : ℕ). n + 1) c.from.ensures)
    (c.in_ok-put_lsa.ensures ∙ ap (λ (links : List MadeLink). c.loop-before.bytes.items ++ lsa_text (lsa_of links (c.from.result + 1))) c.deref.ensures.value)

pub returns-clause-text : goal.returns-clause-text
returns-clause-text c =
    let all : c.loop-before.before ≡ c.args.nodes = omega (arith, c.loop-before-test.false, c.loop-before.auto.before-end) in
    c.loop-before.invariant
    ∙ ap (λ (links : List MadeLink). lsas_text (map (lsa_of links) (range_with_len 1 c.loop-before.before))) c.in_ok-links.ensures
    ∙ ap (λ (n : ℕ). lsas_text (map (lsa_of (made_links c.args.number c.args.nodes)) (range_with_len 1 n))) all
    ∙ sym (made_text c.args.number c.args.nodes)

pub returns-clause-lsas : goal.returns-clause-lsas
returns-clause-lsas c = lsas_kept c.args.number c.args.nodes c.requires.some c.requires.few

pub returns-clause-size : goal.returns-clause-size
returns-clause-size c =
    subst (λ (bytes : List ℕ). length bytes ≤ 8388608) (sym (returns-clause-text c)) (made_size c.args.number c.args.nodes c.requires.few)
