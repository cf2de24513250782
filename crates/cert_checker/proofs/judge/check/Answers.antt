use Rattle.std.proofs.Common.{subst}
use Rattle.cert_checker.specs.declared.verdict.Verdict.{Verdict}
use Rattle.cert_checker.specs.steps.Found.{Judged}
use Rattle.cert_checker.proofs.Verdicts.{yes_exactly, no_exactly}
use Rattle.cert_checker.proofs.judge.check.Goals as goal

pub returns-clause-yes : goal.returns-clause-yes
returns-clause-yes c =
    yes_exactly c.args.g.now c.args.root c.args.f.now
    (c.accepted_or_one_first_fault.ensures.never_both c.args.g.now c.args.root c.args.f.now)
    (c.accepted_or_one_first_fault.ensures.one c.args.g.now c.args.root c.args.f.now) _ c.judge.ensures

pub returns-clause-no : goal.returns-clause-no
returns-clause-no c =
    no_exactly c.args.g.now c.args.root c.args.f.now
    (c.accepted_or_one_first_fault.ensures.never_both c.args.g.now c.args.root c.args.f.now)
    (c.accepted_or_one_first_fault.ensures.one c.args.g.now c.args.root c.args.f.now) _ c.judge.ensures

pub returns-clause-sound : goal.returns-clause-sound
returns-clause-sound c = λ is.
    c.accepted_implies_sound.ensures c.args.g.now c.args.root c.args.f.now
    (subst (λ (v : Verdict). Judged c.args.g.now c.args.root c.args.f.now v) is c.judge.ensures)
