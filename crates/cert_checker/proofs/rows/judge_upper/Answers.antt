use Rattle.std.proofs.Common.{◌++◌, ℕ, List, Option, sym, subst}
use Rattle.std.specs.Option.{option_to_list}
use Rattle.std.specs.Prelude.{Contains}
use Rattle.std.proofs.lemmas.List.{append-nil}
use Rattle.cert_checker.specs.steps.RowFaults.{AndSome, KeptRows}
use Rattle.cert_checker.proofs.rows.judge_upper.Goals as goal

pub returns-in-None : goal.returns-in-None
returns-in-None c = λ listed before.
    let known = subst (λ (xs : List ℕ). KeptRows c.args.g.now c.args.root c.args.c.now (AndSome c.args.c.now c.args.s.now.number (Contains xs)) c.args.before) (sym (append-nil listed)) before in
    subst (λ (upper : Option ℕ). KeptRows c.args.g.now c.args.root c.args.c.now (AndSome c.args.c.now c.args.s.now.number (Contains (listed ++ option_to_list upper))) c.args.before)
    (sym c.in-None.is) known

pub returns-in-Some : goal.returns-in-Some
returns-in-Some c = λ listed before.
    subst (λ (upper : Option ℕ). KeptRows c.args.g.now c.args.root c.args.c.now (AndSome c.args.c.now c.args.s.now.number (Contains (listed ++ option_to_list upper))) c.judge_some.result)
    (sym c.in-Some.is) (c.judge_some.ensures listed before)
