use Rattle.std.proofs.Common.{rules, ◌≡◌, ◌∙◌, None, Some, refl}
use Rattle.lsdb.proofs.Conflicting.{all_quiet, first_conflict, not_quiet}
use Rattle.lsdb.specs.Conflicts.{least_conflict}
use Rattle.lsdb.proofs.lsdb.Lsdb.settled.Goals as goal

pub returns-in-None-clause-ok : goal.returns-in-None-clause-ok
returns-in-None-clause-ok c =
    let none : least_conflict c.args.self.now.entries ≡ None =
    search rules in (λ ok. all_quiet c.args.self.now.entries none, λ quiet. refl)

pub returns-in-Some-clause-ok : goal.returns-in-Some-clause-ok
returns-in-Some-clause-ok c =
    let some : least_conflict c.args.self.now.entries ≡ Some c.in-Some.conflict = search rules in
    (λ ok. absurd cc, λ quiet. absurd (not_quiet c.args.self.now.entries c.in-Some.conflict some quiet))

pub returns-in-Some-clause-least : goal.returns-in-Some-clause-least
returns-in-Some-clause-least c = λ conflict is.
    let some : least_conflict c.args.self.now.entries ≡ Some c.in-Some.conflict = search rules in
    first_conflict c.args.self.now.entries conflict (some ∙ cc)
