use Rattle.std.proofs.Common.{◌≡◌, Some, sym, subst}
use Rattle.std.specs.Prelude.{◌↔◌}
use Rattle.std.proofs.lemmas.Option.{none-some}
use Rattle.fabric.specs.Destinations.{EntersFor}
use Rattle.fabric_script.specs.declared.event.ScriptEvent.{ScriptEvent}
use Rattle.fabric.proofs.Placed.{found_node}
use Rattle.fabric.proofs.gathering.destination.Goals as goal

pub returns-in-Inject-clause-enters : goal.returns-in-Inject-clause-enters
returns-in-Inject-clause-enters c = λ t.
    subst (λ (event : ScriptEvent). (c.find.result ≡ Some t) ↔ EntersFor c.args.area.now t event) (sym c.in-Inject.is)
    (found_node c.args.area.now c.find.result c.in-Inject.to c.count-area.ensures.kept c.find.ensures.found c.find.ensures.none t)

pub returns-in-Step-clause-enters : goal.returns-in-Step-clause-enters
returns-in-Step-clause-enters c = λ t. rw c.in-Step.is (λ is. absurd (none-some t is), λ enters. absurd enters)

pub returns-in-Fail-clause-enters : goal.returns-in-Fail-clause-enters
returns-in-Fail-clause-enters c = λ t. rw c.in-Fail.is (λ is. absurd (none-some t is), λ enters. absurd enters)
